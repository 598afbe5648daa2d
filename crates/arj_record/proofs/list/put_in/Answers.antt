use Rattle.std.proofs.Common.{sym, ◌∙◌, arith}
use Rattle.arj_record.proofs.Added.{joined_at}
use Rattle.arj_record.proofs.list.put_in.Goals as goal

pub returns-then-may_merge-clause-items : goal.returns-then-may_merge-clause-items
returns-then-may_merge-clause-items g c =
    joined_at c.loop-i.items.items _ c.loop-i.i c.index.result.now c.index_mut.result.now c.args.item c.join.new.self (omega arith) c.index.ensures c.index_mut.ensures.value (sym c.may_merge.ensures ∙ c.if-may_merge.true) c.join.ensures
    c.loop-i.invariant.rest
