use Rattle.std.proofs.Common.{◌∙◌, sym}
use Rattle.std.proofs.lemmas.Bool.{not-true, not-false}
use Rattle.arj_lock.proofs.Indexing.{range_none, range_other, range_some}
use Rattle.arj_lock.proofs.Orders.{group_eq}
use Rattle.arj_lock.proofs.index.first.Goals as goal

pub returns-in_err-member : goal.returns-in_err-member
returns-in_err-member c =
    rw c.from_residual.ensures (range_none c.args.index.now c.args.group c.args.after c.start-from.result c.start-from.ensures c.range.result (c.range.ensures.in_range tt) c.in_err-member.ensures.steps.0)

pub returns-then-ne : goal.returns-then-ne
returns-then-ne c =
    let k = c.in_ok-member.member.now in
    range_other c.args.index.now c.args.group c.args.after c.start-from.result c.start-from.ensures c.range.result (c.range.ensures.in_range tt) k c.next.new.self c.in_ok-member.ensures.steps
    (not-true (group_eq k.group c.args.group) (sym c.ne.ensures ∙ c.if-ne.true))

pub returns : goal.returns
returns c =
    let k = c.in_ok-member.member.now in
    range_some c.args.index.now c.args.group c.args.after c.start-from.result c.start-from.ensures c.range.result (c.range.ensures.in_range tt) k c.next.new.self c.in_ok-member.ensures.steps
    (not-false (group_eq k.group c.args.group) (sym c.ne.ensures ∙ c.if-ne.false))
