use Rattle.std.proofs.Common.{Some, subst}
use Rattle.arj_store.specs.Table.{at}
use Rattle.arj_segment.specs.Tables.{SetsEach}
use Rattle.arj_segment.proofs.Tabled.{all_set}
use Rattle.arj_segment.proofs.merging.all_in_one.Goals as goal

pub returns-clause-ok : goal.returns-clause-ok
returns-clause-ok c =
    all_set c.in_ok-uids.uids c.args.number (at c.args.kept.now.places) (at c.set_each.new.table) c.in_ok-uids.ensures.there
    (subst (λ us. SetsEach us (Some c.args.number) (at c.args.kept.now.places) (at c.set_each.new.table)) c.as_slice.ensures c.in_ok-set_each.ensures)
