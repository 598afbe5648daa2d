use Rattle.std.proofs.Common.{◌&&◌, not}
use Rattle.std.specs.List.{list_any}
use Rattle.std.specs.Ordering.{is_eq, nat_cmp}
use Rattle.arj_lock.specs.Groups.{same}
use Rattle.arj_lock.specs.Index.{stands}
use Rattle.arj_lock.specs.declared.group.Group.TheVariants.{Below}
use Rattle.arj_lock.proofs.Indexing.{take_more}
use Rattle.arj_lock.proofs.index.take_below.Goals as goal

pub loop-action-preserved : goal.loop-action-preserved
loop-action-preserved c = λ g n.
    let path = c.args.path.now in
    take_more path c.loop-action.action-index c.loop-action-test.true c.args.grant c.loop-action.index c.take.new.index g n
    (stands c.args.index.now g n && not (is_eq (nat_cmp c.args.grant n) && list_any (λ u. same (Below u) g) path))
    (c.take.ensures g n) (c.loop-action.invariant g n)
