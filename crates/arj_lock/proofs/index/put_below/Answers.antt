use Rattle.std.proofs.Common.{◌&&◌, ◌||◌}
use Rattle.std.specs.List.{list_any}
use Rattle.std.specs.Ordering.{is_eq, nat_cmp}
use Rattle.arj_lock.specs.Groups.{same}
use Rattle.arj_lock.specs.Index.{stands}
use Rattle.arj_lock.specs.declared.group.Group.TheVariants.{Below}
use Rattle.arj_lock.proofs.Indexing.{put_more}
use Rattle.arj_lock.proofs.index.put_below.Goals as goal

pub loop-action-preserved : goal.loop-action-preserved
loop-action-preserved c = λ g n.
    let path = c.args.path.now in
    put_more path c.loop-action.action-index c.loop-action-test.true c.args.grant c.loop-action.index c.put.new.index g n
    (stands c.args.index.now g n || (is_eq (nat_cmp c.args.grant n) && list_any (λ u. same (Below u) g) path))
    (c.in_ok-put.ensures g n) (c.loop-action.invariant g n)
