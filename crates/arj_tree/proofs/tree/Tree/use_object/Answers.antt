use Rattle.std.proofs.Common.{refl}
use Rattle.arj_tree.specs.Tally.{with_object}
use Rattle.arj_tree.proofs.Steps.{same_stands, stands_changed}
use Rattle.arj_tree.proofs.tree.Tree.use_object.Goals as goal

pub invariant_of-self-2 : goal.invariant_of-self-2
invariant_of-self-2 c =
    let t = c.self.inside in
    (same_stands t.node t.inc _ _ _ _ _ _ refl refl c.in_ok-use_object.ensures.used (stands_changed t.node t.inc t.actions.items t.opened.entries t.tallies (with_object c.args.x) c.root-root.result.num c.self.invariant.0 refl), c.self.invariant.1)
