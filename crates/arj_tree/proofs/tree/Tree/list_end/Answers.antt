use Rattle.std.proofs.Common.{refl}
use Rattle.arj_tree.specs.Tally.{with_end}
use Rattle.arj_tree.proofs.Steps.{same_stands, stands_changed}
use Rattle.arj_tree.proofs.tree.Tree.list_end.Goals as goal

pub invariant_of-self-2 : goal.invariant_of-self-2
invariant_of-self-2 c =
    let t = c.self.inside in
    (same_stands t.node t.inc _ _ _ _ _ _ refl refl c.in_ok-list_end.ensures.ended (stands_changed t.node t.inc t.actions.items t.opened.entries t.tallies (with_end c.args.action c.args.outcome) c.root.result.num c.self.invariant.0 refl), c.self.invariant.1)
