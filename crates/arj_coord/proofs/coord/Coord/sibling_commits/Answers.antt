use Rattle.std.proofs.Common.{ap, subst, ◌∙◌}
use Rattle.arj_coord.specs.Waiting.{waiting, any_passes, is_other_constituent}
use Rattle.arj_coord.proofs.Waiters.{sibling_is}
use Rattle.arj_protocol.specs.Ask.{actor}
use Rattle.arj_protocol.specs.Coord.{Coord}
use Rattle.arj_protocol.specs.Step.{is_committing_now}
use Rattle.arj_protocol.specs.Tree.{root_of}
use Rattle.arj_tree.specs.Stands.{AreNamed}
use Rattle.arj_coord.proofs.coord.Coord.sibling_commits.Goals as goal

pub returns : goal.returns
returns c =
    let root = c.root.ensures ∙ ap root_of c.path.ensures in
    let last = c.last.ensures ∙ ap actor c.path-2.ensures in
    sibling_is c.args.self.now c.args.action.now c.any_sibling.result (subst (λ (d : Coord). AreNamed d.tree.node d.tree.inc 1 d.tree.branches) c.self.view_is c.are_named.ensures)
    (c.any_sibling.ensures ∙ (λ i. any_passes (is_other_constituent (root i) (last i)) is_committing_now c.args.self.now (waiting 1 c.args.self.now.doings)))
