use Rattle.std.proofs.Common.{ap, ◌∙◌, None, []}
use Rattle.arj_protocol.specs.Tree.{Tree, open_below}
use Rattle.arj_tree.specs.Open.{latest, first_in}
use Rattle.arj_tree.proofs.Opens.{latest_is}
use Rattle.arj_tree.proofs.tree.Tree.latest_below.Goals as goal

pub returns : goal.returns
returns c =
    c.latest.ensures ∙ ap (latest c.args.action None) c.self.invariant.0.kept ∙ latest_is c.args.action 1 c.self.inside.actions.items []
    ∙ ap (λ (t : Tree). first_in (open_below c.args.action t)) c.self.view_is
