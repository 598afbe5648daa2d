use Rattle.std.proofs.Common.{sym, ap, ◌∙◌}
use Rattle.arj_protocol.specs.Tree.{Tree, has_open_child}
use Rattle.arj_tree.specs.Open.{has_child}
use Rattle.arj_tree.proofs.Opens.{child_is}
use Rattle.arj_tree.proofs.tree.Tree.has_open_child.Goals as goal

pub returns : goal.returns
returns c =
    c.has_child.ensures ∙ ap (has_child c.args.action) c.self.invariant.0.kept ∙ sym (child_is c.args.action 1 c.self.inside.actions.items)
    ∙ ap (λ (t : Tree). has_open_child c.args.action t) c.self.view_is
