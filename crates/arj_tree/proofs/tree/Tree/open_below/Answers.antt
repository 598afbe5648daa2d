use Rattle.std.proofs.Common.{◌≡◌, sym, ap, ◌∙◌, append-nil, []}
use Rattle.std.proofs.lemmas.Result.{IfOk-weaker}
use Rattle.arj_protocol.specs.Tree.{Tree, open_below}
use Rattle.arj_tree.specs.Open.{below}
use Rattle.arj_tree.proofs.Opens.{below_is}
use Rattle.arj_tree.proofs.tree.Tree.open_below.Goals as goal

pub returns : goal.returns
returns c =
    let bs = c.self.inside.actions.items in
    IfOk-weaker c.below.result (λ uids. uids ≡ below c.args.action c.self.inside.opened.entries) (λ uids. uids ≡ open_below c.args.action c.args.self.now)
    (λ uids is. is ∙ ap (below c.args.action) c.self.invariant.0.kept ∙ sym (append-nil _) ∙ sym (below_is c.args.action 1 bs [])
    ∙ ap (λ (t : Tree). open_below c.args.action t) c.self.view_is) c.below.ensures
