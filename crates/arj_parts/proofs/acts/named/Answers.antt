use Rattle.std.proofs.Common.{◌≡◌, ◌∙◌, sym, ap, Some}
use Rattle.arj_protocol.specs.Tree.{Tree, branch_of}
use Rattle.arj_parts.proofs.acts.named.Goals as goal

pub returns : goal.returns
returns c =
    let of : branch_of c.in_ok-action.action c.args.coord.now.tree ≡ Some c.in_ok-action-2.field-0.now =
    ap (λ (t : Tree). branch_of c.in_ok-action.action t) (sym c.tree.ensures) ∙ sym c.in_ok-action-2.ensures.found in
    record {
      branch = c.in_ok-action-2.field-0.now;
      is = sym c.in_ok-action.ensures.branch ∙ of;
      of = of;
      actor_is =
          c.in_ok-action-2.ensures.named;
    }
