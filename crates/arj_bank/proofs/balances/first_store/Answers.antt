-- an entry was restored
use Rattle.std.proofs.Common.{Some, ap, subst, sym, ◌∙◌}
use Rattle.arj_bank.specs.Balances.{ListsFirst, first_node}
use Rattle.arj_bank.proofs.balances.first_store.Goals as goal

pub returns-in-Ok : goal.returns-in-Ok
returns-in-Ok c =
    subst (λ o. ListsFirst o c.first_of.result) (sym c.in-Some.is)
    (Some c.in-Ok.listed, (c.in-Ok.ensures.in_form, sym (c.in-Ok.ensures.payload ∙ c.as_slice.ensures)), c.first_of.ensures ∙ ap first_node c.as_slice-in-Ok.ensures)
