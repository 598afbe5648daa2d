-- a value was restored
use Rattle.std.proofs.Common.{Some, subst, sym, ◌∙◌}
use Rattle.arj_bank.specs.Balances.{HasBalance}
use Rattle.arj_bank.proofs.balances.balance_of.Goals as goal

pub returns-in-Ok : goal.returns-in-Ok
returns-in-Ok c =
    subst (λ o. HasBalance o c.number_of.result) (sym c.in-Some.is)
    (Some c.in-Ok.value, ((c.in-Ok.ensures.class, c.in-Ok.ensures.in_form, c.in-Ok.ensures.held), sym (c.in-Ok.ensures.payload ∙ c.as_slice.ensures)), c.number_of.ensures)
