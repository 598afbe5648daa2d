use Rattle.std.proofs.Common.{◌∙◌, sym}
use Rattle.arj_class.proofs.Payloads.{value_once}
use Rattle.arj_class.proofs.value.Value.restore_state.Goals as goal

pub returns-in_ok-restore_state-in-Counter-clause-only : goal.returns-in_ok-restore_state-in-Counter-clause-only
returns-in_ok-restore_state-in-Counter-clause-only c w class form same =
    let found = c.in_ok-restore_state-in-Counter.ensures in
    value_once w _ (class ∙ c.in-Counter.is) form found.in_form (same ∙ sym found.payload)

pub returns-in_ok-restore_state-in-Account-clause-only : goal.returns-in_ok-restore_state-in-Account-clause-only
returns-in_ok-restore_state-in-Account-clause-only c w class form same =
    let found = c.in_ok-restore_state-in-Account.ensures in
    value_once w _ (class ∙ c.in-Account.is) form found.in_form (same ∙ sym found.payload)
