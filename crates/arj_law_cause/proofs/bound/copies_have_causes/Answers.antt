use Rattle.arj_law_cause.proofs.bindings.Active.{active_row}
use Rattle.arj_law_cause.proofs.bound.copies_have_causes.Goals as goal

pub returns : goal.returns
returns c = record { active = active_row }
