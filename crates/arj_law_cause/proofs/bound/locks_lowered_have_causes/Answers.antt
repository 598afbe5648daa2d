use Rattle.arj_law_cause.proofs.bindings.Lowered.{lowered_row}
use Rattle.arj_law_cause.proofs.bound.locks_lowered_have_causes.Goals as goal

pub returns : goal.returns
returns c = record { lowered = lowered_row }
