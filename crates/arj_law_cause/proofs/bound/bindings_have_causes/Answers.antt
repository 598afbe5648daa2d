use Rattle.arj_law_cause.proofs.bindings.Bound.{bound_row}
use Rattle.arj_law_cause.proofs.bound.bindings_have_causes.Goals as goal

pub returns : goal.returns
returns c = record { bound = bound_row }
