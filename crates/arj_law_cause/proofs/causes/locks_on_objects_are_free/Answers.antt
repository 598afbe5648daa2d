use Rattle.arj_law_cause.proofs.kinds.Granted.{granted_row}
use Rattle.arj_law_cause.proofs.causes.locks_on_objects_are_free.Goals as goal

pub returns : goal.returns
returns c = record { granted = granted_row }
