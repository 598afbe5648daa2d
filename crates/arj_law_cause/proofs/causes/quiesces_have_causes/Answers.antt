use Rattle.arj_law_cause.proofs.kinds.Quiet.{quiet_row}
use Rattle.arj_law_cause.proofs.causes.quiesces_have_causes.Goals as goal

pub returns : goal.returns
returns c = record { quiet = quiet_row }
