use Rattle.arj_law_cause.proofs.kinds.Up.{up_row}
use Rattle.arj_law_cause.proofs.causes.restarts_have_causes.Goals as goal

pub returns : goal.returns
returns c = record { up = up_row }
