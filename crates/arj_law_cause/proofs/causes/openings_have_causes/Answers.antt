use Rattle.arj_law_cause.proofs.kinds.Openings.{opening_row}
use Rattle.arj_law_cause.proofs.causes.openings_have_causes.Goals as goal

pub returns : goal.returns
returns c = record { opening = opening_row }
