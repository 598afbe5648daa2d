use Rattle.arj_law_cause.proofs.kinds.Recovered.{found_row}
use Rattle.arj_law_cause.proofs.causes.recoveries_have_causes.Goals as goal

pub returns : goal.returns
returns c = record { found = found_row }
