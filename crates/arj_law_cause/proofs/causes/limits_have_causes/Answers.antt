use Rattle.arj_law_cause.proofs.kinds.Limit.{limit_row}
use Rattle.arj_law_cause.proofs.causes.limits_have_causes.Goals as goal

pub returns : goal.returns
returns c = record { limit = limit_row }
