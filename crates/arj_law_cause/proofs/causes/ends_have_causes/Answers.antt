use Rattle.arj_law_cause.proofs.kinds.Aborts.{abort_row}
use Rattle.arj_law_cause.proofs.kinds.Served.{told_row}
use Rattle.arj_law_cause.proofs.causes.ends_have_causes.Goals as goal

pub returns : goal.returns
returns c = record { aborts = abort_row; told = told_row }
