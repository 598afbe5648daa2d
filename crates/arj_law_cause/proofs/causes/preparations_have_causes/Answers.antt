use Rattle.arj_law_cause.proofs.votes.Prepared.{prepared_row}
use Rattle.arj_law_cause.proofs.causes.preparations_have_causes.Goals as goal

pub returns : goal.returns
returns c = record { prepared = prepared_row }
