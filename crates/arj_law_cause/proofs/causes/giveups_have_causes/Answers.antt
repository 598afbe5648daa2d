use Rattle.arj_law_cause.proofs.waits.given.Running.{given_row}
use Rattle.arj_law_cause.proofs.causes.giveups_have_causes.Goals as goal

pub returns : goal.returns
returns c = record { given = given_row }
