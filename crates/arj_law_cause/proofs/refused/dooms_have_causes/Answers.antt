use Rattle.arj_law_cause.proofs.waits.doomed.Running.{dooms_have_causes}
use Rattle.arj_law_cause.proofs.refused.dooms_have_causes.Goals as goal

pub returns : goal.returns
returns c = record { runs = λ hd r form. dooms_have_causes hd r form }
