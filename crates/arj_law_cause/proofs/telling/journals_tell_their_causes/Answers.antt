use Rattle.arj_law_cause.proofs.told.Telling.{journals_tell}
use Rattle.arj_law_cause.proofs.telling.journals_tell_their_causes.Goals as goal

pub returns : goal.returns
returns c = record { runs = λ hd r form. journals_tell hd r form }
