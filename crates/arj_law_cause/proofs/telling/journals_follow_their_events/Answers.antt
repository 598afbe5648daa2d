use Rattle.arj_law_cause.proofs.told.Joined.{journals_follow}
use Rattle.arj_law_cause.proofs.telling.journals_follow_their_events.Goals as goal

pub returns : goal.returns
returns c = record { runs = λ hd r form. journals_follow hd r form }
