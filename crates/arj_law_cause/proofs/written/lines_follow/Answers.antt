use Rattle.arj_law_cause.proofs.follow.lines.Events as events
use Rattle.arj_law_cause.proofs.written.lines_follow.Goals as goal

pub returns : goal.returns
returns c = record { runs = λ hd r form. events.lines_follow hd r form }
