use Rattle.arj_law_runs.proofs.follow.Shorts.{shorts_follow}
use Rattle.arj_law_runs.proofs.follows.short_events_follow.Goals as goal

pub returns : goal.returns
returns c = record { runs = λ hd r form. shorts_follow hd r form }
