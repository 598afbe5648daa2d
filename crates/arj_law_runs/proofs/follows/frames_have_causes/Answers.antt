use Rattle.arj_law_runs.proofs.follow.Frames.{frames_are_caused}
use Rattle.arj_law_runs.proofs.follows.frames_have_causes.Goals as goal

pub returns : goal.returns
returns c = record { runs = λ hd r form. frames_are_caused hd r form }
