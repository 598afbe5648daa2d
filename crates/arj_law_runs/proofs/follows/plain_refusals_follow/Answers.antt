use Rattle.arj_law_runs.proofs.follow.Refusing.{refusals_are_caused}
use Rattle.arj_law_runs.proofs.follows.plain_refusals_follow.Goals as goal

pub returns : goal.returns
returns c = record { runs = λ hd r form. refusals_are_caused hd r form }
