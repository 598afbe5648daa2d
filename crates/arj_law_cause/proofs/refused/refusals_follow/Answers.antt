use Rattle.arj_law_cause.proofs.waits.lowest.Running.{refusals_follow}
use Rattle.arj_law_cause.proofs.refused.refusals_follow.Goals as goal

pub returns : goal.returns
returns c = record { runs = λ hd r form. refusals_follow hd r form }
