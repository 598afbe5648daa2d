use Rattle.arj_law_cause.proofs.waits.objects.Running.{objects_follow}
use Rattle.arj_law_cause.proofs.refused.object_refusals_follow.Goals as goal

pub returns : goal.returns
returns c = record { runs = λ hd r form. objects_follow hd r form }
