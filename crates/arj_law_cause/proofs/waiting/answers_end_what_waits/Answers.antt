use Rattle.arj_law_cause.proofs.waits.replies.Running.{replies_end}
use Rattle.arj_law_cause.proofs.waiting.answers_end_what_waits.Goals as goal

pub returns : goal.returns
returns c = record { runs = λ hd r form. replies_end hd r form }
