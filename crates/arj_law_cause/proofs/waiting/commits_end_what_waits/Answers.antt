use Rattle.arj_law_cause.proofs.waits.commits.Running.{commits_end}
use Rattle.arj_law_cause.proofs.waiting.commits_end_what_waits.Goals as goal

pub returns : goal.returns
returns c = record { runs = λ hd r form. commits_end hd r form }
