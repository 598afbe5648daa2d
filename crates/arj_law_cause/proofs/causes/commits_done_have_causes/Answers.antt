use Rattle.arj_law_cause.proofs.kinds.Committed.{done_row}
use Rattle.arj_law_cause.proofs.causes.commits_done_have_causes.Goals as goal

pub returns : goal.returns
returns c = record { done = done_row }
