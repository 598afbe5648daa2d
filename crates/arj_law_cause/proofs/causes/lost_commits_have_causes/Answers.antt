use Rattle.arj_law_cause.proofs.kinds.LostCommits.{lost_commit_row}
use Rattle.arj_law_cause.proofs.causes.lost_commits_have_causes.Goals as goal

pub returns : goal.returns
returns c = record { lost = lost_commit_row }
