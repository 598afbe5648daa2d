use Rattle.arj_law_cause.proofs.confirm.{Differs.changed_row, Overdue.old_row, Runs.bare_row, Runs.listed_row, Runs.met_row}
use Rattle.arj_law_cause.proofs.causes.refused_commits_have_causes.Goals as goal

pub returns : goal.returns
returns c = record { listed = listed_row; bare = bare_row; met = met_row; old = old_row; changed = changed_row }
