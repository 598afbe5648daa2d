use Rattle.arj_law_promise.proofs.statement.Continued.{go_on}
use Rattle.arj_law_promise.proofs.starts.runs_go_on_behind_journals.Goals as goal

pub returns : goal.returns
returns c = go_on
