use Rattle.arj_law_runs.proofs.calls.WholeRuns.{runs_call}
use Rattle.arj_law_runs.proofs.votes.changes_are_called.Goals as goal

pub returns : goal.returns
returns c = runs_call
