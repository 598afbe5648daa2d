use Rattle.arj_law_runs.proofs.calls.WholeRuns.{runs_vote}
use Rattle.arj_law_runs.proofs.votes.votes_are_used.Goals as goal

pub returns : goal.returns
returns c = runs_vote
