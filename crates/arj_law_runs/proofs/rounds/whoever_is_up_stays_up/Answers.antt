use Rattle.arj_law_runs.proofs.resting.UpRuns.{all_stay_up, runs_stay_up}
use Rattle.arj_law_runs.proofs.rounds.whoever_is_up_stays_up.Goals as goal

pub returns-clause-runs : goal.returns-clause-runs
returns-clause-runs c = runs_stay_up

pub returns-clause-all : goal.returns-clause-all
returns-clause-all c = all_stay_up
