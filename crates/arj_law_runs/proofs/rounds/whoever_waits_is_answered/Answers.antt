use Rattle.arj_law_runs.proofs.resting
use resting.{EndedRuns.runs_answer_or_wait, PlainRuns.quiesces_answer_or_leave, PlainRuns.quiesces_give_nothing_up}
use Rattle.arj_law_runs.proofs.rounds.whoever_waits_is_answered.Goals as goal

pub returns-clause-runs : goal.returns-clause-runs
returns-clause-runs c = runs_answer_or_wait

pub returns-clause-lines : goal.returns-clause-lines
returns-clause-lines c = quiesces_give_nothing_up

pub returns-clause-quiesces : goal.returns-clause-quiesces
returns-clause-quiesces c = quiesces_answer_or_leave
