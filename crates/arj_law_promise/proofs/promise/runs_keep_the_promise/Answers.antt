use Rattle.arj_law_promise.proofs.statement
use statement.Keeping.{calm_end, fronts_keep, nothing_given_up, overtaken, quiet_end, quiet_hold, rounds_end, runs_keep, scripts_run}
use statement.Keeping.{who_waits_is_answered}
use Rattle.arj_law_promise.proofs.promise.runs_keep_the_promise.Goals as goal

pub returns-clause-runs : goal.returns-clause-runs
returns-clause-runs c = runs_keep

pub returns-clause-fronts : goal.returns-clause-fronts
returns-clause-fronts c = fronts_keep

pub returns-clause-waiting : goal.returns-clause-waiting
returns-clause-waiting c = overtaken

pub returns-clause-calm : goal.returns-clause-calm
returns-clause-calm c = calm_end

pub returns-clause-rounds : goal.returns-clause-rounds
returns-clause-rounds c = rounds_end

pub returns-clause-scripts : goal.returns-clause-scripts
returns-clause-scripts c = scripts_run

pub returns-clause-quiet : goal.returns-clause-quiet
returns-clause-quiet c = quiet_hold

pub returns-clause-answers : goal.returns-clause-answers
returns-clause-answers c = who_waits_is_answered

pub returns-clause-plain : goal.returns-clause-plain
returns-clause-plain c = nothing_given_up

pub returns-clause-told : goal.returns-clause-told
returns-clause-told c = quiet_end
