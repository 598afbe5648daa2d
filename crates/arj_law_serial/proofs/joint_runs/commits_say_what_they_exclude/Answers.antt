use Rattle.arj_law_serial.proofs.joint.{MarkAsks.runs_ask_marks, MarkRuns.runs_say_marks}
use Rattle.arj_law_serial.proofs.joint_runs.commits_say_what_they_exclude.Goals as goal

pub returns-clause-said : goal.returns-clause-said
returns-clause-said c = runs_say_marks

pub returns-clause-asked : goal.returns-clause-asked
returns-clause-asked c = runs_ask_marks
