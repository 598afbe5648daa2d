use Rattle.arj_law_cause.proofs.quiesces.{Settled.runs_settle, Unrecorded.runs_leave_no_record}
use Rattle.arj_law_cause.proofs.rounds.settles_answer_who_waits.Goals as goal

pub returns-clause-runs : goal.returns-clause-runs
returns-clause-runs c = runs_settle

pub returns-clause-disks : goal.returns-clause-disks
returns-clause-disks c = runs_leave_no_record
