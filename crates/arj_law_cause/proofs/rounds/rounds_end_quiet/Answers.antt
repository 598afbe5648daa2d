use Rattle.arj_law_cause.proofs.quiesces.Rounds.{rounds_leave_all, runs_end_rounds}
use Rattle.arj_law_cause.proofs.rounds.rounds_end_quiet.Goals as goal

pub returns-clause-runs : goal.returns-clause-runs
returns-clause-runs c = runs_end_rounds

pub returns-clause-disks : goal.returns-clause-disks
returns-clause-disks c = rounds_leave_all
