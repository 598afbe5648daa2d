use Rattle.arj_law_serial.proofs.joint.{DisksInTime.runs_exclude_on_disks, RunsInTime.runs_exclude}
use Rattle.arj_law_serial.proofs.outcomes.runs_exclude_in_time.Goals as goal

pub returns-clause-pairs : goal.returns-clause-pairs
returns-clause-pairs c = runs_exclude

pub returns-clause-disks : goal.returns-clause-disks
returns-clause-disks c = runs_exclude_on_disks
