use Rattle.arj_law_serial.proofs.joint
use joint.InTime.{disk_lists, disk_three_in_time, disk_three_late, disk_two_in_time, is_new, is_old, three_in_time, three_late, two_in_time}
use Rattle.arj_law_serial.proofs.outcomes.exclusion_in_time_tells_disks_apart.Goals as goal

pub returns-clause-prepared : goal.returns-clause-prepared
returns-clause-prepared c = two_in_time

pub returns-clause-taken_out : goal.returns-clause-taken_out
returns-clause-taken_out c = three_in_time

pub returns-clause-late : goal.returns-clause-late
returns-clause-late c = three_late

pub returns-clause-new : goal.returns-clause-new
returns-clause-new c = is_new

pub returns-clause-old : goal.returns-clause-old
returns-clause-old c = is_old

pub returns-clause-lists : goal.returns-clause-lists
returns-clause-lists c = disk_lists

pub returns-clause-disk_prepared : goal.returns-clause-disk_prepared
returns-clause-disk_prepared c = disk_two_in_time

pub returns-clause-disk_taken_out : goal.returns-clause-disk_taken_out
returns-clause-disk_taken_out c = disk_three_in_time

pub returns-clause-disk_late : goal.returns-clause-disk_late
returns-clause-disk_late c = disk_three_late
