use Rattle.arj_law_disk.proofs.machine.Results.{one_outcome}
use Rattle.arj_law_disk.proofs.disks.outcomes_are_one.Goals as goal

pub returns : goal.returns
returns c = record { outcome = one_outcome }
