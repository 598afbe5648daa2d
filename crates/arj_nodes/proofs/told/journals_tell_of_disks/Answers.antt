use Rattle.arj_nodes.proofs.Telling.{arms_told, halts_told}
use Rattle.arj_nodes.proofs.told.journals_tell_of_disks.Goals as goal

pub returns : goal.returns
returns g c = record { halts = halts_told g.C.Core g.D.Disk; arms = arms_told g.C.Core g.D.Disk }
