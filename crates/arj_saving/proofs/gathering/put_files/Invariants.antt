-- The files of the names so far.
use Rattle.std.proofs.Common.{take}
use Rattle.arj_saving.proofs.Gathers.{IsGoing}
use Rattle.arj_saving.proofs.gathering.put_files.Given as goal

abbrev pub invariant-loop-name : goal.invariant-loop-name
invariant-loop-name g l =
    IsGoing g.D.Disk l.node (l.fn.disk, l.disk) l.fn.files l.files l.name-items (take l.name-index l.name-items)
