use Rattle.std.proofs.Common.{take}
use Rattle.arj_store.specs.Recovery.{SortsShadows}
use Rattle.arj_store.specs.Table.{at}
use Rattle.arj_disk.specs.Counted.{counts}
use Rattle.arj_store.proofs.Counting.{SameCounts}
use Rattle.arj_store.proofs.recovery.sort_shadows.Given as goal

-- the shadows so far are sorted
abbrev pub invariant-loop-slot : goal.invariant-loop-slot
invariant-loop-slot g l = record {
  sorted : SortsShadows (take l.slot-index l.names) l.role (g.D.Disk.file l.initial.disk) (at l.initial.holdings) (g.D.Disk.file l.disk) (at l.holdings);
  counts : SameCounts (counts g.D.Disk l.initial.disk) (counts g.D.Disk l.disk);
}
