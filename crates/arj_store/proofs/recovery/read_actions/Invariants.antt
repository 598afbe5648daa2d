use Rattle.std.proofs.Common.{◌≡◌, take}
use Rattle.arj_store.specs.Recovery.{ReadsActions}
use Rattle.arj_store.specs.Table.{at}
use Rattle.arj_disk.specs.Counted.{counts}
use Rattle.arj_store.proofs.Counting.{SameCounts}
use Rattle.arj_store.proofs.recovery.read_actions.Given as goal

-- the actions so far are kept
abbrev pub invariant-loop-slot : goal.invariant-loop-slot
invariant-loop-slot g l = record {
  read : ReadsActions (take l.slot-index l.names) l.role (g.D.Disk.file l.initial.disk) (at l.pending.actions) (at l.pending.holdings);
  files : g.D.Disk.file l.disk ≡ g.D.Disk.file l.initial.disk;
  counts : SameCounts (counts g.D.Disk l.initial.disk) (counts g.D.Disk l.disk);
}
