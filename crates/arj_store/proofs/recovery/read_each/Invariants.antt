use Rattle.std.proofs.Common.{◌≡◌, take}
use Rattle.arj_store.specs.Recovery.{HasReadOf}
use Rattle.arj_store.specs.Table.{at}
use Rattle.arj_disk.specs.Counted.{counts}
use Rattle.arj_store.proofs.Counting.{SameCounts}
use Rattle.arj_store.proofs.recovery.read_each.Given as goal

-- the files so far are read, and nothing changed
abbrev pub invariant-loop-uid : goal.invariant-loop-uid
invariant-loop-uid g l = record {
  read : HasReadOf l.place (g.D.Disk.file l.initial.disk) (take l.uid-index l.entries) (at l.states);
  files : g.D.Disk.file l.disk ≡ g.D.Disk.file l.initial.disk;
  counts : SameCounts (counts g.D.Disk l.initial.disk) (counts g.D.Disk l.disk);
}
