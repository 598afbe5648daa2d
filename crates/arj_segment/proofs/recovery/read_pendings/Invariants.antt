use Rattle.std.proofs.Common.{◌≡◌, take}
use Rattle.arj_disk.specs.Counted.{counts}
use Rattle.arj_store.proofs.Counting.{SameCounts}
use Rattle.arj_store.specs.Table.{at}
use Rattle.arj_segment.specs.Says.{pend}
use Rattle.arj_segment.proofs.Pended.{HasRead}
use Rattle.arj_segment.proofs.recovery.read_pendings.Given as goal

-- the actions so far are read, and nothing changed
abbrev pub invariant-loop-act : goal.invariant-loop-act
invariant-loop-act g l = record {
  read : HasRead (take l.act-index l.act-items) (pend (g.D.Disk.file l.initial.disk) l.role) l.pends (at l.kept.actions) (at l.kept.holdings);
  files : g.D.Disk.file l.disk ≡ g.D.Disk.file l.initial.disk;
  counts : SameCounts (counts g.D.Disk l.initial.disk) (counts g.D.Disk l.disk);
}
