use Rattle.std.proofs.Common.{◌≡◌, take}
use Rattle.arj_disk.specs.Counted.{counts}
use Rattle.arj_store.proofs.Counting.{SameCounts}
use Rattle.arj_store.specs.Pair.{Packs}
use Rattle.arj_segment.specs.Says.{segments}
use Rattle.arj_segment.proofs.Gathered.{sofar}
use Rattle.arj_segment.proofs.Held.{holds}
use Rattle.arj_segment.proofs.looking.newest_in.Given as goal

-- the state is what the segments so far say
abbrev pub invariant-loop-number : goal.invariant-loop-number
invariant-loop-number g l = record {
  state : Packs (holds (sofar (take l.number-index l.number-items) (segments (g.D.Disk.file l.fn.disk) l.role)) l.uid) l.state;
  files : g.D.Disk.file l.disk ≡ g.D.Disk.file l.fn.disk;
  counts : SameCounts (counts g.D.Disk l.fn.disk) (counts g.D.Disk l.disk);
}
