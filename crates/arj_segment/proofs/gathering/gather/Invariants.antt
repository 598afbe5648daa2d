use Rattle.std.proofs.Common.{◌≡◌, take}
use Rattle.arj_disk.specs.Counted.{counts}
use Rattle.arj_store.proofs.Counting.{SameCounts}
use Rattle.arj_store.specs.Table.{at}
use Rattle.arj_segment.specs.Says.{segments}
use Rattle.arj_segment.proofs.Gathered.{HasGathered, sofar}
use Rattle.arj_segment.proofs.gathering.gather.Given as goal

-- the segments so far are gathered, and nothing changed
abbrev pub invariant-loop-number : goal.invariant-loop-number
invariant-loop-number g l = record {
  gathered : HasGathered (sofar (take l.number-index l.numbers) (segments (g.D.Disk.file l.initial.disk) l.role)) (at l.gathered.places) (at l.gathered.states);
  files : g.D.Disk.file l.disk ≡ g.D.Disk.file l.initial.disk;
  counts : SameCounts (counts g.D.Disk l.initial.disk) (counts g.D.Disk l.disk);
}
