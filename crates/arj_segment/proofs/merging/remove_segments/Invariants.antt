use Rattle.std.proofs.Common.{take}
use Rattle.arj_disk.specs.Counted.{counts}
use Rattle.arj_store.proofs.Counting.{SameCounts}
use Rattle.arj_segment.specs.Steps.{AreGone, RemovesSome}
use Rattle.arj_segment.proofs.merging.remove_segments.Given as goal

-- the segments so far are gone
abbrev pub invariant-loop-number : goal.invariant-loop-number
invariant-loop-number g l = record {
  files : RemovesSome l.role l.numbers (g.D.Disk.file l.initial.disk) (g.D.Disk.file l.disk);
  gone : AreGone l.role (take l.number-index l.numbers) (g.D.Disk.file l.disk);
  counts : SameCounts (counts g.D.Disk l.initial.disk) (counts g.D.Disk l.disk);
}
