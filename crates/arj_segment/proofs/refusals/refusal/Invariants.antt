use Rattle.std.proofs.Common.{◌≡◌, take}
use Rattle.std.specs.List.{AllByRecursion}
use Rattle.arj_disk.specs.Counted.{counts}
use Rattle.arj_store.proofs.Counting.{SameCounts}
use Rattle.arj_store.specs.Pair.{IsClear}
use Rattle.arj_segment.specs.Says.{pair_of}
use Rattle.arj_segment.proofs.refusals.refusal.Given as goal

-- nothing stands against the states so far
abbrev pub invariant-loop-state : goal.invariant-loop-state
invariant-loop-state g l = record {
  clear : AllByRecursion (IsClear (pair_of (g.D.Disk.file l.initial.disk) l.role) l.act) (take l.state-index l.states);
  files : g.D.Disk.file l.disk ≡ g.D.Disk.file l.initial.disk;
  counts : SameCounts (counts g.D.Disk l.initial.disk) (counts g.D.Disk l.disk);
}
