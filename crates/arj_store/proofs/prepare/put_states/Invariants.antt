use Rattle.std.proofs.Common.{take, map}
use Rattle.arj_store.specs.Pair.{uid_of}
use Rattle.arj_store.specs.Shadow.{PutsStates, HasStates}
use Rattle.arj_disk.specs.Counted.{counts}
use Rattle.arj_store.proofs.Counting.{SameCounts}
use Rattle.arj_store.proofs.prepare.put_states.Given as goal

-- the states so far have their files
abbrev pub invariant-loop-state : goal.invariant-loop-state
invariant-loop-state g l = record {
  puts : PutsStates l.place (map uid_of (take l.state-index l.states)) (g.D.Disk.file l.initial.disk) (g.D.Disk.file l.disk);
  has : HasStates l.place (take l.state-index l.states) (g.D.Disk.file l.disk);
  counts : SameCounts (counts g.D.Disk l.initial.disk) (counts g.D.Disk l.disk);
}
