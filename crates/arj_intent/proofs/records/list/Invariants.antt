use Rattle.std.proofs.Common.{◌≡◌, map, take}
use Rattle.std.specs.List.{AllByRecursion}
use Rattle.arj_disk.specs.Counted.{counts}
use Rattle.arj_intent.specs.Records.{IsInForm, entry_of}
use Rattle.arj_intent.proofs.Counting.{SameCounts}
use Rattle.arj_intent.proofs.Listed.{listed}
use Rattle.arj_intent.proofs.records.list.Given as goal

-- the records of the names so far are listed
abbrev pub invariant-loop-slot : goal.invariant-loop-slot
invariant-loop-slot g l = record {
  found : map entry_of l.intents ≡ listed (g.D.Disk.file l.initial.disk) (take l.slot-index l.slot-items);
  form : AllByRecursion IsInForm l.intents;
  files : g.D.Disk.file l.disk ≡ g.D.Disk.file l.initial.disk;
  counts : SameCounts (counts g.D.Disk l.initial.disk) (counts g.D.Disk l.disk);
}
