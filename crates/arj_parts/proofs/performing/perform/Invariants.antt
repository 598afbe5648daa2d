use Rattle.std.proofs.Common.{◌≡◌, List, map}
use Rattle.std.specs.List.{AllByRecursion}
use Rattle.std.specs.Vec.Iter.{into_iter_items}
use Rattle.arj_coord.specs.Shown.{CanBeDone, effect_of}
use Rattle.arj_disk.specs.FileMap.{FileMap}
use Rattle.arj_intent.specs.Records.{AreInForm}
use Rattle.arj_node.specs.declared.outgoing.Outgoing.{Outgoing}
use Rattle.arj_parts.specs.Records.{CutsRecords, DoesRecords, OnlyRecords}
use Rattle.arj_protocol.specs.Effect.{Intent}
use Rattle.arj_protocol.specs.Words.{Uid}
use Rattle.arj_parts.proofs.performing.perform.Given as goal

-- What is left, done or cut behind what was done, is all of it done or cut; nothing was stopped so far.
abbrev pub invariant-loop-effect : goal.invariant-loop-effect
invariant-loop-effect g l = record {
  done : (new : FileMap) (now : List (Uid × Intent)) (after : List Outgoing) →
      DoesRecords (map effect_of (into_iter_items l.effect-iterator)) (g.D.Disk.file l.disk) new l.records now l.outs after
      → DoesRecords l.fn.effects (g.D.Disk.file l.fn.disk) new l.fn.records now l.fn.outs after;
  halted : (new : FileMap) (after : List Outgoing) →
      CutsRecords (map effect_of (into_iter_items l.effect-iterator)) (g.D.Disk.file l.disk) new l.outs after
      → CutsRecords l.fn.effects (g.D.Disk.file l.fn.disk) new l.fn.outs after;
  can : AllByRecursion CanBeDone (into_iter_items l.effect-iterator);
  form : AreInForm (g.D.Disk.file l.disk);
  others : OnlyRecords (g.D.Disk.file l.fn.disk) (g.D.Disk.file l.disk);
  stops : g.D.Disk.stops l.disk ≡ g.D.Disk.stops l.fn.disk;
  arms : g.D.Disk.arms l.disk ≡ g.D.Disk.arms l.fn.disk;
  last_arm : g.D.Disk.last_arm l.disk ≡ g.D.Disk.last_arm l.fn.disk;
}
