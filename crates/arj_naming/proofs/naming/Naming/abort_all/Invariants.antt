use Rattle.std.proofs.Common.{◌≡◌, take}
use Rattle.arj_disk.specs.Says.{OnlyOfRole}
use Rattle.arj_disk.specs.declared.slot.Role.TheVariants.{Names}
use Rattle.arj_naming.specs.Ends.{abort_all}
use Rattle.arj_naming.specs.Files.{GivesEntries}
use Rattle.arj_naming.specs.Kept.{HasDone, StandsOn}
use Rattle.arj_naming.proofs.naming.Naming.abort_all.Given as goal

-- the entries of the actions so far are aborted
abbrev pub invariant-loop-action : goal.invariant-loop-action
invariant-loop-action g l = record {
  stands : StandsOn g.O.ObjectStore l.self (g.D.Disk.file l.disk);
  done : HasDone (record { part = l.fn.self.part; outs = abort_all (take l.action-index l.actions) }) l.fn.self l.self l.fn.out l.out;
  entries : GivesEntries (g.O.ObjectStore.pair (g.D.Disk.file l.disk) Names);
  others : OnlyOfRole Names (g.D.Disk.file l.fn.disk) (g.D.Disk.file l.disk);
  stops : g.D.Disk.stops l.disk ≡ g.D.Disk.stops l.fn.disk;
  arms : g.D.Disk.arms l.disk ≡ g.D.Disk.arms l.fn.disk;
  last_arm : g.D.Disk.last_arm l.disk ≡ g.D.Disk.last_arm l.fn.disk;
}
