use Rattle.std.proofs.Common.{subst}
use Rattle.arj_disk.specs.declared.slot.Role.TheVariants.{Names}
use Rattle.arj_naming.specs.Entries.{AreEntries}
use Rattle.arj_naming.proofs.Gives.{gives_entries}
use Rattle.arj_naming.proofs.naming.Naming.gives_entries.Goals as goal

pub returns : goal.returns
returns g c =
    gives_entries (g.O.ObjectStore.pair (g.D.Disk.file c.args._disk.now) Names) c.args.self.now.pair c.requires.pair (subst (λ k. AreEntries k.pair) c.self.view_is c.are_entries.ensures)
