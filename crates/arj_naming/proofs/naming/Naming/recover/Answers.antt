use Rattle.std.proofs.Common.{◌∙◌, ap, subst, sym}
use Rattle.arj_disk.specs.declared.slot.Role.TheVariants.{Names}
use Rattle.arj_law_store.specs.store.Files.{IsPairOf}
use Rattle.arj_naming.specs.Found.{AreFound}
use Rattle.arj_law_store.specs.store.Found.{pair_found}
use Rattle.arj_naming.proofs.Finds.{are_found}
use Rattle.arj_law_store.proofs.store.Finds.{pair_of_found}
use Rattle.arj_naming.proofs.Gives.{gives_same}
use Rattle.arj_naming.proofs.naming.Naming.recover.Goals as goal

pub recovered-requires : goal.recovered-requires
recovered-requires g c =
    let p = g.O.ObjectStore.pair (g.D.Disk.file c.args.disk.now) Names in
    let q = g.O.ObjectStore.pair (g.D.Disk.file c.recover.new.disk) Names in
    subst AreFound (sym c.found.ensures) (are_found p q c.requires.entries c.recover.ensures.pair (g.O.ObjectStore.finding c.in_ok-store.store) c.in_ok-store.ensures.found)

pub returns-clause-stands : goal.returns-clause-stands
returns-clause-stands g c =
    let q = g.O.ObjectStore.pair (g.D.Disk.file c.recover.new.disk) Names in
    record {
      role_is = c.in_ok-store.ensures.role;
      keeps = c.in_ok-store.ensures.keeps;
      formed = c.recover.ensures.formed;
      pair = subst (IsPairOf q) (sym (c.in_ok-memory.ensures.entries ∙ ap pair_found c.found.ensures)) (pair_of_found q (g.O.ObjectStore.finding c.in_ok-store.store) c.in_ok-store.ensures.found);
    }

pub returns-in_err-store-clause-entries : goal.returns-in_err-store-clause-entries
returns-in_err-store-clause-entries g c =
    gives_same (g.O.ObjectStore.pair (g.D.Disk.file c.args.disk.now) Names) (g.O.ObjectStore.pair (g.D.Disk.file c.recover.new.disk) Names) c.recover.ensures.pair c.requires.entries

pub returns-in_err-memory-clause-entries : goal.returns-in_err-memory-clause-entries
returns-in_err-memory-clause-entries g c =
    gives_same (g.O.ObjectStore.pair (g.D.Disk.file c.args.disk.now) Names) (g.O.ObjectStore.pair (g.D.Disk.file c.recover.new.disk) Names) c.recover.ensures.pair c.requires.entries

pub returns-clause-entries : goal.returns-clause-entries
returns-clause-entries g c =
    gives_same (g.O.ObjectStore.pair (g.D.Disk.file c.args.disk.now) Names) (g.O.ObjectStore.pair (g.D.Disk.file c.recover.new.disk) Names) c.recover.ensures.pair c.requires.entries
