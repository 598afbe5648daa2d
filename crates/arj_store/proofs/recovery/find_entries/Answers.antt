use Rattle.std.proofs.Common.{◌≡◌, ◌∙◌, ◌↔◌, sym, ap, subst, true}
use Rattle.arj_disk.specs.declared.slot.Role.TheVariants.{Names}
use Rattle.arj_store.specs.declared.prepare.Place.TheVariants.{Committed}
use Rattle.arj_store.specs.Recovery.{ListsHeld, HasEntry, HasRead}
use Rattle.arj_store.specs.Shadow.{is_in}
use Rattle.arj_store.specs.Table.{at}
use Rattle.arj_store.proofs.Finding.{shadows_there, committed_there, each_newest, finds}
use Rattle.arj_store.proofs.recovery.find_entries.Goals as goal

pub read_each-requires-clause-there : goal.read_each-requires-clause-there
read_each-requires-clause-there g c =
    shadows_there (g.D.Disk.file c.args.disk.now) (at c.args.pending.now.actions) (at c.args.pending.now.holdings) c.requires.formed c.requires.keeps c.as_slice.result.now (λ u. ap (λ us. is_in us u) c.as_slice.ensures ∙ c.in_ok-left.ensures u)

pub read_each-requires-2-clause-there : goal.read_each-requires-2-clause-there
read_each-requires-2-clause-there g c u =
    subst (λ us. (is_in us u ≡ true) ↔ HasEntry Committed (g.D.Disk.file c.read_each.new.disk) u) (sym (c.as_slice-2.ensures ∙ c.in_ok-entries.ensures))
    (committed_there (g.D.Disk.file c.read_each.new.disk) c.args.names.now (subst (λ file. ListsHeld Names file c.args.names.now) (sym c.read_each.ensures.files) c.requires.lists) u)

pub prepared_states-requires : goal.prepared_states-requires
prepared_states-requires g c =
    each_newest (g.D.Disk.file c.args.disk.now) (at c.args.pending.now.actions) (at c.args.pending.now.holdings) c.requires.formed c.requires.keeps (at c.in_ok-shadows.shadows) (at c.in_ok-committed.committed)
    c.in_ok-shadows.ensures.read (subst (λ file. HasRead Committed file (at c.in_ok-committed.committed)) c.read_each.ensures.files c.in_ok-committed.ensures.read)

pub returns-clause-found : goal.returns-clause-found
returns-clause-found g c =
    finds (g.D.Disk.file c.args.disk.now) (at c.args.pending.now.actions) (at c.args.pending.now.holdings) c.requires.formed c.requires.keeps (at c.in_ok-shadows.shadows) (at c.in_ok-committed.committed)
    c.in_ok-shadows.ensures.read (subst (λ file. HasRead Committed file (at c.in_ok-committed.committed)) c.read_each.ensures.files c.in_ok-committed.ensures.read)
    (record {
      committed = c.in_ok-committed-2.committed;
      prepared =
          c.in_ok-prepared.prepared;
    }) c.in_ok-committed-2.ensures c.in_ok-prepared.ensures
