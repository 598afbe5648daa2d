use Rattle.std.proofs.Common.{◌∙◌, inr, sym, subst, None}
use Rattle.arj_store.proofs.Ends.{on_err}
use Rattle.arj_store.specs.Table.{at}
use Rattle.arj_segment.specs.Tables.{SetsEach}
use Rattle.arj_segment.proofs.Changes.{abort_drops}
use Rattle.arj_segment.proofs.Ended.{HasPending, abort_end, abort_fault, abort_pend, abort_places, an_action}
use Rattle.arj_segment.proofs.moving.abort_file.Goals as goal

pub returns-in_err-remove-clause-fault : goal.returns-in_err-remove-clause-fault
returns-in_err-remove-clause-fault g c =
    let has : HasPending (g.D.Disk.file c.args.disk.now) c.args.role c.args.act c.in-Some.objects =
    an_action (g.D.Disk.file c.args.disk.now) c.args.role (at c.args.kept.now.actions) (at c.args.kept.now.holdings) c.requires.keeps.pending c.args.act c.in-Some.objects (sym c.take.ensures.value ∙ c.in-Some.is) in
    on_err c.from_residual.result (abort_fault c.args.role c.args.act c.in-Some.objects (g.D.Disk.file c.args.disk.now) c.requires.formed has (at c.args.kept.now.actions) (at c.take.new.self) (at c.args.kept.now.holdings) (at c.args.kept.now.holdings) c.requires.keeps.pending (g.D.Disk.file c.remove.new.self) c.remove.ensures.files)

pub returns-in_err-remove-clause-formed : goal.returns-in_err-remove-clause-formed
returns-in_err-remove-clause-formed g c =
    let has : HasPending (g.D.Disk.file c.args.disk.now) c.args.role c.args.act c.in-Some.objects =
    an_action (g.D.Disk.file c.args.disk.now) c.args.role (at c.args.kept.now.actions) (at c.args.kept.now.holdings) c.requires.keeps.pending c.args.act c.in-Some.objects (sym c.take.ensures.value ∙ c.in-Some.is) in
    abort_end c.args.role c.args.act c.in-Some.objects (g.D.Disk.file c.args.disk.now) c.requires.formed has (at c.args.kept.now.actions) (at c.take.new.self) (at c.args.kept.now.holdings) (at c.args.kept.now.holdings) c.requires.keeps.pending (g.D.Disk.file c.remove.new.self) c.remove.ensures.files

pub returns-clause-dropped : goal.returns-clause-dropped
returns-clause-dropped g c =
    abort_drops c.args.role c.args.act (g.D.Disk.file c.args.disk.now) (g.D.Disk.file c.remove.new.self) c.requires.formed c.in_ok-remove.ensures.ok

pub returns-clause-keeps : goal.returns-clause-keeps
returns-clause-keeps g c =
    let has : HasPending (g.D.Disk.file c.args.disk.now) c.args.role c.args.act c.in-Some.objects =
    an_action (g.D.Disk.file c.args.disk.now) c.args.role (at c.args.kept.now.actions) (at c.args.kept.now.holdings) c.requires.keeps.pending c.args.act c.in-Some.objects (sym c.take.ensures.value ∙ c.in-Some.is) in
    record {
      pending = abort_pend c.args.role c.args.act c.in-Some.objects (g.D.Disk.file c.args.disk.now) c.requires.formed has (at c.args.kept.now.actions) (at c.take.new.self) (at c.args.kept.now.holdings) (at c.take_each.new.table) c.requires.keeps.pending (g.D.Disk.file c.remove.new.self) c.in_ok-remove.ensures.ok c.take.ensures.taken (subst (λ us. SetsEach us None (at c.args.kept.now.holdings) (at c.take_each.new.table)) c.as_slice.ensures c.take_each.ensures);
      committed = abort_places c.args.role c.args.act c.in-Some.objects (g.D.Disk.file c.args.disk.now) c.requires.formed has (at c.args.kept.now.actions) (at c.take.new.self) (at c.args.kept.now.holdings) (at c.take_each.new.table) c.requires.keeps.pending (g.D.Disk.file c.remove.new.self) c.in_ok-remove.ensures.ok (at c.args.kept.now.places) c.args.kept.now.numbers c.requires.keeps.committed;
    }

pub returns-clause-formed : goal.returns-clause-formed
returns-clause-formed g c =
    let has : HasPending (g.D.Disk.file c.args.disk.now) c.args.role c.args.act c.in-Some.objects =
    an_action (g.D.Disk.file c.args.disk.now) c.args.role (at c.args.kept.now.actions) (at c.args.kept.now.holdings) c.requires.keeps.pending c.args.act c.in-Some.objects (sym c.take.ensures.value ∙ c.in-Some.is) in
    abort_end c.args.role c.args.act c.in-Some.objects (g.D.Disk.file c.args.disk.now) c.requires.formed has (at c.args.kept.now.actions) (at c.take.new.self) (at c.args.kept.now.holdings) (at c.take_each.new.table) c.requires.keeps.pending (g.D.Disk.file c.remove.new.self) (inr c.in_ok-remove.ensures.ok)
