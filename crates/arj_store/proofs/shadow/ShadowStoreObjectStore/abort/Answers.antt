use Rattle.std.proofs.Common.{◌≡◌, ◌∙◌, sym, ap, inl, inr, refl, Some}
use Rattle.arj_store.specs.Shadow.{objects_of}
use Rattle.arj_store.specs.Table.{at}
use Rattle.arj_store.proofs.Ends.{kept_objects, flags, on_err, abort_fault, abort_formed, abort_drops, abort_end_formed, abort_others}
use Rattle.arj_store.proofs.Ends.{abort_keeps, abort_flags}
use Rattle.arj_store.proofs.shadow.ShadowStoreObjectStore.abort.Goals as goal

pub returns-in_err-remove-clause-fault : goal.returns-in_err-remove-clause-fault
returns-in_err-remove-clause-fault g c =
    let objects : objects_of (g.D.Disk.file c.args.disk.now) c.args.self.now.role c.args.act ≡ Some c.in-Some.objects =
    kept_objects c.args.self.now.role c.args.act (g.D.Disk.file c.args.disk.now) (at c.args.self.now.pending.actions) (at c.args.self.now.pending.holdings) c.take.result c.in-Some.objects
    c.requires.keeps c.take.ensures.value c.in-Some.is in
    on_err c.from_residual.result (abort_fault c.args.self.now.role c.args.act c.in-Some.objects (g.D.Disk.file c.args.disk.now) c.requires.formed objects (g.D.Disk.file c.remove.new.self) c.remove.ensures.files)

pub returns-in_err-remove-clause-formed : goal.returns-in_err-remove-clause-formed
returns-in_err-remove-clause-formed g c =
    let objects : objects_of (g.D.Disk.file c.args.disk.now) c.args.self.now.role c.args.act ≡ Some c.in-Some.objects =
    kept_objects c.args.self.now.role c.args.act (g.D.Disk.file c.args.disk.now) (at c.args.self.now.pending.actions) (at c.args.self.now.pending.holdings) c.take.result c.in-Some.objects
    c.requires.keeps c.take.ensures.value c.in-Some.is in
    abort_formed c.args.self.now.role c.args.act c.in-Some.objects (g.D.Disk.file c.args.disk.now) c.requires.formed objects (g.D.Disk.file c.remove.new.self) c.remove.ensures.files

pub remove_shadows-requires : goal.remove_shadows-requires
remove_shadows-requires g c =
    let objects : objects_of (g.D.Disk.file c.args.disk.now) c.args.self.now.role c.args.act ≡ Some c.as_slice.result.now =
    kept_objects c.args.self.now.role c.args.act (g.D.Disk.file c.args.disk.now) (at c.args.self.now.pending.actions) (at c.args.self.now.pending.holdings) c.take.result c.in-Some.objects
    c.requires.keeps c.take.ensures.value c.in-Some.is ∙ ap Some (sym c.as_slice.ensures) in
    abort_flags c.args.self.now.role c.args.act c.as_slice.result.now (g.D.Disk.file c.args.disk.now) c.requires.formed objects (g.D.Disk.file c.remove.new.self) (g.D.Disk.file c.remove.new.self) c.in_ok-remove.ensures.ok (λ q tmp. inl refl) (at c.args.self.now.pending.holdings) (flags c.args.self.now.role c.args.act c.as_slice.result.now (g.D.Disk.file c.args.disk.now) c.requires.formed objects (at c.args.self.now.pending.actions) (at c.args.self.now.pending.holdings) c.requires.keeps)

pub returns-in_err-remove_shadows-clause-fault : goal.returns-in_err-remove_shadows-clause-fault
returns-in_err-remove_shadows-clause-fault g c =
    let objects : objects_of (g.D.Disk.file c.args.disk.now) c.args.self.now.role c.args.act ≡ Some c.as_slice.result.now =
    kept_objects c.args.self.now.role c.args.act (g.D.Disk.file c.args.disk.now) (at c.args.self.now.pending.actions) (at c.args.self.now.pending.holdings) c.take.result c.in-Some.objects
    c.requires.keeps c.take.ensures.value c.in-Some.is ∙ ap Some (sym c.as_slice.ensures) in
    on_err c.from_residual-in_err-remove_shadows.result (inr (abort_drops c.args.self.now.role c.args.act c.as_slice.result.now (g.D.Disk.file c.args.disk.now) c.requires.formed objects (g.D.Disk.file c.remove.new.self) (g.D.Disk.file c.remove_shadows.new.disk) c.in_ok-remove.ensures.ok c.remove_shadows.ensures.files))

pub returns-in_err-remove_shadows-clause-formed : goal.returns-in_err-remove_shadows-clause-formed
returns-in_err-remove_shadows-clause-formed g c =
    let objects : objects_of (g.D.Disk.file c.args.disk.now) c.args.self.now.role c.args.act ≡ Some c.as_slice.result.now =
    kept_objects c.args.self.now.role c.args.act (g.D.Disk.file c.args.disk.now) (at c.args.self.now.pending.actions) (at c.args.self.now.pending.holdings) c.take.result c.in-Some.objects
    c.requires.keeps c.take.ensures.value c.in-Some.is ∙ ap Some (sym c.as_slice.ensures) in
    abort_end_formed c.args.self.now.role c.args.act c.as_slice.result.now (g.D.Disk.file c.args.disk.now) c.requires.formed objects (g.D.Disk.file c.remove.new.self) (g.D.Disk.file c.remove_shadows.new.disk) c.in_ok-remove.ensures.ok c.remove_shadows.ensures.files

pub returns-in_err-remove_shadows-clause-others : goal.returns-in_err-remove_shadows-clause-others
returns-in_err-remove_shadows-clause-others g c =
    let objects : objects_of (g.D.Disk.file c.args.disk.now) c.args.self.now.role c.args.act ≡ Some c.as_slice.result.now =
    kept_objects c.args.self.now.role c.args.act (g.D.Disk.file c.args.disk.now) (at c.args.self.now.pending.actions) (at c.args.self.now.pending.holdings) c.take.result c.in-Some.objects
    c.requires.keeps c.take.ensures.value c.in-Some.is ∙ ap Some (sym c.as_slice.ensures) in
    abort_others c.args.self.now.role c.args.act c.as_slice.result.now (g.D.Disk.file c.args.disk.now) c.requires.formed objects (g.D.Disk.file c.remove.new.self) (g.D.Disk.file c.remove_shadows.new.disk) c.in_ok-remove.ensures.ok c.remove_shadows.ensures.files

pub returns-clause-dropped : goal.returns-clause-dropped
returns-clause-dropped g c =
    let objects : objects_of (g.D.Disk.file c.args.disk.now) c.args.self.now.role c.args.act ≡ Some c.as_slice.result.now =
    kept_objects c.args.self.now.role c.args.act (g.D.Disk.file c.args.disk.now) (at c.args.self.now.pending.actions) (at c.args.self.now.pending.holdings) c.take.result c.in-Some.objects
    c.requires.keeps c.take.ensures.value c.in-Some.is ∙ ap Some (sym c.as_slice.ensures) in
    abort_drops c.args.self.now.role c.args.act c.as_slice.result.now (g.D.Disk.file c.args.disk.now) c.requires.formed objects (g.D.Disk.file c.remove.new.self) (g.D.Disk.file c.remove_shadows.new.disk) c.in_ok-remove.ensures.ok c.remove_shadows.ensures.files

pub returns-clause-keeps : goal.returns-clause-keeps
returns-clause-keeps g c =
    let objects : objects_of (g.D.Disk.file c.args.disk.now) c.args.self.now.role c.args.act ≡ Some c.as_slice.result.now =
    kept_objects c.args.self.now.role c.args.act (g.D.Disk.file c.args.disk.now) (at c.args.self.now.pending.actions) (at c.args.self.now.pending.holdings) c.take.result c.in-Some.objects
    c.requires.keeps c.take.ensures.value c.in-Some.is ∙ ap Some (sym c.as_slice.ensures) in
    abort_keeps c.args.self.now.role c.args.act c.as_slice.result.now (g.D.Disk.file c.args.disk.now) c.requires.formed objects (g.D.Disk.file c.remove.new.self) (g.D.Disk.file c.remove_shadows.new.disk) c.in_ok-remove.ensures.ok c.remove_shadows.ensures.files (at c.args.self.now.pending.actions) (at c.take.new.self) (at c.args.self.now.pending.holdings) (at c.remove_shadows.new.holdings) c.requires.keeps c.take.ensures.taken c.in_ok-remove_shadows.ensures.released c.in_ok-remove_shadows.ensures.ok

pub returns-clause-formed : goal.returns-clause-formed
returns-clause-formed g c =
    let objects : objects_of (g.D.Disk.file c.args.disk.now) c.args.self.now.role c.args.act ≡ Some c.as_slice.result.now =
    kept_objects c.args.self.now.role c.args.act (g.D.Disk.file c.args.disk.now) (at c.args.self.now.pending.actions) (at c.args.self.now.pending.holdings) c.take.result c.in-Some.objects
    c.requires.keeps c.take.ensures.value c.in-Some.is ∙ ap Some (sym c.as_slice.ensures) in
    abort_end_formed c.args.self.now.role c.args.act c.as_slice.result.now (g.D.Disk.file c.args.disk.now) c.requires.formed objects (g.D.Disk.file c.remove.new.self) (g.D.Disk.file c.remove_shadows.new.disk) c.in_ok-remove.ensures.ok c.remove_shadows.ensures.files

pub returns-clause-others : goal.returns-clause-others
returns-clause-others g c =
    let objects : objects_of (g.D.Disk.file c.args.disk.now) c.args.self.now.role c.args.act ≡ Some c.as_slice.result.now =
    kept_objects c.args.self.now.role c.args.act (g.D.Disk.file c.args.disk.now) (at c.args.self.now.pending.actions) (at c.args.self.now.pending.holdings) c.take.result c.in-Some.objects
    c.requires.keeps c.take.ensures.value c.in-Some.is ∙ ap Some (sym c.as_slice.ensures) in
    abort_others c.args.self.now.role c.args.act c.as_slice.result.now (g.D.Disk.file c.args.disk.now) c.requires.formed objects (g.D.Disk.file c.remove.new.self) (g.D.Disk.file c.remove_shadows.new.disk) c.in_ok-remove.ensures.ok c.remove_shadows.ensures.files
