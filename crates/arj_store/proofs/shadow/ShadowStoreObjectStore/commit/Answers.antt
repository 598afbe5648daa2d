use Rattle.std.proofs.Common.{◌≡◌, ◌∙◌, sym, ap, inl, Some}
use Rattle.arj_store.specs.Shadow.{objects_of}
use Rattle.arj_store.specs.Table.{at}
use Rattle.arj_store.proofs.Ends.{kept_objects, flags, on_err, commit_moves, commit_fault, commit_formed, commit_others, commit_keeps}
use Rattle.arj_store.proofs.Files.{moves_some, moved_formed, moved_of_role}
use Rattle.arj_store.proofs.shadow.ShadowStoreObjectStore.commit.Goals as goal

pub move_shadows-requires : goal.move_shadows-requires
move_shadows-requires g c =
    let objects : objects_of (g.D.Disk.file c.args.disk.now) c.args.self.now.role c.args.act ≡ Some c.as_slice.result.now =
    kept_objects c.args.self.now.role c.args.act (g.D.Disk.file c.args.disk.now) (at c.args.self.now.pending.actions) (at c.args.self.now.pending.holdings) c.take.result c.in-Some.objects
    c.requires.keeps c.take.ensures.value c.in-Some.is ∙ ap Some (sym c.as_slice.ensures) in
    flags c.args.self.now.role c.args.act c.as_slice.result.now (g.D.Disk.file c.args.disk.now) c.requires.formed objects (at c.args.self.now.pending.actions) (at c.args.self.now.pending.holdings) c.requires.keeps

pub returns-in_err-move_shadows-clause-fault : goal.returns-in_err-move_shadows-clause-fault
returns-in_err-move_shadows-clause-fault g c =
    let objects : objects_of (g.D.Disk.file c.args.disk.now) c.args.self.now.role c.args.act ≡ Some c.as_slice.result.now =
    kept_objects c.args.self.now.role c.args.act (g.D.Disk.file c.args.disk.now) (at c.args.self.now.pending.actions) (at c.args.self.now.pending.holdings) c.take.result c.in-Some.objects
    c.requires.keeps c.take.ensures.value c.in-Some.is ∙ ap Some (sym c.as_slice.ensures) in
    on_err c.from_residual.result (inl (moves_some c.args.self.now.role (g.D.Disk.file c.args.disk.now) (g.D.Disk.file c.move_shadows.new.disk) c.args.act c.as_slice.result.now c.requires.formed objects c.move_shadows.ensures.files))

pub returns-in_err-move_shadows-clause-formed : goal.returns-in_err-move_shadows-clause-formed
returns-in_err-move_shadows-clause-formed g c =
    let objects : objects_of (g.D.Disk.file c.args.disk.now) c.args.self.now.role c.args.act ≡ Some c.as_slice.result.now =
    kept_objects c.args.self.now.role c.args.act (g.D.Disk.file c.args.disk.now) (at c.args.self.now.pending.actions) (at c.args.self.now.pending.holdings) c.take.result c.in-Some.objects
    c.requires.keeps c.take.ensures.value c.in-Some.is ∙ ap Some (sym c.as_slice.ensures) in
    moved_formed c.args.self.now.role (g.D.Disk.file c.args.disk.now) (g.D.Disk.file c.move_shadows.new.disk) c.args.act c.as_slice.result.now c.requires.formed objects c.move_shadows.ensures.files

pub returns-in_err-move_shadows-clause-others : goal.returns-in_err-move_shadows-clause-others
returns-in_err-move_shadows-clause-others g c =
    let objects : objects_of (g.D.Disk.file c.args.disk.now) c.args.self.now.role c.args.act ≡ Some c.as_slice.result.now =
    kept_objects c.args.self.now.role c.args.act (g.D.Disk.file c.args.disk.now) (at c.args.self.now.pending.actions) (at c.args.self.now.pending.holdings) c.take.result c.in-Some.objects
    c.requires.keeps c.take.ensures.value c.in-Some.is ∙ ap Some (sym c.as_slice.ensures) in
    moved_of_role c.args.self.now.role (g.D.Disk.file c.args.disk.now) (g.D.Disk.file c.move_shadows.new.disk) c.args.act c.as_slice.result.now c.requires.formed objects c.move_shadows.ensures.files

pub returns-in_err-remove-clause-fault : goal.returns-in_err-remove-clause-fault
returns-in_err-remove-clause-fault g c =
    let objects : objects_of (g.D.Disk.file c.args.disk.now) c.args.self.now.role c.args.act ≡ Some c.as_slice.result.now =
    kept_objects c.args.self.now.role c.args.act (g.D.Disk.file c.args.disk.now) (at c.args.self.now.pending.actions) (at c.args.self.now.pending.holdings) c.take.result c.in-Some.objects
    c.requires.keeps c.take.ensures.value c.in-Some.is ∙ ap Some (sym c.as_slice.ensures) in
    on_err c.from_residual-in_err-remove.result (commit_fault c.args.self.now.role c.args.act c.as_slice.result.now (g.D.Disk.file c.args.disk.now) c.requires.formed objects (g.D.Disk.file c.move_shadows.new.disk) (g.D.Disk.file c.remove.new.self) c.move_shadows.ensures.files c.in_ok-move_shadows.ensures.ok c.remove.ensures.files)

pub returns-in_err-remove-clause-formed : goal.returns-in_err-remove-clause-formed
returns-in_err-remove-clause-formed g c =
    let objects : objects_of (g.D.Disk.file c.args.disk.now) c.args.self.now.role c.args.act ≡ Some c.as_slice.result.now =
    kept_objects c.args.self.now.role c.args.act (g.D.Disk.file c.args.disk.now) (at c.args.self.now.pending.actions) (at c.args.self.now.pending.holdings) c.take.result c.in-Some.objects
    c.requires.keeps c.take.ensures.value c.in-Some.is ∙ ap Some (sym c.as_slice.ensures) in
    commit_formed c.args.self.now.role c.args.act c.as_slice.result.now (g.D.Disk.file c.args.disk.now) c.requires.formed objects (g.D.Disk.file c.move_shadows.new.disk) (g.D.Disk.file c.remove.new.self) c.move_shadows.ensures.files c.in_ok-move_shadows.ensures.ok c.remove.ensures.files

pub returns-in_err-remove-clause-others : goal.returns-in_err-remove-clause-others
returns-in_err-remove-clause-others g c =
    let objects : objects_of (g.D.Disk.file c.args.disk.now) c.args.self.now.role c.args.act ≡ Some c.as_slice.result.now =
    kept_objects c.args.self.now.role c.args.act (g.D.Disk.file c.args.disk.now) (at c.args.self.now.pending.actions) (at c.args.self.now.pending.holdings) c.take.result c.in-Some.objects
    c.requires.keeps c.take.ensures.value c.in-Some.is ∙ ap Some (sym c.as_slice.ensures) in
    commit_others c.args.self.now.role c.args.act c.as_slice.result.now (g.D.Disk.file c.args.disk.now) c.requires.formed objects (g.D.Disk.file c.move_shadows.new.disk) (g.D.Disk.file c.remove.new.self) c.move_shadows.ensures.files c.in_ok-move_shadows.ensures.ok c.remove.ensures.files

pub returns-clause-moved : goal.returns-clause-moved
returns-clause-moved g c =
    let objects : objects_of (g.D.Disk.file c.args.disk.now) c.args.self.now.role c.args.act ≡ Some c.as_slice.result.now =
    kept_objects c.args.self.now.role c.args.act (g.D.Disk.file c.args.disk.now) (at c.args.self.now.pending.actions) (at c.args.self.now.pending.holdings) c.take.result c.in-Some.objects
    c.requires.keeps c.take.ensures.value c.in-Some.is ∙ ap Some (sym c.as_slice.ensures) in
    commit_moves c.args.self.now.role c.args.act c.as_slice.result.now (g.D.Disk.file c.args.disk.now) c.requires.formed objects (g.D.Disk.file c.move_shadows.new.disk) (g.D.Disk.file c.remove.new.self) c.move_shadows.ensures.files c.in_ok-move_shadows.ensures.ok c.in_ok-remove.ensures.ok

pub returns-clause-keeps : goal.returns-clause-keeps
returns-clause-keeps g c =
    let objects : objects_of (g.D.Disk.file c.args.disk.now) c.args.self.now.role c.args.act ≡ Some c.as_slice.result.now =
    kept_objects c.args.self.now.role c.args.act (g.D.Disk.file c.args.disk.now) (at c.args.self.now.pending.actions) (at c.args.self.now.pending.holdings) c.take.result c.in-Some.objects
    c.requires.keeps c.take.ensures.value c.in-Some.is ∙ ap Some (sym c.as_slice.ensures) in
    commit_keeps c.args.self.now.role c.args.act c.as_slice.result.now (g.D.Disk.file c.args.disk.now) c.requires.formed objects (g.D.Disk.file c.move_shadows.new.disk) (g.D.Disk.file c.remove.new.self) c.move_shadows.ensures.files c.in_ok-move_shadows.ensures.ok (at c.args.self.now.pending.actions) (at c.take.new.self) (at c.args.self.now.pending.holdings) (at c.move_shadows.new.holdings) c.requires.keeps c.take.ensures.taken c.in_ok-move_shadows.ensures.released c.in_ok-remove.ensures.ok

pub returns-clause-formed : goal.returns-clause-formed
returns-clause-formed g c =
    let objects : objects_of (g.D.Disk.file c.args.disk.now) c.args.self.now.role c.args.act ≡ Some c.as_slice.result.now =
    kept_objects c.args.self.now.role c.args.act (g.D.Disk.file c.args.disk.now) (at c.args.self.now.pending.actions) (at c.args.self.now.pending.holdings) c.take.result c.in-Some.objects
    c.requires.keeps c.take.ensures.value c.in-Some.is ∙ ap Some (sym c.as_slice.ensures) in
    commit_formed c.args.self.now.role c.args.act c.as_slice.result.now (g.D.Disk.file c.args.disk.now) c.requires.formed objects (g.D.Disk.file c.move_shadows.new.disk) (g.D.Disk.file c.remove.new.self) c.move_shadows.ensures.files c.in_ok-move_shadows.ensures.ok c.remove.ensures.files

pub returns-clause-others : goal.returns-clause-others
returns-clause-others g c =
    let objects : objects_of (g.D.Disk.file c.args.disk.now) c.args.self.now.role c.args.act ≡ Some c.as_slice.result.now =
    kept_objects c.args.self.now.role c.args.act (g.D.Disk.file c.args.disk.now) (at c.args.self.now.pending.actions) (at c.args.self.now.pending.holdings) c.take.result c.in-Some.objects
    c.requires.keeps c.take.ensures.value c.in-Some.is ∙ ap Some (sym c.as_slice.ensures) in
    commit_others c.args.self.now.role c.args.act c.as_slice.result.now (g.D.Disk.file c.args.disk.now) c.requires.formed objects (g.D.Disk.file c.move_shadows.new.disk) (g.D.Disk.file c.remove.new.self) c.move_shadows.ensures.files c.in_ok-move_shadows.ensures.ok c.remove.ensures.files
