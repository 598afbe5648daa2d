use Rattle.std.proofs.Common.{◌≡◌, refl, sym, subst, None}
use Rattle.std.specs.Prelude.{is_some}
use Rattle.arj_disk.specs.FileMap.{FileMap}
use Rattle.arj_protocol.specs.Effect.{holder_of}
use Rattle.arj_protocol.specs.Words.{object}
use Rattle.arj_serve.specs.Asked.{IsServed}
use Rattle.arj_serve.specs.Did.{Call}
use Rattle.arj_serve.specs.Kept.{IsDiskOf, Leaves, StandsOn}
use Rattle.arj_law_store.specs.store.Reads.{ReadsAs}
use Rattle.arj_serve.proofs.Roles.{disk_is, left_as_was}
use Rattle.arj_serve.proofs.Stores.{load_cut, load_served}
use Rattle.arj_serve.proofs.services.Services.load.Goals as goal

pub returns-in_err-answer-clause-stopped : goal.returns-in_err-answer-clause-stopped
returns-in_err-answer-clause-stopped g c = λ stop d stands from e.
    let o = g.O.ObjectStore in
    let file : FileMap = g.D.Disk.file c.args.disk.now in
    let left : FileMap = g.D.Disk.file c.read.new.disk in
    let same : left ≡ file = λ i q. c.read.ensures.files q i in
    let call : Call g.row.O.Denot =
    record { old = c.args.self.now; new = c.args.self.now; file = file; left = left; before = c.args.out.now; after = c.args.out.now } in
    let free : holder_of (object c.args.m.now.x) d.store ≡ None =
    subst (λ u. holder_of u d.store ≡ None) c.object_uid.ensures (c.in_err-answer.ensures.free d stands) in
    load_cut o call d from e c.args.m.now.head c.args.m.now.x free refl (subst (λ f. IsDiskOf o (is_some c.args.self.now.naming) f d) (sym same) (disk_is o c.args.self.now file d stands))

pub returns-in_err-answer-clause-leaves : goal.returns-in_err-answer-clause-leaves
returns-in_err-answer-clause-leaves g c =
    let file : FileMap = g.D.Disk.file c.args.disk.now in
    let same : g.D.Disk.file c.read.new.disk ≡ file = λ i q. c.read.ensures.files q i in
    subst (λ f. Leaves g.O.ObjectStore (is_some c.args.self.now.naming) file f) (sym same) (left_as_was g.O.ObjectStore c.args.self.now file c.requires)

pub returns-clause-done : goal.returns-clause-done
returns-clause-done g c = λ d stands from e.
    let o = g.O.ObjectStore in
    let file : FileMap = g.D.Disk.file c.args.disk.now in
    let left : FileMap = g.D.Disk.file c.read.new.disk in
    let same : left ≡ file = λ i q. c.read.ensures.files q i in
    let call : Call g.row.O.Denot =
    record { old = c.args.self.now; new = c.args.self.now; file = file; left = left; before = c.args.out.now; after = c.args.out.now } in
    let reads : ReadsAs d.store (object c.args.m.now.x) c.in_ok-answer.answer =
    subst (λ u. ReadsAs d.store u c.in_ok-answer.answer) c.object_uid.ensures (c.in_ok-answer.ensures.answer d stands) in
    subst (IsServed o from _ e call d) (sym c.loaded.ensures)
    (load_served o call d from e c.args.m.now.head c.args.m.now.x c.in_ok-answer.answer reads refl refl (subst (λ f. StandsOn o c.args.self.now f d) (sym same) stands))

pub returns-clause-leaves : goal.returns-clause-leaves
returns-clause-leaves g c =
    let file : FileMap = g.D.Disk.file c.args.disk.now in
    let same : g.D.Disk.file c.read.new.disk ≡ file = λ i q. c.read.ensures.files q i in
    subst (λ f. Leaves g.O.ObjectStore (is_some c.args.self.now.naming) file f) (sym same) (left_as_was g.O.ObjectStore c.args.self.now file c.requires)
