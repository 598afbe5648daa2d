use Rattle.std.proofs.Common.{◌≡◌, ◌∙◌, ◌++◌, ap, refl, subst, None}
use Rattle.arj_disk.specs.FileMap.{FileMap}
use Rattle.arj_protocol.specs.Effect.{holder_of}
use Rattle.arj_protocol.specs.Step.{copy_line}
use Rattle.arj_naming.specs.Said.{said}
use Rattle.arj_law_store.specs.store.Reads.{ReadsAs, state_of}
use Rattle.arj_serve.specs.Kept.{Kept}
use Rattle.arj_serve.proofs.Showings.{copy_cut, copy_shown}
use Rattle.arj_serve.proofs.services.Services.show_copy.Goals as goal

pub returns-in_err-read-clause-stopped : goal.returns-in_err-read-clause-stopped
returns-in_err-read-clause-stopped g c = λ stop.
    let file : FileMap = g.D.Disk.file c.args.disk.now in
    let left : FileMap = g.D.Disk.file c.read.new.disk in
    copy_cut g.O.ObjectStore c.args.self.now file left c.read.ensures.files c.args.out.now c.args.out.now c.args.x (λ d stands. subst (λ u. holder_of u d.store ≡ None) c.object_uid.ensures (c.in_err-read.ensures.free d stands)) refl

pub returns-clause-done : goal.returns-clause-done
returns-clause-done g c =
    let file : FileMap = g.D.Disk.file c.args.disk.now in
    let left : FileMap = g.D.Disk.file c.read.new.disk in
    copy_shown g.O.ObjectStore c.args.self.now file left c.read.ensures.files c.args.out.now c.say_read.new.out c.args.x c.in_ok-read.read
    (λ d stands. subst (λ u. ReadsAs d.store u c.in_ok-read.read) c.object_uid.ensures (c.in_ok-read.ensures.answer d stands))
    (c.in_ok-say_read.ensures ∙ ap (λ (k : Kept g.row.O.Denot). c.args.out.now ++ said (copy_line k.number c.args.x (state_of c.in_ok-read.read))) c.self.view_is)
