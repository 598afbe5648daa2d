use Rattle.std.proofs.Common.{sym, Some}
use Rattle.std.proofs.lemmas.Result.{IfOk-weaker}
use Rattle.arj_disk.specs.FileMap.{FileMap}
use Rattle.arj_naming.specs.Calls.{note_by, recorded_to}
use Rattle.arj_protocol.specs.Ask.{Reply}
use Rattle.arj_protocol.specs.Node.{if_naming, served, with_naming}
use Rattle.arj_protocol.specs.Words.message
use Rattle.arj_serve.specs.Asked.{Serves}
use Rattle.arj_serve.specs.Did.{Call}
use Rattle.arj_serve.specs.Kept.{Kept, parts_with}
use Rattle.arj_serve.specs.Parts.{NamingDid}
use Rattle.arj_serve.proofs.Asked.{naming_asked}
use Rattle.arj_serve.proofs.Notes.{note_nothing, note_said}
use Rattle.arj_serve.proofs.services.Services.note.Goals as goal

pub returns : goal.returns
returns g c =
    let o = g.O.ObjectStore in
    let m = c.args.m.now in
    let n = c.in-Some.naming in
    let old : Kept g.row.O.Denot =
    record { number = c.self.inside.number; server = c.self.inside.server; naming = c.self.inside.naming; store = c.self.inside.store } in
    let call : FileMap → Call g.row.O.Denot =
    λ file. record {
      old = c.args.self.now;
      new = record old { naming = Some c.note.new.naming };
      file = file;
      left = file;
      before =
          c.args.out.now;
      after = c.note.new.out;
    } in
    IfOk-weaker c.note.result (NamingDid (note_by m n.part) (λ r. message.Recorded (recorded_to m.head r)) (record {
      old = n;
      new =
          c.note.new.naming;
      before = c.args.out.now;
      after = c.note.new.out;
    }))
    (λ answer. (file : FileMap) → Serves o (message.RecordMsg m) (call file) answer)
    (λ answer did file. naming_asked o (message.RecordMsg m) m.head Reply.Noted (λ p t. note_by m t)
    (λ k t d from e is. λ i. if_naming (λ x. served from m.head (with_naming (parts_with k e)) Reply.Noted (note_by m x)) (sym is i))
    old c.args.self.now c.self.view_is n c.note.new.naming c.in-Some.is file c.args.out.now c.note.new.out answer
    (note_nothing m.head.path m.x m.binding m.server_inc m.naming_inc n.part c.note.ensures.order) (note_said m.head.path m.x m.binding m.server_inc m.naming_inc n.part) did) c.note.ensures.did
