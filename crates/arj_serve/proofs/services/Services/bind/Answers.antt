use Rattle.std.proofs.Common.{sym, Some}
use Rattle.std.proofs.lemmas.Result.{IfOk-weaker}
use Rattle.arj_disk.specs.FileMap.{FileMap}
use Rattle.arj_naming.specs.Calls.{bind_by, bound_to}
use Rattle.arj_protocol.specs.Ask.{Reply}
use Rattle.arj_protocol.specs.Naming as naming
use Rattle.arj_protocol.specs.Node.{if_naming, served, with_naming}
use Rattle.arj_protocol.specs.Words.message
use Rattle.arj_serve.specs.Asked.{Serves}
use Rattle.arj_serve.specs.Did.{Call}
use Rattle.arj_serve.specs.Kept.{Kept, parts_with}
use Rattle.arj_serve.specs.Parts.{NamingDid}
use Rattle.arj_serve.proofs.Asked.{naming_asked}
use Rattle.arj_serve.proofs.Notes.{bind_nothing, bind_said}
use Rattle.arj_serve.proofs.services.Services.bind.Goals as goal

pub returns : goal.returns
returns g c =
    let m = c.args.m.now in
    let n = c.in-Some.naming in
    let old : Kept g.row.O.Denot =
    record { number = c.self.inside.number; server = c.self.inside.server; naming = c.self.inside.naming; store = c.self.inside.store } in
    let call : FileMap → Call g.row.O.Denot =
    λ file. record {
      old = c.args.self.now;
      new = record old { naming = Some c.bind.new.naming };
      file = file;
      left = file;
      before =
          c.args.out.now;
      after = c.bind.new.out;
    } in
    IfOk-weaker c.bind.result (NamingDid (bind_by m n.pair n.part) (λ r. message.Bound (bound_to m.head r)) (record {
      old = n;
      new =
          c.bind.new.naming;
      before = c.args.out.now;
      after = c.bind.new.out;
    }))
    (λ answer. (file : FileMap) → Serves g.O.ObjectStore (message.Bind m) (call file) answer)
    (λ answer did file. naming_asked g.O.ObjectStore (message.Bind m) m.head Reply.Bound (λ p t. bind_by m p t)
    (λ k t d from e is. λ i. if_naming (λ x. served from m.head (with_naming (parts_with k e)) Reply.Bound (naming.bind m.head.path m.x m.include m.avoid d.names x)) (sym is i))
    old c.args.self.now c.self.view_is n c.bind.new.naming c.in-Some.is file c.args.out.now c.bind.new.out answer
    (bind_nothing m.head.path m.x m.include m.avoid n.pair n.part) (bind_said m.head.path m.x m.include m.avoid n.pair n.part) did) c.bind.ensures
