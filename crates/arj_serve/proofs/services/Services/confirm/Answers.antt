use Rattle.std.proofs.Common.{◌∙◌, ap, Some}
use Rattle.std.specs.Prelude.{option_map}
use Rattle.arj_disk.specs.FileMap.{FileMap}
use Rattle.arj_naming.specs.Calls.{confirm_by, confirmed_to}
use Rattle.arj_protocol.specs.Words.message
use Rattle.arj_serve.specs.Kept.{Kept}
use Rattle.arj_serve.proofs.Asked.{map_twice}
use Rattle.arj_serve.proofs.Confirms.{confirm_cut, confirm_done, names_leaves}
use Rattle.arj_serve.proofs.Looked.{stopped_too}
use Rattle.arj_serve.proofs.Roles.{named_stands}
use Rattle.arj_serve.proofs.services.Services.confirm.Goals as goal

pub confirm-requires-clause-stands : goal.confirm-requires-clause-stands
confirm-requires-clause-stands g c =
    let o = g.O.ObjectStore in
    let n = c.in-Some.naming in
    let old : Kept g.row.O.Denot =
    record { number = c.self.inside.number; server = c.self.inside.server; naming = c.self.inside.naming; store = c.self.inside.store } in
    named_stands o old c.args.self.now c.self.view_is n c.in-Some.is (g.D.Disk.file c.args.disk.now) c.requires.stands

pub returns-in_err-answer-clause-stopped : goal.returns-in_err-answer-clause-stopped
returns-in_err-answer-clause-stopped g c = λ stop.
    let o = g.O.ObjectStore in
    let m = c.args.m.now in
    let n = c.in-Some.naming in
    let old : Kept g.row.O.Denot =
    record { number = c.self.inside.number; server = c.self.inside.server; naming = c.self.inside.naming; store = c.self.inside.store } in
    let file : FileMap = g.D.Disk.file c.args.disk.now in
    let left : FileMap = g.D.Disk.file c.confirm.new.disk in
    confirm_cut o g.met.O.ObjectStore.keeps_on g.met.O.ObjectStore.stays old n c.in-Some.is file left c.confirm.ensures.others m c.args.self.now c.self.view_is c.args.out.now c.confirm.new.out (λ p x. c.parts_act_alone.ensures.confirm m.head.path m.objects m.excluded m.included p x)
    (record old {
      naming =
          Some c.confirm.new.self;
    }) (c.in_err-answer.ensures.stopped (stopped_too c.from_residual.result c.in_err-answer.field-0.0 c.from_residual.ensures.1 stop)) c.confirm.ensures.entries

pub returns-in_err-answer-clause-leaves : goal.returns-in_err-answer-clause-leaves
returns-in_err-answer-clause-leaves g c =
    let o = g.O.ObjectStore in
    let n = c.in-Some.naming in
    let old : Kept g.row.O.Denot =
    record { number = c.self.inside.number; server = c.self.inside.server; naming = c.self.inside.naming; store = c.self.inside.store } in
    let file : FileMap = g.D.Disk.file c.args.disk.now in
    let left : FileMap = g.D.Disk.file c.confirm.new.disk in
    names_leaves o g.met.O.ObjectStore.keeps_on g.met.O.ObjectStore.stays old n c.in-Some.is file left c.confirm.ensures.others c.args.self.now c.self.view_is c.requires.stands c.confirm.ensures.formed

pub returns-clause-done : goal.returns-clause-done
returns-clause-done g c =
    let o = g.O.ObjectStore in
    let m = c.args.m.now in
    let n = c.in-Some.naming in
    let old : Kept g.row.O.Denot =
    record { number = c.self.inside.number; server = c.self.inside.server; naming = c.self.inside.naming; store = c.self.inside.store } in
    let file : FileMap = g.D.Disk.file c.args.disk.now in
    let left : FileMap = g.D.Disk.file c.confirm.new.disk in
    confirm_done o g.met.O.ObjectStore.keeps_on g.met.O.ObjectStore.stays old n c.in-Some.is file left c.confirm.ensures.others m c.args.self.now c.self.view_is c.args.out.now c.confirm.new.out (λ p x. c.parts_act_alone.ensures.confirm m.head.path m.objects m.excluded m.included p x)
    c.confirm.new.self c.confirmed.result c.in_ok-answer.ensures.done c.in_ok-answer.ensures.stands c.confirm.ensures.entries
    (c.confirmed.ensures ∙ (ap (option_map message.Confirmed) c.in_ok-answer.ensures.reply ∙ map_twice (confirmed_to m.head) message.Confirmed (confirm_by m n.pair n.part).reply))

pub returns-clause-leaves : goal.returns-clause-leaves
returns-clause-leaves g c =
    let o = g.O.ObjectStore in
    let n = c.in-Some.naming in
    let old : Kept g.row.O.Denot =
    record { number = c.self.inside.number; server = c.self.inside.server; naming = c.self.inside.naming; store = c.self.inside.store } in
    let file : FileMap = g.D.Disk.file c.args.disk.now in
    let left : FileMap = g.D.Disk.file c.confirm.new.disk in
    names_leaves o g.met.O.ObjectStore.keeps_on g.met.O.ObjectStore.stays old n c.in-Some.is file left c.confirm.ensures.others c.args.self.now c.self.view_is c.requires.stands c.confirm.ensures.formed
