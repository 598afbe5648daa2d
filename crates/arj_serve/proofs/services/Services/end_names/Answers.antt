use Rattle.std.proofs.Common.{Some}
use Rattle.arj_disk.specs.FileMap.{FileMap}
use Rattle.arj_serve.specs.Kept.{Kept}
use Rattle.arj_serve.proofs.Confirms.{names_left, told_all, told_cut, told_done}
use Rattle.arj_serve.proofs.Looked.{stopped_too}
use Rattle.arj_serve.proofs.Roles.{named_stands}
use Rattle.arj_serve.proofs.services.Services.end_names.Goals as goal

pub told-requires : goal.told-requires
told-requires g c =
    let o = g.O.ObjectStore in
    let n = c.in-Some.naming in
    let old : Kept g.row.O.Denot =
    record { number = c.self.inside.number; server = c.self.inside.server; naming = c.self.inside.naming; store = c.self.inside.store } in
    record { stands = named_stands o old c.args.self.now c.self.view_is n c.in-Some.is (g.D.Disk.file c.args.disk.now) c.requires.stands }

pub returns-in_err-told-clause-stopped : goal.returns-in_err-told-clause-stopped
returns-in_err-told-clause-stopped g c = λ stop.
    let o = g.O.ObjectStore in
    let m = c.args.m.now in
    let n = c.in-Some.naming in
    let old : Kept g.row.O.Denot =
    record { number = c.self.inside.number; server = c.self.inside.server; naming = c.self.inside.naming; store = c.self.inside.store } in
    let file : FileMap = g.D.Disk.file c.args.disk.now in
    let left : FileMap = g.D.Disk.file c.told.new.disk in
    told_cut o g.met.O.ObjectStore.keeps_on g.met.O.ObjectStore.stays old n c.in-Some.is file left c.told.ensures.others m c.args.self.now c.self.view_is c.args.out.now c.told.new.out (told_all m c.parts_act_alone.ensures.naming_told)
    (record old {
      naming =
          Some c.told.new.self;
    }) (c.in_err-told.ensures.stopped (stopped_too c.from_residual.result c.in_err-told.field-0.0 c.from_residual.ensures.1 stop)) c.told.ensures.entries

pub returns-in_err-told-clause-leaves : goal.returns-in_err-told-clause-leaves
returns-in_err-told-clause-leaves g c =
    let o = g.O.ObjectStore in
    let n = c.in-Some.naming in
    let old : Kept g.row.O.Denot =
    record { number = c.self.inside.number; server = c.self.inside.server; naming = c.self.inside.naming; store = c.self.inside.store } in
    let file : FileMap = g.D.Disk.file c.args.disk.now in
    let left : FileMap = g.D.Disk.file c.told.new.disk in
    names_left o g.met.O.ObjectStore.keeps_on g.met.O.ObjectStore.stays old n c.in-Some.is file left c.told.ensures.others c.args.self.now c.self.view_is c.told.ensures.formed

pub returns-clause-done : goal.returns-clause-done
returns-clause-done g c =
    let o = g.O.ObjectStore in
    let m = c.args.m.now in
    let n = c.in-Some.naming in
    let old : Kept g.row.O.Denot =
    record { number = c.self.inside.number; server = c.self.inside.server; naming = c.self.inside.naming; store = c.self.inside.store } in
    let file : FileMap = g.D.Disk.file c.args.disk.now in
    let left : FileMap = g.D.Disk.file c.told.new.disk in
    told_done o g.met.O.ObjectStore.keeps_on g.met.O.ObjectStore.stays old n c.in-Some.is file left c.told.ensures.others m c.args.self.now c.self.view_is c.args.out.now c.told.new.out (told_all m c.parts_act_alone.ensures.naming_told)
    c.told.new.self c.in_ok-told.ensures.done c.in_ok-told.ensures.stands c.told.ensures.entries

pub returns-clause-leaves : goal.returns-clause-leaves
returns-clause-leaves g c =
    let o = g.O.ObjectStore in
    let n = c.in-Some.naming in
    let old : Kept g.row.O.Denot =
    record { number = c.self.inside.number; server = c.self.inside.server; naming = c.self.inside.naming; store = c.self.inside.store } in
    let file : FileMap = g.D.Disk.file c.args.disk.now in
    let left : FileMap = g.D.Disk.file c.told.new.disk in
    names_left o g.met.O.ObjectStore.keeps_on g.met.O.ObjectStore.stays old n c.in-Some.is file left c.told.ensures.others c.args.self.now c.self.view_is c.told.ensures.formed
