use Rattle.std.proofs.Common.{◌≡◌, ◌∙◌, sym, subst}
use Rattle.arj_node.specs.Acting.{parts_again}
use Rattle.arj_parts.proofs.Again.{back_lines, back_stands, gives_one, rests_one, rests_two, stops_begin, stops_named, stops_records}
use Rattle.arj_parts.specs.Begun.{StopsBack, raised}
use Rattle.arj_parts.specs.Kept.{StandsOn}
use Rattle.arj_protocol.specs.Server.{new_server}
use Rattle.arj_serve.proofs.Looked.{stopped_too}
use Rattle.arj_serve.specs.Kept as serve
use Rattle.arj_parts.proofs.beginnings.back.Goals as goal

pub returns-in_err-inc-clause-stopped : goal.returns-in_err-inc-clause-stopped
returns-in_err-inc-clause-stopped g c =
    λ stop d rests. stops_begin g.O.ObjectStore c.args.number (g.D.Disk.file c.args.disk.now) (g.D.Disk.file c.restart.new.disk) d rests c.restart.ensures.formed c.args.lines.now c.restart.new.out
    (c.in_err-inc.ensures.stopped (stopped_too c.from_residual.result c.in_err-inc.field-0.0 c.from_residual.ensures.1 stop))

pub naming_found-requires-clause-entries : goal.naming_found-requires-clause-entries
naming_found-requires-clause-entries g c =
    let o = g.O.ObjectStore in
    let one = g.D.Disk.file c.restart.new.disk in
    let d = c.requires.rests.0 in
    gives_one o c.args.number one (raised d) (rests_one o c.args.number (g.D.Disk.file c.args.disk.now) one d c.requires.rests.1 c.restart.ensures.formed c.in_ok-inc.ensures.work c.in_ok-inc.field-0.inc c.in_ok-inc.ensures.inc)

pub returns-in_err-naming-clause-stopped : goal.returns-in_err-naming-clause-stopped
returns-in_err-naming-clause-stopped g c =
    λ stop d rests. stops_named g.O.ObjectStore c.args.number (g.D.Disk.file c.args.disk.now) (g.D.Disk.file c.restart.new.disk) d rests c.restart.ensures.formed c.in_ok-inc.ensures.work c.in_ok-inc.field-0.inc c.in_ok-inc.ensures.inc g.met.O.ObjectStore.stays
    (g.D.Disk.file c.naming_found.new.disk) c.naming_found.ensures.others c.naming_found.ensures.pair c.naming_found.ensures.formed c.args.lines.now c.restart.new.out c.naming_found.new.lines c.in_ok-inc.ensures.lines
    (c.in_err-naming.ensures.stopped (stopped_too c.from_residual-in_err-naming.result c.in_err-naming.field-0.0 c.from_residual-in_err-naming.ensures.1 stop))

pub returns-in_err-coord-clause-stopped : goal.returns-in_err-coord-clause-stopped
returns-in_err-coord-clause-stopped g c = λ stop d rests.
    let o = g.O.ObjectStore in
    let old = g.D.Disk.file c.args.disk.now in
    let one = g.D.Disk.file c.restart.new.disk in
    let at_one = rests_one o c.args.number old one d rests c.restart.ensures.formed c.in_ok-inc.ensures.work c.in_ok-inc.field-0.inc c.in_ok-inc.ensures.inc in
    subst (λ f. StopsBack o c.args.number f d (record {
      before = c.args.lines.now;
      after =
          c.coord_found.new.lines;
    })) (sym c.coord_found.ensures.files)
    (stops_records o c.args.number old one d rests c.restart.ensures.formed c.in_ok-inc.ensures.work c.in_ok-inc.field-0.inc c.in_ok-inc.ensures.inc g.met.O.ObjectStore.stays (g.D.Disk.file c.naming_found.new.disk) c.naming_found.ensures.others c.naming_found.ensures.pair c.naming_found.ensures.formed
    c.args.lines.now c.restart.new.out c.naming_found.new.lines c.coord_found.new.lines c.in_ok-inc.ensures.lines (c.in_ok-naming.ensures.lines d.names at_one.disk.names)
    (c.in_err-coord.ensures.stopped (stopped_too c.from_residual-in_err-coord.result c.in_err-coord.field-0.0 c.from_residual-in_err-coord.ensures.1 stop)))

pub returns-clause-done : goal.returns-clause-done
returns-clause-done g c = λ d rests.
    let o = g.O.ObjectStore in
    let n = c.args.number in
    let k = c.in_ok-inc.field-0.inc in
    let old = g.D.Disk.file c.args.disk.now in
    let one = g.D.Disk.file c.restart.new.disk in
    let two = g.D.Disk.file c.naming_found.new.disk in
    let at_one = rests_one o n old one d rests c.restart.ensures.formed c.in_ok-inc.ensures.work k c.in_ok-inc.ensures.inc in
    let at_two = rests_two o n old one d rests c.restart.ensures.formed c.in_ok-inc.ensures.work k c.in_ok-inc.ensures.inc g.met.O.ObjectStore.stays two c.naming_found.ensures.others c.naming_found.ensures.pair c.naming_found.ensures.formed in
    let found = c.in_ok-coord.ensures.found d.intents at_two.disk.intents in
    let has = c.in_ok-naming.ensures.has d.names at_one.disk.names at_one.names in
    let services : serve.Kept g.row.O.Denot =
    record { number = n; server = new_server k; naming = c.in_ok-naming.naming; store = c.in_ok-inc.field-0.store } in
    let services_are : services ≡ c.new-services.result =
    (λ i. record {
      number = n;
      server = sym c.new.ensures i;
      naming = c.in_ok-naming.naming;
      store =
          c.in_ok-inc.field-0.store;
    }) ∙ sym c.new-services.ensures in
    subst (λ f. StandsOn o n (record {
      services = c.new-services.result;
      coord = c.in_ok-coord.coord;
      records =
          c.in_ok-coord.records;
    }) f (record { disk = raised d; parts = parts_again n d })) (sym c.coord_found.ensures.files)
    (subst (λ s. StandsOn o n (record { services = s; coord = c.in_ok-coord.coord; records = c.in_ok-coord.records }) two (record {
      disk =
          raised d;
      parts = parts_again n d;
    })) services_are
    (back_stands o n old one d rests c.restart.ensures.formed c.in_ok-inc.ensures.work k c.in_ok-inc.ensures.inc g.met.O.ObjectStore.stays two c.naming_found.ensures.others c.naming_found.ensures.pair c.naming_found.ensures.formed g.met.O.ObjectStore.keeps_on c.in_ok-inc.field-0.store
    c.in_ok-inc.ensures.role c.in_ok-inc.ensures.keeps c.in_ok-naming.naming has c.in_ok-coord.coord c.in_ok-coord.records found.0 found.1))

pub returns-clause-lines : goal.returns-clause-lines
returns-clause-lines g c = λ d rests.
    let o = g.O.ObjectStore in
    let n = c.args.number in
    let k = c.in_ok-inc.field-0.inc in
    let old = g.D.Disk.file c.args.disk.now in
    let one = g.D.Disk.file c.restart.new.disk in
    let two = g.D.Disk.file c.naming_found.new.disk in
    let at_one = rests_one o n old one d rests c.restart.ensures.formed c.in_ok-inc.ensures.work k c.in_ok-inc.ensures.inc in
    let at_two = rests_two o n old one d rests c.restart.ensures.formed c.in_ok-inc.ensures.work k c.in_ok-inc.ensures.inc g.met.O.ObjectStore.stays two c.naming_found.ensures.others c.naming_found.ensures.pair c.naming_found.ensures.formed in
    back_lines o n old one d rests c.restart.ensures.formed c.in_ok-inc.ensures.work k c.in_ok-inc.ensures.inc g.met.O.ObjectStore.stays two c.naming_found.ensures.others c.naming_found.ensures.pair c.naming_found.ensures.formed
    c.args.lines.now c.restart.new.out c.naming_found.new.lines c.coord_found.new.lines c.in_ok-inc.ensures.lines (c.in_ok-naming.ensures.lines d.names at_one.disk.names) (c.in_ok-coord.ensures.lines d.intents at_two.disk.intents)
