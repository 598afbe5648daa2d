use Rattle.std.proofs.Common.{subst}
use Rattle.std.proofs.lemmas.Result.{on_ok_weaker}
use Rattle.arj_node.specs.Acting.{acts_at, asked_of}
use Rattle.arj_parts.specs.Acted.{Acts}
use Rattle.arj_parts.specs.Calls.{Call, Halts}
use Rattle.arj_parts.specs.Kept.{Kept}
use Rattle.arj_parts.proofs.Acting.{did_does, did_halts}
use Rattle.arj_protocol.specs.Step.{acts}
use Rattle.arj_protocol.proofs.CoordSays.{acts_own}
use Rattle.arj_parts.proofs.parts.NodeParts.do_asked.Goals as goal

pub perform-requires : goal.perform-requires
perform-requires g c = record { form = c.requires.stands.2.rests.formed.intents }

pub returns-clause-done : goal.returns-clause-done
returns-clause-done g c =
    let o = g.O.ObjectStore in
    let file = g.D.Disk.file c.args.disk.now in
    let left = g.D.Disk.file c.perform.new.disk in
    let p : Kept g.row.O.Denot =
    record { services = c.self.inside.services; coord = c.self.inside.coord; records = c.self.inside.records } in
    let call : Kept g.row.O.Denot → Call g.row.O.Denot =
    λ k. record {
      old = k;
      new = record { services = p.services; coord = c.coordinate.new.coord; records = c.perform.new.records };
      file =
          file;
      left = left;
      before = c.args.outs.now;
      after = c.perform.new.outs;
    } in
    on_ok_weaker c.perform.result
    (λ does. subst (λ k. Acts o (acts_at c.args.act) (call k)) c.self.view_is
    (λ n h stands. did_does o n p file h stands (acts (asked_of c.args.act)) (acts_own (asked_of c.args.act) p.records p.coord) c.coordinate.new.coord c.new-effects.result c.coordinate.new.outs c.new-effects.ensures c.in_ok-coordinate.ensures
    g.met.O.ObjectStore.keeps_on g.met.O.ObjectStore.stays left c.perform.ensures.others c.perform.ensures.form c.args.outs.now c.perform.new.outs c.perform.new.records does))
    c.perform.ensures.done

pub returns-clause-halted : goal.returns-clause-halted
returns-clause-halted g c = λ halted.
    let o = g.O.ObjectStore in
    let file = g.D.Disk.file c.args.disk.now in
    let left = g.D.Disk.file c.perform.new.disk in
    let p : Kept g.row.O.Denot =
    record { services = c.self.inside.services; coord = c.self.inside.coord; records = c.self.inside.records } in
    let call : Kept g.row.O.Denot → Call g.row.O.Denot =
    λ k. record {
      old = k;
      new = record { services = p.services; coord = c.coordinate.new.coord; records = c.perform.new.records };
      file =
          file;
      left = left;
      before = c.args.outs.now;
      after = c.perform.new.outs;
    } in
    subst (λ k. Halts o (λ n h. (acts_at c.args.act h).outs) (call k)) c.self.view_is
    (λ n h stands. did_halts o n p file h stands (acts (asked_of c.args.act)) (acts_own (asked_of c.args.act) p.records p.coord) c.coordinate.new.coord c.new-effects.result c.coordinate.new.outs c.new-effects.ensures c.in_ok-coordinate.ensures
    g.met.O.ObjectStore.keeps_on g.met.O.ObjectStore.stays left c.perform.ensures.others c.perform.ensures.form c.args.outs.now c.perform.new.outs (c.perform.ensures.halted halted))
