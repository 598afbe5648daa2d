use Rattle.std.proofs.Common.{true, refl, subst}
use Rattle.std.proofs.lemmas.Result.{on_ok_weaker}
use Rattle.arj_node.specs.Handing.{outs_of}
use Rattle.arj_parts.specs.Calls.{Halts, Takes}
use Rattle.arj_parts.specs.Taken.{other_here}
use Rattle.arj_parts.proofs.Hearing.{query_halts, query_takes}
use Rattle.arj_protocol.proofs.CoordSays.{query_own}
use Rattle.arj_protocol.specs.Ending.{answer_query}
use Rattle.arj_protocol.specs.Words.message
use Rattle.arj_parts.proofs.parts.NodeParts.query.Goals as goal

pub returns-clause-done : goal.returns-clause-done
returns-clause-done g c =
    let o = g.O.ObjectStore in
    let file = g.D.Disk.file c.args.disk.now in
    let left = g.D.Disk.file c.perform.new.disk in
    let s = c.self.inside.services in
    let d = c.self.inside.coord in
    let r = c.self.inside.records in
    on_ok_weaker c.perform.result
    (λ does. subst (λ k. Takes o (other_here c.args.from (message.Query c.args.m.now)) (record {
      old = k;
      new =
          record { services = s; coord = d; records = c.perform.new.records };
      file =
          file;
      left = left;
      before = c.args.outs.now;
      after = c.perform.new.outs;
    }) true) c.self.view_is
    (query_takes o s d r file g.met.O.ObjectStore.keeps_on g.met.O.ObjectStore.stays left c.perform.ensures.others c.perform.ensures.form d c.perform.new.records c.args.outs.now c.perform.new.outs c.new-effects.result c.answer_query.new.outs c.new-effects.ensures
    (answer_query c.args.from c.args.m.now.act) (query_own c.args.from c.args.m.now.act r d) c.in_ok-answer_query.ensures refl does))
    c.perform.ensures.done

pub returns-clause-halted : goal.returns-clause-halted
returns-clause-halted g c = λ halted.
    let o = g.O.ObjectStore in
    let file = g.D.Disk.file c.args.disk.now in
    let left = g.D.Disk.file c.perform.new.disk in
    let s = c.self.inside.services in
    let d = c.self.inside.coord in
    let r = c.self.inside.records in
    subst (λ k. Halts o (λ n h. outs_of (other_here c.args.from (message.Query c.args.m.now) n h)) (record {
      old = k;
      new =
          record { services = s; coord = d; records = c.perform.new.records };
      file =
          file;
      left = left;
      before = c.args.outs.now;
      after = c.perform.new.outs;
    })) c.self.view_is
    (query_halts o s d r file g.met.O.ObjectStore.keeps_on g.met.O.ObjectStore.stays left c.perform.ensures.others c.perform.ensures.form d c.perform.new.records c.args.outs.now c.perform.new.outs c.new-effects.result c.answer_query.new.outs c.new-effects.ensures
    (answer_query c.args.from c.args.m.now.act) (query_own c.args.from c.args.m.now.act r d) c.in_ok-answer_query.ensures refl (c.perform.ensures.halted halted))
