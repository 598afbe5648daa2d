use Rattle.std.proofs.Common.{◌∙◌, ap, sym}
use Rattle.std.proofs.lemmas.Bool.{and_parts}
use Rattle.std.proofs.lemmas.Result.{IfOk-weaker}
use Rattle.arj_parts.specs.Calls.{Call, Takes}
use Rattle.arj_parts.specs.Taken.{handled_here, taken_here}
use Rattle.arj_parts.proofs.Taking.{as_meant, as_void, halts_as, takes_as, void_takes}
use Rattle.arj_protocol.specs.Ask.{answers}
use Rattle.arj_protocol.specs.Node.{answer_is_meant, asked_is_meant, is_meant}
use Rattle.arj_protocol.specs.Words.{Message, asks}
use Rattle.arj_serve.specs.Kept.{parts_with}
use Rattle.arj_parts.proofs.parts.NodeParts.take_message.Goals as goal

pub take_meant-requires-clause-asked : goal.take_meant-requires-clause-asked
take_meant-requires-clause-asked g c =
    (and_parts (asked_is_meant c.args.self.now.services.server (asks c.args.m.value)) (answer_is_meant c.args.self.now.coord (answers c.args.m.value)) (sym (c.is_meant.ensures ∙ ap (λ (m : Message). is_meant (parts_with c.args.self.now.services c.args.self.now.coord) m) c.deref.ensures) ∙ c.if-not-is_meant.false)).0

pub take_meant-requires-clause-answered : goal.take_meant-requires-clause-answered
take_meant-requires-clause-answered g c =
    (and_parts (asked_is_meant c.args.self.now.services.server (asks c.args.m.value)) (answer_is_meant c.args.self.now.coord (answers c.args.m.value)) (sym (c.is_meant.ensures ∙ ap (λ (m : Message). is_meant (parts_with c.args.self.now.services c.args.self.now.coord) m) c.deref.ensures) ∙ c.if-not-is_meant.false)).1

-- it isn't meant
pub returns-then-not-is_meant-clause-done : goal.returns-then-not-is_meant-clause-done
returns-then-not-is_meant-clause-done g c =
    let o = g.O.ObjectStore in
    let file = g.D.Disk.file c.args.disk.now in
    void_takes o (taken_here c.args.from c.args.m.value) c.args.self.now file c.args.outs.now
    (λ n h stands. as_void o c.args.self.now file c.args.from c.args.m.value c.is_meant.result (c.is_meant.ensures ∙ ap (λ (m : Message). is_meant (parts_with c.args.self.now.services c.args.self.now.coord) m) c.deref.ensures) n h stands c.if-not-is_meant.true)

pub returns-clause-done : goal.returns-clause-done
returns-clause-done g c =
    let o = g.O.ObjectStore in
    let file = g.D.Disk.file c.args.disk.now in
    let call : Call g.row.O.Denot =
    record {
      old = c.args.self.now;
      new = c.take_meant.new.self;
      file = file;
      left = g.D.Disk.file c.take_meant.new.disk;
      before =
          c.args.outs.now;
      after = c.take_meant.new.outs;
    } in
    IfOk-weaker c.take_meant.result (Takes o (handled_here c.args.from c.args.m.value) call) (Takes o (taken_here c.args.from c.args.m.value) call)
    (takes_as o (taken_here c.args.from c.args.m.value) (handled_here c.args.from c.args.m.value) call
    (λ n h stands. as_meant o c.args.self.now file c.args.from c.args.m.value c.is_meant.result (c.is_meant.ensures ∙ ap (λ (m : Message). is_meant (parts_with c.args.self.now.services c.args.self.now.coord) m) c.deref.ensures) n h stands c.if-not-is_meant.false))
    c.take_meant.ensures.done

pub returns-clause-halted : goal.returns-clause-halted
returns-clause-halted g c = λ halted.
    let o = g.O.ObjectStore in
    let file = g.D.Disk.file c.args.disk.now in
    let call : Call g.row.O.Denot =
    record {
      old = c.args.self.now;
      new = c.take_meant.new.self;
      file = file;
      left = g.D.Disk.file c.take_meant.new.disk;
      before =
          c.args.outs.now;
      after = c.take_meant.new.outs;
    } in
    halts_as o (taken_here c.args.from c.args.m.value) (handled_here c.args.from c.args.m.value) call
    (λ n h stands. as_meant o c.args.self.now file c.args.from c.args.m.value c.is_meant.result (c.is_meant.ensures ∙ ap (λ (m : Message). is_meant (parts_with c.args.self.now.services c.args.self.now.coord) m) c.deref.ensures) n h stands c.if-not-is_meant.false)
    (c.take_meant.ensures.halted halted)
