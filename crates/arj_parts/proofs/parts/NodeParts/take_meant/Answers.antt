use Rattle.std.proofs.Common.{◌≡◌, ◌∙◌, None, ap, subst, sym}
use Rattle.std.specs.Prelude.{is_some}
use Rattle.std.proofs.lemmas.Result.{IfOk-weaker}
use Rattle.arj_parts.specs.Calls.{Call, Takes}
use Rattle.arj_parts.specs.Taken.{answered_here, handled_here}
use Rattle.arj_parts.proofs.Taking.{as_answer, halts_as, none_is, takes_as}
use Rattle.arj_protocol.specs.Ask.{answers}
use Rattle.arj_protocol.specs.Words.{Message, asks}
use Rattle.arj_parts.proofs.parts.NodeParts.take_meant.Goals as goal

pub take_asked-requires-clause-no_answer : goal.take_asked-requires-clause-no_answer
take_asked-requires-clause-no_answer g c = (λ i. answers (c.deref-then-not-is_answer.ensures i)) ∙ none_is (answers c.args.m.value) (sym c.if-not-is_answer.true ∙ (c.is_answer.ensures.answer ∙ ap (λ (m : Message). is_some (answers m)) c.deref.ensures))

pub returns-clause-done : goal.returns-clause-done
returns-clause-done g c =
    let o = g.O.ObjectStore in
    let call : Call g.row.O.Denot =
    record {
      old = c.args.self.now;
      new = c.answer.new.self;
      file = g.D.Disk.file c.args.disk.now;
      left =
          g.D.Disk.file c.answer.new.disk;
      before = c.args.outs.now;
      after = c.answer.new.outs;
    } in
    IfOk-weaker c.answer.result (Takes o (answered_here c.args.from c.args.m.value) call) (Takes o (handled_here c.args.from c.args.m.value) call)
    (takes_as o (handled_here c.args.from c.args.m.value) (answered_here c.args.from c.args.m.value) call
    (λ n h stands. as_answer c.args.from c.args.m.value n h (subst (λ (m : Message). asks m ≡ None) c.deref.ensures (c.is_answer.ensures.no_request c.if-not-is_answer.false)) (sym c.if-not-is_answer.false ∙ (c.is_answer.ensures.answer ∙ ap (λ (m : Message). is_some (answers m)) c.deref.ensures))))
    c.answer.ensures.done

pub returns-clause-halted : goal.returns-clause-halted
returns-clause-halted g c = λ halted.
    let o = g.O.ObjectStore in
    let call : Call g.row.O.Denot =
    record {
      old = c.args.self.now;
      new = c.answer.new.self;
      file = g.D.Disk.file c.args.disk.now;
      left =
          g.D.Disk.file c.answer.new.disk;
      before = c.args.outs.now;
      after = c.answer.new.outs;
    } in
    halts_as o (handled_here c.args.from c.args.m.value) (answered_here c.args.from c.args.m.value) call
    (λ n h stands. as_answer c.args.from c.args.m.value n h (subst (λ (m : Message). asks m ≡ None) c.deref.ensures (c.is_answer.ensures.no_request c.if-not-is_answer.false)) (sym c.if-not-is_answer.false ∙ (c.is_answer.ensures.answer ∙ ap (λ (m : Message). is_some (answers m)) c.deref.ensures)))
    (c.answer.ensures.halted halted)
