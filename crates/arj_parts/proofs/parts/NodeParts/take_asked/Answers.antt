use Rattle.std.proofs.Common.{◌∙◌, sym}
use Rattle.std.proofs.lemmas.Result.{IfOk-weaker}
use Rattle.arj_parts.specs.Calls.{Call, Takes}
use Rattle.arj_parts.specs.Taken.{asked_here, handled_here, other_here}
use Rattle.arj_parts.proofs.Taking.{as_other, as_request, halts_as, none_is, takes_as}
use Rattle.arj_protocol.specs.Words.{asks}
use Rattle.arj_parts.proofs.parts.NodeParts.take_asked.Goals as goal

pub returns-then-is_request-clause-done : goal.returns-then-is_request-clause-done
returns-then-is_request-clause-done g c =
    let o = g.O.ObjectStore in
    let call : Call g.row.O.Denot =
    record {
      old = c.args.self.now;
      new = c.request.new.self;
      file = g.D.Disk.file c.args.disk.now;
      left =
          g.D.Disk.file c.request.new.disk;
      before = c.args.outs.now;
      after = c.request.new.outs;
    } in
    IfOk-weaker c.request.result (Takes o (asked_here c.args.from c.args.m.now) call) (Takes o (handled_here c.args.from c.args.m.now) call)
    (takes_as o (handled_here c.args.from c.args.m.now) (asked_here c.args.from c.args.m.now) call (λ n h stands. as_request c.args.from c.args.m.now n h (sym c.if-is_request.true ∙ c.is_request.ensures)))
    c.request.ensures.done

pub returns-then-is_request-clause-halted : goal.returns-then-is_request-clause-halted
returns-then-is_request-clause-halted g c = λ halted.
    let o = g.O.ObjectStore in
    let call : Call g.row.O.Denot =
    record {
      old = c.args.self.now;
      new = c.request.new.self;
      file = g.D.Disk.file c.args.disk.now;
      left =
          g.D.Disk.file c.request.new.disk;
      before = c.args.outs.now;
      after = c.request.new.outs;
    } in
    halts_as o (handled_here c.args.from c.args.m.now) (asked_here c.args.from c.args.m.now) call (λ n h stands. as_request c.args.from c.args.m.now n h (sym c.if-is_request.true ∙ c.is_request.ensures))
    (c.request.ensures.halted halted)

pub returns-clause-done : goal.returns-clause-done
returns-clause-done g c =
    let o = g.O.ObjectStore in
    let call : Call g.row.O.Denot =
    record {
      old = c.args.self.now;
      new = c.take_other.new.self;
      file = g.D.Disk.file c.args.disk.now;
      left =
          g.D.Disk.file c.take_other.new.disk;
      before = c.args.outs.now;
      after = c.take_other.new.outs;
    } in
    IfOk-weaker c.take_other.result (Takes o (other_here c.args.from c.args.m.now) call) (Takes o (handled_here c.args.from c.args.m.now) call)
    (takes_as o (handled_here c.args.from c.args.m.now) (other_here c.args.from c.args.m.now) call (λ n h stands. as_other c.args.from c.args.m.now n h (none_is (asks c.args.m.now) (sym c.if-is_request.false ∙ c.is_request.ensures)) c.requires.no_answer))
    c.take_other.ensures.done

pub returns-clause-halted : goal.returns-clause-halted
returns-clause-halted g c = λ halted.
    let o = g.O.ObjectStore in
    let call : Call g.row.O.Denot =
    record {
      old = c.args.self.now;
      new = c.take_other.new.self;
      file = g.D.Disk.file c.args.disk.now;
      left =
          g.D.Disk.file c.take_other.new.disk;
      before = c.args.outs.now;
      after = c.take_other.new.outs;
    } in
    halts_as o (handled_here c.args.from c.args.m.now) (other_here c.args.from c.args.m.now) call (λ n h stands. as_other c.args.from c.args.m.now n h (none_is (asks c.args.m.now) (sym c.if-is_request.false ∙ c.is_request.ensures)) c.requires.no_answer)
    (c.take_other.ensures.halted halted)
