use Rattle.std.proofs.Common.{sym, subst}
use Rattle.arj_protocol.specs.Words.message
use Rattle.arj_serve.specs.Asked.{Handles, sent_to}
use Rattle.arj_serve.specs.Did.{Call}
use Rattle.arj_serve.proofs.Looked.{stopped_too}
use Rattle.arj_serve.proofs.Tells.{told_stops, told_takes}
use Rattle.arj_serve.proofs.services.Services.end_last.Goals as goal

pub returns-in_err-end_parts-clause-stopped : goal.returns-in_err-end_parts-clause-stopped
returns-in_err-end_parts-clause-stopped g c = λ stop.
    let call : Call g.row.O.Denot =
    record {
      old = c.args.self.now;
      new = c.end_parts.new.self;
      file = g.D.Disk.file c.args.disk.now;
      left =
          g.D.Disk.file c.end_parts.new.disk;
      before = c.args.out.now;
      after = c.end_parts.new.out;
    } in
    told_stops g.O.ObjectStore c.args.m.now c.args.last.0 c.args.last.1 call c.requires.last (c.in_err-end_parts.ensures.stopped (stopped_too c.from_residual.result c.in_err-end_parts.field-0.0 c.from_residual.ensures.1 stop))

pub returns-clause-done : goal.returns-clause-done
returns-clause-done g c =
    let call : Call g.row.O.Denot =
    record {
      old = c.args.self.now;
      new = c.end_parts.new.self;
      file = g.D.Disk.file c.args.disk.now;
      left =
          g.D.Disk.file c.end_parts.new.disk;
      before = c.args.out.now;
      after = c.end_parts.new.out;
    } in
    subst (λ a. Handles g.O.ObjectStore (message.Told c.args.m.now) call (λ from. sent_to from a)) (sym c.acked.ensures)
    (told_takes g.O.ObjectStore c.args.m.now c.args.last.0 c.args.last.1 call c.requires.last c.in_ok-end_parts.ensures.done)
