-- read after read
use Rattle.std.proofs.Common.{◌++◌, ◌∙◌, ◌≤◌, [], arith, length, length-append, refl, take}
use Rattle.std.proofs.lemmas.List.{length-take-le}
use Rattle.arj_io.proofs.Told.{gives_more}
use Rattle.arj_script.specs.Input.{AtEnd, AtFault, AtRunEnd}
use Rattle.arj_loop.specs.Input.{arrived, source_view}
use Rattle.arj_loop.specs.Running.{work}
use Rattle.arj_loop.proofs.Bytes.{few_bytes}
use Rattle.arj_loop.proofs.Sessions.{all_written, came_end, came_fault, came_run, ended_fault, ended_flush, gives_nothing, going_first}
use Rattle.arj_loop.proofs.Sessions.{going_flushed, going_short, no_more}
use Rattle.arj_loop.proofs.session.Session.run.Goals as goal

pub loop-buffer-init : goal.loop-buffer-init
loop-buffer-init g c =
    let r = c.requires.runner in
    let n = c.requires.nothing in
    record {
      used = ([], [], [], going_first g.M.Machine (work c.args.rack.now c.args.self.now c.args.journal.now (g.K.Sink.taken c.args.sink.now)) c.requires.ready r.0 r.1 r.2 n.0 n.1 c.requires.fresh, gives_nothing (g.S.AskedSource.left c.args.source.now), refl, omega arith, refl, refl);
      no_fault = refl;
      steady = refl;
    }

pub returns-in-Err-clause-ended : goal.returns-in-Err-clause-ended
returns-in-Err-clause-ended g c =
    let i = c.loop-buffer.invariant.used in
    let front = c.in-Err.ensures.front in (
      arrived i.0 i.1 AtRunEnd,
      came_run (source_view (g.S.AskedSource.left c.args.source.now) (g.S.AskedSource.faults c.args.source.now)) (source_view (g.S.AskedSource.left c.loop-buffer.source) (g.S.AskedSource.faults c.loop-buffer.source)) i.0 i.1 i.2 i.4 c.loop-buffer.invariant.no_fault i.5 i.6 i.7,
      ended_flush g.M.Machine c.args.rack.now (g.K.Sink.taken c.args.sink.now) i.0 i.1 (work c.loop-buffer.rack c.loop-buffer.self c.loop-buffer.journal (g.K.Sink.taken c.loop-buffer.sink)) c.flush.new.self (g.K.Sink.taken c.flush.new.sink) front.0 i.3 (no_more i.0 i.1 i.2 i.5) front.1,
    )

pub returns-in_default-clause-ended : goal.returns-in_default-clause-ended
returns-in_default-clause-ended g c =
    let i = c.loop-buffer.invariant.used in
    let going = going_flushed g.M.Machine c.args.rack.now (g.K.Sink.taken c.args.sink.now) i.0 (work c.loop-buffer.rack c.loop-buffer.self c.loop-buffer.journal (g.K.Sink.taken c.loop-buffer.sink)) c.flush.new.self (g.K.Sink.taken c.flush.new.sink) i.3 c.in-Ok.ensures.empty c.in-Ok.ensures.wrote in (
      arrived i.0 i.1 AtFault,
      came_fault (source_view (g.S.AskedSource.left c.args.source.now) (g.S.AskedSource.faults c.args.source.now)) (source_view (g.S.AskedSource.left c.loop-buffer.source) (g.S.AskedSource.faults c.loop-buffer.source)) (source_view (g.S.AskedSource.left c.ask.new.self) (g.S.AskedSource.faults c.ask.new.self)) i.0 i.1 i.2 i.4 c.in_default.ensures.kept c.loop-buffer.invariant.no_fault c.in_default.ensures.failed i.5 i.6 i.7 (going_short g.M.Machine c.args.rack.now (g.K.Sink.taken c.args.sink.now) i.0 (work c.loop-buffer.rack c.loop-buffer.self c.loop-buffer.journal (g.K.Sink.taken c.loop-buffer.sink)) i.3),
      ended_fault g.M.Machine c.args.rack.now (g.K.Sink.taken c.args.sink.now) i.0 i.1 _ going.stage going.going going.gathers (no_more i.0 i.1 i.2 i.5),
    )

pub last-requires : goal.last-requires
last-requires g c =
    let i = c.loop-buffer.invariant.used in
    record {
      going =
          (c.args.rack.now, g.K.Sink.taken c.args.sink.now, i.0, going_flushed g.M.Machine c.args.rack.now (g.K.Sink.taken c.args.sink.now) i.0 (work c.loop-buffer.rack c.loop-buffer.self c.loop-buffer.journal (g.K.Sink.taken c.loop-buffer.sink)) c.flush.new.self (g.K.Sink.taken c.flush.new.sink) i.3 c.in-Ok.ensures.empty c.in-Ok.ensures.wrote);
    }

pub returns-then-count-eq0-clause-ended : goal.returns-then-count-eq0-clause-ended
returns-then-count-eq0-clause-ended g c =
    let i = c.loop-buffer.invariant.used in
    let r = c.in-Ok-ask.ensures in (
      arrived i.0 i.1 AtEnd,
      came_end (source_view (g.S.AskedSource.left c.args.source.now) (g.S.AskedSource.faults c.args.source.now)) (source_view (g.S.AskedSource.left c.loop-buffer.source) (g.S.AskedSource.faults c.loop-buffer.source)) (source_view (g.S.AskedSource.left c.ask.new.self) (g.S.AskedSource.faults c.ask.new.self)) i.0 i.1 i.2 c.ask.new.buf c.in-Ok-ask.count c.if-count-eq0.true i.4 r.moved r.end (r.steady ∙ c.loop-buffer.invariant.no_fault) i.5 i.6 i.7 (going_short g.M.Machine c.args.rack.now (g.K.Sink.taken c.args.sink.now) i.0 (work c.loop-buffer.rack c.loop-buffer.self c.loop-buffer.journal (g.K.Sink.taken c.loop-buffer.sink)) i.3),
      c.last.ensures.ended c.args.rack.now (g.K.Sink.taken c.args.sink.now) i.0 i.1 (going_flushed g.M.Machine c.args.rack.now (g.K.Sink.taken c.args.sink.now) i.0 (work c.loop-buffer.rack c.loop-buffer.self c.loop-buffer.journal (g.K.Sink.taken c.loop-buffer.sink)) c.flush.new.self (g.K.Sink.taken c.flush.new.sink) i.3 c.in-Ok.ensures.empty c.in-Ok.ensures.wrote) (no_more i.0 i.1 i.2 i.5),
    )

pub piece-requires : goal.piece-requires
piece-requires g c =
    let i = c.loop-buffer.invariant.used in
    record {
      going =
          (c.args.rack.now, g.K.Sink.taken c.args.sink.now, i.0, going_flushed g.M.Machine c.args.rack.now (g.K.Sink.taken c.args.sink.now) i.0 (work c.loop-buffer.rack c.loop-buffer.self c.loop-buffer.journal (g.K.Sink.taken c.loop-buffer.sink)) c.flush.new.self (g.K.Sink.taken c.flush.new.sink) i.3 c.in-Ok.ensures.empty c.in-Ok.ensures.wrote);
    }

pub overflow_add-came : goal.overflow_add-came
overflow_add-came g c =
    let i = c.loop-buffer.invariant.used in
    omega (arith, i.8, few_bytes i.0 (going_short g.M.Machine c.args.rack.now (g.K.Sink.taken c.args.sink.now) i.0 (work c.loop-buffer.rack c.loop-buffer.self c.loop-buffer.journal (g.K.Sink.taken c.loop-buffer.sink)) i.3), c.in-Ok-ask.ensures.within, c.ask.auto.buf)

pub loop-buffer-smaller : goal.loop-buffer-smaller
loop-buffer-smaller g c =
    let i = c.loop-buffer.invariant.used in
    omega (arith, c.if-count-eq0.false, i.8, few_bytes i.0 (going_short g.M.Machine c.args.rack.now (g.K.Sink.taken c.args.sink.now) i.0 (work c.loop-buffer.rack c.loop-buffer.self c.loop-buffer.journal (g.K.Sink.taken c.loop-buffer.sink)) i.3))

pub loop-buffer-preserved : goal.loop-buffer-preserved
loop-buffer-preserved g c =
    let i = c.loop-buffer.invariant.used in
    let r = c.in-Ok-ask.ensures in
    let piece = take c.in-Ok-ask.count c.ask.new.buf in
    let size = length-take-le c.in-Ok-ask.count c.ask.new.buf r.within in
    record {
      used = (
        i.0 ++ piece,
        i.0,
        piece,
        c.in-Ok-piece.ensures.went c.args.rack.now (g.K.Sink.taken c.args.sink.now) i.0 (going_flushed g.M.Machine c.args.rack.now (g.K.Sink.taken c.args.sink.now) i.0 (work c.loop-buffer.rack c.loop-buffer.self c.loop-buffer.journal (g.K.Sink.taken c.loop-buffer.sink)) c.flush.new.self (g.K.Sink.taken c.flush.new.sink) i.3 c.in-Ok.ensures.empty c.in-Ok.ensures.wrote),
        gives_more _ _ _ i.0 piece i.4 r.moved,
        refl,
        omega (arith, size, r.within, c.ask.auto.buf),
        going_short g.M.Machine c.args.rack.now (g.K.Sink.taken c.args.sink.now) i.0 (work c.loop-buffer.rack c.loop-buffer.self c.loop-buffer.journal (g.K.Sink.taken c.loop-buffer.sink)) i.3,
        omega (arith, i.8, size, length-append i.0 piece),
      );
      no_fault = r.steady ∙ c.loop-buffer.invariant.no_fault;
      steady = c.in-Ok-piece.ensures.steady ∙ (c.in-Ok.ensures.steady ∙ c.loop-buffer.invariant.steady);
    }

pub returns-in-Err-piece-clause-ended : goal.returns-in-Err-piece-clause-ended
returns-in-Err-piece-clause-ended g c =
    let i = c.loop-buffer.invariant.used in
    let r = c.in-Ok-ask.ensures in
    let piece = take c.in-Ok-ask.count c.ask.new.buf in
    let few : length piece ≤ 512 = omega (arith, length-take-le c.in-Ok-ask.count c.ask.new.buf r.within, r.within, c.ask.auto.buf) in (
      arrived (i.0 ++ piece) i.0 AtRunEnd,
      came_run (source_view (g.S.AskedSource.left c.args.source.now) (g.S.AskedSource.faults c.args.source.now)) (source_view (g.S.AskedSource.left c.ask.new.self) (g.S.AskedSource.faults c.ask.new.self)) (i.0 ++ piece) i.0 piece (gives_more _ _ _ i.0 piece i.4 r.moved) (r.steady ∙ c.loop-buffer.invariant.no_fault) refl few (going_short g.M.Machine c.args.rack.now (g.K.Sink.taken c.args.sink.now) i.0 (work c.loop-buffer.rack c.loop-buffer.self c.loop-buffer.journal (g.K.Sink.taken c.loop-buffer.sink)) i.3),
      c.in-Err-piece.ensures.ended c.args.rack.now (g.K.Sink.taken c.args.sink.now) i.0 i.0 (going_flushed g.M.Machine c.args.rack.now (g.K.Sink.taken c.args.sink.now) i.0 (work c.loop-buffer.rack c.loop-buffer.self c.loop-buffer.journal (g.K.Sink.taken c.loop-buffer.sink)) c.flush.new.self (g.K.Sink.taken c.flush.new.sink) i.3 c.in-Ok.ensures.empty c.in-Ok.ensures.wrote) few (omega arith),
    )

pub ask-requires-clause-written : goal.ask-requires-clause-written
ask-requires-clause-written g c =
    let i = c.loop-buffer.invariant.used in
    let going = going_flushed g.M.Machine c.args.rack.now (g.K.Sink.taken c.args.sink.now) i.0 (work c.loop-buffer.rack c.loop-buffer.self c.loop-buffer.journal (g.K.Sink.taken c.loop-buffer.sink)) c.flush.new.self (g.K.Sink.taken c.flush.new.sink) i.3 c.in-Ok.ensures.empty c.in-Ok.ensures.wrote in
    all_written c.loop-buffer.journal c.flush.new.self.waiting.items (g.K.Sink.taken c.args.sink.now) (g.K.Sink.taken c.flush.new.sink) going.gathers c.in-Ok.ensures.empty
