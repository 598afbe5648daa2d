-- what the end of the run shows
use Rattle.std.proofs.Common.{◌≡◌, ◌∙◌, ap, refl, subst, sym}
use Rattle.std.proofs.Math.Logic.{⊎_elim}
use Rattle.arj_loop.specs.Replayed.{StopsShort, answer, outside}
use Rattle.arj_loop.specs.Running.{work}
use Rattle.arj_loop.proofs.Sessions.{closes_of, short_4, short_5, short_closed, short_write}
use Rattle.arj_loop.proofs.Statuses.{closes, is_5, not_4, wants}
use Rattle.arj_loop.proofs.Whole.{gathers_taken}
use Rattle.arj_loop.proofs.call.run_through.Goals as goal

pub returns-then-is_write-clause-short : goal.returns-then-is_write-clause-short
returns-then-is_write-clause-short g c _ =
    let e = c.run-end.ensures.ended in
    short_write g.M.Machine (outside (g.S.AskedSource.left c.args.source.now) (g.S.AskedSource.faults c.args.source.now) (g.K.Sink.taken c.args.sink.now) c.args.rack.now) (outside (g.S.AskedSource.left c.run-end.new.source) (g.S.AskedSource.faults c.run-end.new.source) (g.K.Sink.taken c.run-end.new.sink) c.run-end.new.rack) e.0 (work c.run-end.new.rack c.run-end.new.self c.run-end.new.journal (g.K.Sink.taken c.run-end.new.sink)) c.run-end.result e.1 e.2 c.if-is_write.ensures refl refl

pub returns-in-Ok-clause-closes : goal.returns-in-Ok-clause-closes
returns-in-Ok-clause-closes g c four five =
    let e = c.run-end.ensures.ended in
    let put = c.close-status.ensures.put five in
    let made = closes g.M.Machine e.0 c.args.rack.now (g.K.Sink.taken c.args.sink.now) (work c.run-end.new.rack c.run-end.new.self c.run-end.new.journal (g.K.Sink.taken c.run-end.new.sink)) c.run-end.result c.close-status.new.journal c.close-status.new.session.gather.waiting.items c.close-status.result e.2 c.if-is_write.ensures c.close-status.ensures.put five in
    closes_of g.M.Machine (outside (g.S.AskedSource.left c.args.source.now) (g.S.AskedSource.faults c.args.source.now) (g.K.Sink.taken c.args.sink.now) c.args.rack.now) (outside (g.S.AskedSource.left c.run-end.new.source) (g.S.AskedSource.faults c.run-end.new.source) (g.K.Sink.taken c.flush.new.sink) c.run-end.new.rack) e.0 c.run-end.result (answer c.close-status.result c.why.result c.close-status.new.journal c.take_machine.result) e.1 put.0 c.why.ensures made.0.0
    (c.take_machine.ensures ∙ ap (λ r. r.machine) c.close-status.ensures.runner ∙ made.0.1)
    (gathers_taken c.close-status.new.journal c.close-status.new.session.gather.waiting.items (g.K.Sink.taken c.args.sink.now) (g.K.Sink.taken c.run-end.new.sink) (g.K.Sink.taken c.flush.new.sink) made.1 c.in-Ok.ensures.wrote)

pub returns-in-Ok-clause-short : goal.returns-in-Ok-clause-short
returns-in-Ok-clause-short g c which =
    let e = c.run-end.ensures.ended in
    let five : c.close-status.result ≡ 5 =
    ⊎_elim (λ four. absurd (not_4 c.run-end.result c.close-status.result c.if-is_write.ensures four (λ other. let p =
    c.close-status.ensures.put other in p.0))) (λ is. is) which in
    subst (λ n. StopsShort g.M.Machine (outside (g.S.AskedSource.left c.args.source.now) (g.S.AskedSource.faults c.args.source.now) (g.K.Sink.taken c.args.sink.now) c.args.rack.now) (outside (g.S.AskedSource.left c.run-end.new.source) (g.S.AskedSource.faults c.run-end.new.source) (g.K.Sink.taken c.flush.new.sink) c.run-end.new.rack) n) (sym five)
    (short_5 g.M.Machine (outside (g.S.AskedSource.left c.args.source.now) (g.S.AskedSource.faults c.args.source.now) (g.K.Sink.taken c.args.sink.now) c.args.rack.now) (outside (g.S.AskedSource.left c.run-end.new.source) (g.S.AskedSource.faults c.run-end.new.source) (g.K.Sink.taken c.flush.new.sink) c.run-end.new.rack) e.0 c.close-status.new.session.gather.waiting.items (g.K.Sink.taken c.run-end.new.sink) e.1
    (wants g.M.Machine e.0 c.args.rack.now (g.K.Sink.taken c.args.sink.now) (work c.run-end.new.rack c.run-end.new.self c.run-end.new.journal (g.K.Sink.taken c.run-end.new.sink)) c.run-end.result c.close-status.new.session.gather.waiting.items e.2 c.if-is_write.ensures (c.close-status.ensures.cut five) (c.close-status.ensures.memory five)) c.in-Ok.ensures.wrote)

pub returns-clause-short : goal.returns-clause-short
returns-clause-short g c _ =
    let e = c.run-end.ensures.ended in
    let front = c.in-Err.ensures.front in
    ⊎_elim
    (λ five. short_4 g.M.Machine (outside (g.S.AskedSource.left c.args.source.now) (g.S.AskedSource.faults c.args.source.now) (g.K.Sink.taken c.args.sink.now) c.args.rack.now) (outside (g.S.AskedSource.left c.run-end.new.source) (g.S.AskedSource.faults c.run-end.new.source) (g.K.Sink.taken c.flush.new.sink) c.run-end.new.rack) e.0 c.close-status.new.session.gather.waiting.items (g.K.Sink.taken c.run-end.new.sink) front.0 e.1
    (wants g.M.Machine e.0 c.args.rack.now (g.K.Sink.taken c.args.sink.now) (work c.run-end.new.rack c.run-end.new.self c.run-end.new.journal (g.K.Sink.taken c.run-end.new.sink)) c.run-end.result c.close-status.new.session.gather.waiting.items e.2 c.if-is_write.ensures (c.close-status.ensures.cut five) (c.close-status.ensures.memory five)) front.1)
    (λ other.
    let made = closes g.M.Machine e.0 c.args.rack.now (g.K.Sink.taken c.args.sink.now) (work c.run-end.new.rack c.run-end.new.self c.run-end.new.journal (g.K.Sink.taken c.run-end.new.sink)) c.run-end.result c.close-status.new.journal c.close-status.new.session.gather.waiting.items c.close-status.result e.2 c.if-is_write.ensures c.close-status.ensures.put other in
    short_closed g.M.Machine (outside (g.S.AskedSource.left c.args.source.now) (g.S.AskedSource.faults c.args.source.now) (g.K.Sink.taken c.args.sink.now) c.args.rack.now) (outside (g.S.AskedSource.left c.run-end.new.source) (g.S.AskedSource.faults c.run-end.new.source) (g.K.Sink.taken c.flush.new.sink) c.run-end.new.rack) e.0 c.run-end.result c.close-status.new.journal c.close-status.new.session.gather.waiting.items (g.K.Sink.taken c.run-end.new.sink) front.0 e.1 made.0.0 made.1 front.1)
    (is_5 c.close-status.result)
