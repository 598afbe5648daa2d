-- what waited was written, or a front of it
use Rattle.std.proofs.Common.{◌++◌}
use Rattle.arj_loop.proofs.Whole.{gathers_more, gathers_empty, gathers_front}
use Rattle.arj_loop.proofs.gather.Gather.put_lines.Goals as goal

pub returns-in-Ok-clause-gathers : goal.returns-in-Ok-clause-gathers
returns-in-Ok-clause-gathers g c journal taken gathers =
    gathers_empty (journal ++ c.args.lines.now) c.put.new.self.waiting.items c.flush.new.self.waiting.items taken (g.K.Sink.taken c.args.sink.now) (g.K.Sink.taken c.flush.new.sink) c.in-Ok.ensures.empty
    (gathers_more journal c.args.lines.now c.args.self.now.waiting.items c.put.new.self.waiting.items taken (g.K.Sink.taken c.args.sink.now) c.in_ok-put.ensures.put gathers) c.in-Ok.ensures.wrote

pub returns-in-Err-clause-front : goal.returns-in-Err-clause-front
returns-in-Err-clause-front g c _ journal taken gathers =
    let front = c.in-Err.ensures.front in
    gathers_front (journal ++ c.args.lines.now) c.put.new.self.waiting.items front.0 taken (g.K.Sink.taken c.args.sink.now) (g.K.Sink.taken c.flush.new.sink)
    (gathers_more journal c.args.lines.now c.args.self.now.waiting.items c.put.new.self.waiting.items taken (g.K.Sink.taken c.args.sink.now) c.in_ok-put.ensures.put gathers) front.1
