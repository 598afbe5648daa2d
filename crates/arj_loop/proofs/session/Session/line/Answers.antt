-- how the session ends at a line
use Rattle.std.proofs.Common.{◌++◌, ◌∷◌, ◌∙◌, [], Err, ap, arith, length, length-append, refl, sym, subst}
use Rattle.arj_script.specs.Cutting.{in_hand}
use Rattle.arj_loop.specs.Input.{script_of}
use Rattle.arj_loop.specs.Running.{ChangedBy, Gathers, Fronts, HasEnded, StageOf, work}
use Rattle.arj_loop.proofs.Sessions.{RunnerEnds, ended_frames, ended_line, ended_memory, ended_write, put_ended, went_more, with_cutter}
use Rattle.arj_loop.proofs.Whole.{behind_as, gathers_kept, whole_next}
use Rattle.arj_loop.proofs.session.Session.line.Goals as goal

pub returns-in-Err-clause-ended : goal.returns-in-Err-clause-ended
returns-in-Err-clause-ended g c first before given done at =
    let e = c.in-Err.ensures in
    ended_line g.M.Machine first before given done (work c.args.rack.now c.args.self.now c.args.journal.now (g.K.Sink.taken c.args.sink.now)) _ c.in-Err.end
    (subst (λ line. RunnerEnds g.M.Machine (work c.args.rack.now (with_cutter c.args.self.now (in_hand c.args.self.now.cutter.most line)) c.args.journal.now (g.K.Sink.taken c.args.sink.now))
    (work c.line-2.new.rack (record {
      runner = c.line-2.new.self;
      cutter = c.args.self.now.cutter;
      gather =
          c.args.self.now.gather;
    }) c.line-2.new.journal (g.K.Sink.taken c.args.sink.now)) c.in-Err.end) c.line.ensures.is
    (record {
      bad = e.bad;
      many = e.many;
      kept = e.kept;
      labels = e.labels;
      labels_going = e.labels_going;
      format = e.format;
      still =
          e.still;
      only = e.only;
      moved = e.moved;
      waits = refl;
      taken = refl;
    }))
    at

pub returns-clause-gathers : goal.returns-clause-gathers
returns-clause-gathers g c before waits =
    subst (λ js. Gathers js c.put_lines.new.self.waiting.items before (g.K.Sink.taken c.put_lines.new.sink)) (behind_as c.args.journal.now c.line-2.new.journal c.in-Ok.ensures.grown.0 c.as_slice-before.result.now c.as_slice.result.now c.as_slice-before.ensures c.as_slice.ensures c.in-Ok.ensures.grown.1)
    (c.in-Ok-put_lines.ensures.gathers c.args.journal.now before waits)

pub returns-then-is_overflown-clause-ended : goal.returns-then-is_overflown-clause-ended
returns-then-is_overflown-clause-ended g c first before given done at =
    let line = c.args.self.now.cutter.line in
    ended_frames g.M.Machine first before given done at.tail line _
    (whole_next (let s = script_of given in s.lines) done (line ∷ at.tail) line at.tail at.cut refl)
    (subst (λ l. StageOf g.M.Machine first c.line-2.new.rack (done ++ l ∷ []) c.line-2.new.self c.line-2.new.journal) c.line.ensures.is (c.in-Ok.ensures.went first done at.stage))
    (let over = sym c.is_overflown.ensures ∙ c.if-is_overflown.true in (over, c.in-Ok.ensures.full over)) at.went_on at.past
    (subst (λ js. Gathers js c.put_lines.new.self.waiting.items before (g.K.Sink.taken c.put_lines.new.sink)) (behind_as c.args.journal.now c.line-2.new.journal c.in-Ok.ensures.grown.0 c.as_slice-before.result.now c.as_slice.result.now c.as_slice-before.ensures c.as_slice.ensures c.in-Ok.ensures.grown.1)
    (c.in-Ok-put_lines.ensures.gathers c.args.journal.now before at.gathers))

pub returns-in-Err-put_lines-clause-ended : goal.returns-in-Err-put_lines-clause-ended
returns-in-Err-put_lines-clause-ended g c first before given done at =
    let line = c.args.self.now.cutter.line in
    put_ended c.in-Err-put_lines.end (HasEnded g.M.Machine first before given (work c.line-2.new.rack (record {
      runner =
          c.line-2.new.self;
      cutter =
          c.args.self.now.cutter;
      gather =
          c.put_lines.new.self;
    }) c.line-2.new.journal (g.K.Sink.taken c.put_lines.new.sink))) c.in-Err-put_lines.ensures.only
    (λ write. ended_write g.M.Machine first before given (done ++ line ∷ []) at.tail (work c.line-2.new.rack (record {
      runner =
          c.line-2.new.self;
      cutter =
          c.args.self.now.cutter;
      gather = c.put_lines.new.self;
    }) c.line-2.new.journal (g.K.Sink.taken c.put_lines.new.sink))
    (whole_next (let s = script_of given in s.lines) done (line ∷ at.tail) line at.tail at.cut refl)
    (subst (λ l. StageOf g.M.Machine first c.line-2.new.rack (done ++ l ∷ []) c.line-2.new.self c.line-2.new.journal) c.line.ensures.is (c.in-Ok.ensures.went first done at.stage))
    (went_more given (length done) (length (done ++ line ∷ [])) (omega (arith, length-append done (line ∷ []))) at.went_on)
    (subst (λ js. Fronts js before (g.K.Sink.taken c.put_lines.new.sink)) (behind_as c.args.journal.now c.line-2.new.journal c.in-Ok.ensures.grown.0 c.as_slice-before.result.now c.as_slice.result.now c.as_slice-before.ensures c.as_slice.ensures c.in-Ok.ensures.grown.1)
    (c.in-Err-put_lines.ensures.front (ap Err write) c.args.journal.now before at.gathers)))
    (λ memory.
    let kept = c.in-Err-put_lines.ensures.memory (ap Err memory) in
    ended_memory g.M.Machine first c.args.rack.now before given done (line ∷ at.tail) c.args.self.now.runner c.args.journal.now (work c.line-2.new.rack (record { runner = c.line-2.new.self; cutter = c.args.self.now.cutter; gather = c.put_lines.new.self }) c.line-2.new.journal (g.K.Sink.taken c.put_lines.new.sink)) at.cut at.stage (subst (λ l. ChangedBy g.M.Machine (let s = at.stage in s.header) c.args.self.now.runner.reader l c.args.rack.now c.line-2.new.rack) c.line.ensures.is (c.line-2.ensures.moved first done at.stage)) at.went_on
    (gathers_kept c.args.journal.now c.args.self.now.gather.waiting.items c.put_lines.new.self.waiting.items before (g.K.Sink.taken c.put_lines.new.sink) kept.0
    (subst (λ sink. Gathers c.args.journal.now c.args.self.now.gather.waiting.items before (g.K.Sink.taken sink)) (sym kept.1) at.gathers)) (λ none. cc none))
