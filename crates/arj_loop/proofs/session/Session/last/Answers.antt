-- the line in hand at the input's end
use Rattle.std.proofs.Common.{◌++◌, ◌∷◌, ◌∙◌, [], arith, ap, length, length-append, sym}
use Rattle.std.specs.Prelude.{◌==◌}
use Rattle.arj_script.specs.Input.{AtEnd, ended_lines}
use Rattle.arj_loop.specs.Input.{arrived}
use Rattle.arj_loop.specs.Running.{work}
use Rattle.arj_loop.proofs.Cuts.{lines_last}
use Rattle.arj_loop.proofs.Sessions.{at_last, empty_line, ended_end, ended_none, some_line}
use Rattle.arj_loop.proofs.session.Session.last.Goals as goal

pub returns-then-is_empty-clause-ended : goal.returns-then-is_empty-clause-ended
returns-then-is_empty-clause-ended g c first before used earlier going no_more =
    let none = empty_line c.args.self.now.cutter.line (ap (λ l. length l == 0) (sym c.line.ensures.is) ∙ (sym c.is_empty.ensures ∙ c.if-is_empty.true)) in
    ended_none g.M.Machine first before used earlier (work c.args.rack.now c.args.self.now c.args.journal.now (g.K.Sink.taken c.args.sink.now)) c.at_end.result c.at_end.ensures going none no_more

pub returns-in-Ok-clause-ended : goal.returns-in-Ok-clause-ended
returns-in-Ok-clause-ended g c first before used earlier going no_more =
    let line = c.args.self.now.cutter.line in
    let some = some_line line (ap (λ l. length l == 0) (sym c.line.ensures.is) ∙ (sym c.is_empty.ensures ∙ c.if-is_empty.false)) in
    let size = length-append (ended_lines used) (line ∷ []) in
    ended_end g.M.Machine first before used earlier (ended_lines used ++ line ∷ []) _ c.at_end-in-Ok.result c.at_end-in-Ok.ensures (lines_last used line going.in_hand some)
    (c.in-Ok.ensures.went first (ended_lines used) going.stage) c.in-Ok.ensures.going (c.in-Ok.ensures.gathers before going.gathers) (omega (arith, no_more, size)) (omega (arith, size))

pub returns-in-Err-clause-ended : goal.returns-in-Err-clause-ended
returns-in-Err-clause-ended g c first before used earlier going no_more =
    let some = some_line c.args.self.now.cutter.line (ap (λ l. length l == 0) (sym c.line.ensures.is) ∙ (sym c.is_empty.ensures ∙ c.if-is_empty.false)) in
    c.in-Err.ensures.ended first before (arrived used earlier AtEnd) (ended_lines used) (at_last g.M.Machine first before used earlier (work c.args.rack.now c.args.self.now c.args.journal.now (g.K.Sink.taken c.args.sink.now)) going some no_more)
