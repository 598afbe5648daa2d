use Rattle.std.proofs.Common.{◌≡◌, ◌++◌, drop}
use Rattle.arj_protocol.specs.Asking.{mark_lines}
use Rattle.arj_asking.proofs.lines.say_marks.Given as goal

-- the marks so far, and those that are left
abbrev pub invariant-loop-x : goal.invariant-loop-x
invariant-loop-x l = l.outs ++ mark_lines l.action (drop l.x-index l.marks) l.coord ≡ l.fn.outs ++ mark_lines l.action l.marks l.coord
