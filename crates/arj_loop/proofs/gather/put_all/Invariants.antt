-- the text of the lines so far
use Rattle.std.proofs.Common.{◌≡◌, take}
use Rattle.arj_journal.specs.LineText.{text}
use Rattle.arj_loop.proofs.gather.put_all.Given as goal

abbrev pub invariant-loop-line : goal.invariant-loop-line
invariant-loop-line l = l.written ≡ text (take l.line-index l.lines)
