-- No space stands from the place in hand on.
use Rattle.std.proofs.Common.{◌≡◌, ◌≤◌, false, drop, length}
use Rattle.arj_text.specs.Fields.{has_space}
use Rattle.arj_journal_reader.proofs.call.cut_last.Given as goal

abbrev pub invariant-loop-at : goal.invariant-loop-at
invariant-loop-at l = record { within : l.at ≤ length l.bytes; none : has_space (drop l.at l.bytes) ≡ false }

abbrev pub decreases-loop-at : goal.decreases-loop-at
decreases-loop-at l = l.at
