-- No separator stands behind the place in hand.
use Rattle.std.specs.Prelude.{◌≡◌, ◌≤◌, false, drop, length}
use Rattle.arj_text.specs.Fields.{has_byte}
use Rattle.arj_image.proofs.file.cut_last.Given as goal

abbrev pub invariant-loop-at : goal.invariant-loop-at
invariant-loop-at l = (l.at ≤ length l.bytes) × (has_byte l.separator (drop l.at l.bytes) ≡ false)

abbrev pub decreases-loop-at : goal.decreases-loop-at
decreases-loop-at l = l.at
