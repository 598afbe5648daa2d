-- No separator stands before the byte in hand.
use Rattle.std.proofs.Common.{◌≡◌, false, take}
use Rattle.arj_text.specs.Fields.{has_byte}
use Rattle.arj_seen.proofs.cutting.first_line.Given as goal

abbrev pub invariant-loop-at : goal.invariant-loop-at
invariant-loop-at l = has_byte 10 (take l.at l.bytes) ≡ false
