-- The piece is asked of those that are left.
use Rattle.std.proofs.Common.{◌≡◌, ◌-◌}
use Rattle.std.specs.List.{slice_get}
use Rattle.arj_main.specs.Pieces.{pieces}
use Rattle.arj_main.proofs.pieces.piece_at.Given as goal

abbrev pub invariant-loop : goal.invariant-loop
invariant-loop l = slice_get (pieces l.separator l.rest) (l.number - l.counter) ≡ slice_get (pieces l.separator l.bytes) l.number
