-- The bytes so far, and the digits that are left.
use Rattle.std.proofs.Common.{◌≡◌, ◌++◌, length}
use Rattle.std.specs.List.{flat_map}
use Rattle.arj_text.specs.Words.{hex_pair}
use Rattle.arj_text.specs.Fields.{AreBytes}
use Rattle.arj_text.proofs.field_hex.pairs.Given as goal

abbrev pub invariant-loop-rest : goal.invariant-loop-rest
invariant-loop-rest l = record {
  front : l.bytes ≡ flat_map hex_pair l.found ++ l.rest;
  fits : AreBytes l.found;
}

abbrev pub decreases-loop-rest : goal.decreases-loop-rest
decreases-loop-rest l = length l.rest
