use Rattle.std.specs.Prelude.{◌≡◌, ◌++◌, take}
use Rattle.std.specs.List.{flat_map}
use Rattle.arj_text.specs.Words.{hex_pair}
use Rattle.arj_text.proofs.words.put_hex_pairs.Given as goal

abbrev pub invariant-loop-byte : goal.invariant-loop-byte
invariant-loop-byte l = l.out ≡ l.fn.out ++ flat_map hex_pair (take l.byte-index l.bytes)
