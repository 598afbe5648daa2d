use Rattle.std.proofs.Common.{◌≡◌, ◌++◌, take, drop}
use Rattle.std.specs.List.{flat_map}
use Rattle.byteorder.specs.Endian.{big_bytes}
use Rattle.arj_class.specs.Forms.{NumbersFit}
use Rattle.arj_class.proofs.payload.put_numbers.Given as goal

abbrev pub invariant-loop-number : goal.invariant-loop-number
invariant-loop-number l = record {
  bytes : l.payload ≡ l.fn.payload ++ flat_map (big_bytes 8) (take l.number-index l.numbers);
  fit : NumbersFit (drop l.number-index l.numbers) → NumbersFit l.numbers;
}
