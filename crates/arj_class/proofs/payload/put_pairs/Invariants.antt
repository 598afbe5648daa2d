use Rattle.std.proofs.Common.{◌≡◌, ◌++◌, take, drop}
use Rattle.std.specs.List.{flat_map}
use Rattle.arj_class.specs.Forms.{PairsFit}
use Rattle.arj_class.specs.Keys.{pair_bytes}
use Rattle.arj_class.proofs.payload.put_pairs.Given as goal

abbrev pub invariant-loop-pair : goal.invariant-loop-pair
invariant-loop-pair l = record {
  bytes : l.payload ≡ l.fn.payload ++ flat_map pair_bytes (take l.pair-index l.pairs);
  fit : PairsFit (drop l.pair-index l.pairs) → PairsFit l.pairs;
}
