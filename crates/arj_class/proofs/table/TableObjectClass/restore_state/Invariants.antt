use Rattle.std.proofs.Common.{◌≡◌, ◌++◌, ◌≤◌, length}
use Rattle.std.specs.List.{flat_map}
use Rattle.arj_class.specs.Forms.{PairsFit}
use Rattle.arj_class.specs.Keys.{KeysRise, pair_bytes}
use Rattle.arj_class.proofs.table.TableObjectClass.restore_state.Given as goal

abbrev pub invariant-loop-pair : goal.invariant-loop-pair
invariant-loop-pair l = record {
  front : l.payload ≡ flat_map pair_bytes l.pairs.items ++ l.rest;
  few : length l.pairs.items ≤ 16;
  rise : KeysRise l.pairs.items;
  fit : PairsFit l.pairs.items;
}

abbrev pub decreases-loop-pair : goal.decreases-loop-pair
decreases-loop-pair l = length l.rest
