use Rattle.std.specs.Prelude.{◌≡◌, ◌++◌, drop}
use Rattle.std.specs.List.{flat_map}
use Rattle.arj_text.specs.Words.{behind_comma, pair_texts}
use Rattle.arj_text.proofs.words.put_more_pairs.Given as goal

abbrev pub invariant-loop-pair : goal.invariant-loop-pair
invariant-loop-pair l =
    l.out ++ flat_map behind_comma (pair_texts (drop l.pair-index l.pairs)) ≡ l.fn.out ++ flat_map behind_comma (pair_texts l.pairs)
