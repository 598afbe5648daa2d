use Rattle.std.specs.Prelude.{◌≡◌, ◌++◌, drop}
use Rattle.std.specs.List.{flat_map}
use Rattle.arj_text.specs.Words.{behind_comma, decimals}
use Rattle.arj_text.proofs.words.put_more_numbers.Given as goal

abbrev pub invariant-loop-n : goal.invariant-loop-n
invariant-loop-n l =
    l.out ++ flat_map behind_comma (decimals (drop l.n-index l.numbers)) ≡ l.fn.out ++ flat_map behind_comma (decimals l.numbers)
