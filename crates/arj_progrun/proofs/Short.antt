-- Labels of programs' actions are short.
use Rattle.std.proofs.Common.{◌<◌, ◌≤◌, ℕ, ◌++◌, codes, length, length-append, arith}
use Rattle.std.proofs.lemmas.Fmt.{length-decimal-le}
use Rattle.std.specs.Fmt.{decimal}
use Rattle.arj_progrun.specs.Client.{block_label, try_label}

pub try_short : (i j : ℕ) → i < 256 → j < 256 → length (try_label i j) ≤ 16
try_short i j small few =
    omega (
      arith,
      length-append (decimal i) (codes "t" ++ decimal j),
      length-decimal-le 3 i (omega arith) (omega (arith, small)) (omega (arith, small)),
      length-decimal-le 3 j (omega arith) (omega (arith, few)) (omega (arith, few)),
    )

pub block_short : (i j k : ℕ) → i < 256 → j < 256 → k < 100000 → length (block_label i j k) ≤ 16
block_short i j k small few begun =
    omega (
      arith,
      length-append (decimal i) (codes "t" ++ (decimal j ++ (codes "b" ++ decimal k))),
      length-append (decimal j) (codes "b" ++ decimal k),
      length-decimal-le 3 i (omega arith) (omega (arith, small)) (omega (arith, small)),
      length-decimal-le 3 j (omega arith) (omega (arith, few)) (omega (arith, few)),
      length-decimal-le 5 k (omega arith) (omega (arith, begun)) (omega (arith, begun)),
    )
