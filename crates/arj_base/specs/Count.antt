-- Counts of faults and stops, kept in 64 bits.
use Rattle.std.specs.Prelude.{ℕ, ◌<◌}

-- The count rose. At its last value it can't rise any more, and there the clause counts as met.
abbrev pub Rose : ℕ → ℕ → Type 0
Rose old new = old < 18446744073709551615 → old < new
