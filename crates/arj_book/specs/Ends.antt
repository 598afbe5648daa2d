-- The ends that a map keeps.
use Rattle.std.specs.Prelude.{ℕ}
use Rattle.std.specs.BTreeMap.{BTreeMap, get}
use Rattle.std.specs.Option.{unwrap_or}
use Rattle.std.specs.Ordering.{nat_cmp}

-- of each object, 0 where none is kept
abbrev pub ends_in : BTreeMap ℕ ℕ → ℕ → ℕ
ends_in m = λ x. unwrap_or (get nat_cmp m x) 0
