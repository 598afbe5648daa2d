-- Items that are kept under numbers.
use Rattle.std.specs.Prelude.{ℕ, List, [], Option, Some, None}
use Rattle.std.specs.BTreeMap.{BTreeMap, get}
use Rattle.std.specs.Ordering.{nat_cmp}
use Rattle.std.specs.Global.{Vec}

-- the items of a list, none where there is no list
abbrev pub items_or_none : {A : Type 0} → Option (Vec A) → List A
items_or_none None = []
items_or_none (Some v) = v.items

-- the items under a number
abbrev pub items_of : {A : Type 0} → BTreeMap ℕ (Vec A) → ℕ → List A
items_of m n = items_or_none (get nat_cmp m n)
