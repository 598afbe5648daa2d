-- What each root has, by its number.
use Rattle.std.specs.Prelude.{ℕ, ◌+◌, ◌≤◌, List, [], ◌∷◌, ◌++◌, unwrap_or}
use Rattle.arj_protocol.specs.Order.{at_number, put_number, with_number}
use Rattle.arj_protocol.specs.Tree.{Family, no_family}
use Rattle.arj_protocol.specs.Words.{Uid, End}

-- what roots have, by number
abbrev pub Families : Type 0
Families = List (ℕ × Family)

-- what the root of this number has
abbrev pub family_in : ℕ → Families → Family
family_in root m = unwrap_or (at_number root m) no_family

-- one more action
abbrev pub with_action : Family → Family
with_action f = record f { actions = f.actions + 1 }

-- one more end, the last one
abbrev pub with_end : Uid → End → Family → Family
with_end u e f = record f { ends = f.ends ++ (u, e) ∷ [] }

-- the object is used
abbrev pub with_object : ℕ → Family → Family
with_object x f = record f { objects = with_number x f.objects }

-- what one root has, changed
abbrev pub changed : (Family → Family) → ℕ → Families → Families
changed f root m = put_number root (f (family_in root m)) m

-- no root has had more actions than these
abbrev pub AreWithin : ℕ → Families → Type 0
AreWithin most m = (root : ℕ) → (let f = family_in root m in f.actions ≤ most)
