-- The objects that the stores of the tests know.
use Rattle.std.specs.Prelude.{ℕ, List, [], ◌∷◌, Contains}
use Rattle.arj_base.specs.Uid.{entry, object}
use Rattle.arj_base.specs.declared.uid.Uid.{Uid}
use Rattle.arj_disk.specs.declared.slot.Role.{Role}
use Rattle.arj_disk.specs.declared.slot.Role.TheVariants.{Store, Names}
use Rattle.arj_store.specs.Pair.{IsKnown, Pair}

-- object x, or its entry
abbrev pub uid_for : Role → ℕ → Uid
uid_for Store x = object x
uid_for Names x = entry x

-- objects 1 and 2, or their entries
abbrev pub ours : Role → List Uid
ours role = uid_for role 1 ∷ uid_for role 2 ∷ []

-- the pair knows of no others
abbrev pub KnowsOurs : Role → Pair → Type 0
KnowsOurs role p = (u : Uid) → IsKnown p u → Contains (ours role) u
