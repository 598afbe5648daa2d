-- The objects that a server which is up again may change, by node; and all that naming keeps beside its objects.
use Rattle.std.specs.Prelude.{◌≡◌, ◌==◌, ℕ, Bool, true, false, List, Option, None, Some, option_map}
use Rattle.std.specs.BTreeSet.{BTreeSet}
use Rattle.std.specs.List.Sorted.{IsStrictlySortedBy}
use Rattle.std.specs.Map.{keys_of}
use Rattle.std.specs.Ordering.{nat_cmp}
use Rattle.arj_protocol.specs.Named.{Live, Named}
use Rattle.arj_protocol.specs.Order.{at_number, at_uid}
use Rattle.arj_protocol.specs.Words.{Uid}
use Rattle.arj_naming.specs.Touched.{AreTouched, is_in_set, is_touched}

-- the live binding of an object, if there is one
abbrev pub live_in : Option Named → Option Live
live_in None = None
live_in (Some o) = o.live

-- the live binding of the object of this number
abbrev pub live_at : ℕ → List (ℕ × Named) → Option Live
live_at x objects = live_in (at_number x objects)

-- the server of the binding that was made last for the top at an object, if there is one
abbrev pub made_in : Uid → Option Named → Option ℕ
made_in top None = None
made_in top (Some o) = option_map (λ m. m.server) (at_uid top o.made)

-- it is to this node
abbrev pub is_to : ℕ → Option Live → Bool
is_to node None = false
is_to node (Some l) = l.server == node

-- the object stands under the node
abbrev pub is_under : List (ℕ × BTreeSet ℕ) → ℕ → ℕ → Bool
is_under bound node x = is_in_set x (at_number node bound)

-- what stands under a node stays there
abbrev pub KeepsBound : List (ℕ × BTreeSet ℕ) → List (ℕ × BTreeSet ℕ) → Type 0
KeepsBound old new = (n x : ℕ) → is_under old n x ≡ true → is_under new n x ≡ true

-- each object with a live binding stands under its server
abbrev pub AreBound : List (ℕ × Named) → List (ℕ × BTreeSet ℕ) → Type 0
AreBound objects bound = (x : ℕ) (l : Live) → live_at x objects ≡ Some l → is_under bound l.server x ≡ true

-- what naming keeps beside its objects: by action those that it has touched, and by node those that are bound to it
pub record AreIndexed (objects : List (ℕ × Named)) (acts : List (Uid × BTreeSet ℕ)) (under : List (ℕ × BTreeSet ℕ)) : Type 0 where
  pub sorted : IsStrictlySortedBy nat_cmp (keys_of objects)
  pub touched : (u : Uid) → AreTouched u objects (is_touched acts u)
  pub bound : AreBound objects under
