-- The objects that each action has touched, and what a look at these alone finds.
use Rattle.std.specs.Prelude.{◌≡◌, ◌⊎◌, ◌&&◌, not, ℕ, Bool, true, false, if◌then◌else◌, List, Option, None, Some, is_none, option_map}
use Rattle.std.specs.BTreeMap.{is_at}
use Rattle.std.specs.BTreeSet.{BTreeSet}
use Rattle.std.specs.List.{list_any}
use Rattle.std.specs.Ordering.{nat_cmp}
use Rattle.arj_protocol.specs.Ask.{top_of, top_path}
use Rattle.arj_protocol.specs.Copy.{holds}
use Rattle.arj_protocol.specs.Named.{Named}
use Rattle.arj_protocol.specs.Order.{at_number, at_uid}
use Rattle.arj_protocol.specs.Words.{Path, Uid, is_held_by, is_on, nobody, uid_eq}

-- the number is among these
abbrev pub is_in : List ℕ → ℕ → Bool
is_in xs x = list_any (is_at (nat_cmp x)) xs

-- the number is in the set, if there is one
abbrev pub is_in_set : ℕ → Option (BTreeSet ℕ) → Bool
is_in_set x None = false
is_in_set x (Some xs) = is_in xs.keys x

-- the object stands under the action
abbrev pub is_touched : List (Uid × BTreeSet ℕ) → Uid → ℕ → Bool
is_touched acts u x = is_in_set x (at_uid u acts)

-- what stands under an action stays there
abbrev pub KeepsTouched : List (Uid × BTreeSet ℕ) → List (Uid × BTreeSet ℕ) → Type 0
KeepsTouched old new = (u : Uid) (x : ℕ) → is_touched old u x ≡ true → is_touched new u x ≡ true

-- The action hasn't touched the object, so that its end doesn't change it: no binding was made for it, it asked no lock by an
-- include, and it stands on no path of a lock's holder.
pub record IsApart (u : Uid) (o : Named) : Type 0 where
  pub made : at_uid u o.made ≡ None
  pub asked : is_on o.asked u ≡ false
  pub rows : holds u o.rows ≡ false
  pub held : list_any (is_held_by u) o.rows ≡ false

-- what is looked at of an object: where all this holds, the action is apart from it
abbrev pub looks_apart : Uid → Named → Bool
looks_apart u o = not (uid_eq u nobody) && (is_none (at_uid u o.made) && (not (is_on o.asked u) && not (holds u o.rows)))

-- so it is of an object that naming has
abbrev pub looks_apart_in : Uid → Option Named → Bool
looks_apart_in u None = true
looks_apart_in u (Some o) = looks_apart u o

-- the action isn't on the path to the top
pub record IsOff (u : Uid) (p : Path) : Type 0 where
  pub on : is_on (top_path p) u ≡ false
  pub top : uid_eq (top_of p) u ≡ false

-- each object that the action has touched is among these
abbrev pub AreTouched : Uid → List (ℕ × Named) → (ℕ → Bool) → Type 0
AreTouched u objects among = (x : ℕ) (o : Named) → at_number x objects ≡ Some o → IsApart u o ⊎ (among x ≡ true)

-- a test of an object, which fails where there is none
abbrev pub test_at : (Named → Bool) → Option Named → Bool
test_at test None = false
test_at test (Some o) = test o

-- one of these objects passes
abbrev pub any_of : (Named → Bool) → List (ℕ × Named) → List ℕ → Bool
any_of test objects xs = list_any (λ x. test_at test (at_number x objects)) xs

-- and so of the objects that stand under some action
abbrev pub any_under : (Named → Bool) → List (ℕ × Named) → List (Uid × BTreeSet ℕ) → Bool
any_under test objects acts = list_any (λ (e : Uid × BTreeSet ℕ). any_of test objects e.1.keys) acts

-- an object that is changed, or stays
abbrev pub changed_at : (Named → Named) → Bool → Option Named → Option Named
changed_at f b o = if b then option_map f o else o
