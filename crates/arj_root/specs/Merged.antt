-- Lists in which an item that is there takes up another one of its kind, and any other goes to the end.
use Rattle.std.specs.Prelude.{ℕ, ◌+◌, Bool, ◌&&◌, ◌==◌, min, if◌then◌else◌, List, [], ◌∷◌, Option, Some, None}
use Rattle.arj_base.specs.declared.state.ObjectState.{ObjectState}
use Rattle.arj_protocol.specs.Coord.{Root, Said, Joined, Grant, no_root, later_state, named_last}
use Rattle.arj_protocol.specs.Order.{with_number}
use Rattle.arj_protocol.specs.Words.{Uid, last_uid, uid_eq}

-- a root with these includes, and one with these grants
abbrev pub of_joins : List Joined → Root
of_joins joined = record no_root { joined = joined }

-- a root with these grants alone
abbrev pub of_grants : List Grant → Root
of_grants grants = record no_root { grants = grants }

-- the place of the first that passes, counted from n
abbrev pub place_of : {A : Type 0} → (A → Bool) → ℕ → List A → Option ℕ
place_of test n [] = None
place_of test n (a ∷ rest) = if test a then Some n else place_of test (n + 1) rest

-- the first that passes takes up another one, which goes to the end where there is none
abbrev pub merged_with : {A : Type 0} → (A → Bool) → (A → A) → A → List A → List A
merged_with test merge new [] = new ∷ []
merged_with test merge new (a ∷ rest) = if test a then merge a ∷ rest else a ∷ merged_with test merge new rest

-- an include of this action, object and store
abbrev pub is_join_of : Uid → ℕ → ℕ → Joined → Bool
is_join_of u x s i = uid_eq u (last_uid i.path) && ((x == i.x) && (s == i.store))

-- an include that brought this state too
abbrev pub rejoined : ObjectState → Joined → Joined
rejoined s i = record i { loaded = later_state i.loaded s }

-- a grant that was given once more
abbrev pub regranted : ℕ → Grant → Grant → Grant
regranted least g h = record h { least = min h.least least; named = named_last g.named h.named }

-- of a state that was found and another one the later one
abbrev pub later_of : Option ObjectState → ObjectState → ObjectState
later_of None t = t
later_of (Some s) t = later_state s t

-- ---- what a commit asks

-- a root with these calls and includes, and one with grants besides
abbrev pub of_work : List Said → List Joined → Root
of_work said joined = record no_root { said = said; joined = joined }

-- a root with these calls, includes and grants
abbrev pub of_parts : List Said → List Joined → List Grant → Root
of_parts said joined grants = record no_root { said = said; joined = joined; grants = grants }

-- these numbers besides those of a set
abbrev pub more_numbers : List ℕ → List ℕ → List ℕ
more_numbers [] set = set
more_numbers (n ∷ ns) set = with_number n (more_numbers ns set)

-- the least of a number and of those before, and of all of them
abbrev pub least_with : ℕ → Option ℕ → ℕ
least_with n None = n
least_with n (Some m) = min n m

-- the least of these numbers, if there is one
abbrev pub least_in : List ℕ → Option ℕ
least_in [] = None
least_in (n ∷ ns) = Some (least_with n (least_in ns))
