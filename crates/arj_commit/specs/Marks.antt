-- The marks of a commit, over parts of its plan.
use Rattle.std.specs.Prelude.{ℕ, Bool, List, [], ◌∷◌, ◌==◌, ◌&&◌, not, map, filter, find, is_some}
use Rattle.std.specs.List.{flat_map, list_any}
use Rattle.arj_base.specs.declared.state.ObjectState.{ObjectState}
use Rattle.arj_base.specs.Uid.{uid_eq, object}
use Rattle.arj_protocol.specs.Commit.{Used, state_by, with_marks}

-- the store is marked for the object
abbrev pub is_marked_in : List (ℕ × ℕ) → ℕ → ℕ → Bool
is_marked_in excluded x s = list_any (λ (m : ℕ × ℕ). (m.0 == x) && (m.1 == s)) excluded

-- the inclusions of an object that are left
abbrev pub joins_by : List (ℕ × ℕ) → ℕ → List ℕ → List (ℕ × ℕ)
joins_by excluded x joins = map {A = ℕ} {B = ℕ × ℕ} (λ s. (x, s)) (filter (λ s. not (is_marked_in excluded x s)) joins)

-- the inclusions of one used object that are left
abbrev pub joins_in : List (ℕ × ℕ) → Used → List (ℕ × ℕ)
joins_in excluded u = joins_by excluded u.x u.joins

-- the inclusions that are left
abbrev pub included_in : List (ℕ × ℕ) → List Used → List (ℕ × ℕ)
included_in excluded used = flat_map (joins_in excluded) used

-- the store is sent a state of the object
abbrev pub is_sent : ℕ → List ObjectState → Used → Bool
is_sent store changed u = is_some (state_by store u (find (λ s. uid_eq s.uid (object u.x)) changed))

-- the marks of a store, for each object of which it was sent a state
abbrev pub marks_in : ℕ → List ObjectState → List Used → List (ℕ × ℕ)
marks_in store changed used = map {A = Used} {B = ℕ × ℕ} (λ u. (u.x, store)) (filter (is_sent store changed) used)

-- the marks with those of these stores
abbrev pub marked_all : List ℕ → List ObjectState → List Used → List (ℕ × ℕ) → List (ℕ × ℕ)
marked_all [] changed used marks = marks
marked_all (s ∷ ss) changed used marks = marked_all ss changed used (with_marks (marks_in s changed used) marks)
