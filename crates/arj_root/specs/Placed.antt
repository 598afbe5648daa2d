-- Where the grants of each object stand in the list of all, with their tops.
use Rattle.std.specs.Prelude.{◌≡◌, ℕ, ◌+◌, Bool, false, ◌&&◌, ◌==◌, if◌then◌else◌, List, [], ◌∷◌, ◌++◌, Option, Some, None, unwrap_or}
use Rattle.std.specs.Prelude.{slice_get}
use Rattle.std.specs.List.{list_any}
use Rattle.arj_protocol.specs.Order.{is_binding}
use Rattle.arj_protocol.specs.Coord.{Grant}
use Rattle.arj_protocol.specs.Order.{at_number, put_number}
use Rattle.arj_protocol.specs.Words.{Uid, Binding, uid_eq}

-- by object the tops that were granted its lock, each with its place
abbrev pub Places : Type 0
Places = List (ℕ × List (Uid × ℕ))

-- the places at an object
abbrev pub placed : ℕ → Places → List (Uid × ℕ)
placed x m = unwrap_or (at_number x m) []

-- one more place at an object
abbrev pub with_place : ℕ → Uid → ℕ → Places → Places
with_place x top place m = put_number x (placed x m ++ (top, place) ∷ []) m

-- the places of an object's grants among these, counted from n
abbrev pub places_from : ℕ → ℕ → List Grant → List (Uid × ℕ)
places_from x n [] = []
places_from x n (g ∷ gs) = if g.x == x then (g.top, n) ∷ places_from x (n + 1) gs else places_from x (n + 1) gs

-- the places are those of the grants
abbrev pub HasPlaces : Places → List Grant → Type 0
HasPlaces m gs = (x : ℕ) → placed x m ≡ places_from x 0 gs

-- the first place of a top
abbrev pub place_in : Uid → List (Uid × ℕ) → Option ℕ
place_in top [] = None
place_in top (e ∷ es) = if uid_eq e.0 top then Some e.1 else place_in top es

-- the last answer named the binding
abbrev pub names_at : Binding → Option Grant → Bool
names_at b None = false
names_at b (Some g) = is_binding b g.named

-- a grant of the top at one of the places named the binding last
abbrev pub any_named_at : Uid → Binding → List Grant → List (Uid × ℕ) → Bool
any_named_at top b gs es = list_any (λ (e : Uid × ℕ). uid_eq e.0 top && names_at b (slice_get gs e.1)) es
