-- What a root keeps of its objects, and what fits a plan made of it: nodes are nodes, and a state has its object's number.
use Rattle.std.specs.Prelude.{◌≡◌, ℕ, List, [], ◌∷◌, Option, Some, None, IfSome, unwrap_or, ⊤}
use Rattle.std.specs.List.{AllByRecursion}
use Rattle.arj_base.specs.declared.state.ObjectState.{ObjectState}
use Rattle.arj_commit.specs.Fits.{IsNode}
use Rattle.arj_protocol.specs.Call.{Known}
use Rattle.arj_protocol.specs.Coord.{Joined, Keeping, no_keeping}
use Rattle.arj_protocol.specs.Order.{at_number, put_number}

-- the state has the number of the object
abbrev pub HasNumber : ℕ → ObjectState → Type 0
HasNumber x s = s.uid.num ≡ x

-- ---- includes

-- the store is a node, and the state is the object's
pub record JoinFits (j : Joined) : Type 0 where
  pub node : IsNode j.store
  pub own : HasNumber j.x j.loaded

-- so it is of all includes
abbrev pub AreJoins : List Joined → Type 0
AreJoins joined = AllByRecursion JoinFits joined

-- ---- keepings

-- what a root keeps, by object
abbrev pub Keepings : Type 0
Keepings = List (ℕ × Keeping)

-- what is kept of an object
abbrev pub keeping_in : ℕ → Keepings → Keeping
keeping_in x m = unwrap_or (at_number x m) no_keeping

-- the server and the stores are nodes
pub record KnownFits (k : Known) : Type 0 where
  pub server : IsNode k.server
  pub stores : AllByRecursion IsNode k.stores

-- what is kept, if anything is
abbrev pub KeptFits : Option Known → Type 0
KeptFits None = ⊤
KeptFits (Some k) = KnownFits k

-- of each object
abbrev pub AreKept : Keepings → Type 0
AreKept m = (x : ℕ) → KeptFits ((keeping_in x m).kept)

-- keepings changed at these objects, one after another
abbrev pub changed_at : (ℕ → Keeping → Keeping) → List ℕ → Keepings → Keepings
changed_at f [] m = m
changed_at f (x ∷ xs) m = changed_at f xs (put_number x (f x (keeping_in x m)) m)

-- ---- states

-- the states that a root keeps, by object
abbrev pub States : Type 0
States = List (ℕ × ObjectState)

-- each state has the number at which it stands
abbrev pub AreNumbered : States → Type 0
AreNumbered m = (x : ℕ) → IfSome (at_number x m) (HasNumber x)
