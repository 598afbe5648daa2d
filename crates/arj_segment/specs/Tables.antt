-- What is kept in memory of the files of a role, and what is read of them.
use Rattle.std.specs.Prelude.{◌≡◌, ◌≢◌, ◌⊎◌, ◌<◌, ℕ, List, [], ◌∷◌, ◌++◌, map, Contains, Option, None, Some, IsSome, option_map}
use Rattle.std.specs.Prelude.{MatchOption, if◌then◌else◌}
use Rattle.std.specs.List.{AllByRecursion}
use Rattle.std.specs.List.Sorted.{IsStrictlySortedBy}
use Rattle.std.specs.Ordering.{nat_cmp}
use Rattle.arj_base.specs.State.{state_bytes, StateInForm}
use Rattle.arj_base.specs.Uid.{uid_eq}
use Rattle.arj_base.specs.declared.state.ObjectState.{ObjectState}
use Rattle.arj_base.specs.declared.uid.Uid.{Uid}
use Rattle.arj_disk.specs.Says.{names}
use Rattle.arj_disk.specs.declared.slot.Slot.{Slot}
use Rattle.arj_store.specs.Effects.{objects}
use Rattle.arj_store.specs.Pair.{packed, uid_order}
use Rattle.arj_store.specs.Shadow.{is_in}
use Rattle.arj_store.specs.Table.{Sets, SameTable}
use Rattle.arj_segment.specs.Says.{numbers, place, state_in}

-- the value is now under each Uid of the list, and under every other is what was
abbrev pub SetsEach : {V : Type 0} → List Uid → Option V → (Uid → Option V) → (Uid → Option V) → Type 0
SetsEach us value old new = (u : Uid) → new u ≡ (if is_in us u then value else old u)

-- What is prepared is kept: each action with its objects, and each object that is prepared with its action.
pub record KeepsPend (pend : Uid → Option (List (Uid × List ℕ))) (actions : Uid → Option (List Uid)) (holdings : Uid →
    Option Uid) : Type 0 where
  pub actions_are : (a : Uid) → actions a ≡ option_map objects (pend a)
  pub holders_are : (u : Uid) → MatchOption (holdings u) ((a : Uid) → names (pend a) u → ⊥) (λ a. names (pend a) u)

-- these are the numbers of the segments, increasing
pub record AreNumbers (segment : ℕ → Option (List ℕ)) (ks : List ℕ) : Type 0 where
  pub there : (k : ℕ) → k < numbers → IsSome (segment k) → Contains ks k
  pub only : AllByRecursion (λ k. IsSome (segment k)) ks
  pub below : AllByRecursion (λ k. k < numbers) ks
  pub rises : IsStrictlySortedBy nat_cmp ks

-- no object is there, and no segment
abbrev pub IsBare : List Uid → List ℕ → Type 0
IsBare us ks = (us ≡ []) × (ks ≡ [])

-- What is committed is kept: the segment that has the state of each object, and the numbers of the segments.
pub record KeepsPlaces (segment : ℕ → Option (List ℕ)) (places : Uid → Option ℕ) (ks : List ℕ) : Type 0 where
  pub places_are : (u : Uid) → places u ≡ place segment u
  pub numbers_are : AreNumbers segment ks

-- whatever segment had the state of an object, this one has it now
abbrev pub AllInOne : ℕ → (Uid → Option ℕ) → (Uid → Option ℕ) → Type 0
AllInOne k old new = (u : Uid) → new u ≡ option_map (λ j. k) (old u)

-- the state of an object, unpacked, or none where there is none
abbrev pub Unpacks : Uid → Option (List ℕ) → Option ObjectState → Type 0
Unpacks u None state = state ≡ None
Unpacks u (Some bytes) None = ⊥
Unpacks u (Some bytes) (Some s) = StateInForm s × (s.uid ≡ u) × (bytes ≡ state_bytes s)

-- what is under a Uid when states were put under their Uids, one after the other
abbrev pub kept_state : Uid → List ObjectState → Option ObjectState → Option ObjectState
kept_state u [] before = before
kept_state u (s ∷ ss) before = kept_state u ss (if uid_eq u s.uid then Some s else before)

-- what the segment with this number has of an object takes the place of what is kept of it
abbrev pub Gathers : Option (List ℕ) → ℕ → (Uid → Option ℕ) → (Uid → Option ObjectState) → (Uid → Option ℕ) → (Uid → Option ObjectState) →
    Type 0
Gathers segment k places states places' states' =
    (u : Uid) → MatchOption (state_in u segment) ((places' u ≡ places u) × (states' u ≡ states u)) (λ bytes. (places' u ≡ Some k) × Unpacks u (Some bytes) (states' u))

-- the action is listed with its states, unpacked, and kept with its objects, if it has prepared any
abbrev pub ReadsPending : Option (List (Uid × List ℕ)) → Uid → List (Uid × List ObjectState) → (Uid → Option (List Uid)) →
    (Uid → Option Uid) → List (Uid × List ObjectState) → (Uid → Option (List Uid)) → (Uid → Option Uid) → Type 0
ReadsPending prepared a pends actions holdings pends' actions' holdings' =
    MatchOption prepared ((pends' ≡ pends) × SameTable actions actions' × SameTable holdings holdings')
    (λ es. (states : List ObjectState) × (packed states ≡ es) × AllByRecursion StateInForm states × (pends' ≡ pends ++ (a, states) ∷ [])
    × Sets actions actions' a (Some (objects es)) × SetsEach (objects es) (Some a) holdings holdings')

-- these are the prepared actions, each with its states, by Uid
pub record ListsPends (pend : Uid → Option (List (Uid × List ℕ))) (pends : List (Uid × List ObjectState)) : Type 0 where
  pub each : AllByRecursion (λ e. (pend e.0 ≡ Some (packed e.1)) × AllByRecursion StateInForm e.1) pends
  pub every : (a : Uid) → IsSome (pend a) → Contains (map (λ e. e.0) pends) a
  pub by_action : IsStrictlySortedBy uid_order (map (λ e. e.0) pends)

-- what a name is of is taken at the end, if it is one of these names
abbrev pub TakesName : {X : Type 0} → (X → Slot) → Slot → List X → List X → Type 0
TakesName {X = X} name q old new = ((x : X) × (q ≡ name x) × (new ≡ old ++ x ∷ [])) ⊎ (((x : X) → q ≢ name x) × (new ≡ old))
