-- The pair of a role, and what the calls of a store do with it: relations between the pair before a call and after it.
-- A store says which pair the files of a disk give; nothing here speaks of files.
use Rattle.std.specs.Prelude.{◌≡◌, ◌≢◌, ◌⊎◌, ◌<◌, ℕ, List, [], ◌∷◌, map, take, Contains, Option, Some, None, IsSome, IfSome, ◌↔◌}
use Rattle.std.specs.List.{IsDistinct, AllByRecursion}
use Rattle.std.specs.List.Sorted.{IsStrictlySortedBy}
use Rattle.arj_base.specs.State.{state_bytes, StateInForm}
use Rattle.arj_base.specs.Uid.{uid_eq}
use Rattle.arj_base.specs.declared.state.ObjectState.{ObjectState}
use Rattle.arj_base.specs.declared.uid.Uid.{Uid}
use Rattle.arj_disk.specs.declared.slot.Role.{Role}
use Rattle.arj_disk.specs.declared.slot.Role.TheVariants.{Store, Names}
pub use Rattle.arj_base.specs.Order.{uid_order}
use Rattle.arj_disk.specs.Formed.{IsStateOf}
use Rattle.arj_disk.specs.Says.{names, new_of, role_of}
use Rattle.arj_store.specs.declared.answer.Read.{Read}
use Rattle.arj_store.specs.declared.answer.Read.TheVariants as read
use Rattle.arj_store.specs.declared.answer.Prep.{Prep}
use Rattle.arj_store.specs.declared.answer.Prep.TheVariants as prep
use Rattle.arj_store.specs.declared.answer.Found.{Found}

-- The committed states, packed, and what each action has prepared: its new states, packed, under their Uids.
pub record Pair : Type 0 where
  pub held : Uid → Option (List ℕ)
  pub pend : Uid → Option (List (Uid × List ℕ))

-- an action has prepared the object
abbrev pub InDoubt : Pair → Uid → Type 0
InDoubt p u = (a : Uid) × names (p.pend a) u

-- the object has a committed state, or an action has prepared it
abbrev pub IsKnown : Pair → Uid → Type 0
IsKnown p u = IsSome (p.held u) ⊎ InDoubt p u

-- both maps are as before
pub record SamePair (old new : Pair) : Type 0 where
  pub committed : (u : Uid) → new.held u ≡ old.held u
  pub prepared : (a : Uid) → new.pend a ≡ old.pend a

-- the Uid of the object whose state it is
abbrev pub uid_of : ObjectState → Uid
uid_of s = s.uid

-- states as they are prepared: each packed, under its Uid
abbrev pub packed : List ObjectState → List (Uid × List ℕ)
packed states = map (λ s. (s.uid, state_bytes s)) states

-- this action has prepared these states; every other, and what is committed, is as before
pub record Adds (old new : Pair) (act : Uid) (states : List ObjectState) : Type 0 where
  pub committed : (u : Uid) → new.held u ≡ old.held u
  pub here : new.pend act ≡ Some (packed states)
  pub others : (a : Uid) → a ≢ act → new.pend a ≡ old.pend a

-- the action isn't prepared any more; every other, and what is committed, is as before
pub record Drops (old new : Pair) (act : Uid) : Type 0 where
  pub committed : (u : Uid) → new.held u ≡ old.held u
  pub gone : new.pend act ≡ None
  pub others : (a : Uid) → a ≢ act → new.pend a ≡ old.pend a

-- the new state where there is one, else the one before
abbrev pub newer : Option (List ℕ) → Option (List ℕ) → Option (List ℕ)
newer None old = old
newer (Some new) old = Some new

-- the state of an object when what is prepared is committed
abbrev pub held_after : Option (List (Uid × List ℕ)) → Uid → Option (List ℕ) → Option (List ℕ)
held_after None u before = before
held_after (Some states) u before = newer (new_of states u) before

-- what the action had prepared is committed, and it isn't prepared any more; every other is as before
pub record Moves (old new : Pair) (act : Uid) : Type 0 where
  pub committed : (u : Uid) → new.held u ≡ held_after (old.pend act) u (old.held u)
  pub gone : new.pend act ≡ None
  pub others : (a : Uid) → a ≢ act → new.pend a ≡ old.pend a

-- some of what the action has prepared is committed; it and every other action is prepared as before
pub record MovesSome (old new : Pair) (act : Uid) : Type 0 where
  pub committed : (u : Uid) → (new.held u ≡ old.held u) ⊎ (new.held u ≡ held_after (old.pend act) u (old.held u))
  pub prepared : (a : Uid) → new.pend a ≡ old.pend a

-- the committed state of an object, unpacked
pub record IsHeld (p : Pair) (u : Uid) (s : ObjectState) : Type 0 where
  pub bytes : p.held u ≡ Some (state_bytes s)
  pub in_form : StateInForm s
  pub own : s.uid ≡ u

-- The state that bytes pack: none where there are no bytes, or they pack no state.
abbrev pub Packs : Option (List ℕ) → Option ObjectState → Type 0
Packs None state = state ≡ None
Packs (Some bytes) None = (s : ObjectState) → StateInForm s → bytes ≢ state_bytes s
Packs (Some bytes) (Some s) = StateInForm s × (bytes ≡ state_bytes s)

-- The answer to a read: the action that names the object, where there is one; else the committed state, or none.
abbrev pub Reads : Pair → Uid → Read → Type 0
Reads p u (read.InDoubt holder) = names (p.pend holder) u
Reads p u (read.State s) = (InDoubt p u → ⊥) × IsHeld p u s
Reads p u read.Absent = (InDoubt p u → ⊥) × (p.held u ≡ None)

-- the second state has a lower version than the first, or the same version and the same bytes
abbrev pub IsNoOlder : ObjectState → ObjectState → Type 0
IsNoOlder s t = (t.version < s.version) ⊎ ((t.version ≡ s.version) × (state_bytes t ≡ state_bytes s))

-- a state of the action may follow another state: one that the action didn't write, and that is no newer
abbrev pub MayFollow : Uid → ObjectState → ObjectState → Type 0
MayFollow act s t = (t.writer ≢ act) × IsNoOlder s t

-- the state may follow the committed one, if there is one
abbrev pub FollowsHeld : Pair → Uid → ObjectState → Type 0
FollowsHeld p act s = (t : ObjectState) → IsHeld p s.uid t → MayFollow act s t

-- nothing stands against the state: it may follow the committed one, and no action has prepared the object
pub record IsClear (p : Pair) (act : Uid) (s : ObjectState) : Type 0 where
  pub follows : FollowsHeld p act s
  pub free : InDoubt p s.uid → ⊥

-- the committed state was written by the action
abbrev pub IsWrittenBy : Pair → Uid → Uid → Type 0
IsWrittenBy p act u = (t : ObjectState) × IsHeld p u t × (t.writer ≡ act)

-- the committed state has version v, which is above that of the state, or equal with other bytes
abbrev pub IsOld : Pair → ObjectState → ℕ → Type 0
IsOld p s v =
    (t : ObjectState) × IsHeld p s.uid t × (t.version ≡ v) × ((s.version < v) ⊎ ((s.version ≡ v) × (state_bytes s ≢ state_bytes t)))

-- The refusal of one state, the first of these that holds.
abbrev pub Refuses : Pair → Uid → ObjectState → Prep → Type 0
Refuses p act s prep.Prepared = ⊥
Refuses p act s (prep.Already uid by) = (uid ≡ s.uid) × (by ≡ act) × IsWrittenBy p act s.uid
Refuses p act s (prep.Old uid v) = (uid ≡ s.uid) × (IsWrittenBy p act s.uid → ⊥) × IsOld p s v
Refuses p act s (prep.InDoubt uid holder) = (uid ≡ s.uid) × FollowsHeld p act s × names (p.pend holder) s.uid

-- the answer is the refusal of the first state that has one
abbrev pub IsRefused : Pair → Uid → List ObjectState → Prep → Type 0
IsRefused p act [] answer = ⊥
IsRefused p act (s ∷ ss) answer = Refuses p act s answer ⊎ (IsClear p act s × IsRefused p act ss answer)

-- nothing stands against any of the states
abbrev pub AreClear : Pair → Uid → List ObjectState → Type 0
AreClear p act states = AllByRecursion (IsClear p act) states

-- the action becomes prepared with these states, against which nothing stands
pub record Prepares (old new : Pair) (act : Uid) (states : List ObjectState) : Type 0 where
  pub first : old.pend act ≡ None
  pub clear : AreClear old act states
  pub adds : Adds old new act states

-- The answer to a prepare, with what it changes: Prepared where the action is prepared already, or becomes so; every
-- other answer is a refusal.
abbrev pub AnswersPrepare : Pair → Pair → Uid → List ObjectState → Prep → Type 0
AnswersPrepare old new act states prep.Prepared = (IsSome (old.pend act) × SamePair old new) ⊎ Prepares old new act states
AnswersPrepare old new act states answer = (old.pend act ≡ None) × IsRefused old act states answer × SamePair old new

-- the pair has these states and no others, and nothing is prepared
pub record HasOnly (p : Pair) (states : List ObjectState) : Type 0 where
  pub each : AllByRecursion (λ s. p.held s.uid ≡ Some (state_bytes s)) states
  pub others : (u : Uid) → IsSome (p.held u) → Contains (map uid_of states) u
  pub none : (a : Uid) → p.pend a ≡ None

-- the pair has the first few of these states and no others, and nothing is prepared
abbrev pub HasFirst : Pair → List ObjectState → Type 0
HasFirst p states = (count : ℕ) × HasOnly p (take count states)

-- What a recovery finds: each committed state and each prepared action with its new states, by Uid.
pub record FindsPair (p : Pair) (found : Found) : Type 0 where
  pub committed : AllByRecursion (λ s. IsHeld p s.uid s) found.committed
  pub every_committed : (u : Uid) → IsSome (p.held u) → Contains (map uid_of found.committed) u
  pub by_uid : IsStrictlySortedBy uid_order (map uid_of found.committed)
  pub prepared : AllByRecursion (λ e. (p.pend e.0 ≡ Some (packed e.1)) × AllByRecursion StateInForm e.1) found.prepared
  pub every_prepared : (a : Uid) → IsSome (p.pend a) → Contains (map (λ e. e.0) found.prepared) a
  pub by_action : IsStrictlySortedBy uid_order (map (λ e. e.0) found.prepared)

-- what is found is empty: no committed state, and no prepared action
pub record FindsNothing (found : Found) : Type 0 where
  pub committed : found.committed ≡ []
  pub prepared : found.prepared ≡ []

-- The pair is told for the naming service alone.
abbrev pub Finds : Role → Pair → Found → Type 0
Finds Store p found = FindsNothing found
Finds Names p found = FindsPair p found

-- these are the prepared actions, by Uid
pub record ListsActions (p : Pair) (actions : List Uid) : Type 0 where
  pub there : (a : Uid) → IsSome (p.pend a) ↔ Contains actions a
  pub increasing : IsStrictlySortedBy uid_order actions

-- the states are of distinct objects of the role
pub record AreDistinct (role : Role) (states : List ObjectState) : Type 0 where
  pub distinct : IsDistinct uid_eq (map uid_of states)
  pub own : AllByRecursion (λ s. role_of s.uid ≡ role) states

-- A pair of the role is sound: each state packs one of its object, an object of the role, and no object is prepared by
-- two actions.
pub record IsSound (role : Role) (p : Pair) : Type 0 where
  pub committed : (u : Uid) → IfSome (p.held u) (λ bytes. (role_of u ≡ role) × IsStateOf u bytes)
  pub prepared : (a u : Uid) → IfSome (p.pend a) (λ states. IfSome (new_of states u) (λ bytes. (role_of u ≡ role) × IsStateOf u bytes))
  pub once : (a b u : Uid) → names (p.pend a) u → names (p.pend b) u → a ≡ b
