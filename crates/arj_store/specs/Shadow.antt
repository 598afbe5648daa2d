-- How the shadow store keeps the pair: what it has in memory, and what its calls do with the files.
use Rattle.std.specs.Prelude.{◌≡◌, ◌≢◌, ◌⊎◌, ◌<◌, Bool, true, false, ℕ, List, map, take, Option, Some, None, IsSome, is_some, IfSome}
use Rattle.std.specs.Prelude.{option_map, MatchOption}
use Rattle.std.specs.List.{list_any, AllByRecursion}
use Rattle.arj_base.specs.State.{state_bytes}
use Rattle.arj_base.specs.Uid.{uid_eq, UidFits}
use Rattle.arj_base.specs.declared.state.ObjectState.{ObjectState}
use Rattle.arj_base.specs.declared.uid.Uid.{Uid}
use Rattle.arj_disk.specs.declared.slot.Role.{Role}
use Rattle.arj_disk.specs.declared.slot.Slot.{Slot}
use Rattle.arj_disk.specs.declared.slot.Slot.TheVariants.{Tmp, Committed, Shadow, Prepared}
use Rattle.arj_disk.specs.Disk.{Renames}
use Rattle.arj_disk.specs.FileMap.{FileMap}
use Rattle.arj_disk.specs.Formed.{IsStateOf}
use Rattle.arj_store.specs.Formed.{IsPreparedOf, prepared_bytes}
use Rattle.arj_disk.specs.Says.{role_of}
use Rattle.arj_store.specs.Says.{named_in}
use Rattle.arj_store.specs.Pair.{uid_of, MayFollow}
use Rattle.arj_store.specs.declared.answer.Prep.{Prep}
use Rattle.arj_store.specs.declared.answer.Prep.TheVariants as prep
use Rattle.arj_store.specs.declared.prepare.Place.{Place}
use Rattle.arj_store.specs.declared.prepare.Place.TheVariants as place
use Rattle.arj_store.specs.declared.memory.Holding.{Holding}
use Rattle.arj_store.specs.declared.memory.Pending.{Pending}
use Rattle.arj_store.specs.Table.{at}

-- the object is in the list
abbrev pub is_in : List Uid → Uid → Bool
is_in us u = list_any (uid_eq u) us

-- the object is in the list, if there is one
abbrev pub is_named : Option (List Uid) → Uid → Bool
is_named None u = false
is_named (Some us) u = is_in us u

-- the object is prepared, and its shadow is there
abbrev pub has_shadow : Option Holding → Bool
has_shadow None = false
has_shadow (Some holding) = holding.shadow

-- the objects that an action's file names, if it is there
abbrev pub objects_of : FileMap → Role → Uid → Option (List Uid)
objects_of file role a = option_map named_in (file (Prepared role a))

-- What is kept in memory is what the files of the role say: each prepared action with its objects; the action of each
-- object that is prepared; and which shadows are there. No other shadow is.
pub record Keeps (role : Role) (actions : Uid → Option (List Uid)) (holdings : Uid → Option Holding) (file : FileMap) : Type 0 where
  pub actions_are : (a : Uid) → actions a ≡ objects_of file role a
  pub holders_are : (u : Uid) →
      MatchOption (holdings u) ((a : Uid) → is_named (objects_of file role a) u ≡ false) (λ h. is_named (objects_of file role h.act) u ≡ true)
  pub shadows_are : (u : Uid) → role_of u ≡ role → is_some (file (Shadow u)) ≡ has_shadow (holdings u)

-- the actions and holdings in memory are what the files of the role say
abbrev pub PendingKeeps : Role → Pending → FileMap → Type 0
PendingKeeps role pending file = Keeps role (at pending.actions) (at pending.holdings) file

-- the objects of the list aren't kept any more
pub record Releases (us : List Uid) (old new : Uid → Option Holding) : Type 0 where
  pub gone : (u : Uid) → is_in us u ≡ true → new u ≡ None
  pub others : (u : Uid) → is_in us u ≡ false → new u ≡ old u

-- the shadow of the object is its committed file now
pub record MovesShadow (old new : FileMap) (u : Uid) : Type 0 where
  pub was : IsSome (old (Shadow u))
  pub moved : Renames old new (Shadow u) (Committed u)

-- the two files of the object are as before, or it is in the list, and its shadow is the committed file now
abbrev pub IsMovedOrNot : List Uid → FileMap → FileMap → Uid → Type 0
IsMovedOrNot us old new u = ((new (Shadow u) ≡ old (Shadow u)) × (new (Committed u) ≡ old (Committed u)))
    ⊎ ((is_in us u ≡ true) × IsSome (old (Shadow u)) × (new (Shadow u) ≡ None) × (new (Committed u) ≡ old (Shadow u)))

-- Of some objects of the list the shadow is the committed file now; all other files are as before.
pub record MovesShadows (us : List Uid) (old new : FileMap) : Type 0 where
  pub each : (u : Uid) → IsMovedOrNot us old new u
  pub others : (q : Slot) → ((u : Uid) → (q ≢ Shadow u) × (q ≢ Committed u)) → new q ≡ old q

-- no object of the list has a shadow
abbrev pub HaveNoShadow : List Uid → FileMap → Type 0
HaveNoShadow us file = (u : Uid) → is_in us u ≡ true → file (Shadow u) ≡ None

-- a kind of file that has one state
abbrev pub slot_at : Place → Uid → Slot
slot_at place.Committed u = Committed u
slot_at place.Shadow u = Shadow u

-- Some files of this kind, of such objects, are gone or have other states; all other files but Tmp are as before.
abbrev pub ChangesStates : Place → (Uid → Type 0) → FileMap → FileMap → Type 0
ChangesStates kind P old new =
    (q : Slot) → q ≢ Tmp → (new q ≡ old q) ⊎ ((u : Uid) × P u × (q ≡ slot_at kind u) × IfSome (new q) (IsStateOf u))

-- of objects of the list some files of this kind are gone or have other states; all others but Tmp are as before
abbrev pub PutsStates : Place → List Uid → FileMap → FileMap → Type 0
PutsStates kind us old new = ChangesStates kind (λ u. is_in us u ≡ true) old new

-- each state has its file
abbrev pub HasStates : Place → List ObjectState → FileMap → Type 0
HasStates kind states file = AllByRecursion (λ s. file (slot_at kind s.uid) ≡ Some (state_bytes s)) states

-- The first few states have their files; all other files but Tmp are as before.
pub record PutsFirst (kind : Place) (states : List ObjectState) (old new : FileMap) : Type 0 where
  pub count : ℕ
  pub puts : PutsStates kind (map uid_of (take count states)) old new
  pub there : HasStates kind (take count states) new

-- the action's file is there; all other files but Tmp are as before
pub record PutsFile (role : Role) (act : Uid) (us : List Uid) (old new : FileMap) : Type 0 where
  pub here : new (Prepared role act) ≡ Some (prepared_bytes act us)
  pub form : IsPreparedOf act (prepared_bytes act us)
  pub fit : AllByRecursion UidFits us
  pub others : (q : Slot) → q ≢ Prepared role act → q ≢ Tmp → new q ≡ old q

-- the states have their shadows, and the action its file
pub record PutsAll (role : Role) (act : Uid) (states : List ObjectState) (old new : FileMap) : Type 0 where
  pub between : FileMap
  pub shadows : PutsStates place.Shadow (map uid_of states) old between
  pub there : HasStates place.Shadow states between
  pub file : PutsFile role act (map uid_of states) between new

-- the objects of the list are held by the action, with their shadows or without
pub record HoldsAll (us : List Uid) (act : Uid) (shadow : Bool) (old new : Uid → Option Holding) : Type 0 where
  pub here : (u : Uid) → is_in us u ≡ true → new u ≡ Some (record { act = act; shadow = shadow })
  pub others : (u : Uid) → is_in us u ≡ false → new u ≡ old u

-- the first state is below the second, or is as high with other bytes
abbrev pub IsBelow : ObjectState → ObjectState → Type 0
IsBelow s t = (s.version < t.version) ⊎ ((s.version ≡ t.version) × (state_bytes s ≢ state_bytes t))

-- the answer by the committed state
abbrev pub HeldRefuses : Uid → ObjectState → ObjectState → Option Prep → Type 0
HeldRefuses act s t None = MayFollow act s t
HeldRefuses act s t (Some prep.Prepared) = ⊥
HeldRefuses act s t (Some (prep.Already uid by)) = (uid ≡ s.uid) × (by ≡ act) × (t.writer ≡ act)
HeldRefuses act s t (Some (prep.Old uid v)) = (uid ≡ s.uid) × (t.writer ≢ act) × (v ≡ t.version) × IsBelow s t
HeldRefuses act s t (Some (prep.InDoubt uid holder)) = ⊥
