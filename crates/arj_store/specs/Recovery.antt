-- What a recovery of the shadow store reads and removes, name by name, and what it finds for the naming service.
use Rattle.std.specs.Prelude.{◌≡◌, ◌≢◌, ◌⊎◌, ◌↔◌, true, false, List, [], ◌∷◌, map, flat_map, Contains, Option, Some, None, IsSome, is_some}
use Rattle.std.specs.Prelude.{option_map, MatchOption, if◌then◌else◌}
use Rattle.std.specs.List.{AllByRecursion}
use Rattle.std.specs.List.Sorted.{IsStrictlySortedBy}
use Rattle.arj_base.specs.State.{state_bytes, StateInForm}
use Rattle.arj_base.specs.declared.state.ObjectState.{ObjectState}
use Rattle.arj_base.specs.declared.uid.Uid.{Uid}
use Rattle.arj_disk.specs.declared.slot.Role.{Role}
use Rattle.arj_disk.specs.declared.slot.Role.TheVariants.{Names}
use Rattle.arj_disk.specs.declared.slot.Slot.{Slot}
use Rattle.arj_disk.specs.declared.slot.Slot.TheVariants.{Committed, Shadow, Prepared}
use Rattle.arj_disk.specs.Disk.{Removes}
use Rattle.arj_disk.specs.FileMap.{FileMap}
use Rattle.arj_disk.specs.Says.{role_of, role_eq}
use Rattle.arj_store.specs.Says.{held}
use Rattle.arj_store.specs.declared.memory.Holding.{Holding}
use Rattle.arj_store.specs.declared.prepare.Place.{Place}
use Rattle.arj_store.specs.declared.prepare.Place.TheVariants as place
use Rattle.arj_store.specs.Pair.{uid_order}
use Rattle.arj_store.specs.Shadow.{is_in, is_named, has_shadow, objects_of, slot_at, HoldsAll, ChangesStates}
use Rattle.arj_store.specs.Table.{Sets, SameTable}

-- the action is kept with the objects of its file, if that is there
abbrev pub ReadsAction : Role → FileMap → Uid → (Uid → Option (List Uid)) → (Uid → Option Holding) → (Uid → Option (List Uid)) →
    (Uid → Option Holding) → Type 0
ReadsAction role file act actions holdings actions' holdings' =
    MatchOption (objects_of file role act) (SameTable actions actions' × SameTable holdings holdings') (λ us. Sets actions actions' act (Some us) × HoldsAll us act false holdings holdings')

-- so is the action whose file this is, if it is one of the role
abbrev pub ReadsSlot : Role → FileMap → Slot → (Uid → Option (List Uid)) → (Uid → Option Holding) → (Uid → Option (List Uid)) →
    (Uid → Option Holding) → Type 0
ReadsSlot role file q actions holdings actions' holdings' =
    ((act : Uid) × (q ≡ Prepared role act) × ReadsAction role file act actions holdings actions' holdings')
    ⊎ (((act : Uid) → q ≢ Prepared role act) × SameTable actions actions' × SameTable holdings holdings')

-- of these names the prepared actions of the role are kept, and no others
pub record ReadsActions (seen : List Slot) (role : Role) (file : FileMap) (actions : Uid → Option (List Uid)) (holdings : Uid →
    Option Holding) : Type 0 where
  pub sound : (act : Uid) (us : List Uid) → actions act ≡ Some us → objects_of file role act ≡ Some us
  pub complete : (act : Uid) → Contains seen (Prepared role act) → actions act ≡ objects_of file role act
  pub held : (u : Uid) →
      MatchOption (holdings u) ((act : Uid) →
      is_named (actions act) u ≡ false) (λ h. (is_named (actions h.act) u ≡ true) × (h.shadow ≡ false))

-- the shadow of an object is kept where an action holds the object, and else is removed
abbrev pub SortsShadow : Uid → FileMap → (Uid → Option Holding) → FileMap → (Uid → Option Holding) → Type 0
SortsShadow u file holdings file' holdings' =
    MatchOption (holdings u) (Sets holdings holdings' u None × Removes file file' (Shadow u)) (λ h. Sets holdings holdings' u (Some (record { act = h.act; shadow = true })) × (file' ≡ file))

-- the shadow of this name is sorted, if its object is of the role; for any other name nothing changes
abbrev pub SortsSlot : Role → Slot → FileMap → (Uid → Option Holding) → FileMap → (Uid → Option Holding) → Type 0
SortsSlot role q file holdings file' holdings' =
    ((u : Uid) × (q ≡ Shadow u) × (role_of u ≡ role) × SortsShadow u file holdings file' holdings')
    ⊎ (((u : Uid) → q ≡ Shadow u → role_of u ≢ role) × SameTable holdings holdings' × (file' ≡ file))

-- at most one shadow goes, of an object of the role that no action holds
abbrev pub DropsShadow : Role → (Uid → Option Holding) → FileMap → FileMap → Type 0
DropsShadow role holdings old new = (new ≡ old) ⊎ ((u : Uid) × (role_of u ≡ role) × (holdings u ≡ None) × Removes old new (Shadow u))

-- the object is of the role, and no action holds it
abbrev pub IsUnheld : Role → (Uid → Option Holding) → Uid → Type 0
IsUnheld role holdings u = (role_of u ≡ role) × (holdings u ≡ None)

-- of all files but Tmp only shadows of such objects may have changed: they are gone, or have other states
abbrev pub DropsShadows : Role → (Uid → Option Holding) → FileMap → FileMap → Type 0
DropsShadows role holdings old new = ChangesStates place.Shadow (IsUnheld role holdings) old new

-- the action that holds an object, if one does
abbrev pub act_of : Option Holding → Option Uid
act_of None = None
act_of (Some h) = Some h.act

-- of these names the shadows are sorted
pub record SortsShadows (seen : List Slot) (role : Role) (old : FileMap) (before : Uid → Option Holding) (new : FileMap) (after : Uid →
    Option Holding) : Type 0 where
  pub files : DropsShadows role before old new
  pub fewer : (u : Uid) → IsSome (new (Shadow u)) → IsSome (old (Shadow u))
  pub acts : (u : Uid) → act_of (after u) ≡ act_of (before u)
  pub flags : (u : Uid) → role_of u ≡ role → Contains seen (Shadow u) → is_some (new (Shadow u)) ≡ has_shadow (after u)
  pub only : (u : Uid) → role_of u ≡ role → has_shadow (after u) ≡ true → IsSome (new (Shadow u))

-- ---- what is found for the naming service

-- the object's file of this kind has this state
pub record IsStateAt (kind : Place) (file : FileMap) (u : Uid) (s : ObjectState) : Type 0 where
  pub bytes : file (slot_at kind u) ≡ Some (state_bytes s)
  pub in_form : StateInForm s
  pub own : s.uid ≡ u

-- the objects of the role that have a committed state are those whose committed files are among the names
abbrev pub ListsHeld : Role → FileMap → List Slot → Type 0
ListsHeld role file names = (u : Uid) → IsSome (held file role u) ↔ ((role_of u ≡ role) × Contains names (Committed u))

-- the entry whose committed file this is, and all of these names
abbrev pub entry_at : Slot → List Uid
entry_at (Committed u) = if role_eq (role_of u) Names then u ∷ [] else []
entry_at q = []

-- the entries whose committed files are among these names, in the order of the names
abbrev pub entries_in : List Slot → List Uid
entries_in names = flat_map entry_at names

-- it is an entry, and has a file of this kind
abbrev pub HasEntry : Place → FileMap → Uid → Type 0
HasEntry kind file u = (role_of u ≡ Names) × IsSome (file (slot_at kind u))

-- each entry that has a file of this kind has here the file's state, and no other has one
abbrev pub HasRead : Place → FileMap → (Uid → Option ObjectState) → Type 0
HasRead kind file states =
    (u : Uid) → MatchOption (states u) (HasEntry kind file u → ⊥) (λ s. (role_of u ≡ Names) × IsStateAt kind file u s)

-- each of these has here the state of its file of this kind, and no other has one
abbrev pub HasReadOf : Place → FileMap → List Uid → (Uid → Option ObjectState) → Type 0
HasReadOf kind file us states = (u : Uid) → MatchOption (states u) (is_in us u ≡ false) (λ s. (is_in us u ≡ true) × IsStateAt kind file u s)

-- the state of the shadow, or where there is none the committed one
abbrev pub first_state : Option ObjectState → Option ObjectState → Option ObjectState
first_state (Some s) other = Some s
first_state None other = other

-- the object's newest state: that of its shadow, or where there is none the committed one
abbrev pub newest : (Uid → Option ObjectState) → (Uid → Option ObjectState) → Uid → Option ObjectState
newest shadows committed u = first_state (shadows u) (committed u)

-- the action is paired with the states of its objects, in their order
abbrev pub HasStatesOf : (Uid → Option (List Uid)) → (Uid → Option ObjectState) → Uid × List ObjectState → Type 0
HasStatesOf actions state p = option_map (map state) (actions p.0) ≡ Some (map Some p.1)

-- each action with the states of its objects, by Uid
pub record ListsPrepared (actions : Uid → Option (List Uid)) (state : Uid →
    Option ObjectState) (prepared : List (Uid × List ObjectState)) : Type 0 where
  pub increasing : IsStrictlySortedBy uid_order (map (λ p. p.0) prepared)
  pub every : (a : Uid) → IsSome (actions a) → Contains (map (λ p. p.0) prepared) a
  pub each : AllByRecursion (HasStatesOf actions state) prepared
