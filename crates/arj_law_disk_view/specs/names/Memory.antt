-- Naming's memory of one object, as the disk machine has it.
use Rattle.std.specs.Prelude.{◌≡◌, ◌⊎◌, ℕ, Bool, true, false, List, [], ◌∷◌, Option, Some, option_map, Contains}
use Rattle.arj_base.specs.Rows.{mode_of}
use Rattle.arj_lock.specs.Exclusion.{IsOneEach}
use Rattle.arj_protocol.specs.Words.{Uid, Path, Row, entry, is_on, last_uid, mode_code, uid_eq}
use Rattle.arj_protocol.specs.Ask.{top_of, top_path}
use Rattle.arj_protocol.specs.Named.{Named, Live, Made}
use Rattle.arj_protocol.specs.Naming.{Naming}
use Rattle.arj_protocol.specs.Order.{at_number, at_uid, uid_number}
use Rattle.arj_law_disk.specs.machine.Guards.{IsUntold, Runs, end_of}
use Rattle.arj_law_disk.specs.machine.Names.{Names, Office, Act}
use Rattle.arj_law_disk.specs.machine.State.{State}
use Rattle.arj_law_disk_view.specs.view.Pairs.{AreSorted}
use Rattle.arj_law_disk_view.specs.view.Sees.{Kinds, IsNested}

-- an action's lock on the entry, as a number
abbrev pub lock_in : ℕ → Uid → List Row → Option ℕ
lock_in x u rows = option_map mode_code (mode_of (entry x) u rows)

-- the action alone, which is its own root or had the lock given back by a restart
abbrev pub IsAlone : (ℕ → ℕ) → (ℕ → Bool) → List Uid → Type 0
IsAlone root given us =
    (us ≡ last_uid us ∷ []) × ((root (uid_number (last_uid us)) ≡ uid_number (last_uid us)) ⊎ (given (uid_number (last_uid us)) ≡ true))

-- the action behind its root, with a lock that it was granted
abbrev pub IsBehind : (ℕ → ℕ) → (ℕ → Bool) → List Uid → Type 0
IsBehind root given us = (w : Uid) × (us ≡ w ∷ last_uid us ∷ []) × (root (uid_number (last_uid us)) ≡ uid_number w)
    × (uid_eq w (last_uid us) ≡ false) × (given (uid_number (last_uid us)) ≡ false)

-- The locks on the object's entry: each is the machine's, each of the machine's is one, and holders stand as they asked.
pub record SeesRows (x : ℕ) (tops : Kinds) (rows : List Row) (root : ℕ → ℕ) (row : ℕ → Option ℕ) (given : ℕ → Bool) : Type 0 where
  pub one : IsOneEach rows
  pub objects : (r : Row) → Contains rows r → r.object ≡ entry x
  pub holders : (r : Row) → Contains rows r → IsAlone root given r.holder ⊎ IsBehind root given r.holder
  pub kinds : (r : Row) → Contains rows r → IsNested tops (uid_number (last_uid r.holder)) → ⊥
  pub row_is : (u : Uid) → row (uid_number u) ≡ lock_in x u rows
  pub named : (h m : ℕ) → row h ≡ Some m → (u : Uid) × (uid_number u ≡ h)

-- One object: its locks; who asked by an include is known until it or its root is told of; a binding that isn't recorded yet has
-- the write lock so long; and where a binding is live the machine has one.
pub record SeesNamed (x : ℕ) (tops : Kinds) (o : Named) (S : State) (N : Names) : Type 0 where
  pub rows : SeesRows x tops o.rows S.root N.row N.given
  pub asked : (u : Uid) → (IsNested tops (uid_number u) → ⊥) → IsUntold S N (uid_number u) → is_on o.asked u ≡ N.asked (uid_number u)
  pub sorted : AreSorted o.made
  pub made : (u : Uid) (m : Made) → at_uid u o.made ≡ Some m → m.recorded ≡ false → IsUntold S N (uid_number u) →
      N.row (uid_number u) ≡ Some 2
  pub live : (l : Live) → o.live ≡ Some l → N.live ≡ true

-- Naming's incarnation; the actions that it was told of, and those that it confirmed and wasn't told of, but for nested ones; and
-- the object where it has it.
pub record SeesMemory (x : ℕ) (tops : Kinds) (inc : ℕ) (told confirmed : List Uid) (found : Option Named) (S : State) (N : Names) :
    Type 0 where
  pub inc_is : N.inc ≡ inc
  pub told_is : (u : Uid) → (IsNested tops (uid_number u) → ⊥) → is_on told u ≡ N.told (uid_number u)
  pub confirmed_is : (u : Uid) → (IsNested tops (uid_number u) → ⊥) → N.told (uid_number u) ≡ false →
      is_on confirmed u ≡ N.confd (uid_number u)
  pub object : (o : Named) → found ≡ Some o → SeesNamed x tops o S N

-- naming's memory of the object is seen
abbrev pub SeesNaming : ℕ → Kinds → Naming → State → Names → Type 0
SeesNaming x tops n S N = SeesMemory x tops n.inc n.told n.confirmed (at_number x n.objects) S N

-- A request is of a top: of one that is its own root, or behind its root, which is a serializing action.
pub record IsOfTop (tops : Kinds) (S : State) (p : Path) : Type 0 where
  pub top : tops.is_top (uid_number (top_of p)) ≡ true
  pub plain : S.serial (uid_number (top_of p)) ≡ false
  pub path : ((top_path p ≡ top_of p ∷ []) × (S.root (uid_number (top_of p)) ≡ uid_number (top_of p)))
      ⊎ ((w : Uid) × (top_path p ≡ w ∷ top_of p ∷ []) × (S.root (uid_number (top_of p)) ≡ uid_number w) × (uid_eq w (top_of p) ≡ false)
      × (tops.is_serial (uid_number w) ≡ true))

-- The machine goes by acts that may be done, to an office of which this holds.
pub record NamesGo (A : Office) (Q : Office → Type 0) : Type 0 where
  pub acts : List Act
  pub may : Runs A acts
  pub there : Q (end_of A acts)
