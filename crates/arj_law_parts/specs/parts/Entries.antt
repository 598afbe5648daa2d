-- Naming with its pair of entries, as both stay whatever comes.
use Rattle.std.specs.Prelude.{◌≡◌, ◌⊎◌, ◌<◌, ℕ, List, [], ◌∷◌, Bool, true, false, Option, Some, None, Contains, not, ◌||◌, if◌then◌else◌}
use Rattle.std.specs.Prelude.{unwrap_or}
use Rattle.arj_protocol.specs.Words.{Uid, Path, ObjectState, entry, is_on, mode_code, ConfirmedReply, uid_eq}
use Rattle.std.specs.List.{list_any}
use Rattle.arj_protocol.specs.Words.confirmed
use Rattle.arj_protocol.specs.Ask.{top_of}
use Rattle.arj_protocol.specs.Confirm.{Grants, Marks, mode_back, has_all, checked}
use Rattle.arj_protocol.specs.Effect.{Effect, Say, Send, Do, Work, Disk, Pair, worked, held_at, is_prepared}
use Rattle.arj_protocol.specs.Named.{Named}
use Rattle.arj_protocol.specs.Naming.{Naming, listed_entry, is_over}
use Rattle.arj_protocol.specs.Order.{at_number, at_uid}
use Rattle.arj_protocol.specs.Values.{state_entry}
use Rattle.arj_law_parts.specs.parts.Objects.{AreSorted, IsGoodObject}
use Rattle.arj_law_parts.specs.parts.Rows.{HasLock}
use Rattle.arj_law_parts.specs.parts.Tops.{Owners, IsTop}

-- ---- the pair of entries alone

-- a disk of which the entries matter alone
abbrev pub names_disk : Pair → Disk
names_disk d = record { inc = 0; store = record { held = []; pend = [] }; names = d; intents = [] }

-- the pair of entries after what naming does, in order
abbrev pub names_worked : Work → Pair → Pair
names_worked w d = let disk = worked w (names_disk d) in disk.names

-- the pair of entries after these effects, in order
abbrev pub names_after : List Effect → Pair → Pair
names_after [] d = d
names_after (Do w ∷ es) d = names_after es (names_worked w d)
names_after (Say b ∷ es) d = names_after es d
names_after (Send to m ∷ es) d = names_after es d

-- the action has prepared this state of the entry of object x
pub record HasPrepared (action : Uid) (x : ℕ) (s : ObjectState) (d : Pair) : Type 0 where
  pub states : List ObjectState
  pub prepared : at_uid action d.pend ≡ Some states
  pub there : Contains states s
  pub of : s.uid ≡ entry x

-- a prepared state: its action wrote it, and it is of an entry that is held
pub record IsOwnState (action : Uid) (s : ObjectState) (d : Pair) : Type 0 where
  pub writer : s.writer ≡ action
  pub x : ℕ
  pub of : s.uid ≡ entry x
  pub held : ObjectState
  pub there : held_at s.uid d ≡ Some held

-- What holds of the pair alone, also while naming is down: what is prepared is of tops, and no entry is prepared by two
-- actions, or in two states.
pub record IsGoodPair (owner : Owners) (d : Pair) : Type 0 where
  pub sorted : AreSorted d.pend
  pub names : (e : Uid × ObjectState) → Contains d.held e → e.0 ≡ entry e.0.num
  pub tops : (a : Uid) (states : List ObjectState) → at_uid a d.pend ≡ Some states → IsTop owner a
  pub own : (a : Uid) (states : List ObjectState) (s : ObjectState) → at_uid a d.pend ≡ Some states → Contains states s → IsOwnState a s d
  pub alone : (a b : Uid) (x : ℕ) (s t : ObjectState) → HasPrepared a x s d → HasPrepared b x t d → (a ≡ b) × (s ≡ t)

-- ---- with naming

-- the lock that guards a prepared entry: write where it has a store that the committed one lacks, else exclude
abbrev pub guard_of : ℕ → ObjectState → Pair → ℕ
guard_of x s d = mode_code (mode_back (state_entry s).stores (listed_entry x d).stores)

-- the action has this lock on the entry of object x
pub record HasLockOn (action : Uid) (strength x : ℕ) (n : Naming) : Type 0 where
  pub named : Named
  pub there : at_number x n.objects ≡ Some named
  pub lock : HasLock action strength named.rows

-- Some actions wrote committed entries before this incarnation of naming.
abbrev pub Past : Type 0
Past = Uid → Bool

-- What holds of naming with its pair: each object is good; who is confirmed is a top; a prepared action is confirmed and
-- wasn't told of its end, and has the lock that guards each of its entries; and who wrote a committed entry was told, or
-- wrote it before this incarnation.
pub record IsGoodNaming (owner : Owners) (past : Past) (n : Naming) (d : Pair) : Type 0 where
  pub objects : (x : ℕ) (o : Named) → at_number x n.objects ≡ Some o → IsGoodObject owner (is_on n.told) n.inc n.count x o
  pub pair : IsGoodPair owner d
  pub confirmed : (a : Uid) → is_on n.confirmed a ≡ true → IsTop owner a
  pub prepared : (a : Uid) (states : List ObjectState) → at_uid a d.pend ≡ Some states →
      (is_on n.confirmed a ≡ true) × (is_on n.told a ≡ false)
  pub guarded : (a : Uid) (x : ℕ) (s : ObjectState) → HasPrepared a x s d → HasLockOn a (guard_of x s d) x n
  pub writers : (u : Uid) (s : ObjectState) → at_uid u d.held ≡ Some s → (past s.writer ≡ true) ⊎ (is_on n.told s.writer ≡ true)

-- ---- premises

-- A Record of a top comes for an object of which it has nothing prepared, or whose lock it also asked by an include. A
-- coordinator decides after its calls were answered, and each names a binding that was recorded then: the world will show
-- it of every Record that was ever sent.
abbrev pub IsNoted : Path → ℕ → Naming → Pair → Type 0
IsNoted p x n d = (s : ObjectState) (o : Named) → HasPrepared (top_of p) x s d → at_number x n.objects ≡ Some o →
    is_on o.asked (top_of p) ≡ true

-- A Confirm of a top. Each store that it includes it asked for in this incarnation, as the grants say that the checks look
-- at; none of its own entries was committed before this incarnation, since its grants would be older; and versions stay
-- below the last one. The world will show it of every Confirm that was ever sent: each event adds at most one version.
pub record IsConfirmed (past : Past) (p : Path) (included : Marks) (n : Naming) (d : Pair) : Type 0 where
  pub asked : (x store : ℕ) (o : Named) → Contains included (x, store) → at_number x n.objects ≡ Some o → is_on o.asked (top_of p) ≡ true
  pub new : past (top_of p) ≡ false
  pub versions : (u : Uid) (s : ObjectState) → at_uid u d.held ≡ Some s → s.version < 18446744073709551615

-- ---- what a Confirm is answered

-- Nothing where the path is over or naming lacks an object; Yes again to a repeat; else what the checks say, and Yes where
-- all pass. The store is never a reason.
abbrev pub confirm_answer : Path → Grants → Marks → Marks → Pair → Naming → Option ConfirmedReply
confirm_answer p grants excluded included d n =
    if is_over p n || not (has_all grants n) then None
    else Some (if is_on n.confirmed (top_of p)
    || is_prepared (top_of p) d then confirmed.Yes else unwrap_or (checked p grants excluded included d n) confirmed.Yes)

-- the actions that wrote the committed entries
abbrev pub wrote_of : Pair → Past
wrote_of d u = list_any (λ (e : Uid × ObjectState). uid_eq e.1.writer u) d.held
