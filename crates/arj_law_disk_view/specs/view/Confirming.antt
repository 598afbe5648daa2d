-- What naming does at a Confirm, in the machine's terms: the list that a top leaves, and the entry that it has prepared.
use Rattle.std.specs.Prelude.{⊤, ◌≡◌, ◌⊎◌, ◌<◌, ℕ, Bool, true, false, not, ◌&&◌, ◌||◌, ◌==◌, List, [], ◌∷◌, filter, None, bytes_eq, is_some}
use Rattle.std.specs.List.{list_any}
use Rattle.arj_protocol.specs.Words.{Uid, Path, ObjectState, Entry, entry, is_listed, is_on}
use Rattle.arj_protocol.specs.Ask.{top_of}
use Rattle.arj_protocol.specs.Confirm.{Grants, Marks, marked, stores_after, has_all, checked, confirms, lock_all, wanted}
use Rattle.arj_protocol.specs.Effect.{Pair, is_prepared, pair_prepared}
use Rattle.arj_protocol.specs.Laws.{names_grant}
use Rattle.arj_protocol.specs.Naming.{Naming, is_over}
use Rattle.arj_protocol.specs.Order.{uid_number}
use Rattle.arj_law_disk.specs.machine.Effects.{World, Effect, Agree, Pass, Enter, Locked, IsClear, MaySend, changed, entry_hold, new_list}
use Rattle.arj_law_disk.specs.machine.Messages as mail
use Rattle.arj_law_disk.specs.machine.State.{State, Plan, Packed, decided, undecided, target, list_after}
use Rattle.arj_law_disk.specs.machine.Words.{In}
use Rattle.arj_law_disk_view.specs.view.Pairs.{IsOf, HasNone, AreOne, packed_entry}
use Rattle.arj_law_disk_view.specs.view.Plans.{AreDistinct}
use Rattle.arj_law_disk_view.specs.view.Entries.{SeesEntry}

-- What a Confirm says of an object: it marks the targets that didn't say Yes, includes the stores of the plan's includes that
-- did, and has a grant of each object of which a state was sent somewhere.
pub record SaysMarks (x : ℕ) (p : Plan) (got : ℕ → Bool) (grants : Grants) (excluded included : Marks) : Type 0 where
  pub marks : (s : ℕ) → list_any (λ (m : ℕ × ℕ). (m.0 == x) && (m.1 == s)) excluded ≡ (target p s && not (got s))
  pub joins : marked x included ≡ filter got p.joins
  pub distinct : AreDistinct (marked x included)
  pub granted : (s : ℕ) → target p s ≡ true → names_grant x grants ≡ true

-- the stores that the Confirm includes aren't listed
abbrev pub AreNew : List ℕ → List ℕ → Type 0
AreNew [] stores = ⊤
AreNew (s ∷ ss) stores = (is_listed s stores ≡ false) × AreNew ss stores

-- the list that naming makes is the machine's
abbrev pub ListsAreSeen : Type 0
ListsAreSeen = (x : ℕ) (p : Plan) (got : ℕ → Bool) (grants : Grants) (excluded included : Marks) (e : Entry) →
    SaysMarks x p got grants excluded included
    → AreNew (marked x included) e.stores → stores_after x excluded included e ≡ list_after p got e.stores

-- the entry that is held isn't of the last version
abbrev pub FitsVersion : Packed → Type 0
FitsVersion e = e.version < 18446744073709551615

-- ---- the three kinds of confirmation keep the entry seen

-- with its new entry prepared
abbrev pub EnteringKeeps : Type 0
EnteringKeeps = (x : ℕ) (d : Pair) (S : State) (top : Uid) (states : List ObjectState) (st : ObjectState) (s : ℕ) → SeesEntry x d S →
    is_prepared top d ≡ false → S.entry_pend ≡ None → S.begun (uid_number top) ≡ true
    → target (S.plan (uid_number top)) s ≡ true → IsOf (entry x) states st →
    AreOne packed_entry (entry x) states (entry_hold S (uid_number top)).new
    → SeesEntry x (pair_prepared top states d) (changed S (Enter (uid_number top)))

-- with entries of other objects prepared, at the same work of the disk
abbrev pub AgreeingKeeps : Type 0
AgreeingKeeps = (x : ℕ) (d : Pair) (S : State) (top : Uid) (states : List ObjectState) → SeesEntry x d S → is_prepared top d ≡ false →
    S.begun (uid_number top) ≡ true → HasNone (entry x) states
    → SeesEntry x (pair_prepared top states d) (changed S (Agree (uid_number top)))

-- a top that has no part in the entry passes
abbrev pub PassingKeeps : Type 0
PassingKeeps = (x : ℕ) (d : Pair) (S : State) (top : Uid) (states : List ObjectState) → SeesEntry x d S → is_prepared top d ≡ false →
    S.begun (uid_number top) ≡ true → HasNone (entry x) states
    → SeesEntry x (pair_prepared top states d) (changed S (Pass (uid_number top)))

-- with no entry to prepare
abbrev pub QuietConfirmsKeep : Type 0
QuietConfirmsKeep = (x : ℕ) (d : Pair) (S : State) (t : ℕ) → SeesEntry x d S →
    SeesEntry x d (changed S (Agree t)) × SeesEntry x d (changed S (Pass t))

-- what is prepared may be answered Yes again
abbrev pub PreparedIsTaken : Type 0
PreparedIsTaken = (x : ℕ) (d : Pair) (W : World) (top : Uid) → SeesEntry x d W.disk → is_prepared top d ≡ true →
    In (mail.Confirm (uid_number top)) W.sent → MaySend W (mail.Confirmed (uid_number top))

-- What a confirmation counts on of naming's locks, where it is new: no store that the top has marked stands in another top's
-- prepared entry; where the top wrote or changes the list, it is the only one that may change the object now; and it wasn't
-- confirmed or decided before.
pub record IsBooked (S : State) (t : ℕ) : Type 0 where
  pub clear : IsClear S t
  pub locked : (is_some (S.plan t).writes ≡ true) ⊎ (bytes_eq (new_list S t) S.entry.content ≡ false) → undecided S t ≡ true → Locked S t
  pub undone : bytes_eq (new_list S t) S.entry.content ≡ false → decided S t ≡ false
  pub unconfirmed : undecided S t ≡ true → S.conf t ≡ false

-- naming takes a Confirm that it hasn't answered Yes in this incarnation, and finds nothing to refuse
pub record IsNewConfirm (p : Path) (grants : Grants) (excluded included : Marks) (d : Pair) (n : Naming) : Type 0 where
  pub untold : is_over p n ≡ false
  pub named : has_all grants n ≡ true
  pub unconfirmed : is_on n.confirmed (top_of p) ≡ false
  pub unprepared : is_prepared (top_of p) d ≡ false
  pub free : checked p grants excluded included d n ≡ None

-- the three kinds of confirmation
abbrev pub IsConfirmation : ℕ → Effect → Type 0
IsConfirmation t e = (e ≡ Agree t) ⊎ (e ≡ Pass t) ⊎ (e ≡ Enter t)

-- naming's part with the exclude locks of a new Confirm
abbrev pub with_locks : Path → Grants → Marks → Pair → Naming → Naming
with_locks p grants excluded d n = let l = lock_all (wanted (top_of p) grants excluded d) p n in l.part

-- Naming's part where the machine confirms nothing: it refused, after it has taken the exclude locks or before, or it answered
-- Yes again.
abbrev pub IsUnconfirmed : Path → Grants → Marks → Marks → Pair → Naming → Naming → Type 0
IsUnconfirmed p grants excluded included d n o =
    (o ≡ n) ⊎ ((o ≡ with_locks p grants excluded d n) × IsNewConfirm p grants excluded included d n)
    ⊎ ((o ≡ confirms (top_of p) n) × ((is_on n.confirmed (top_of p) || is_prepared (top_of p) d) ≡ true) × (is_over p n ≡ false))
