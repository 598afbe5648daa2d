-- The entries at the naming node seen as the disk machine has them.
use Rattle.std.specs.Prelude.{◌≡◌, ◌⊎◌, ℕ, Bool, true, List, Some}
use Rattle.arj_protocol.specs.Words.{Uid, ObjectState, entry}
use Rattle.arj_protocol.specs.Effect.{Pair, is_prepared, pair_committed, pair_aborted, pair_in_part}
use Rattle.arj_protocol.specs.Order.{at_uid, uid_number}
use Rattle.arj_law_disk.specs.machine.Core.{Bare}
use Rattle.arj_law_disk.specs.machine.Effects.{World, Effect, Follows, run}
use Rattle.arj_law_disk.specs.machine.Guards.{ArePlain}
use Rattle.arj_law_disk.specs.machine.Messages as mail
use Rattle.arj_law_disk.specs.machine.State.{State, naming, undecided, target}
use Rattle.arj_law_disk.specs.machine.Words.{In}
use Rattle.arj_law_disk_view.specs.view.Pairs.{IsOf, SeesPair, packed_entry}
use Rattle.arj_law_disk_view.specs.view.Stores.{SeesStore, OnlyStore, ClaimsCommit}

-- The naming node's pair: the object's entry is its place; whoever has an entry prepared, of whatever object, is confirmed
-- while its outcome is open; and whoever has the object's prepared sent its state to a store.
pub record SeesEntry (x : ℕ) (d : Pair) (S : State) : Type 0 where
  pub pair : SeesPair packed_entry (entry x) d (Some S.entry) S.entry_pend
  pub begun : (a : Uid) (states : List ObjectState) → at_uid a d.pend ≡ Some states → S.begun (uid_number a) ≡ true
  pub taken : (a : Uid) (states : List ObjectState) → at_uid a d.pend ≡ Some states → undecided S (uid_number a) ≡ true →
      (S.conf (uid_number a) ≡ true) ⊎ (S.light (uid_number a) ≡ true)
  pub aimed : (a : Uid) (states : List ObjectState) (st : ObjectState) → at_uid a d.pend ≡ Some states → IsOf (entry x) states st →
      (s : ℕ) × (target (S.plan (uid_number a)) s ≡ true)

-- nothing but the entry is changed
pub record OnlyEntry (W V : World) : Type 0 where
  pub rest : V.disk ≡ record W.disk { entry = V.disk.entry; entry_pend = V.disk.entry_pend }
  pub sent : V.sent ≡ W.sent

-- The machine goes to a state in which the entry is seen with this pair. Naming's memory has no part in it.
pub record EntryGoes (x : ℕ) (d : Pair) (W : World) : Type 0 where
  pub effects : List Effect
  pub allowed : Follows W effects
  pub plain : ArePlain effects
  pub there : SeesEntry x d (run W effects).disk
  pub only : OnlyEntry W (run W effects)

-- ---- what holds of entries that end

-- an action that is told to commit moves its entry to its place, and then finishes; stopped in part it has moved it or hasn't
abbrev pub EntriesCommit : Type 0
EntriesCommit = (x : ℕ) (d : Pair) (W : World) (a : Uid) → Bare W.disk → SeesEntry x d W.disk → ClaimsCommit W a naming →
    is_prepared a d ≡ true → EntryGoes x (pair_committed a d) W

-- stopped in part, an action's entry has moved or hasn't
abbrev pub EntriesStopInPart : Type 0
EntriesStopInPart = (x : ℕ) (d : Pair) (W : World) (a : Uid) (which : Uid → Bool) → Bare W.disk → SeesEntry x d W.disk →
    ClaimsCommit W a naming → is_prepared a d ≡ true → EntryGoes x (pair_in_part which a d) W

-- an action that is told to abort drops its entry
abbrev pub EntriesAbort : Type 0
EntriesAbort = (x : ℕ) (d : Pair) (W : World) (a : Uid) → SeesEntry x d W.disk → In (mail.ToldAbort (uid_number a) naming) W.sent →
    is_prepared a d ≡ true → EntryGoes x (pair_aborted a d) W

-- with the end of a serializing action the entries of its constituents go
abbrev pub EntriesForget : Type 0
EntriesForget = (x : ℕ) (d : Pair) (W : World) (a : Uid) (r : ℕ) → SeesEntry x d W.disk → In (mail.ToldSerial r naming) W.sent →
    W.disk.root (uid_number a) ≡ r → EntryGoes x (pair_aborted a d) W

-- the stores are seen as they were, and so is the entry under a store's work
abbrev pub StoresStayByEntry : Type 0
StoresStayByEntry = (x s : ℕ) (d : Pair) (W V : World) → OnlyEntry W V → SeesStore x s d W.disk → SeesStore x s d V.disk

-- the entry is seen as it was
abbrev pub EntryStaysByStore : Type 0
EntryStaysByStore = (x s : ℕ) (d : Pair) (W V : World) → OnlyStore s W V → SeesEntry x d W.disk → SeesEntry x d V.disk
