-- The stores seen as the disk machine has them: what each holds and has prepared of one object, and what messages to a
-- store claim.
use Rattle.std.specs.Prelude.{◌≡◌, ◌⊎◌, ℕ, ◌==◌, Bool, true, false, List, Some, None}
use Rattle.arj_protocol.specs.Words.{Uid, ObjectState, object}
use Rattle.arj_protocol.specs.Effect.{Pair, Ready, held_at, holder_of, is_prepared, prepare_answer, pair_prepared, pair_committed}
use Rattle.arj_protocol.specs.Effect.{pair_aborted, pair_in_part}
use Rattle.arj_protocol.specs.Order.{at_uid, uid_number}
use Rattle.arj_law_disk.specs.machine.Core.{Bare}
use Rattle.arj_law_disk.specs.machine.Effects.{World, Effect, Follows, MaySend, run}
use Rattle.arj_law_disk.specs.machine.Guards.{ArePlain}
use Rattle.arj_law_disk.specs.machine.Messages as mail
use Rattle.arj_law_disk.specs.machine.State.{State, target, state_for, naming}
use Rattle.arj_law_disk.specs.machine.Words.{In}
use Rattle.arj_law_disk_view.specs.view.Pairs.{IsOf, SeesPair, packed}

-- What an action sends to a store is what its plan says: its commit has begun, and of the object it sends the plan's state,
-- exactly where the store is a target of the plan.
pub record IsPlanned (x : ℕ) (S : State) (a : Uid) (s : ℕ) (states : List ObjectState) : Type 0 where
  pub begun : S.begun (uid_number a) ≡ true
  pub named : (st : ObjectState) → IsOf (object x) states st →
      (target (S.plan (uid_number a)) s ≡ true) × (packed st ≡ state_for (S.plan (uid_number a)))
  pub there : target (S.plan (uid_number a)) s ≡ true → (st : ObjectState) × IsOf (object x) states st

-- a store: its place of the object, and what each action has prepared there, whatever object it is of
pub record SeesStore (x s : ℕ) (d : Pair) (S : State) : Type 0 where
  pub pair : SeesPair packed (object x) d (S.held s) (S.pend s)
  pub planned : (a : Uid) (states : List ObjectState) → at_uid a d.pend ≡ Some states → IsPlanned x S a s states

-- nothing but this store's part of the object is changed
pub record OnlyStore (s : ℕ) (W V : World) : Type 0 where
  pub rest : V.disk ≡ record W.disk { held = V.disk.held; pend = V.disk.pend; went = V.disk.went }
  pub sent : V.sent ≡ W.sent
  pub held : (r : ℕ) → (r == s) ≡ false → V.disk.held r ≡ W.disk.held r
  pub pend : (r : ℕ) → (r == s) ≡ false → V.disk.pend r ≡ W.disk.pend r

-- The machine goes to a state in which the store is seen with this pair. Naming's half has no part in it.
pub record StoreGoes (x s : ℕ) (d : Pair) (W : World) : Type 0 where
  pub effects : List Effect
  pub allowed : Follows W effects
  pub plain : ArePlain effects
  pub there : SeesStore x s d (run W effects).disk
  pub only : OnlyStore s W (run W effects)

-- a Prepare that was sent to the store: its states are the plan's, and the machine has sent it where the object is in it
pub record ClaimsPrepare (x : ℕ) (W : World) (a : Uid) (s : ℕ) (states : List ObjectState) : Type 0 where
  pub planned : IsPlanned x W.disk a s states
  pub asked : target (W.disk.plan (uid_number a)) s ≡ true → In (mail.Prepare (uid_number a) s) W.sent

-- A commit that was told to the store: the top is decided, or its commit was one without a record.
abbrev pub ClaimsCommit : World → Uid → ℕ → Type 0
ClaimsCommit W a s = In (mail.ToldCommit (uid_number a) s) W.sent ⊎ (W.disk.bare (uid_number a) ≡ true)

-- An abort that was told to a node: the machine was told it, or the commit was one without a record, and the node isn't
-- naming. Such a commit sent no state to a store.
abbrev pub ClaimsAbort : World → Uid → ℕ → Type 0
ClaimsAbort W a m = In (mail.ToldAbort (uid_number a) m) W.sent ⊎ ((W.disk.bare (uid_number a) ≡ true) × (m ≡ naming → ⊥))

-- ---- what holds of a store's work

-- a store that is ready for what was sent to it prepares it
abbrev pub StoresPrepare : Type 0
StoresPrepare = (x s : ℕ) (d : Pair) (W : World) (a : Uid) (states : List ObjectState) → SeesStore x s d W.disk →
    ClaimsPrepare x W a s states
    → is_prepared a d ≡ false → prepare_answer a states d ≡ Ready → StoreGoes x s (pair_prepared a states d) W

-- what is prepared may be answered Yes, at once and again
abbrev pub StoresAnswer : Type 0
StoresAnswer = (x s : ℕ) (d : Pair) (W : World) (a : Uid) (states : List ObjectState) → SeesStore x s d W.disk →
    at_uid a d.pend ≡ Some states
    → target (W.disk.plan (uid_number a)) s ≡ true → MaySend W (mail.Prepared (uid_number a) s)

-- an action that is told to commit moves what it has prepared to its place, and then finishes; stopped in part it has moved it
-- or hasn't
abbrev pub StoresCommit : Type 0
StoresCommit = (x s : ℕ) (d : Pair) (W : World) (a : Uid) → Bare W.disk → SeesStore x s d W.disk → ClaimsCommit W a s →
    is_prepared a d ≡ true → StoreGoes x s (pair_committed a d) W

-- stopped in part, an action's state has moved or hasn't
abbrev pub StoresStopInPart : Type 0
StoresStopInPart = (x s : ℕ) (d : Pair) (W : World) (a : Uid) (which : Uid → Bool) → Bare W.disk → SeesStore x s d W.disk →
    ClaimsCommit W a s → is_prepared a d ≡ true → StoreGoes x s (pair_in_part which a d) W

-- an action that is told to abort drops what it has prepared
abbrev pub StoresAbort : Type 0
StoresAbort = (x s : ℕ) (d : Pair) (W : World) (a : Uid) → Bare W.disk → SeesStore x s d W.disk → ClaimsAbort W a s →
    is_prepared a d ≡ true → StoreGoes x s (pair_aborted a d) W

-- what a store answers to a Load is what the machine's place holds, with nothing prepared there
abbrev pub StoresLoad : Type 0
StoresLoad = (x s : ℕ) (d : Pair) (S : State) (st : ObjectState) → SeesStore x s d S → holder_of (object x) d ≡ None →
    held_at (object x) d ≡ Some st → (S.pend s ≡ None) × (S.held s ≡ Some (packed st))

-- the other stores are seen as they were
abbrev pub OtherStoresStay : Type 0
OtherStoresStay = (x s r : ℕ) (d : Pair) (W V : World) → OnlyStore s W V → (r == s) ≡ false → SeesStore x r d W.disk →
    SeesStore x r d V.disk
