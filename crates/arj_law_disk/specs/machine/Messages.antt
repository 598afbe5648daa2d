-- The messages of the commit protocol, for one object, and what each means: a claim that no later effect undoes.
use Rattle.std.specs.Prelude.{◌≡◌, ◌⊎◌, ℕ, true, false, Some}
use Rattle.arj_law_disk.specs.machine.State.{State, Hold, naming, is_sealed, is_gone, decided, undecided, lists, target, hold}

-- the messages about one object
pub data Message : Type 0 where
  -- a top's state to a store, and the store's Yes
  Prepare Prepared : ℕ → ℕ → Message
  -- a top's question to the naming node, and the naming node's Yes
  Confirm Confirmed : ℕ → Message
  -- a top's outcome to a node: committed with a record, committed without one, aborted
  ToldCommit ToldBare ToldAbort : ℕ → ℕ → Message
  -- a node's acknowledgement of a commit
  Acked : ℕ → ℕ → Message
  -- the end of a serializing action, to a node
  ToldSerial : ℕ → ℕ → Message

-- a serializing action is over: its coordinator has no more of it, and none of its constituents' outcomes is open
abbrev pub IsOver : State → ℕ → Type 0
IsOver S r = (is_gone (S.stage r) ≡ true) × ((z : ℕ) → S.root z ≡ r → undecided S z ≡ false)

-- what each message claims
abbrev pub Meaning : State → Message → Type 0
Meaning S (Prepare t s) = (S.begun t ≡ true) × (target (S.plan t) s ≡ true)
Meaning S (Prepared t s) = (S.begun t ≡ true) × (target (S.plan t) s ≡ true) × (undecided S t ≡ true → S.pend s ≡ Some (hold S t))
Meaning S (Confirm t) = (S.begun t ≡ true) × (is_sealed (S.stage t) ≡ true)
Meaning S (Confirmed t) = (S.begun t ≡ true) × (undecided S t ≡ true → (S.conf t ≡ true) ⊎ (S.light t ≡ true))
Meaning S (ToldCommit t m) = decided S t ≡ true
Meaning S (ToldBare t m) = S.bare t ≡ true
Meaning S (ToldAbort t m) =
    (is_gone (S.stage t) ≡ true) × (undecided S t ≡ false) × (lists S t m ≡ false) × (S.bare t ≡ true → IsOver S (S.root t))
Meaning S (Acked t m) =
    (decided S t ≡ true) × (S.got t m ≡ true → S.went t m ≡ true) × (m ≡ naming → (h : Hold) → S.entry_pend ≡ Some h → h.top ≡ t → ⊥)
Meaning S (ToldSerial r m) = IsOver S r × ((z : ℕ) → S.root z ≡ r → lists S z m ≡ false)
