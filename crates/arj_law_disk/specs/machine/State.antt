-- One object and its entry, as the disks and the coordinators have them.
use Rattle.std.specs.Prelude.{◌≡◌, ◌⊎◌, ℕ, ◌+◌, ◌<◌, List, [], ◌∷◌, ◌++◌, filter, Bool, true, false, ◌==◌, ◌||◌, ◌&&◌, not, if◌then◌else◌}
use Rattle.std.specs.Prelude.{Option, Some, None, is_some, unwrap_or, bytes_eq}
use Rattle.arj_law_disk.specs.machine.Words.{has, In}

-- A packed state, or a packed entry: its version, the action that wrote it, and what it holds. An entry holds the list of
-- its stores.
pub record Packed : Type 0 where
  pub version : ℕ
  pub writer : ℕ
  pub content : List ℕ

-- what a top has prepared at a place
pub record Hold : Type 0 where
  pub top : ℕ
  pub new : Packed

-- What a top's commit is about, for this object: the changed state, if it wrote; the kept store list; the stores that it
-- includes; and the state that these are sent where it didn't write.
pub record Plan : Type 0 where
  pub writes : Option Packed
  pub list : List ℕ
  pub joins : List ℕ
  pub loaded : Packed

-- How far a top is: it works, its prepare step runs, the prepare step has ended, or its coordinator has no more of it.
pub data Stage : Type 0 where
  Idle Preparing Confirming Gone : Stage

-- A decided top: its plan, the stores that had prepared, and whether it changes the object or its entry.
pub record Done : Type 0 where
  pub top : ℕ
  pub plan : Plan
  pub got : ℕ → Bool
  pub counts : Bool

-- one object: what is fixed, what the coordinators, the journal, the stores and the naming node's disk have of it
pub record State : Type 0 where
  -- fixed: the first state, what stores may hold that is older, the first entry, the root of each action, and which actions
  -- are serializing
  pub first : Packed
  pub past : List Packed
  pub first_entry : Packed
  pub root : ℕ → ℕ
  pub serial : ℕ → Bool
  -- the coordinators: plans and bare are kept for the proofs alone
  pub stage : ℕ → Stage
  pub plan : ℕ → Plan
  pub begun : ℕ → Bool
  pub got : ℕ → ℕ → Bool
  pub intent : ℕ → Option (List ℕ)
  pub bare : ℕ → Bool
  -- the journal: decided tops, the newest first
  pub tops : List Done
  -- the stores: what is held, what is prepared, and which top's commit was finished where
  pub held : ℕ → Option Packed
  pub pend : ℕ → Option Hold
  pub went : ℕ → ℕ → Bool
  -- the naming node: the entry, what is prepared of it; and who was confirmed while its outcome was open, as one that
  -- changes the object or its list, or as one that doesn't
  pub entry : Packed
  pub entry_pend : Option Hold
  pub conf : ℕ → Bool
  pub light : ℕ → Bool

-- the number of the naming node
abbrev pub naming : ℕ
naming = 1

-- tests of a stage: it is in its commit
abbrev pub is_open : Stage → Bool
is_open Idle = false
is_open Preparing = true
is_open Confirming = true
is_open Gone = false

-- it is past its prepare step
abbrev pub is_sealed : Stage → Bool
is_sealed Idle = false
is_sealed Preparing = false
is_sealed Confirming = true
is_sealed Gone = true

-- it is still working
abbrev pub is_idle : Stage → Bool
is_idle Idle = true
is_idle Preparing = false
is_idle Confirming = false
is_idle Gone = false

-- it is at its end
abbrev pub is_gone : Stage → Bool
is_gone Idle = false
is_gone Preparing = false
is_gone Confirming = false
is_gone Gone = true

-- a list of decided tops has this one
abbrev pub decided_in : List Done → ℕ → Bool
decided_in [] t = false
decided_in (d ∷ ds) t = (d.top == t) || decided_in ds t

-- the top is decided
abbrev pub decided : State → ℕ → Bool
decided S t = decided_in S.tops t

-- a top whose outcome is open: it isn't decided, and it is in its commit or has its record on the disk
abbrev pub open_by : Bool → Stage → Option (List ℕ) → Bool
open_by done stage intent = not done && (is_open stage || is_some intent)

-- the top's outcome is open
abbrev pub undecided : State → ℕ → Bool
undecided S t = open_by (decided S t) (S.stage t) (S.intent t)

-- a record that may be there lists the node
abbrev pub listed_by : Option (List ℕ) → ℕ → Bool
listed_by None m = false
listed_by (Some nodes) m = has m nodes

-- the record on the disk lists the node
abbrev pub lists : State → ℕ → ℕ → Bool
lists S t m = listed_by (S.intent t) m

-- a store to which a plan sends a state
abbrev pub target : Plan → ℕ → Bool
target p s = (is_some p.writes && has s p.list) || has s p.joins

-- the state that a plan sends
abbrev pub state_for : Plan → Packed
state_for p = unwrap_or p.writes p.loaded

-- what a store prepares for a top
abbrev pub hold : State → ℕ → Hold
hold S t = record { top = t; new = state_for (S.plan t) }

-- The store list that a top leaves: targets that haven't prepared are taken out, included stores that have are added at
-- the end.
abbrev pub list_after : Plan → (ℕ → Bool) → List ℕ → List ℕ
list_after p got stores = filter (λ s. not (target p s && not (got s))) stores ++ filter got p.joins

-- an entry with another list, if it is another one
abbrev pub entry_with : ℕ → List ℕ → Packed → Packed
entry_with t new e = if bytes_eq new e.content then e else record { version = e.version + 1; writer = t; content = new }

-- the entry that a top leaves
abbrev pub entry_after : ℕ → Plan → (ℕ → Bool) → Packed → Packed
entry_after t p got e = entry_with t (list_after p got e.content) e

-- the last state, and the last entry
abbrev pub last_in : Packed → List Done → Packed
last_in first [] = first
last_in first (d ∷ ds) = unwrap_or d.plan.writes (last_in first ds)

-- the entry when these are decided, of which the ones that count changed it in turn
abbrev pub entry_in : Packed → List Done → Packed
entry_in first [] = first
entry_in first (d ∷ ds) = if d.counts then entry_after d.top d.plan d.got (entry_in first ds) else entry_in first ds

-- the last state and the last entry, by the journal
abbrev pub last : State → Packed
last S = last_in S.first S.tops

-- the entry, by the journal
abbrev pub last_entry : State → Packed
last_entry S = entry_in S.first_entry S.tops

-- what a place will hold: what a decided top has prepared there, else what is held
abbrev pub effective_by : {A : Type 0} → (ℕ → Bool) → (Packed → A) → Option Hold → A → A
effective_by done some None held = held
effective_by done some (Some h) held = if done h.top then some h.new else held

-- what a store will hold, and what the naming node will
abbrev pub effective : State → ℕ → Option Packed
effective S s = effective_by (decided S) Some (S.pend s) (S.held s)

-- the entry that the naming node will hold
abbrev pub effective_entry : State → Packed
effective_entry S = effective_by (decided S) (λ e. e) S.entry_pend S.entry

-- a state that was the last one at some time, since the first
abbrev pub KnownIn : Packed → List Done → Packed → Type 0
KnownIn first [] g = first ≡ g
KnownIn first (d ∷ ds) g = (d.plan.writes ≡ Some g) ⊎ KnownIn first ds g

-- the same, of an object, or an older one
abbrev pub Known : State → Packed → Type 0
Known S g = KnownIn S.first S.tops g ⊎ In g S.past

-- What is older is below the first state, and each is known by its version and by its writer.
pub record IsPast (first : Packed) (past : List Packed) : Type 0 where
  pub below : (g : Packed) → In g past → g.version < first.version
  pub version : (g h : Packed) → In g past → In h past → g.version ≡ h.version → g ≡ h
  pub writer : (g h : Packed) → In g (first ∷ past) → In h (first ∷ past) → g.writer ≡ h.writer → g ≡ h

-- the action wrote neither the first state nor an older one
abbrev pub IsNew : State → ℕ → Type 0
IsNew S t = (g : Packed) → In g (S.first ∷ S.past) → g.writer ≡ t → ⊥

-- a lower version, or the same state
abbrev pub Below : Packed → Packed → Type 0
Below g h = (g.version < h.version) ⊎ (g ≡ h)

-- the newest decided top that changes the object or its list
abbrev pub is_latest_in : List Done → ℕ → Bool
is_latest_in [] t = false
is_latest_in (d ∷ ds) t = if d.counts then d.top == t else is_latest_in ds t

-- the same, of an object
abbrev pub is_latest : State → ℕ → Bool
is_latest S t = is_latest_in S.tops t

-- a store that the entry has, or the last one
abbrev pub Listed : State → ℕ → Type 0
Listed S s = (has s S.entry.content ≡ true) ⊎ (has s (last_entry S).content ≡ true)

-- a store that an entry of the top itself, or of a decided one of its root, is about to take out
pub record Excused (root : ℕ → ℕ) (done : ℕ → Bool) (prepared : Option Hold) (t s : ℕ) : Type 0 where
  pub by_entry : Hold
  pub there : prepared ≡ Some by_entry
  pub whose : (by_entry.top ≡ t) ⊎ ((done by_entry.top ≡ true) × (root by_entry.top ≡ root t))
  pub lacks : has s by_entry.new.content ≡ false

-- the same, of an object
abbrev pub IsExcused : State → ℕ → ℕ → Type 0
IsExcused S t s = Excused S.root (decided S) S.entry_pend t s
