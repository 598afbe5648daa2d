-- The decisions of an object's machine against the journal, and back.
use Rattle.std.specs.Prelude.{◌≡◌, ◌⊎◌, ◌++◌, ℕ, true, false, List, None, Some, Contains}
use Rattle.arj_model.specs.Actions.{Act, acts}
use Rattle.arj_protocol.specs.Words.{Line, Uid}
use Rattle.arj_protocol.specs.Effect.{Intent}
use Rattle.arj_protocol.specs.Order.{uid_number}
use Rattle.arj_protocol.specs.Step.{Node}
use Rattle.arj_law_disk.specs.machine.Effects as machine
use Rattle.arj_law_disk.specs.machine.State.{decided}
use Rattle.arj_promise.specs.Runs.{Seen}
use Rattle.arj_law_disk_view.specs.view.Sees.{Kinds, SeesDisks}
use Rattle.arj_law_disk.specs.machine.Names.{Office}
use Rattle.arj_law_disk_view.specs.running.Bindings.{KnowsScript}
use Rattle.arj_law_runs.specs.journal.Book.{book, is_decided, is_top}
use Rattle.arj_law_runs.specs.journal.Idle.{HasNothing}
use Rattle.arj_law_runs.specs.journal.Laws.{IsCommittedIn, IsDone}

-- ---- what the machine decides is said

-- The node is down with the action's record on its disk: its restart will say that it found it.
pub record IsLate (u : Uid) (n : Node) : Type 0 where
  pub down : n.live ≡ None
  pub intent : Intent
  pub there : Contains (let d = n.disk in d.intents) (u, intent)

-- Each top that is decided, by the machine, at a node that is there, is decided by the journal, or its node is late to say so.
abbrev pub AreSaid : machine.World → Seen → Type 0
AreSaid W M = (u : Uid) (n : Node) → M.nodes u.node ≡ Some n → decided W.disk (uid_number u) ≡ true →
    (is_decided (book M.lines) u ≡ true) ⊎ IsLate u n

-- none is late so: of a node that is down whoever is decided by the machine is decided by the journal
abbrev pub AreNotLate : machine.World → Seen → Type 0
AreNotLate W M = (u : Uid) (n : Node) → M.nodes u.node ≡ Some n → n.live ≡ None → decided W.disk (uid_number u) ≡ true →
    is_decided (book M.lines) u ≡ true

-- with what is known in every run of so many events, where the journal is so
abbrev pub IsKnownEarly : (List Line → Type 0) → machine.World → Seen → Type 0
IsKnownEarly Fits W M = (KnowsScript M × Fits M.lines) × AreNotLate W M

-- a journal is so from its beginning
abbrev pub WasBefore : (List Line → Type 0) → Type 0
WasBefore Fits = (lines more : List Line) → Fits (lines ++ more) → Fits lines

-- ---- what the journal says is decided

-- it began, and is no top
abbrev pub IsPlain : List Line → Uid → Type 0
IsPlain lines u = (a : Act) × Contains (let B = book lines in B.acts) a × (a.uid ≡ u) × (is_top a.kind ≡ false)

-- the machine has decided it, or it needed no record; or it is idle, by the journal; or no top
abbrev pub IsDoneBy : (List Line → Uid → Type 0) → machine.World → List Line → Uid → Type 0
IsDoneBy Idle W lines u = (decided W.disk (uid_number u) ≡ true) ⊎ (W.disk.bare (uid_number u) ≡ true) ⊎ Idle lines u ⊎ IsPlain lines u

-- so it is of each top that the journal says to be decided
abbrev pub AreDone : (List Line → Uid → Type 0) → machine.World → Seen → Type 0
AreDone Idle W M = (u : Uid) → is_decided (book M.lines) u ≡ true → IsDoneBy Idle W M.lines u

-- ---- runs

-- the machine's decisions are those of the journal
abbrev pub IsTied : (List Line → Uid → Type 0) → machine.World → Seen → Type 0
IsTied Idle W M = AreSaid W M × AreDone Idle W M

-- with what is carried beside the machine's state
abbrev pub WithTie : (Kinds → Office → Seen → Type 0) → (List Line → Uid → Type 0) → Kinds → Office → Seen → Type 0
WithTie P Idle tops A M = P tops A M × IsTied Idle A.world M

-- The same, in the words of `arj_model`: each decided top is an action of the journal; and a committed top is decided, or needed no record,
-- or nothing of it survives in the journal.
pub record IsJournalled (x : ℕ) (M : Seen) : Type 0 where
  pub tops : Kinds
  pub machine : machine.World
  pub sees : SeesDisks x tops machine M
  pub said : (u : Uid) (n : Node) → M.nodes u.node ≡ Some n → decided (let W = machine in W.disk) (uid_number u) ≡ true →
      IsCommittedIn M.lines u
  pub whose : (t : ℕ) → decided (let W = machine in W.disk) t ≡ true → (a : Act) × Contains (acts M.lines) a × (uid_number a.uid ≡ t)
  pub done : (a : Act) → Contains (acts M.lines) a → is_top a.kind ≡ true → IsDone M.lines a
      → (decided (let W = machine in W.disk) (uid_number a.uid) ≡ true) ⊎ ((let W = machine in W.disk.bare) (uid_number a.uid) ≡ true)
      ⊎ HasNothing M.lines a
