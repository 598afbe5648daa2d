-- The decided tops of an object's disk machine, as a journal has them.
use Rattle.std.specs.Prelude.{⊤, ◌≡◌, ◌⊎◌, ◌<◌, ◌≤◌, ℕ, ◌&&◌, not, List, [], ◌∷◌, filter, reverse, Bool, true, false, Option, Some}
use Rattle.std.specs.Prelude.{None, Contains}
use Rattle.std.specs.List.{AllByRecursion}
use Rattle.arj_base.specs.declared.state.Format.TheVariants.{Two}
use Rattle.arj_base.specs.declared.uid.Uid.{Uid}
use Rattle.arj_class.specs.declared.value.Value.{Value}
use Rattle.arj_class.specs.Table.{value_after}
use Rattle.arj_journal.specs.declared.body.Line.{Line}
use Rattle.arj_journal.specs.declared.header.Header.{Header}
use Rattle.arj_model.specs.Actions.{acts}
use Rattle.arj_model.specs.Calls.{Call, Top, committed_calls, tops}
use Rattle.arj_model.specs.Last.{first_values, increasing, is_among, joins_of, leaves_of, serial_tops, uid_of_id}
use Rattle.arj_model.specs.Serial.{Values, run, unit_place, writes_on}
use Rattle.arj_model.specs.Book.{writes_before}
pub use Rattle.arj_model.specs.Book.{CommitsComeFirst, IsCalledFirst}
use Rattle.arj_law.specs.Growth.{AreDecidedInOrder, IdleInPlace, first_stores}
use Rattle.arj_law_lock.specs.machine.Actions.{Act, In, top}
use Rattle.arj_law_lock.specs.machine.State as machine
use Rattle.arj_law_lock.specs.machine.State.{Alive, State}
use Rattle.arj_protocol.specs.Order.{uid_number}
use Rattle.arj_law_disk.specs.machine.Order.{counts_of}
use Rattle.arj_law_disk.specs.machine.State.{Done, Packed, target}
use Rattle.arj_law_disk_view.specs.view.Pairs.{content_of}
use Rattle.arj_law_serial.specs.order.Tied.{IsTied}
use Rattle.arj_promise.specs.Excluded.{Wrote}

-- the value that a write left: by its operation, at the value that the surviving writes before it left
abbrev pub left_by : Values → List Line → Call → Value
left_by values lines c = value_after c.op (run values (writes_before (committed_calls lines) c) c.x)

-- the last surviving write of a committed top on an object
pub record IsLastWrite (lines : List Line) (x : ℕ) (t : Top) (c : Call) : Type 0 where
  pub there : Contains (committed_calls lines) c
  pub whose : c.top ≡ t.id
  pub write : writes_on x c ≡ true
  pub last : (e : Call) → Contains (committed_calls lines) e → e.top ≡ t.id → writes_on x e ≡ true → e.at ≤ c.at

-- What a decided top gave to the stores: nothing, where no write of it on the object survives; else a state of its own, with the value
-- that its last write left.
abbrev pub WroteSo : Values → List Line → ℕ → Top → Option Packed → Type 0
WroteSo values lines x t None = (e : Call) → Contains (committed_calls lines) e → e.top ≡ t.id → writes_on x e ≡ false
WroteSo values lines x t (Some w) =
    (c : Call) × IsLastWrite lines x t c × (w.writer ≡ uid_number c.writer) × (w.content ≡ content_of Two (left_by values lines c))

-- A decided top is a committed one of the journal: what it gave to the stores is what it wrote, the stores that it takes out of the
-- list are those that its commit excluded, and those that it adds are its surviving includes.
pub record IsDecision (values : Values) (lines : List Line) (x : ℕ) (d : Done) (t : Top) : Type 0 where
  pub listed : Contains (tops lines) t
  pub number : d.top ≡ uid_number (uid_of_id (acts lines) t.id)
  pub wrote : WroteSo values lines x t (let p = d.plan in p.writes)
  pub leaves : (s : ℕ) → (target d.plan s && not (d.got s)) ≡ is_among (leaves_of lines t.id x) s
  pub joins : filter d.got (let p = d.plan in p.joins)
      ≡ increasing (filter (λ s. not (is_among (leaves_of lines t.id x) s)) (joins_of lines t.id x))

-- so each, one by one
abbrev pub AreDecisions : Values → List Line → ℕ → List Done → List Top → Type 0
AreDecisions values lines x [] [] = ⊤
AreDecisions values lines x (d ∷ ds) (t ∷ ts) = IsDecision values lines x d t × AreDecisions values lines x ds ts
AreDecisions values lines x ds ts = ⊥

-- each one's commit was called behind those of the ones behind it in the list
abbrev pub AreNewestFirst : List Top → Type 0
AreNewestFirst [] = ⊤
AreNewestFirst (t ∷ ts) = AllByRecursion (λ (u : Top). u.at < t.at) ts × AreNewestFirst ts

-- The decided tops of the machine that count for the object are these tops of the journal, the newest first: in the order in which
-- their commits were called, and in that of the serial run; and each surviving write on the object is of one of them.
pub record AreDecided (header : Header) (lines : List Line) (x : ℕ) (ds : List Done) : Type 0 where
  pub those : List Top
  pub each : AreDecisions (first_values header) lines x (filter counts_of ds) those
  pub called : AreNewestFirst those
  pub counts : Top → Bool
  pub counted : AllByRecursion (λ (t : Top). counts t ≡ true) those
  pub order : AreDecidedInOrder header lines x counts (reverse those)
  pub all : (e : Call) → Contains (committed_calls lines) e → writes_on x e ≡ true → (t : Top) × Contains those t × (e.top ≡ t.id)

-- ---- the order of decisions, pair by pair

-- The first top's unit had its turn before the second: all its commits were called before that one's, or they are of one unit.
abbrev pub IsInTurn : List Line → Top → Top → Type 0
IsInTurn lines u t = (u.root ≡ t.root) ⊎ (unit_place (tops lines) u.root < t.at)

-- These tops, the newest first, are all that count for the object, and each of two had its turn before the one whose commit was called
-- later; the others change nothing of the object's list in their places.
pub record HaveTurns (header : Header) (lines : List Line) (x : ℕ) (counts : Top → Bool) (those : List Top) : Type 0 where
  pub called : AreNewestFirst those
  pub listed : (t : Top) → Contains those t → Contains (tops lines) t × (counts t ≡ true)
  pub all : (t : Top) → Contains (tops lines) t → counts t ≡ true → Contains those t
  pub turns : (u t : Top) → Contains those u → Contains those t → u.at < t.at → IsInTurn lines u t
  pub idle : IdleInPlace lines x counts (first_stores header x) (serial_tops lines)

-- an include of a store of the object by the top survives
abbrev pub Joined : List Line → ℕ → Top → Type 0
Joined lines x t = (n : ℕ) × Contains (joins_of lines t.id x) n

-- each of two tops that wrote an object, or included a store of it, had its turn before the one whose commit was called later
abbrev pub ChangersHaveTurns : List Line → ℕ → Type 0
ChangersHaveTurns lines x = (u t : Top) → Contains (tops lines) u → Contains (tops lines) t → Wrote lines x u ⊎ Joined lines x u →
    Wrote lines x t ⊎ Joined lines x t → u.at < t.at → IsInTurn lines u t

-- each of two tops that wrote an object had its turn before the one whose commit was called later
abbrev pub WritersHaveTurns : List Line → Type 0
WritersHaveTurns lines = (x : ℕ) (u t : Top) → Contains (tops lines) u → Contains (tops lines) t → Wrote lines x u → Wrote lines x t →
    u.at < t.at → IsInTurn lines u t

-- The decided tops of the machine that count are these tops of the journal, the newest first in the order in which their commits were
-- called: all that count, each of which wrote the object or included a store of it, and each that wrote it; the others change nothing of
-- the object's list in their places.
pub record DecideChanges (header : Header) (lines : List Line) (x : ℕ) (ds : List Done) : Type 0 where
  pub those : List Top
  pub each : AreDecisions (first_values header) lines x (filter counts_of ds) those
  pub called : AreNewestFirst those
  pub counts : Top → Bool
  pub counted : (t : Top) → Contains those t → (counts t ≡ true) × (Wrote lines x t ⊎ Joined lines x t)
  pub all : (t : Top) → Contains (tops lines) t → (counts t ≡ true) ⊎ Wrote lines x t → Contains those t
  pub idle : IdleInPlace lines x counts (first_stores header x) (serial_tops lines)

-- ---- what servers voted

-- What a decided top gave to the stores, by the lock machine: nothing, where no write of it that wasn't undone stands; else the value that
-- its vote gave.
abbrev pub VotedSo : (values : Values) (lines : List Line) (x : ℕ) (S : State) → IsTied values lines x S → Uid → Option Packed → Type 0
VotedSo values lines x S t u None = (c : machine.Call) → In c S.calls → c.write ≡ true → top c.act ≡ t.act u → Alive S c.act → ⊥
VotedSo values lines x S t u (Some w) =
    (v : Value) × (a : Act) × ((let b = S.vote (t.act u) in b.value) ≡ t.code v a) × (w.content ≡ content_of Two v)
    × (w.writer ≡ uid_number u)
    × (c : machine.Call) × In c S.calls × (c.write ≡ true) × (top c.act ≡ t.act u) × Alive S c.act
