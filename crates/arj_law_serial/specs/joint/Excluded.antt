-- Excluded in time, by a journal and what is seen of the nodes: at the end of the event in which a top is decided, each store that the
-- naming node has for an object that it wrote holds its last state, or has it prepared, or is about to be taken out.
use Rattle.std.specs.Prelude.{⊤, ◌≡◌, ◌⊎◌, ◌≤◌, ◌<◌, ℕ, true, false, nat_lt, if◌then◌else◌, List, [], ◌∷◌, ◌++◌, Some, Contains, is_some}
use Rattle.std.specs.List.{AllByRecursion}
use Rattle.arj_base.specs.declared.state.ObjectState.{ObjectState}
use Rattle.arj_base.specs.declared.uid.Uid.{Uid}
use Rattle.arj_base.specs.Uid.{entry, object}
use Rattle.arj_journal.specs.declared.body.Body.TheVariants as body
use Rattle.arj_journal.specs.declared.body.Line.{Line}
use Rattle.arj_journal.specs.declared.header.Header.{Header}
use Rattle.arj_model.specs.Calls.{Top, tops}
use Rattle.arj_model.specs.Last.{is_among, last_from, object_line}
use Rattle.arj_model.specs.Serial.{Values}
use Rattle.arj_text.specs.declared.label.Label.{Label}
use Rattle.arj_law_runs.specs.journal.Book.{new_book}
use Rattle.arj_law_runs.specs.journal.Right.{AreRight}
use Rattle.arj_law_lock.specs.machine.State as machine
use Rattle.arj_protocol.specs.Effect.{held_at}
use Rattle.arj_protocol.specs.Order.{at_uid, uid_number}
use Rattle.arj_protocol.specs.Step.{Node}
use Rattle.arj_protocol.specs.Values.{state_entry}
use Rattle.arj_law_disk.specs.machine.State as disk
use Rattle.arj_law_disk.specs.machine.State.{Hold, State}
use Rattle.arj_law_disk_view.specs.view.Pairs.{IsOf}
use Rattle.arj_promise.specs.Runs.{Run, journal_by, world_by}
use Rattle.arj_promise.specs.Runs.{Seen}
use Rattle.arj_law_serial.specs.order.Decided.{AreDecided}
use Rattle.arj_promise.specs.Excluded.{Wrote}
use Rattle.arj_law_serial.specs.order.Runs.{IsSeenDecided}
use Rattle.arj_law_serial.specs.order.Tied.{IsTied}
use Rattle.arj_law_serial.specs.joint.Forms.{NodeIsSo, kind_of}
use Rattle.arj_promise.specs.Excluded.{IsNew, uid_of}

-- the store holds the object's last state, which is this one
abbrev pub HoldsLast : ObjectState → ℕ → Node → Type 0
HoldsLast last x n = held_at (object x) (let d = n.disk in d.store) ≡ Some last

-- the one state of the object in a list
abbrev pub IsOnly : Uid → List ObjectState → ObjectState → Type 0
IsOnly u states s = IsOf u states s × ((t : ObjectState) → IsOf u states t → t ≡ s)

-- or it has that prepared for the top, and no other state of the object
abbrev pub HasLastPrepared : ObjectState → List Line → ℕ → Node → Top → Type 0
HasLastPrepared last lines x n t = (states : List ObjectState) × (at_uid (uid_of lines t) (let d = n.disk in let p = d.store in p.pend)
    ≡ Some states) × IsOnly (object x) states last

-- Or the naming node has prepared an entry of the object without it, for the top or for another committed constituent of its serializing
-- action.
pub record IsTakenOut (lines : List Line) (x : ℕ) (n : Node) (t : Top) (s : ℕ) : Type 0 where
  pub by_top : Top
  pub committed : Contains (tops lines) by_top
  pub unit : by_top.root ≡ t.root
  pub states : List ObjectState
  pub prepared : at_uid (uid_of lines by_top) (let d = n.disk in let p = d.names in p.pend) ≡ Some states
  pub new : ObjectState
  pub there : IsOnly (entry x) states new
  pub lacks : is_among (let e = state_entry new in e.stores) s ≡ false

-- one of the three
abbrev pub IsInTime : ObjectState → List Line → ℕ → Node → Node → Top → ℕ → Type 0
IsInTime last lines x naming store t s =
    HoldsLast last x store ⊎ HasLastPrepared last lines x store t ⊎ IsTakenOut lines x naming t s

-- Excluded in time: so it is at the end of this event, the last one that was run, of each top that is new in it, of each object of the
-- header that it wrote, and of each store that the naming node's entry has. Its last state is counted from where the run began.
abbrev pub AreExcludedInTime : Header → ℕ → Seen → Type 0
AreExcludedInTime header e M = (t : Top) (x s : ℕ) (naming store : Node) (st : ObjectState) → is_some (object_line header x) ≡ true →
    IsNew e M.lines t → Wrote M.lines x t
    → M.nodes 1 ≡ Some naming → M.nodes s ≡ Some store → held_at (entry x) (let d = naming.disk in d.names) ≡ Some st →
    is_among (let n = state_entry st in n.stores) s ≡ true
    → IsInTime (last_from header M.start.marks M.lines x) M.lines x naming store t s

-- ---- what gives it

-- Of a decided action of a root, an entry of which is prepared: where the journal has a committed top of that root that is new in the
-- event, and the machine decided it, it is one too. Of older tops that isn't so: a restart may have found the record of the next
-- constituent, and stopped before it said so.
abbrev pub TakersAreCommitted : ℕ → List Line → State → Type 0
TakersAreCommitted e lines S = (t : Top) (h : Hold) → IsNew e lines t → disk.decided S (uid_number (uid_of lines t)) ≡ true →
    S.entry_pend ≡ Some h → disk.decided S h.top ≡ true → S.root h.top ≡ S.root (uid_number (uid_of lines t))
    → (b : Top) × Contains (tops lines) b × (uid_number (uid_of lines b) ≡ h.top) × (b.root ≡ t.root)

-- A top that is new in the event and wrote the object is the newest that counts: of the decided tops that do the commit of none was called
-- behind its own.
pub record IsNewest (header : Header) (lines : List Line) (x : ℕ) (S : State) (d : AreDecided header lines x S.tops) (t : Top) :
    Type 0 where
  pub last : (u : Top) → Contains d.those u → u.at ≤ t.at

-- what stands of the object on nodes is of its class, on disks and in memory
abbrev pub NodesAreSo : Header → ℕ → Seen → Type 0
NodesAreSo header x M = (k : ℕ) (n : Node) → M.nodes k ≡ Some n → NodeIsSo (kind_of header x) n

-- For an object, in an event: its disk machine is seen, with its decided tops tied to the journal; what stands of it is of its class; and
-- whose entry is prepared beside a new top is committed.
pub record IsSeenSo (header : Header) (e x : ℕ) (M : Seen) : Type 0 where
  pub seen : IsSeenDecided header x M
  pub forms : NodesAreSo header x M
  pub takers : TakersAreCommitted e M.lines (let s = seen in let W = s.world in W.disk)

-- ---- what the lock machine gives of it

-- no line of this event, or of a later one, stands before a line that calls a commit
abbrev pub CommitsBeginIt : ℕ → List Line → Type 0
CommitsBeginIt e lines = (before : List Line) (line : Line) (behind : List Line) (l : Label) → lines ≡ before ++ line ∷ behind →
    line.body ≡ body.Committing l → AllByRecursion (λ (k : Line). k.event < e) before

-- the lines are of this event and later ones, and none is of an event before that of a line before it
abbrev pub NeverFall : ℕ → List Line → Type 0
NeverFall e [] = ⊤
NeverFall e (line ∷ lines) = (e ≤ line.event) × NeverFall line.event lines

-- of two tops that wrote the object, one that is new in the event had its commit called last
abbrev pub NewWritersAreLast : Type 0
NewWritersAreLast = (values : Values) (lines : List Line) (x : ℕ) (S : machine.State) (e : ℕ) → AreRight new_book lines →
    IsTied values lines x S → CommitsBeginIt e lines
    → (t u : Top) → IsNew e lines t → Wrote lines x t → Contains (tops lines) u → Wrote lines x u → u.at ≤ t.at

-- Of the decided tops that count and didn't write the object, but include a store of it, the commit of none was called behind the top's.
pub record IsBehindIncludes (header : Header) (lines : List Line) (x : ℕ) (S : State) (d : AreDecided header lines x S.tops) (t : Top) :
    Type 0 where
  pub last : (u : Top) → Contains d.those u → (Wrote lines x u → ⊥) → u.at ≤ t.at

-- in the last event of a run, whatever stops fall, nothing stands before a commit call
abbrev pub RunsBeginWithCalls : Type 0
RunsBeginWithCalls = (hd : Header) (r : Run hd) → let w = world_by hd r in CommitsBeginIt w.event (journal_by hd r)
