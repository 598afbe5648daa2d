-- The disk machine and the lock machine of one object beside each other in one run: what a top that the disk machine decided has in its
-- plan is what was voted for it, by the lock machine.
use Rattle.std.specs.Prelude.{◌≡◌, ℕ, true, List, [], None, Some, Contains, is_some}
use Rattle.arj_model.specs.Actions.{acts}
use Rattle.arj_model.specs.Calls.{Top, tops}
use Rattle.arj_model.specs.Last.{first_values, object_line, uid_of_id}
use Rattle.arj_model.specs.Serial.{Values}
use Rattle.arj_lock.proofs.Members as list
use Rattle.arj_protocol.specs.Words.{Header, Line, ObjectState, Uid}
use Rattle.arj_protocol.specs.Commit.{Confirming, Plan, Used, changed_of}
use Rattle.arj_protocol.specs.Effect.{Intent}
use Rattle.arj_protocol.specs.Order.{uid_number}
use Rattle.arj_protocol.specs.Step.{Node}
use Rattle.arj_law_parts.specs.parts.Actions.{Action}
use Rattle.arj_law_disk.specs.machine.Effects.{World}
use Rattle.arj_law_disk.specs.machine.Names.{Office}
use Rattle.arj_law_disk_view.specs.view.Sees.{Kinds}
use Rattle.arj_law_disk_view.specs.names.Both.{SeesBoth}
use Rattle.arj_law_disk.specs.machine.State.{Done, State, decided}
use Rattle.arj_law_disk.specs.machine.Words as disk
use Rattle.arj_law_disk_view.specs.view.Plans.{plan_at, used_at}
use Rattle.arj_law_lock.specs.machine.Actions.{In, top}
use Rattle.arj_law_lock.specs.machine.Machine.{Run, start}
use Rattle.arj_law_lock.specs.machine.State as lock
use Rattle.arj_law_parts.specs.moves.Keeps.{Holds}
use Rattle.arj_promise.specs.Runs.{Run as RunOf, journal_by, world_by}
use Rattle.arj_promise.specs.Runs.{Seen}
use Rattle.arj_law_runs.specs.journal.Book.{book, is_decided}
use Rattle.arj_law_runs.specs.journal.Idle.{IsIdle}
use Rattle.arj_law_runs.specs.journal.Knows.{IsKept}
use Rattle.arj_law_runs.specs.journal.Paths.{IsAlikeOf}
use Rattle.arj_law_disk_view.specs.deciding_lines.Said.{WithTie}
use Rattle.arj_law_lock_view.specs.facts.Votes.{side_at}
use Rattle.arj_law_lock_view.specs.view.Plans.{SeesMachine}
use Rattle.arj_law_lock_view.specs.view.Voted.{HasVotes}
use Rattle.arj_law_lock_view.specs.running.Fixed.{Fixed}
use Rattle.arj_law_lock_view.specs.running.Sees.{SeesLocks}
use Rattle.arj_law_lock_view.specs.running.Tied.{AreTied}
use Rattle.arj_law_lock_view.specs.running.Votes.{AreVotedAt}
use Rattle.arj_law_serial.specs.order.Tied.{AreApart, AreTied as AreJournalTied}
use Rattle.arj_law_serial.specs.joint.Apt.{AgreesApart}
use Rattle.arj_law_serial.specs.joint.Based.{IsVotedOver}
use Rattle.arj_law_serial.specs.joint.BasedSteps.{AreBasedSo}
use Rattle.arj_promise.specs.Runs.{IsInForm}
use Rattle.arj_law_serial.specs.joint.Includers.{IncludersTakeTurns}
use Rattle.arj_law_serial.specs.joint.Lights.{LightsAreSplit}
use Rattle.arj_law_serial.specs.joint.Loads.{AreLoadsLast}
use Rattle.arj_law_serial.specs.joint.Nodes.{NodesAreThere}
use Rattle.arj_law_serial.specs.joint.Ordered.{IsOrdered, IsOrderedSo}
use Rattle.arj_law_serial.specs.joint.Recorded.{WereRecorded}
use Rattle.arj_law_serial.specs.order.Decided.{WroteSo}
use Rattle.arj_promise.specs.Excluded.{Wrote}
use Rattle.arj_law_serial.specs.order.Seen.{RequestsAreOne}
use Rattle.arj_promise.specs.Serial.{IsSerialBy}
use Rattle.arj_law_disk_view.specs.running.Bindings.{AreGoodCounted, KnowsScript}
use Rattle.arj_law_disk_view.specs.running.Listed.{LoadsAgree}
use Rattle.arj_law_disk_view.specs.running.Rest.{SeesCarried}
use Rattle.arj_law_disk_view.specs.running.Runs.{CopiesAgree}

-- ---- one top

-- A state that the plan changes the object to is by this top, which called the object.
abbrev pub ChangesCalled : ℕ → Uid → Plan → Type 0
ChangesCalled x u p = (st : ObjectState) → changed_of x p ≡ Some st →
    (st.writer ≡ u) × ((w : Used) × (used_at x p.used ≡ Some w) × (w.called ≡ true))

-- The disk machine has a plan of the top that is one of the protocol, with which it waited for naming, in this state of the lock machine,
-- which has gone on since: its changed state of the object is what the server voted that was called, and none otherwise; and where there is
-- one the lock machine has a call of the top, which wasn't undone, and the vote lay over a known state, where codes are apart.
pub record IsPlannedSo (f : Fixed) (x : ℕ) (S : lock.State) (W : World) (u : Uid) : Type 0 where
  pub plan : Plan
  pub begun : W.disk.begun (uid_number u) ≡ true
  pub same : W.disk.plan (uid_number u) ≡ plan_at x plan
  pub waiting : lock.State
  pub reached : Run (start f.first) waiting
  pub since : Run waiting S
  pub stage : (let a = waiting.action (f.act u) in a.stage) ≡ 1
  pub votes : HasVotes (side_at f.act f.code x u) plan [] waiting
  pub sees : SeesMachine x (f.act u) (Confirming plan) waiting
  pub changed : ChangesCalled x u plan
  pub counted : (st : ObjectState) → changed_of x plan ≡ Some st →
      (c : lock.Call) × In c waiting.calls × (top c.act ≡ f.act u) × lock.Alive waiting c.act
  pub over : AreApart f.code → (st : ObjectState) → changed_of x plan ≡ Some st → IsVotedOver f x u waiting W st

-- ---- all tops

-- the top has a record at some node
pub record IsRecordedAt (M : Seen) (u : Uid) : Type 0 where
  pub place : ℕ
  pub node : Node
  pub intent : Intent
  pub here : M.nodes place ≡ Some node
  pub there : list.In {X = Uid × Intent} (u, intent) (let d = node.disk in d.intents)

-- So it is of each top that is decided, of each that has a record, and of each whose commit ended without one, which wrote nothing.
pub record ArePlannedSo (f : Fixed) (x : ℕ) (S : lock.State) (W : World) (M : Seen) : Type 0 where
  pub decisions : (u : Uid) → decided W.disk (uid_number u) ≡ true → IsPlannedSo f x S W u
  pub records : (u : Uid) → IsRecordedAt M u → IsPlannedSo f x S W u
  pub bares : (u : Uid) → W.disk.bare (uid_number u) ≡ true →
      IsPlannedSo f x S W u × ((let p = W.disk.plan (uid_number u) in p.writes) ≡ None)

-- ---- states beside each other

-- The state of the lock machine in which the object is seen stands beside one of its disk machine, of which this holds: commits under way
-- have the votes that came, who is decided had planned so, what stores gave to calls that wait for it they may give by the lock machine,
-- and over which states copies and votes lie is known.
abbrev pub IsPaired : ℕ → (Kinds → Office → Seen → Type 0) → Fixed → List Action → lock.State → Seen → Type 0
IsPaired x P f begun S M = (tops : Kinds) × (tops.walk ≡ None) × (A : Office) × SeesBoth x tops A M × P tops A M × AreVotedAt f x S M
    × ArePlannedSo f x S A.world M × AreLoadsLast f x S M × AreBasedSo f x S A.world M

-- what is kept everywhere: nodes are good and there, bindings are counted, and the journal is known
abbrev pub IsCountedJoined : Seen → Type 0
IsCountedJoined M = (AreGoodCounted M × IsKept M) × NodesAreThere M

-- and what is known in every run of at most 1,000,000 events
abbrev pub IsKnownJoined : Seen → Type 0
IsKnownJoined M = IsCountedJoined M × KnowsScript M

-- what is carried beside the disk machine's state, with its tie to the journal: who is decided is said so, and the other way round
abbrev pub SeesTied : ℕ → Kinds → Office → Seen → Type 0
SeesTied x tops A M = WithTie (SeesCarried x) (λ ls u. IsIdle (book ls) u) tops A M

-- and with it that the tops that it decided were recorded
abbrev pub SeesRecorded : ℕ → Kinds → Office → Seen → Type 0
SeesRecorded x tops A M = SeesTied x tops A M × WereRecorded A.world M

-- and in the order in which their commits were called, against decisions
abbrev pub SeesInOrder : ℕ → Kinds → Office → Seen → Type 0
SeesInOrder x tops A M = SeesRecorded x tops A M × IsOrdered (λ ls u. (is_decided (book ls) u ≡ true) × IsIdle (book ls) u) A.world M

-- ---- the run

-- the world of the disk machine
abbrev pub world_of : {hd : Header} {x : ℕ} {M : Seen} → IsOrderedSo hd x M → World
world_of o = (let b = o.begun in let j = b.journalled in j.machine)

-- each of the decided tops of the disk machine that is one of the journal gave to the stores what it wrote
abbrev pub AreWritten : Values → List Line → ℕ → List Done → Type 0
AreWritten values lines x ds = (d : Done) (u : Top) → disk.In d ds → Contains (tops lines) u →
    d.top ≡ uid_number (uid_of_id (acts lines) u.id) → WroteSo values lines x u (let p = d.plan in p.writes)

-- each top of the journal whose commit ended without a record has no surviving write
abbrev pub AreBareSo : List Line → ℕ → State → Type 0
AreBareSo lines x S = (u : Top) → Contains (tops lines) u → S.bare (uid_number (uid_of_id (acts lines) u.id)) ≡ true → Wrote lines x u → ⊥

-- Both machines of the object at once: the disk machine, whose decisions are those of the journal in their order, also of those that only
-- include a store, and of which those that don't count changed nothing in their places; and for all that may be fixed and agrees with what
-- was begun the lock machine, to which the journal is tied, in which commits under way have the votes that came, by which decided tops had
-- planned, and in which it is known over which states copies and votes lie. So decided tops wrote what their plans have, and those without
-- a record nothing; the copies of the object agree, and who waits to load it for a binding that is current asks stores that hold what they
-- agree on.
pub record IsJoinedSo (hd : Header) (x : ℕ) (M : Seen) : Type 0 where
  pub ordered : IsOrderedSo hd x M
  pub includers : IncludersTakeTurns M.lines (let W = world_of ordered in W.disk.tops)
  pub lights : LightsAreSplit M.lines (let W = world_of ordered in W.disk)
  pub begun : List Action
  pub alike : IsAlikeOf begun M
  pub seen : (f : Fixed) → AgreesApart (first_values hd) M.start.marks f x begun M.sent → (S : lock.State) × SeesLocks f x begun S M
      × AreTied f x M.lines S × AreVotedAt f x S M × ArePlannedSo f x S (world_of ordered) M × AreBasedSo f x S (world_of ordered) M
  pub requests : RequestsAreOne M
  pub wrote : AreWritten (first_values hd) M.lines x (let W = world_of ordered in W.disk.tops)
  pub bare : AreBareSo M.lines x (let W = world_of ordered in W.disk)
  pub agree : CopiesAgree x M
  pub loads : LoadsAgree x M

-- So it is after all moves in form, of each object of the header.
abbrev pub RunsAreJoined : Type 0
RunsAreJoined = (hd : Header) (r : RunOf hd) → IsInForm hd r → (x : ℕ) → is_some (object_line hd x) ≡ true →
    Holds hd (IsJoinedSo hd x) (world_by hd r)

-- So every run in form is serial.
abbrev pub JoinedRunsAreSerial : Type 0
JoinedRunsAreSerial = (hd : Header) (r : RunOf hd) → IsInForm hd r → IsSerialBy hd (journal_by hd r)

-- And its journal is tied to the lock machine of each object of which a call was answered.
abbrev pub JoinedRunsAreTied : Type 0
JoinedRunsAreTied = (hd : Header) (r : RunOf hd) → IsInForm hd r → AreJournalTied (first_values hd) (journal_by hd r)
