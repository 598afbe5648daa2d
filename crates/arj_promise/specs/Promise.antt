-- The promise, of a run in form: after every event, and what a quiesce and the stated round leave.
use Rattle.std.specs.Prelude.{List, None, Some, [], false, length, true, ℕ, ◌++◌, ◌∷◌, ◌≡◌, ◌≤◌, ◌⊎◌}
use Rattle.std.specs.List.{AllByRecursion}
use Rattle.arj_base.specs.declared.uid.Uid.{Uid}
use Rattle.arj_journal.specs.ScriptForm.{HeaderInForm}
use Rattle.arj_journal.specs.declared.body.Line.{Line}
use Rattle.arj_journal.specs.declared.header.Header.{Header}
use Rattle.arj_model.specs.Keeping.{KeepsTheBook}
use Rattle.arj_model.specs.Clean.{CleanFrom}
use Rattle.arj_model.specs.Disks.{Disks}
use Rattle.arj_model.specs.Last.{first_values}
use Rattle.arj_promise.specs.Disks.{DisksAre}
use Rattle.arj_promise.specs.Excluded.{DisksAreInTimeFrom}
use Rattle.arj_promise.specs.Held.{HoldsEach}
use Rattle.arj_promise.specs.Outcome.{ShowsOneOutcome}
use Rattle.arj_promise.specs.Resting.{AreGivenUp, AreQuiet, AreUp, EndsQuiet, HoldAllStates, IsGiveUp, NobodyWaits}
use Rattle.arj_promise.specs.Runs.{AreEventsInForm, IsInForm, Move, Run, journal_by, most_events, run_of, see, then, world_by}
use Rattle.arj_promise.specs.Serial.{IsSerialBy}
use Rattle.arj_promise.specs.Waiting.{HasAnswer, IsPlainIn, OnlyOvertakenWait, WaitsOvertaken, coord_in}
use Rattle.arj_protocol.specs.Coord.{Coord, Doing, doing_of}
use Rattle.arj_protocol.specs.Step.{is_waiting_now}
use Rattle.arj_protocol.specs.Tree.{at_place}
use Rattle.arj_protocol.specs.Words.body
use Rattle.arj_protocol.specs.Words.event
use Rattle.arj_protocol.specs.World.{Asked, World, format, is_node, lowest_from, run_all}

-- these are the readings of the nodes' disks at its end
abbrev pub HasDisks : (hd : Header) → Run hd → Disks → Type 0
HasDisks hd r disks = DisksAre (see [] (world_by hd r)) disks

-- The run keeps the promise. Committed tops got the answers of running them alone, one after another, and so did nested actions, each whole
-- at its commit; and the lock book is kept: calls that conflict stand in that order, each behind the call of the commit of the earlier
-- one's top, or, within one top, behind the commits of the earlier one's actions; and each is answered by the writes before it. Until the
-- commit of its unit's last member is called, each surviving call of a committed top is locked for by the journal's tables at each line,
-- and its object's entry is locked by the unit's root or a top of it, and for a surviving include for writing. The disks are clean. Of each
-- object that a top wrote which the last event committed, each store that the entry on naming's disk lists holds the last state, or has it
-- prepared for that top, or is about to be taken out. And what is done as committed was decided before, while an abort of what was decided
-- has a cause.
pub record KeepsThePromise (hd : Header) (r : Run hd) : Type 0 where
  pub serial : IsSerialBy hd (journal_by hd r)
  pub book : KeepsTheBook (first_values hd) (journal_by hd r)
  pub held : HoldsEach (journal_by hd r)
  pub clean : (disks : Disks) → HasDisks hd r disks → CleanFrom hd r.start.marks (journal_by hd r) disks
  pub in_time : (disks : Disks) → HasDisks hd r disks →
      DisksAreInTimeFrom hd r.start.marks (let w = world_by hd r in w.event) (journal_by hd r) disks
  pub outcome : ShowsOneOutcome (journal_by hd r)

-- so does every run in form
abbrev pub RunsKeepThePromise : Type 0
RunsKeepThePromise = (hd : Header) (r : Run hd) → IsInForm hd r → KeepsThePromise hd r

-- And so it is after every event: what was run by its end is a run in form.
abbrev pub KeptAfterEveryEvent : Type 0
KeptAfterEveryEvent = (hd : Header) (front : Run hd) (rest : List Move) → IsInForm hd (then front rest) →
    IsInForm hd front × KeepsThePromise hd front

-- Where its header and its events are in form, of which there are at most 1,000,000, the run of a script is one in form; and its world is
-- that of the script, but for the stops that are still armed at its end.
abbrev pub ScriptsAreRuns : Type 0
ScriptsAreRuns = (hd : Header) (es : List Asked) → HeaderInForm hd → AreEventsInForm es → length es ≤ most_events
    → IsInForm hd (run_of hd es) × (world_by hd (run_of hd es) ≡ record (run_all es (format hd)) { arms = [] })

-- The run is this one and a quiesce behind it, at whose end every node of the header is up and no limit was met.
pub record EndsInQuiesce (hd : Header) (r before : Run hd) : Type 0 where
  pub last : Move
  pub are : r ≡ then before (last ∷ [])
  pub quiesces : (let e = last.asked in e.event) ≡ event.Quiesce
  pub unlimited : (let w = world_by hd r in w.over) ≡ false
  pub up : AreUp (world_by hd r)

-- then nobody waits but calls that are overtaken
abbrev pub QuiescesLeaveOvertaken : Type 0
QuiescesLeaveOvertaken = (hd : Header) (r before : Run hd) → IsInForm hd r → EndsInQuiesce hd r before →
    OnlyOvertakenWait (world_by hd r)

-- Then whoever waited as it began waits still, in a call that is overtaken, or a line of the quiesce answers it.
abbrev pub QuiescesAnswerWhoWaits : Type 0
QuiescesAnswerWhoWaits = (hd : Header) (r before : Run hd) → IsInForm hd r → EndsInQuiesce hd r before →
    (k : ℕ) (c : Coord) (u : Uid) (q : Doing) → let w = world_by hd before in is_node k w ≡ true
    → coord_in (at_place k w.nodes) ≡ Some c → doing_of u c ≡ Some q → is_waiting_now q.now ≡ true →
    WaitsOvertaken (world_by hd r) k u q ⊎ HasAnswer q w.lines (journal_by hd r)

-- And no line of it gives anything up, or aborts but by a refusal that was answered.
abbrev pub QuiescesGiveUpNothing : Type 0
QuiescesGiveUpNothing = (hd : Header) (r before : Run hd) → EndsInQuiesce hd r before →
    (more : List Line) × (journal_by hd r ≡ journal_by hd before ++ more) × AllByRecursion (IsPlainIn (world_by hd r)) more

-- Wherever every node is idle, with no record and nothing prepared, disks hold every entry and, at each listed store, every last state,
-- with no exception.
abbrev pub QuietDisksHoldAll : Type 0
QuietDisksHoldAll = (hd : Header) (r : Run hd) (disks : Disks) → IsInForm hd r → AreQuiet (world_by hd r) → HasDisks hd r disks →
    HoldAllStates hd r.start.marks (journal_by hd r) disks

-- There is nothing left to do: every node is idle, with no record and nothing prepared, and the journal's last line says so; disks hold
-- every entry and, at each listed store, every last state, with no exception.
pub record EndsAtRest (hd : Header) (r : Run hd) : Type 0 where
  pub quiet : EndsQuiet (world_by hd r)
  pub last : (disks : Disks) → HasDisks hd r disks → HoldAllStates hd r.start.marks (journal_by hd r) disks

-- nobody waits, and no frame is open
abbrev pub IsCalm : World → Type 0
IsCalm w = NobodyWaits w × (lowest_from 1 w.frames ≡ None)

-- so a run ends with a quiesce that begins where nobody waits and no frame is open
abbrev pub CalmQuiescesEndAtRest : Type 0
CalmQuiescesEndAtRest = (hd : Header) (r before : Run hd) → IsInForm hd r → EndsInQuiesce hd r before → IsCalm (world_by hd before) →
    EndsAtRest hd r

-- The run's last event is a quiesce, no limit was met, and the journal's last line says that every node is idle.
pub record SaysQuiet (hd : Header) (r before : Run hd) : Type 0 where
  pub last : Move
  pub are : r ≡ then before (last ∷ [])
  pub quiesces : (let e = last.asked in e.event) ≡ event.Quiesce
  pub unlimited : (let w = world_by hd r in w.over) ≡ false
  pub front : List Line
  pub number : ℕ
  pub line : journal_by hd r ≡ front ++ record { event = number; body = body.Quiet true } ∷ []

-- so a run ends at rest of which the journal says so
abbrev pub QuietLinesTell : Type 0
QuietLinesTell = (hd : Header) (r before : Run hd) → IsInForm hd r → SaysQuiet hd r before → EndsAtRest hd r

-- The run ends with the stated round: a quiesce, giveups of each action that waits then, and a second quiesce (or any giveups behind which
-- nobody waits).
pub record EndsInRound (hd : Header) (r : Run hd) : Type 0 where
  pub before : Run hd
  pub between : Run hd
  pub giveups : List Move
  pub first : EndsInQuiesce hd between before
  pub give_up : AllByRecursion IsGiveUp giveups
  pub who_waits : AreGivenUp giveups (world_by hd between) ⊎ NobodyWaits (world_by hd (then between giveups))
  pub second : EndsInQuiesce hd r (then between giveups)

-- and so does every run that ends with the stated round
abbrev pub RoundsEndAtRest : Type 0
RoundsEndAtRest = (hd : Header) (r : Run hd) → IsInForm hd r → EndsInRound hd r → EndsAtRest hd r
