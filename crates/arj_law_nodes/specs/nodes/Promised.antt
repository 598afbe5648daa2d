-- What the journal of a run shows of the promise, and the disks that the run leaves.
use Rattle.std.specs.Prelude.{◌≡◌, ◌++◌, ℕ, Bool, true, false, List, [], ◌∷◌, length, map}
use Rattle.std.specs.List.{AllByRecursion}
use Rattle.arj_disk.specs.declared.disk.Disk as disk
use Rattle.arj_promise.specs.Held.{HoldsEach}
use Rattle.arj_law_serial.specs.joint.Booked.{KeepsTheBook}
use Rattle.arj_promise.specs.Excluded.{DisksAreInTimeFrom}
use Rattle.arj_promise.specs.Runs.{IsInForm}
use Rattle.arj_promise.specs.Outcome.{ShowsOneOutcome}
use Rattle.arj_promise.specs.Disks.{DisksAre}
use Rattle.arj_journal.specs.declared.event.Event.{Event}
use Rattle.arj_model.specs.Clean.{CleanFrom}
use Rattle.arj_model.specs.Last.{first_values}
use Rattle.arj_nodes.specs.AllNodes.{Task}
use Rattle.arj_promise.specs.Resting.{HoldAllStates}
use Rattle.arj_protocol.specs.Words.{Line}
use Rattle.arj_protocol.specs.Words.body
use Rattle.arj_protocol.specs.Words.event
use Rattle.arj_promise.specs.Serial.{IsSerialBy}
use Rattle.arj_start.specs.Start.{Marks}
use Rattle.arj_promise.specs.Runs.{Move, Run, journal_by, see, world_by}
use Rattle.arj_promise.specs.Starts.{IsFormed}
use Rattle.arj_law_nodes.specs.nodes.Last.{EndsBehind, IsLast, ends_run}
use Rattle.arj_law_nodes.specs.nodes.Readings.{Reads, readings_of}

-- The last event is a quiesce, and the journal's last line, but for one outside of events, says that every node is idle.
pub record EndsIdle (events : List Event) (lines : List Line) : Type 0 where
  pub before : List Event
  pub are : events ≡ before ++ event.Quiesce ∷ []
  pub front : List Line
  pub number : ℕ
  pub last : List Line
  pub outside : IsLast last
  pub line : lines ≡ front ++ record { event = number; body = body.Quiet true } ∷ last

-- the event of a move
abbrev pub event_of : Move → Event
event_of m = let a = m.asked in a.event

-- the run of a task with these moves, from its start on
abbrev pub run_of_task : {D : Type 0} (t : Task D) → IsFormed t.header t.start → List Move → Run t.header
run_of_task t formed moves = record { start = t.start; formed = formed; moves = moves }

-- The journal, but for lines outside of events, is that of a run in form of the protocol from the task's start, with these events, whatever
-- stops fell in it; and each node's disk is what the files of its disk say: its pairs, its records and its incarnation.
pub record IsOfRun {D : Type 0} (d : disk.Ghosts D) (read : Reads) (t : Task D) (journal : List Line) (rack : List D) : Type 0 where
  pub formed : IsFormed t.header t.start
  pub moves : List Move
  pub are : map event_of moves ≡ t.events
  pub form : IsInForm t.header (run_of_task t formed moves)
  pub last : List Line
  pub outside : AllByRecursion (λ (l : Line). ends_run l.body ≡ true) last
  pub lines : journal ≡ journal_by t.header (run_of_task t formed moves) ++ last
  pub disks : DisksAre (see [] (world_by t.header (run_of_task t formed moves))) (readings_of d read rack)

-- the marks of what is held where a task begins
abbrev pub marks_of : {D : Type 0} → Task D → Marks
marks_of t = let st = t.start in st.marks

-- A run shows the promise (`arj_law_promise/statement`): by its journal, which may have a line outside of events behind it, and by the
-- files of its disks, as they are read. Whether the run is over, since a frame was too many, is told beside.
pub record ShowsThePromise {D : Type 0} (d : disk.Ghosts D) (read : Reads) (t : Task D) (over : Bool) (journal : List Line)
    (rack : List D) : Type 0 where
  -- it is a run of the protocol, whose nodes' disks the files say
  pub run : IsOfRun d read t journal rack
  -- committed tops got the answers of running them alone, one after another, and so did nested actions, each whole at its commit
  pub serial : IsSerialBy (let a = t in a.header) journal
  -- calls that conflict stand in the order in which locks let them through, and each is answered by the writes before it
  pub book : KeepsTheBook (let a = t in first_values a.header) journal
  -- each surviving call of a committed top is locked for at each line until its unit is committed
  pub held : HoldsEach journal
  -- what is done as committed was decided before, and an abort of what was decided has a cause
  pub outcome : ShowsOneOutcome journal
  -- where nothing is in doubt, disks hold the journal's entries and last states
  pub clean : CleanFrom (let a = t in a.header) (marks_of t) journal (readings_of d read rack)
  -- each listed store of what a top of the last event wrote holds the last state, has it prepared, or is about to be taken out
  pub in_time : DisksAreInTimeFrom (let a = t in a.header) (marks_of t) (let a = t in length a.events) journal (readings_of d read rack)
  -- and where the last event left nothing to do, and said so, disks hold all of these with no exception
  pub rest : over ≡ false → EndsIdle (let a = t in a.events) journal →
      HoldAllStates (let a = t in a.header) (marks_of t) journal (readings_of d read rack)

-- a line outside of events, behind a journal, takes nothing of what the journal shows
abbrev pub PromisesStay : {D : Type 0} → disk.Ghosts D → Type 0
PromisesStay {D} d = (read : Reads) (t : Task D) (over : Bool) (core journal : List Line) (rack : List D) → EndsBehind core journal →
    ShowsThePromise d read t over core rack → ShowsThePromise d read t over journal rack
