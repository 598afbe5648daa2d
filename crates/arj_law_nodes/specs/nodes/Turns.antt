-- What nodes run over disks, as runs of moves.
use Rattle.std.specs.Prelude.{◌≡◌, ◌≤◌, ◌⊎◌, ℕ, Bool, List, [], Some, None, length, map}
use Rattle.std.proofs.Common.{inl, inr}
use Rattle.std.specs.List.{AllByRecursion}
use Rattle.arj_core.specs.declared.node.Core as core
use Rattle.arj_disk.specs.declared.disk.Disk as disk
use Rattle.arj_journal.specs.ScriptForm.{EventInForm}
use Rattle.arj_loop.specs.Input.{Arrived}
use Rattle.arj_loop.specs.Replayed.{Answer, Closes, ComesSoFar, EndsSo, Outside, StopsShort}
use Rattle.arj_loop.specs.Running as loop
use Rattle.arj_loop.specs.Running.{Stage}
use Rattle.arj_loop.specs.declared.ending.End.{End}
use Rattle.arj_nodes.specs.AllNodes.{RanAll, Task, task}
use Rattle.arj_nodes.specs.AsMachine.{all_nodes}
use Rattle.arj_nodes.specs.declared.all_nodes.AllNodes.{AllNodes}
use Rattle.arj_protocol.specs.Words.{Line}
use Rattle.arj_script.specs.Grammar.{Place}
use Rattle.arj_script.specs.Input.{events_of}
use Rattle.arj_promise.specs.Runs.{FirstsAreHeld, HeaderFits, Move, journal_by, world_by}
use Rattle.arj_promise.specs.Runs.{see}
use Rattle.arj_world.specs.Stands.{Hand, hand}
use Rattle.arj_world.specs.Turns.{Turn, asked}
use Rattle.arj_promise.specs.Runs.{most_events}
use Rattle.arj_promise.specs.Runs.{IsInForm}
use Rattle.arj_promise.specs.Disks.{DisksAre}
use Rattle.arj_promise.specs.Starts.{IsFormed}
use Rattle.arj_law_nodes.specs.nodes.Cores.{SaysReadings}
use Rattle.arj_law_nodes.specs.nodes.Last.{EndsBehind, IsLast}
use Rattle.arj_law_nodes.specs.nodes.Promised.{ShowsThePromise, event_of, marks_of, run_of_task}
use Rattle.arj_law_nodes.specs.nodes.Readings.{Reads, readings_of}

-- ---- turns

-- a turn as a move: its event arms nothing, and these stops fell in it
abbrev pub as_move : Turn → Move
as_move t = record { asked = asked t.event; falls = t.falls }

-- ---- what is run

-- The header of what is run is in form, with values that the states hold with which it begins, its start is formed, and each of its events is
-- in form, of which there are at most 1,000,000.
pub record IsTaskInForm {D : Type 0} (t : Task D) : Type 0 where
  pub header : HeaderFits t.header
  pub held : FirstsAreHeld t.header (marks_of t)
  pub formed : IsFormed t.header t.start
  pub events : AllByRecursion EventInForm t.events
  pub few : length t.events ≤ most_events

-- What is at hand is what a run in form from the task's start makes of its events: its journal, its count of events and whether it is over; and
-- the disks are those of its nodes, in whichever way of reading files cores say so.
pub record HasMoved {C D : Type 0} (c : core.Ghosts C) (d : disk.Ghosts D) (t : Task D) (over : Bool) (now : Hand C D) : Type 0 where
  pub formed : IsFormed t.header t.start
  pub moves : List Move
  pub are : map event_of moves ≡ t.events
  pub form : IsInForm t.header (run_of_task t formed moves)
  pub journal : now.journal ≡ journal_by t.header (run_of_task t formed moves)
  pub event : length t.events ≡ (let w = world_by t.header (run_of_task t formed moves) in w.event)
  pub is_over : (let w = world_by t.header (run_of_task t formed moves) in w.over) ≡ over
  pub readings : (read : Reads) → SaysReadings c read →
      DisksAre (see [] (world_by t.header (run_of_task t formed moves))) (readings_of d read now.disks)

-- so it is of all that nodes run over disks, whatever stops these make
abbrev pub NodesMove : {C D : Type 0} → core.Ghosts C → disk.Ghosts D → Type 0
NodesMove {C} {D} c d = (t : Task D) (over : Bool) (now : Hand C D) → IsTaskInForm t → RanAll c d t over now → HasMoved c d t over now

-- and so it is of what they ran of a script's lines, once they are there, however the script's run ends
abbrev pub ScriptsMove : {C D : Type 0} → core.Ghosts C → disk.Ghosts D → Type 0
ScriptsMove {C} {D} c d = (first rack : List D) (lines : List (List ℕ)) (place : Place) (at : loop.Hand (AllNodes C))
    (s : Stage (all_nodes c d) first rack lines place at) (nodes : AllNodes C)
    → at.machine ≡ Some nodes → HasMoved c d (task first s.header (events_of s.forms)) nodes.over (hand nodes.world rack at.journal)

-- ---- what a run leaves

-- So it is of what a run of a script leaves at each status but 4 and 5: where nodes were formatted its journal is that of the events
-- that came, and the files of the disks that it leaves are theirs; a line outside of events may stand behind. Else there is that line at
-- most.
abbrev pub ClosesMove : {C D : Type 0} → core.Ghosts C → disk.Ghosts D → Type 0
ClosesMove {C} {D} c d = (before after : Outside D) (answer : Answer (AllNodes C)) (closes : Closes (all_nodes c d) before after answer)
    → ((let e = closes.ends in let at = e.at in at.machine) ≡ None → IsLast answer.journal)
    × ((nodes : AllNodes C) → (let e = closes.ends in let at = e.at in at.machine) ≡ Some nodes
    → (let e = closes.ends in let r = e.reached in let s = r.stage in let at = e.at in
    HasMoved c d (task before.rack s.header (events_of s.forms)) nodes.over (hand nodes.world after.rack at.journal))
    × EndsBehind (let e = closes.ends in let at = e.at in at.journal) answer.journal)

-- ---- what that shows

-- where cores say by their files, read so, what their nodes have on disk, all that nodes run over disks shows the promise
abbrev pub RunsShow : {C D : Type 0} → core.Ghosts C → disk.Ghosts D → Reads → Type 0
RunsShow {C} {D} c d read = (t : Task D) (over : Bool) (now : Hand C D) → IsTaskInForm t → RanAll c d t over now →
    ShowsThePromise d read t over now.journal now.disks

-- What a run of a script leaves at each status but 4 and 5 shows it, once nodes were formatted.
abbrev pub CloseShows : {C D : Type 0} (c : core.Ghosts C) (d : disk.Ghosts D) → Reads →
    (before after : Outside D) (answer : Answer (AllNodes C)) → Closes (all_nodes c d) before after answer → Type 0
CloseShows {C} c d read before after answer closes = (nodes : AllNodes C) →
    (let e = closes.ends in let at = e.at in at.machine) ≡ Some nodes
    → (let e = closes.ends in let r = e.reached in let s = r.stage in
    ShowsThePromise d read (task before.rack s.header (events_of s.forms)) nodes.over answer.journal after.rack)

-- so it does
abbrev pub ClosesShow : {C D : Type 0} → core.Ghosts C → disk.Ghosts D → Reads → Type 0
ClosesShow {C} {D} c d read = (before after : Outside D) (answer : Answer (AllNodes C))
    (closes : Closes (all_nodes c d) before after answer) → CloseShows c d read before after answer closes

-- How far a run came that stopped short.
abbrev pub Came : {C D : Type 0} → core.Ghosts C → disk.Ghosts D → Arrived → List D → List D → ℕ → List Line → Type 0
Came c d given first after status journal = ComesSoFar (all_nodes c d) given first after journal
    ⊎ ((status ≡ 4) × ((end : End) × EndsSo (all_nodes c d) given first after end journal))

-- Of a run that came so far the journal shows it, once nodes were formatted: with the disks as they were behind it, or with those that the
-- run left where it came to its end.
abbrev pub SoFarShows : {C D : Type 0} (c : core.Ghosts C) (d : disk.Ghosts D) → Reads →
    (given : Arrived) (first after : List D) (status : ℕ) (journal : List Line) → Came c d given first after status journal → Type 0
SoFarShows {C} c d read given first after status journal (inl (at, half, is, went)) = (nodes : AllNodes C) → at.machine ≡ Some nodes
    → (let h = half in let s = h.stage in ShowsThePromise d read (task first s.header (events_of s.forms)) nodes.over journal h.mid)
SoFarShows {C} c d read given first after status journal (inr (is, (end, ends))) = (nodes : AllNodes C) →
    (let e = ends in let at = e.at in at.machine) ≡ Some nodes
    → (let e = ends in let r = e.reached in let s = r.stage in
    ShowsThePromise d read (task first s.header (events_of s.forms)) nodes.over journal after)

-- so it is of the journal of which the sink took a front, at the status 4 and 5
abbrev pub StopShows : {C D : Type 0} (c : core.Ghosts C) (d : disk.Ghosts D) → Reads → (before after : Outside D) (status : ℕ) →
    StopsShort (all_nodes c d) before after status → Type 0
StopShows c d read before after status s = SoFarShows c d read s.given before.rack after.rack status s.journal s.run

-- of every such run
abbrev pub StopsShow : {C D : Type 0} → core.Ghosts C → disk.Ghosts D → Reads → Type 0
StopsShow {C} {D} c d read = (before after : Outside D) (status : ℕ) (s : StopsShort (all_nodes c d) before after status) →
    StopShows c d read before after status s
