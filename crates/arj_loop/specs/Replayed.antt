-- What a run leaves: how it ended, or how far it came.
use Rattle.std.specs.Prelude.{◌≡◌, ◌≢◌, ◌⊎◌, ℕ, List, [], ◌++◌, length, take, Option, None}
use Rattle.std.proofs.Common.{inl, inr}
use Rattle.arj_io.specs.Told.{Takes}
use Rattle.arj_journal.specs.declared.body.Line.{Line}
use Rattle.arj_journal.specs.LineText.{text}
use Rattle.arj_loop.specs.declared.ending.BadLine.{BadLine}
use Rattle.arj_loop.specs.declared.ending.End.{End}
use Rattle.arj_loop.specs.declared.ending.End.TheVariants as ending
use Rattle.arj_loop.specs.declared.machine.Machine.{Ghosts}
use Rattle.arj_script.specs.Grammar.{Place}
use Rattle.arj_loop.specs.Input.{Arrived, Came, WentOn, ReadsFewPast, script_of, source_view}
use Rattle.arj_loop.specs.Running.{Hand, Halfway, IsUnfinished, Reached, events_run, header_at, last_body, last_lines, lines_before}
use Rattle.arj_loop.specs.Running.{status_of, why_of}

-- What a run finds and leaves outside of it. The bytes that are left in the source, where it tells them, and its count of
-- failed reads; the bytes that the sink has taken, where it tells them; and the disks.
pub record Outside (D : Type 0) : Type 0 where
  pub left : Option (List ℕ)
  pub faults : ℕ
  pub taken : Option (List ℕ)
  pub rack : List D

-- what is outside of a run, of these
abbrev pub outside : {D : Type 0} → Option (List ℕ) → ℕ → Option (List ℕ) → List D → Outside D
outside left faults taken rack = record { left = left; faults = faults; taken = taken; rack = rack }

-- What a run answers: its status, why a line is bad, if one is, the journal that it leaves, and the machine, if one was made.
pub record Answer (M : Type 0) : Type 0 where
  pub status : ℕ
  pub why : Option BadLine
  pub journal : List Line
  pub machine : Option M

-- an answer, of these
abbrev pub answer : {M : Type 0} → ℕ → Option BadLine → List Line → Option M → Answer M
answer status why journal machine = record { status = status; why = why; journal = journal; machine = machine }

-- the sink took a front of the journal's text, and at 5 all of it
abbrev pub TookFront : ℕ → List Line → Option (List ℕ) → Option (List ℕ) → Type 0
TookFront status journal before after =
    (count : ℕ) × Takes before (take count (text journal)) after × (status ≡ 5 → count ≡ length (text journal))

-- the disks that the run left are those of its last event, or a disk was stopped while it was formatted
abbrev pub LeavesRack : {D M : Type 0} → Ghosts M D → End → Place → List D → List D → List D → Type 0
LeavesRack m end place first mid after =
    ((end ≡ ending.Format) × m.stopped first after × m.moved (header_at place) [] mid after) ⊎ ((end ≢ ending.Format) × (after ≡ mid))

-- the journal, with the line outside events that the end writes
abbrev pub whole_journal : {D M : Type 0} → Ghosts M D → End → Hand M → List Line
whole_journal m end at = at.journal ++ last_lines (last_body end at.count) (events_run m at.machine)

-- The run of what came ended so, with this journal, and so many lines were run before the one at which it ended.
pub record EndsSo {D M : Type 0} (m : Ghosts M D) (given : Arrived) (first after : List D) (end : End) (journal : List Line) : Type 0 where
  pub at : Hand M
  pub mid : List D
  pub reached : Reached m first mid (script_of given) at end
  pub racks : LeavesRack m end reached.place first mid after
  pub journal_is : journal ≡ whole_journal m end at
  pub went_on : WentOn given (lines_before end at.count)
  pub past : ReadsFewPast given (lines_before end at.count)

-- A run to a status other than 4 and 5: which bytes came, how the run of them ended, and with which machine, and that the sink
-- took the journal's text and nothing else.
pub record Closes {D M : Type 0} (m : Ghosts M D) (before after : Outside D) (answer : Answer M) : Type 0 where
  pub given : Arrived
  pub reads : Came (source_view before.left before.faults) (source_view after.left after.faults) given
  pub end : End
  pub status_is : answer.status ≡ status_of end
  pub why_is : answer.why ≡ why_of end
  pub ends : EndsSo m given before.rack after.rack end answer.journal
  pub machine_is : answer.machine ≡ (let at = ends.at in at.machine)
  pub wrote : Takes before.taken (text answer.journal) after.taken

-- the journal is that of the lines that were run
abbrev pub ComesSoFar : {D M : Type 0} → Ghosts M D → Arrived → List D → List D → List Line → Type 0
ComesSoFar {D} {M} m given first after journal =
    (at : Hand M) × Halfway m first after (script_of given) at × (journal ≡ at.journal) × WentOn given at.count

-- how far a run to the status 4 or 5 came: so far, or, at 4, to its end
abbrev pub CameTo : {D M : Type 0} → Ghosts M D → Arrived → List D → List D → ℕ → List Line → Type 0
CameTo m given first after status journal =
    ComesSoFar m given first after journal ⊎ ((status ≡ 4) × ((end : End) × EndsSo m given first after end journal))

-- it didn't come to its end: a line is left, or `run` wasn't read
abbrev pub IsCutShort : {D M : Type 0} (m : Ghosts M D) (given : Arrived) (first after : List D) (status : ℕ) (journal : List Line) →
    CameTo m given first after status journal → Type 0
IsCutShort m given first after status journal (inl (at, half, is, went)) = IsUnfinished half.place half.rest
IsCutShort m given first after status journal (inr ended) = ⊥

-- A run to the status 4 or 5: which bytes came, how far the run of them came, and that the sink took a front of the text of
-- its journal, at 5 all of it. At 4 the run may have come to its end, at 5 it was cut short.
pub record StopsShort {D M : Type 0} (m : Ghosts M D) (before after : Outside D) (status : ℕ) : Type 0 where
  pub given : Arrived
  pub journal : List Line
  pub reads : Came (source_view before.left before.faults) (source_view after.left after.faults) given
  pub run : CameTo m given before.rack after.rack status journal
  pub cut : status ≡ 5 → IsCutShort m given before.rack after.rack status journal run
  pub wrote : TookFront status journal before.taken after.taken
