-- A run that goes on behind a journal, and what is so of both together.
use Rattle.std.specs.Prelude.{List, ◌++◌, ◌<◌, ◌≡◌}
use Rattle.std.specs.List.{AllByRecursion}
use Rattle.arj_journal.specs.declared.body.Line.{Line}
use Rattle.arj_journal.specs.declared.header.Header.{Header}
use Rattle.arj_law.specs.Joined.{AreApart, GoesOn, marks_after}
use Rattle.arj_model.specs.Clean.{Clean}
use Rattle.arj_model.specs.Disks.{Disks}
use Rattle.arj_model.specs.Keeping.{KeepsTheBook}
use Rattle.arj_model.specs.Last.{first_values}
use Rattle.arj_model.specs.Serial.{Serial}
use Rattle.arj_promise.specs.Excluded.{DisksAreInTime}
use Rattle.arj_promise.specs.Promise.{HasDisks}
use Rattle.arj_promise.specs.Runs.{IsInForm, Run, journal_by, world_by}

-- The run begins where the journal ended: its header goes on, its start has the marks that the journal left, and its actions are others.
pub record Continues (header : Header) (first : List Line) (next : Header) (r : Run next) : Type 0 where
  pub goes : GoesOn header first next
  pub marks : r.start.marks ≡ marks_after header first
  pub apart : AreApart first (journal_by next r)

-- Where the journal is serial and keeps the book, so are both together; the disks at the run's end are clean of both; and stores are excluded
-- in time, where the run's last event has a greater number than those of the journal.
pub record GoOnTogether (header : Header) (first : List Line) (next : Header) (r : Run next) : Type 0 where
  pub serial : Serial (first_values header) first → Serial (first_values header) (first ++ journal_by next r)
  pub book : KeepsTheBook (first_values header) first → KeepsTheBook (first_values header) (first ++ journal_by next r)
  pub clean : (disks : Disks) → HasDisks next r disks → Clean header (first ++ journal_by next r) disks
  pub in_time : (disks : Disks) → HasDisks next r disks → let w = world_by next r in
      AllByRecursion (λ (line : Line). line.event < w.event) first → DisksAreInTime header w.event (first ++ journal_by next r) disks

-- so it is of each run in form
abbrev pub RunsGoOnTogether : Type 0
RunsGoOnTogether = (header : Header) (first : List Line) (next : Header) (r : Run next) → IsInForm next r → Continues header first next r →
    GoOnTogether header first next r
