-- Runs of client programs on a machine.
use Rattle.std.specs.Prelude.{ℕ, ◌≡◌, ◌<◌, ◌≤◌, ◌⊎◌, List, [], ◌∷◌, ◌++◌, length, true, false, Option, Some, None}
use Rattle.std.specs.List.{AllByRecursion}
use Rattle.arj_journal.specs.ScriptForm.{EventInForm, HeaderInForm}
use Rattle.arj_journal.specs.declared.body.Body.TheVariants as body
use Rattle.arj_journal.specs.declared.body.Line.{Line}
use Rattle.arj_journal.specs.declared.body.Which.{Which}
use Rattle.arj_journal.specs.declared.body.Which.TheVariants as which
use Rattle.arj_journal.specs.declared.event.Event.{Event}
use Rattle.arj_journal.specs.declared.header.Header.{Header}
use Rattle.arj_loop.specs.Limits.{EndsAtFrames}
use Rattle.arj_loop.specs.declared.limits.TheConstants.{MOST_EVENTS}
use Rattle.arj_loop.specs.declared.machine.Machine.{Ghosts}
use Rattle.arj_prog.specs.declared.limits.TheConstants.{PROGRAMS}
use Rattle.arj_prog.specs.declared.plan.Plan.{Plan}
use Rattle.arj_programs.specs.declared.driven.Driven.{Driven}
use Rattle.arj_progrun.specs.Driving.{Drives}
use Rattle.arj_progrun.specs.Stepped.{stepping}
use Rattle.arj_progrun.specs.declared.report.ReportLine.{ReportLine}

-- What a run leaves: the disks, the journal, and the machine, if one was made.
pub record Left (D M : Type 0) : Type 0 where
  pub rack : List D
  pub journal : List Line
  pub machine : Option M

-- what a run leaves, of these
abbrev pub left : {D M : Type 0} → List D → List Line → Option M → Left D M
left rack journal machine = record { rack = rack; journal = journal; machine = machine }

-- What was run, from these disks on, under this header: events in form, by a machine that stands so on these disks, with this
-- journal.
pub record Ran {D M : Type 0} (m : Ghosts M D) (first : List D) (header : Header) (machine : M) (rack : List D) : Type 0 where
  pub events : List Event
  pub lines : List Line
  pub ran : m.ran first header events rack lines machine
  pub header_form : HeaderInForm header
  pub form : AllByRecursion EventInForm events
  pub few : length events ≤ MOST_EVENTS

-- The whole schedule of a plan was run, which has programs, and no more than it may have, and this is told of it: the events were those of
-- the schedule by their journal.
pub record RanPlan {D M : Type 0} (m : Ghosts M D) (plan : Plan) (first : List D) (now : Left D M) (told : List ReportLine) : Type 0 where
  pub some : 0 < length plan.programs
  pub few : length plan.programs ≤ PROGRAMS
  pub machine : M
  pub machine_is : now.machine ≡ Some machine
  pub run : Ran m first plan.header machine now.rack
  pub journal : now.journal ≡ run.lines
  pub going : m.over machine ≡ false
  pub drives : Drives plan (stepping run.events run.lines (m.steps machine)) told

-- the line that says that no label is left
abbrev pub no_labels : ℕ → Line
no_labels event = record { event = event; body = body.Limit which.Labels }

-- how a run that met a limit has ended: a frame didn't fit in its last event, or the next one would give one label too many
abbrev pub EndsBy : {D M : Type 0} → Ghosts M D → Which → Header → M → List D → List Line → List Line → Type 0
EndsBy m which.Frames header machine rack lines journal = (m.over machine ≡ true) × EndsAtFrames lines × (journal ≡ lines)
EndsBy m which.Labels header machine rack lines journal =
    (m.over machine ≡ false) × ((e : Event) × m.is_full header e rack machine) × (journal ≡ lines ++ no_labels (m.steps machine) ∷ [])
EndsBy m which.Lines header machine rack lines journal = ⊥

-- A run under this header met a limit, and the journal's last line says so.
pub record MetLimit {D M : Type 0} (m : Ghosts M D) (header : Header) (first : List D) (now : Left D M) : Type 0 where
  pub machine : M
  pub machine_is : now.machine ≡ Some machine
  pub run : Ran m first header machine now.rack
  pub which : Which
  pub ends : EndsBy m which header machine now.rack run.lines now.journal

-- Memory was wanting in an event, or behind it: events were run, and the disks may have changed by what the next one asks.
pub record WasLeft {D M : Type 0} (m : Ghosts M D) (first : List D) (header : Header) (rack : List D) : Type 0 where
  pub machine : M
  pub mid : List D
  pub run : Ran m first header machine mid
  pub since : (rack ≡ mid) ⊎ ((e : Event) × m.moved header (e ∷ []) mid rack)

-- how far a run of a plan came: nothing was done, or the disks were formatted, or events were run
abbrev pub ComesSoFar : {D M : Type 0} → Ghosts M D → Plan → List D → List D → Type 0
ComesSoFar m plan first after = (after ≡ first) ⊎ (m.moved plan.header [] first after ⊎ WasLeft m first plan.header after)

-- A disk was stopped while it was formatted: nothing was run.
pub record StopsAtFormat {D M : Type 0} (m : Ghosts M D) (plan : Plan) (first : List D) (now : Left D M) : Type 0 where
  pub journal : now.journal ≡ []
  pub machine : now.machine ≡ None
  pub stopped : m.stopped first now.rack
  pub moved : m.moved plan.header [] first now.rack

-- ---- while it is run

-- A machine has run the events that are kept.
pub record IsRunning {D M : Type 0} (m : Ghosts M D) (first : List D) (header : Header) (d : Driven M) (rack : List D) : Type 0 where
  pub ran : m.ran first header d.events rack d.journal d.machine
  pub going : m.over d.machine ≡ false
  pub header_form : HeaderInForm header
  pub form : AllByRecursion EventInForm d.events
  pub counted : m.steps d.machine ≡ length d.events
  pub few : length d.events ≤ MOST_EVENTS

-- it met a limit
abbrev pub HasEnded : {D M : Type 0} → Ghosts M D → Which → List D → Header → Driven M → List D → Type 0
HasEnded m which first header d rack = (r : Ran m first header d.machine rack) × EndsBy m which header d.machine rack r.lines d.journal
