-- Programs that are driven over nodes.
use Rattle.std.specs.Prelude.{ℕ, ◌≡◌, ◌≤◌, ◌⊎◌, List, length}
use Rattle.arj_journal.specs.Stepping.{EndsWithLimit}
use Rattle.arj_journal.specs.declared.body.Which.{Which}
use Rattle.arj_journal.specs.declared.event.Event.{Event}
use Rattle.arj_journal.specs.declared.header.Header.{Header}
use Rattle.arj_journal.specs.ScriptForm.{EventInForm}
use Rattle.arj_prog.specs.declared.limits.TheConstants.{TURNS}
use Rattle.arj_prog.specs.declared.plan.Plan.{Plan}
use Rattle.arj_progrun.specs.InForm.{PlanInForm}
use Rattle.arj_progrun.specs.Schedule.{Ends, Given, Schedule, Standing, Turns, report_of}
use Rattle.arj_progrun.specs.Stepped.{HasStepped, Stepping}
use Rattle.arj_progrun.specs.declared.nodes.Nodes as nodes
use Rattle.arj_progrun.specs.declared.report.ReportLine.{ReportLine}

-- ---- what is given and told

-- So many turns were taken of the schedule, and what was given in them was stepped.
pub record IsDriven (plan : Plan) (turns : ℕ) (now : Stepping) (standing : Standing) : Type 0 where
  pub trace : List Given
  pub took : Turns plan turns trace standing
  pub stepped : HasStepped trace now
  pub few : length trace ≤ turns

-- The turns of the schedule came to their end.
pub record IsEnded (plan : Plan) (now : Stepping) (standing : Standing) : Type 0 where
  pub turns : ℕ
  pub driven : IsDriven plan turns now standing
  pub ends : Ends plan turns standing
  pub few : turns ≤ TURNS

-- The whole schedule of a plan was given by what the events wrote, and this is told of it.
pub record Drives (plan : Plan) (now : Stepping) (told : List ReportLine) : Type 0 where
  pub trace : List Given
  pub end : Standing
  pub schedule : Schedule plan trace end
  pub stepped : HasStepped trace now
  pub is_told : told ≡ report_of end

-- ---- nodes

-- they take each event that is in form if the plan is
abbrev pub Takes : {N R : Type 0} → nodes.Ghosts N R → Plan → Type 0
Takes n plan = (e : Event) → (PlanInForm plan → EventInForm e) → n.takes e

-- The nodes, and what they run on, at one moment.
pub record Moment (N R : Type 0) : Type 0 where
  pub nodes : N
  pub on : R

-- one moment, of these
abbrev pub moment : {N R : Type 0} → N → R → Moment N R
moment nodes on = record { nodes = nodes; on = on }

-- some run stands so
abbrev pub Stands : {N R : Type 0} → nodes.Ghosts N R → Moment N R → Type 0
Stands {N} {R} n now = (first : R) × (header : Header) × n.stands first header now.nodes now.on

-- each run that stood so stands on
abbrev pub StandsOn : {N R : Type 0} → nodes.Ghosts N R → Moment N R → Moment N R → Type 0
StandsOn {N} {R} n old new =
    (first : R) (header : Header) → n.stands first header old.nodes old.on → n.stands first header new.nodes new.on

-- each run that stood so has met this limit, and the journal says so last
abbrev pub EndsAt : {N R : Type 0} → nodes.Ghosts N R → Which → Moment N R → Moment N R → Type 0
EndsAt {N} {R} n which old new =
    EndsWithLimit which (let s = n.stepped new.nodes new.on in s.journal)
    × ((first : R) (header : Header) → n.stands first header old.nodes old.on → n.ended which first header new.nodes new.on)

-- memory was wanting: each run that stood so stands on, or was left in an event
abbrev pub StopsAt : {N R : Type 0} → nodes.Ghosts N R → Moment N R → Moment N R → Type 0
StopsAt {N} {R} n old new =
    (first : R) (header : Header) → n.stands first header old.nodes old.on →
    n.stands first header new.nodes new.on ⊎ n.left first header new.on
