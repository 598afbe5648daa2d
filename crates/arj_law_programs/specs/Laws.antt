-- In every run that a schedule of programs gives, the calls that count are those that survive.
use Rattle.std.specs.Prelude.{◌≡◌, ◌<◌, ◌≤◌, List, length, map}
use Rattle.std.specs.List.{AllByRecursion, flat_map}
use Rattle.arj_journal.specs.declared.header.Header.{Header}
use Rattle.arj_law_programs.specs.Alone.{RunsAsAlone}
use Rattle.arj_law_programs.specs.Counts.{CallsAreThose}
use Rattle.arj_law_runs.specs.follow.Frames.{run_events}
use Rattle.arj_model.specs.Last.{first_values}
use Rattle.arj_model.specs.Serial.{Serial}
use Rattle.arj_prog.specs.declared.limits.TheConstants.{PROGRAMS}
use Rattle.arj_prog.specs.declared.plan.Plan.{Plan}
use Rattle.arj_progrun.specs.Schedule.{Given, Schedule, Standing}
use Rattle.arj_progrun.specs.Stepped.{AreNumbered}
use Rattle.arj_promise.specs.Runs.{IsInForm, Move, from_format, journal_by}

-- the plan has programs, and no more than it may have
abbrev pub HasPrograms : Plan → Type 0
HasPrograms plan = (0 < length plan.programs) × (length plan.programs ≤ PROGRAMS)

-- A run in form behind a format has run the events of a trace, and its journal is that of them, line by line.
pub record IsRunOf (hd : Header) (moves : List Move) (trace : List Given) : Type 0 where
  pub form : IsInForm hd (from_format hd moves)
  pub events : map (λ g. g.event) trace ≡ run_events hd (from_format hd moves)
  pub journal : flat_map (λ g. g.lines) trace ≡ journal_by hd (from_format hd moves)
  pub numbered : AreNumbered 1 trace

-- Where a whole schedule gave them, each program that committed has its top in the journal, and the calls that count of it are its top's.
abbrev pub CallsSurvive : Type 0
CallsSurvive = (hd : Header) (moves : List Move) (plan : Plan) (trace : List Given) (end : Standing) → HasPrograms plan →
    Schedule plan trace end → IsRunOf hd moves trace → AllByRecursion (CallsAreThose (journal_by hd (from_format hd moves))) end.clients

-- And where the journal is serial, it did in the serial order what it does alone.
abbrev pub ProgramsRunAlone : Type 0
ProgramsRunAlone = (hd : Header) (moves : List Move) (plan : Plan) (trace : List Given) (end : Standing) → HasPrograms plan →
    Schedule plan trace end → IsRunOf hd moves trace → Serial (first_values hd) (journal_by hd (from_format hd moves)) →
    AllByRecursion (RunsAsAlone hd (journal_by hd (from_format hd moves))) end.clients
