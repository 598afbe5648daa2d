-- Which inputs are client programs, and where an input isn't.
use Rattle.std.specs.Prelude.{◌≡◌, ◌≢◌, ◌≤◌, ◌<◌, ◌+◌, ⊤, ℕ, List, [], ◌∷◌, ◌++◌, length, Option, Some, None, Result, Ok, Err}
use Rattle.std.specs.List.{AllByRecursion}
use Rattle.arj_lines.specs.Reading.{Input, IsAtLine, IsPastLine}
use Rattle.arj_loop.specs.declared.ending.BadLine.{BadLine}
use Rattle.arj_loop.specs.declared.ending.BadLine.TheVariants as why
use Rattle.arj_prog.specs.Drafts.{plan_of}
use Rattle.arj_prog.specs.Grammar.{Blank, Form, HasForm, IsBadLine, Says, next_place}
use Rattle.arj_prog.specs.declared.draft.Draft.{Draft}
use Rattle.arj_prog.specs.declared.limits.TheConstants.{PROGRAMS, TURNS}
use Rattle.arj_prog.specs.declared.place.Place.{Place}
use Rattle.arj_prog.specs.declared.place.Place.TheVariants.{Heading, Drafting, Over}
use Rattle.arj_prog.specs.declared.plan.Plan.{Plan}
use Rattle.arj_prog.specs.declared.said.Said.TheVariants as said
use Rattle.arj_programs.specs.declared.reading.Stop.{Stop}
use Rattle.arj_programs.specs.declared.reading.Stop.TheVariants as stop
use Rattle.arj_progrun.specs.InForm.{PlanInForm}
use Rattle.arj_script.specs.Grammar.{Start}
use Rattle.arj_script.specs.Input.{AtEnd, AtFault, ended_lines, lines_of}
use Rattle.arj_script.specs.declared.limits.TheConstants.{LINE_BYTES, SCRIPT_LINES}

-- where an input begins
abbrev pub beginning : Place
beginning = Heading Start

-- the lines have these forms, one after another, from a place to a place
abbrev pub HaveForms : Place → List (List ℕ) → List Form → Place → Type 0
HaveForms place [] [] end = place ≡ end
HaveForms place (line ∷ lines) (form ∷ forms) end = HasForm place line form × HaveForms (next_place place form) lines forms end
HaveForms place [] (form ∷ forms) end = ⊥
HaveForms place (line ∷ lines) [] end = ⊥

-- behind `run` a line is blank
abbrev pub IsBlankBehind : List ℕ → Type 0
IsBlankBehind line = HasForm Over line Blank

-- These lines are client programs, read as this plan: lines up to a draft of it, the line `run`, and blank lines.
pub record IsPlan (lines : List (List ℕ)) (plan : Plan) : Type 0 where
  pub front : List (List ℕ)
  pub run : List ℕ
  pub back : List (List ℕ)
  pub cut : lines ≡ front ++ run ∷ back
  pub forms : List Form
  pub draft : Draft
  pub read : HaveForms beginning front forms (Drafting draft)
  pub runs : HasForm (Drafting draft) run (Says said.Run)
  pub plan_is : plan ≡ plan_of draft
  pub blank : AllByRecursion IsBlankBehind back

-- these lines are the front of client programs, up to a place: before `run`, or behind it with the plan that was read
abbrev pub IsFrontAt : List (List ℕ) → Place → Option Plan → Type 0
IsFrontAt lines place None = (place ≢ Over) × ((forms : List Form) × HaveForms beginning lines forms place)
IsFrontAt lines place (Some plan) = (place ≡ Over) × IsPlan lines plan

-- The same of lines that are not too many.
pub record IsFront (lines : List (List ℕ)) (place : Place) (plan : Option Plan) : Type 0 where
  pub at : IsFrontAt lines place plan
  pub few : length lines ≤ SCRIPT_LINES

-- the input ended, and its lines are client programs
abbrev pub IsWhole : Input → Plan → Type 0
IsWhole given plan = (given.stopped ≡ AtEnd) × IsPlan (lines_of AtEnd given.came) plan

-- The line behind these is bad: it is longer than 500 bytes, or it isn't in the grammar at its place; or the input ended before `run`.
abbrev pub IsBadBehind : Input → List (List ℕ) → BadLine → Type 0
IsBadBehind given done why.TooLong = (place : Place) × (plan : Option Plan) × IsFront done place plan × IsPastLine given done LINE_BYTES
IsBadBehind given done why.Unknown =
    (place : Place) × (plan : Option Plan) × (line : List ℕ) × IsFront done place plan × IsAtLine given done line
    × (length done < SCRIPT_LINES) × IsBadLine place line
IsBadBehind given done why.Missing =
    (place : Place) × IsFront done place None × (given.stopped ≡ AtEnd) × (done ≡ lines_of AtEnd given.came)

-- the line with this number, from 1, is the first bad one of the input
abbrev pub IsBadAt : Input → ℕ → BadLine → Type 0
IsBadAt given number why = (done : List (List ℕ)) × (number ≡ length done + 1) × IsBadBehind given done why

-- a line more came than there may be
abbrev pub IsTooMany : Input → Type 0
IsTooMany given =
    (done : List (List ℕ)) × (place : Place) × (plan : Option Plan) × (line : List ℕ) × IsFront done place plan × IsAtLine given done line
    × (length done ≡ SCRIPT_LINES)

-- a read failed, and what had come could have been client programs to its end
abbrev pub IsCutOff : Input → Type 0
IsCutOff given = (given.stopped ≡ AtFault) × ((place : Place) × (plan : Option Plan) × IsFront (ended_lines given.came) place plan)

-- A plan is in form, and has no more turns and programs than it may have.
pub record IsFit (plan : Plan) : Type 0 where
  pub form : PlanInForm plan
  pub turns : plan.turns ≤ TURNS
  pub some : 0 < length plan.programs
  pub few : length plan.programs ≤ PROGRAMS

-- what was read, or why there is no plan
abbrev pub Reads : Input → Result Plan Stop → Type 0
Reads given (Ok plan) = IsWhole given plan × IsFit plan
Reads given (Err (stop.Bad number why)) = IsBadAt given number why
Reads given (Err stop.Long) = IsTooMany given
Reads given (Err stop.Fault) = IsCutOff given
Reads given (Err stop.Memory) = ⊤
