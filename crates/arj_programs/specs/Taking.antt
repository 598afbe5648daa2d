-- What is kept of an input, line by line.
use Rattle.std.specs.Prelude.{◌≡◌, ◌<◌, ◌-◌, ⊤, ℕ, List, length, IfSome}
use Rattle.arj_journal.specs.ScriptForm.{HeaderInForm}
use Rattle.arj_prog.specs.Grammar.{IsBadLine}
use Rattle.arj_programs.specs.Input.{IsFront}
use Rattle.arj_programs.specs.declared.taking.Taking.{Taking}
use Rattle.arj_programs.specs.declared.taking.Refusal.{Refusal}
use Rattle.arj_programs.specs.declared.taking.Refusal.TheVariants as refusal
use Rattle.arj_script.specs.declared.limits.TheConstants.{LINE_BYTES, SCRIPT_LINES}

-- These lines were taken.
pub record IsAt (lines : List (List ℕ)) (t : Taking) : Type 0 where
  pub counted : t.lines ≡ length lines
  pub front : IsFront lines t.reader t.plan
  pub header : IfSome t.plan (λ plan. HeaderInForm plan.header)

-- the most bytes of the next line
abbrev pub most_at : Taking → ℕ
most_at t = LINE_BYTES

-- how many lines may come yet
abbrev pub room_at : Taking → ℕ
room_at t = SCRIPT_LINES - t.lines

-- why the line behind these isn't taken
abbrev pub IsWhy : List (List ℕ) → List ℕ → Refusal → Taking → Type 0
IsWhy done line refusal.Unknown t = (length done < SCRIPT_LINES) × IsBadLine t.reader line
IsWhy done line refusal.Long t = length done ≡ SCRIPT_LINES
IsWhy done line refusal.Memory t = ⊤

-- the line behind these isn't taken
abbrev pub StopsAt : List (List ℕ) → List ℕ → Refusal → Taking → Type 0
StopsAt done line why t = IsAt done t × IsWhy done line why t
