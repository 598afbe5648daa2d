-- What the answers to a step mean.
use Rattle.std.specs.Prelude.{◌≡◌, List, [], ◌∷◌, ◌++◌, Bool, true, false, Result, Ok, Err}
use Rattle.arj_journal.specs.declared.body.Body.TheVariants as body
use Rattle.arj_journal.specs.declared.body.Line.{Line}
use Rattle.arj_journal.specs.declared.body.Which.{Which}
use Rattle.arj_journal.specs.declared.body.Which.TheVariants as which
use Rattle.arj_journal.specs.declared.step.StepFault.{StepFault}
use Rattle.arj_journal.specs.declared.step.StepFault.TheVariants as step_fault

-- the event was run: all went well, or the limit of frames was met
abbrev pub is_run : {A : Type 0} → Result A StepFault → Bool
is_run (Ok u) = true
is_run (Err (step_fault.Limit which.Frames)) = true
is_run (Err _) = false

-- another limit was met, and the event was not run
abbrev pub is_left : {A : Type 0} → Result A StepFault → Bool
is_left (Ok u) = false
is_left (Err (step_fault.Limit which.Lines)) = true
is_left (Err (step_fault.Limit which.Labels)) = true
is_left (Err _) = false

-- the lines were written: at any answer but want of memory
abbrev pub is_written : {A : Type 0} → Result A StepFault → Bool
is_written (Ok u) = true
is_written (Err (step_fault.Limit w)) = true
is_written (Err step_fault.Memory) = false

-- the last line says that this limit ended the run
abbrev pub EndsWithLimit : Which → List Line → Type 0
EndsWithLimit w lines = (front : List Line) × (last : Line) × (lines ≡ front ++ last ∷ []) × (last.body ≡ body.Limit w)
