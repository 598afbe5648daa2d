-- What came from a source, and where reading it line by line ended.
use Rattle.std.specs.Prelude.{◌≡◌, ◌≢◌, ◌<◌, ◌+◌, ◌⊎◌, ⊤, ℕ, List, [], ◌∷◌, ◌++◌, length, IfSome}
use Rattle.arj_base.specs.Count.{Rose}
use Rattle.arj_io.specs.Told.{Gives}
use Rattle.arj_lines.specs.declared.ending.Ending.{Ending}
use Rattle.arj_lines.specs.declared.ending.Ending.TheVariants as ending
use Rattle.arj_lines.specs.declared.limits.TheConstants.{READ_BYTES}
use Rattle.arj_lines.specs.declared.taker.Taker.{Ghosts}
use Rattle.arj_loop.specs.Input.{SourceView}
use Rattle.arj_script.specs.Input.{Stopped, AtEnd, AtFault, AtRunEnd, ended_lines, rest_line, lines_of}

-- The bytes that came from a source, and how reading it stopped.
pub record Input : Type 0 where
  pub came : List ℕ
  pub stopped : Stopped

-- what came, of these
abbrev pub input : List ℕ → Stopped → Input
input came stopped = record { came = came; stopped = stopped }

-- These bytes came from the source, and reading stopped so: at the input's end, at a read that failed, or before either.
pub record Gave (before after : SourceView) (given : Input) : Type 0 where
  pub gives : Gives before.left given.came after.left
  pub at_end : given.stopped ≡ AtEnd → IfSome before.left (λ _. IfSome after.left (λ rest. rest ≡ []))
  pub at_fault : given.stopped ≡ AtFault → Rose before.faults after.faults
  pub no_fault : (given.stopped ≡ AtFault → ⊥) → after.faults ≡ before.faults

-- the bytes that came begin with these, and at most 511 past them came
abbrev pub ReadsUpTo : Input → List ℕ → Type 0
ReadsUpTo given used = (past : List ℕ) × (given.came ≡ used ++ past) × (length past < READ_BYTES)

-- reading ended at this line, behind these: its end came, or the input ended with it
abbrev pub IsAtLine : Input → List (List ℕ) → List ℕ → Type 0
IsAtLine given done line =
    ((given.stopped ≡ AtRunEnd) × ((used : List ℕ) × (ended_lines used ≡ done ++ line ∷ []) × (rest_line used ≡ []) × ReadsUpTo given used))
    ⊎ ((given.stopped ≡ AtEnd) × (ended_lines given.came ≡ done) × (rest_line given.came ≡ line) × (line ≢ []))

-- reading ended in the line behind these, at the first byte past so many
abbrev pub IsPastLine : Input → List (List ℕ) → ℕ → Type 0
IsPastLine given done most =
    (given.stopped ≡ AtRunEnd) × ((used : List ℕ) × (ended_lines used ≡ done) × (length (rest_line used) ≡ most + 1) × ReadsUpTo given used)

-- Which lines were taken, and where and why no other was.
abbrev pub EndsSo : {T F : Type 0} → Ghosts T F → Input → T → Ending F → Type 0
EndsSo t given taker ending.End = (given.stopped ≡ AtEnd) × t.stands (lines_of AtEnd given.came) taker
EndsSo t given taker ending.Fault = (given.stopped ≡ AtFault) × t.stands (ended_lines given.came) taker
EndsSo t given taker ending.TooLong = (done : List (List ℕ)) × t.stands done taker × IsPastLine given done (t.most taker)
EndsSo t given taker (ending.Stopped why) =
    (done : List (List ℕ)) × (line : List ℕ) × t.stops done line why taker × IsAtLine given done line
EndsSo t given taker ending.Memory = ⊤
