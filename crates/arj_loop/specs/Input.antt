-- What came from the source, and how much of it was run.
use Rattle.std.specs.Prelude.{◌≡◌, ◌≤◌, ◌<◌, ◌⊎◌, ◌+◌, ℕ, List, [], ◌∷◌, ◌++◌, length, false, Option, Some, None, IfSome}
use Rattle.arj_base.specs.Count.{Rose}
use Rattle.arj_io.specs.Told.{Gives}
use Rattle.arj_journal.specs.declared.header.Header.{Header}
use Rattle.arj_loop.specs.declared.limits.TheConstants.{READ_BYTES}
use Rattle.arj_script.specs.Grammar.{Form, Run, Place, Objects, next_place}
use Rattle.arj_script.specs.Input.{Stopped, AtEnd, AtFault, AtRunEnd, is_enough, ended_lines, lines_of, rest_line}
use Rattle.arj_script.specs.declared.limits.TheConstants.{LINE_BYTES}

-- What a source tells: the bytes that are left, where it tells them, and how many of its reads failed.
pub record SourceView : Type 0 where
  pub left : Option (List ℕ)
  pub faults : ℕ

-- what a source tells, of these
abbrev pub source_view : Option (List ℕ) → ℕ → SourceView
source_view left faults = record { left = left; faults = faults }

-- What came from a source: all bytes, those that had come before the last read that gave any, and how reading stopped.
pub record Arrived : Type 0 where
  pub came : List ℕ
  pub earlier : List ℕ
  pub stopped : Stopped

-- what came, of these
abbrev pub arrived : List ℕ → List ℕ → Stopped → Arrived
arrived came earlier stopped = record { came = came; earlier = earlier; stopped = stopped }

-- These bytes came from the source, in pieces of at most 512, and reading stopped so: at the input's end, at a read that
-- failed, or where the run ended. A line that is too long, or one past the last, ends the run: before the last read that
-- gave bytes there was none, nor is there one where the input ended or a read failed.
pub record Came (before after : SourceView) (given : Arrived) : Type 0 where
  pub gives : Gives before.left given.came after.left
  pub at_end : given.stopped ≡ AtEnd → IfSome before.left (λ _. IfSome after.left (λ rest. rest ≡ []))
  pub at_fault : given.stopped ≡ AtFault → Rose before.faults after.faults
  pub no_fault : (given.stopped ≡ AtFault → ⊥) → after.faults ≡ before.faults
  pub needed : (piece : List ℕ) × (given.came ≡ given.earlier ++ piece) × (length piece ≤ READ_BYTES) × (is_enough given.earlier ≡ false)
  pub not_enough : (given.stopped ≡ AtRunEnd → ⊥) → is_enough given.came ≡ false

-- The run of so many lines hadn't ended before the last read that gave bytes, each line that had ended then being one of
-- them; nor where the input ended or a read failed.
pub record WentOn (given : Arrived) (count : ℕ) : Type 0 where
  pub earlier : length (ended_lines given.earlier) ≤ count
  pub to_the_end : (given.stopped ≡ AtRunEnd → ⊥) → length (ended_lines given.came) ≤ count

-- the bytes end with the line behind so many others, or with its first byte too many
abbrev pub IsUpToLine : List ℕ → ℕ → Type 0
IsUpToLine bytes count =
    ((length (ended_lines bytes) ≡ count + 1) × (rest_line bytes ≡ []))
    ⊎ ((length (ended_lines bytes) ≡ count) × (length (rest_line bytes) ≡ LINE_BYTES + 1))

-- where the run ended at the line behind so many others, at most 511 bytes past that line came
abbrev pub ReadsFewPast : Arrived → ℕ → Type 0
ReadsFewPast given count =
    given.stopped ≡ AtRunEnd →
    (used : List ℕ) × (past : List ℕ) × (given.came ≡ used ++ past) × (length past < READ_BYTES) × IsUpToLine used count

-- the header that the line `run` ends
abbrev pub header_from : Place → List Form → Option Header
header_from place [] = None
header_from (Objects h) (Run ∷ forms) = Some h
header_from place (form ∷ forms) = header_from (next_place place form) forms

-- How reading stopped, and the lines of what has come.
pub record Script : Type 0 where
  pub stopped : Stopped
  pub lines : List (List ℕ)

-- a script, of these
abbrev pub script : Stopped → List (List ℕ) → Script
script stopped lines = record { stopped = stopped; lines = lines }

-- the lines of what came
abbrev pub script_of : Arrived → Script
script_of given = script given.stopped (lines_of given.stopped given.came)
