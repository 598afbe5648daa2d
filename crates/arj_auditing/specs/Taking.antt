-- What is kept of an image, line by line.
use Rattle.std.specs.Prelude.{◌≡◌, ◌-◌, ◌⊎◌, ⊤, ℕ, List, length, Bool, ◌||◌, nat_le, if◌then◌else◌}
use Rattle.arj_auditing.specs.Found.{HasRoom}
use Rattle.arj_auditing.specs.Parts.{IsFront}
use Rattle.arj_auditing.specs.declared.intake.Intake.{Intake}
use Rattle.arj_auditing.specs.declared.intake.Stop.{Stop}
use Rattle.arj_auditing.specs.declared.intake.Stop.TheVariants as stop
use Rattle.arj_image.specs.declared.limits.TheConstants.{FILE_LINES, IMAGE_LINES}
use Rattle.arj_image.specs.Grammar.{IsBadLine, is_whole}
use Rattle.arj_image.specs.declared.limits.TheConstants.{FILE_LINE_BYTES, IMAGE_LINE_BYTES}
use Rattle.arj_image.specs.declared.place.Place.{Place}

-- These lines were taken.
pub record IsAt (lines : List (List ℕ)) (taken : Intake) : Type 0 where
  pub front : IsFront lines taken.reader
  pub lines_are : taken.lines ≡ length lines
  pub files_are : (let p = taken.reader in let i = p.image in taken.files ≡ length i.files)
  pub whole_is : (let p = taken.reader in taken.whole ≡ is_whole p.stage)

-- the most bytes of the next line
abbrev pub most_at : Intake → ℕ
most_at taken = if taken.whole then FILE_LINE_BYTES else IMAGE_LINE_BYTES

-- how many lines may come yet
abbrev pub room_at : Intake → ℕ
room_at taken = IMAGE_LINES - taken.lines

-- no further line is taken
abbrev pub is_full_at : Intake → Bool
is_full_at taken = nat_le IMAGE_LINES taken.lines || nat_le FILE_LINES taken.files

-- why the line behind these isn't taken
abbrev pub IsWhy : List (List ℕ) → List ℕ → Stop → Place → Type 0
IsWhy done line stop.Unknown place = HasRoom done place × IsBadLine place line
IsWhy done line stop.Long place = (length done ≡ IMAGE_LINES) ⊎ (let i = place.image in length i.files ≡ FILE_LINES)
IsWhy done line stop.Memory place = ⊤

-- The line behind these isn't taken.
abbrev pub StopsAt : List (List ℕ) → List ℕ → Stop → Intake → Type 0
StopsAt done line stop.Memory taken = ⊤
StopsAt done line why taken = IsAt done taken × IsWhy done line why taken.reader
