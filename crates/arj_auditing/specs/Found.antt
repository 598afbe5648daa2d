-- What is found of an input, and what is written of it.
use Rattle.std.specs.Prelude.{◌≡◌, ◌<◌, ◌+◌, ◌⊎◌, ⊤, ℕ, List, ◌++◌, length, codes, Bool, true, false, Some, Result, Ok, Err}
use Rattle.arj_audit.specs.Calm.{HasFindings}
use Rattle.arj_audit.specs.declared.findings.Findings.{Findings}
use Rattle.arj_auditing.specs.Parts.{IsFront}
use Rattle.arj_auditing.specs.declared.auditing.Failure.{Failure}
use Rattle.arj_auditing.specs.declared.auditing.Failure.TheVariants as failure
use Rattle.arj_auditing.specs.declared.finding.Finding.{Finding}
use Rattle.arj_auditing.specs.declared.finding.Finding.TheVariants as finding
use Rattle.arj_image.specs.declared.limits.TheConstants.{FILE_LINES, IMAGE_LINES}
use Rattle.arj_checking.specs.Found.{outside_text, unreadable_text}
use Rattle.arj_image.specs.Grammar.{IsBadLine, is_whole, most_bytes}
use Rattle.arj_image.specs.Written.{whole_place}
use Rattle.arj_image.specs.declared.image.Image.{Image}
use Rattle.arj_image.specs.declared.place.Place.{Place}
use Rattle.arj_journal.specs.declared.body.Body.TheVariants as body
use Rattle.arj_journal.specs.declared.body.Which.TheVariants as which
use Rattle.arj_lines.specs.Reading.{Input, IsAtLine, IsPastLine}
use Rattle.arj_loop.specs.declared.ending.BadLine.{BadLine}
use Rattle.arj_loop.specs.declared.ending.BadLine.TheVariants as why
use Rattle.arj_reading.specs.Readable.{Readable, broken}
use Rattle.arj_script.specs.Input.{AtEnd, AtFault, ended_lines, lines_of}

-- ---- what is found

-- the input ended, and it is this image
abbrev pub IsImage : Input → Image → Type 0
IsImage given image = (given.stopped ≡ AtEnd) × IsFront (lines_of AtEnd given.came) (whole_place image)

-- these lines and those of the files aren't as many as there may be
abbrev pub HasRoom : List (List ℕ) → Place → Type 0
HasRoom done place = (length done < IMAGE_LINES) × (let i = place.image in length i.files < FILE_LINES)

-- The line behind these lines of an image is bad: it is longer than it may be at its place, or has no form there; or the input ended, and
-- there is no such line.
abbrev pub IsBadBehind : Input → List (List ℕ) → Place → BadLine → Type 0
IsBadBehind given done place why.TooLong = IsPastLine given done (most_bytes place.stage)
IsBadBehind given done place why.Unknown = (line : List ℕ) × IsAtLine given done line × HasRoom done place × IsBadLine place line
IsBadBehind given done place why.Missing = (given.stopped ≡ AtEnd) × (done ≡ lines_of AtEnd given.came) × (is_whole place.stage ≡ false)

-- the line with this number, from 1, is the first bad one of the input
abbrev pub IsBadAt : Input → ℕ → BadLine → Type 0
IsBadAt given number why =
    (done : List (List ℕ)) × (place : Place) × (number ≡ length done + 1) × IsFront done place × IsBadBehind given done place why

-- a line more came than an image may have, or its files
abbrev pub IsTooMany : Input → Type 0
IsTooMany given =
    (done : List (List ℕ)) × (place : Place) × (line : List ℕ) × IsFront done place × IsAtLine given done line
    × ((length done ≡ IMAGE_LINES) ⊎ (let i = place.image in length i.files ≡ FILE_LINES))

-- this is so of an image: its journal can't be read as a run, or it can, and these findings are so
abbrev pub Judges : Image → Finding → Type 0
Judges image (finding.Unreadable b) = broken image.header image.journal ≡ Some b
Judges image (finding.Found f) = Readable image.header image.journal × HasFindings image f
Judges image _ = ⊥

-- this is so of the input
abbrev pub Finds : Input → Finding → Type 0
Finds given (finding.Bad number why) = IsBadAt given number why
Finds given finding.Long = IsTooMany given
Finds given (finding.Unreadable b) = (image : Image) × IsImage given image × Judges image (finding.Unreadable b)
Finds given (finding.Found f) = (image : Image) × IsImage given image × Judges image (finding.Found f)

-- a read failed, and what had come is the front of an image
abbrev pub IsCutOff : Input → Type 0
IsCutOff given = (given.stopped ≡ AtFault) × ((place : Place) × IsFront (ended_lines given.came) place)

-- what was found, or why nothing was
abbrev pub FindsOrFails : Input → Result Finding Failure → Type 0
FindsOrFails given (Ok found) = Finds given found
FindsOrFails given (Err failure.Read) = IsCutOff given
FindsOrFails given (Err failure.Memory) = ⊤

-- ---- what is written

-- whether it is so
abbrev pub answer_word : Bool → List ℕ
answer_word true = codes " yes\n"
answer_word false = codes " no\n"

-- the word of a finding, and whether it is so
abbrev pub found_text : List ℕ → Bool → List ℕ
found_text word found = word ++ answer_word found

-- a line for each finding
abbrev pub findings_text : Findings → List ℕ
findings_text f =
    found_text (codes "serial") f.serial ++ (found_text (codes "clean") f.clean ++ (found_text (codes "quiet") f.quiet ++
    found_text (codes "calm") f.calm))

-- what is written of what is found
abbrev pub finding_text : Finding → List ℕ
finding_text (finding.Bad number why) = outside_text (body.Bad number)
finding_text finding.Long = outside_text (body.Limit which.Lines)
finding_text (finding.Unreadable b) = unreadable_text b
finding_text (finding.Found f) = findings_text f

-- the status of an image from which a run can go on, or can't
abbrev pub calm_status : Bool → ℕ
calm_status true = 0
calm_status false = 8

-- the status where it was written
abbrev pub finding_status : Finding → ℕ
finding_status (finding.Bad number why) = 2
finding_status finding.Long = 6
finding_status (finding.Unreadable b) = 8
finding_status (finding.Found f) = calm_status f.calm
