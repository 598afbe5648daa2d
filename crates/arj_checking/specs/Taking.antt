-- What is kept of an input, line by line.
use Rattle.std.specs.Prelude.{◌≡◌, ◌<◌, ◌+◌, ◌-◌, ⊤, ℕ, List, [], length, Bool, true, false, Option, Some, if◌then◌else◌}
use Rattle.arj_checking.specs.Parts.{BeginsJournal, HasJournal, IsNoLine, IsScript}
use Rattle.arj_checking.specs.declared.finding.Half.{Half}
use Rattle.arj_checking.specs.declared.finding.Half.TheVariants as half
use Rattle.arj_checking.specs.declared.limits.TheConstants.{JOURNAL_LINES, JOURNAL_LINE_BYTES}
use Rattle.arj_checking.specs.declared.parts.Parts.{Parts}
use Rattle.arj_checking.specs.declared.parts.Stop.{Stop}
use Rattle.arj_checking.specs.declared.parts.Stop.TheVariants as stop
use Rattle.arj_journal.specs.declared.header.Header.{Header}
use Rattle.arj_script.specs.Grammar.{IsBadLine}
use Rattle.arj_script.specs.declared.limits.TheConstants.{LINE_BYTES, SCRIPT_LINES}
use Rattle.arj_script.specs.declared.reader.Item.{Item}
use Rattle.arj_script.specs.declared.reader.Item.TheVariants as item

-- the lines are the front of an input, in this half
abbrev pub IsIn : Bool → List (List ℕ) → Parts → Type 0
IsIn false lines parts = IsScript lines parts.reader parts.header × (parts.journal ≡ [])
IsIn true lines parts = (header : Header) × (parts.header ≡ Some header) × HasJournal lines header parts.journal

-- these lines were taken
abbrev pub IsAt : List (List ℕ) → Parts → Type 0
IsAt lines parts = (parts.lines ≡ length lines) × IsIn parts.in_journal lines parts

-- the half in which the next line stands
abbrev pub half_in : Bool → Half
half_in false = half.Script
half_in true = half.Journal

-- the same, by what is kept
abbrev pub half_at : Parts → Half
half_at parts = half_in parts.in_journal

-- the most bytes of the next line
abbrev pub most_at : Parts → ℕ
most_at parts = if parts.in_journal then JOURNAL_LINE_BYTES else LINE_BYTES

-- how many lines may come yet
abbrev pub room_at : Parts → ℕ
room_at parts = if parts.in_journal then JOURNAL_LINES - length parts.journal else (SCRIPT_LINES - parts.lines) + (JOURNAL_LINES + 1)

-- why the line behind these isn't taken
abbrev pub IsWhy : Bool → List (List ℕ) → List ℕ → Stop → Parts → Type 0
IsWhy false done line stop.Unknown parts =
    (length done < SCRIPT_LINES) × IsBadLine parts.reader line × (BeginsJournal parts.header line → ⊥)
IsWhy false done line stop.Long parts = (length done ≡ SCRIPT_LINES) × (BeginsJournal parts.header line → ⊥)
IsWhy true done line stop.Unknown parts = (length parts.journal < JOURNAL_LINES) × IsNoLine line
IsWhy true done line stop.Long parts = length parts.journal ≡ JOURNAL_LINES
IsWhy in_journal done line stop.Memory parts = ⊤

-- The line behind these isn't taken.
abbrev pub StopsAt : List (List ℕ) → List ℕ → Stop → Parts → Type 0
StopsAt done line stop.Memory parts = ⊤
StopsAt done line why parts = IsAt done parts × IsWhy parts.in_journal done line why parts

-- the header behind a line of the script
abbrev pub header_after : Item → Option Header → Option Header
header_after (item.Run header) before = Some header
header_after _ before = before
