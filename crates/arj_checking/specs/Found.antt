-- What is found of an input, and what is written of it.
use Rattle.std.specs.Prelude.{◌≡◌, ◌<◌, ◌+◌, ◌⊎◌, ⊤, ℕ, List, [], ◌∷◌, ◌++◌, length, codes, Option, Some, None, Result, Ok, Err}
use Rattle.std.specs.Fmt.{decimal}
use Rattle.arj_check.specs.Verdicts.{SaysVerdict}
use Rattle.arj_check.specs.declared.verdict.Verdict.{Verdict}
use Rattle.arj_checking.specs.Parts.{BeginsJournal, HasJournal, IsNoLine, IsScript}
use Rattle.arj_checking.specs.declared.checking.Failure.{Failure}
use Rattle.arj_checking.specs.declared.checking.Failure.TheVariants as failure
use Rattle.arj_checking.specs.declared.finding.Finding.{Finding}
use Rattle.arj_checking.specs.declared.finding.Finding.TheVariants as finding
use Rattle.arj_checking.specs.declared.finding.Half.{Half}
use Rattle.arj_checking.specs.declared.finding.Half.TheVariants as half
use Rattle.arj_checking.specs.declared.limits.TheConstants.{JOURNAL_LINES, JOURNAL_LINE_BYTES}
use Rattle.arj_journal.specs.LineText.{line_text}
use Rattle.arj_journal.specs.declared.body.Body.{Body}
use Rattle.arj_journal.specs.declared.body.Body.TheVariants as body
use Rattle.arj_journal.specs.declared.body.Line.{Line}
use Rattle.arj_journal.specs.declared.body.Which.TheVariants as which
use Rattle.arj_journal.specs.declared.header.Header.{Header}
use Rattle.arj_lines.specs.Reading.{Input, IsAtLine, IsPastLine}
use Rattle.arj_loop.specs.declared.ending.BadLine.{BadLine}
use Rattle.arj_loop.specs.declared.ending.BadLine.TheVariants as why
use Rattle.arj_reading.specs.Readable.{Readable, broken}
use Rattle.arj_reading.specs.declared.rule.Broken.{Broken}
use Rattle.arj_replay.specs.declared.run.Wrong.{Wrong}
use Rattle.arj_script.specs.Grammar.{IsBadLine, Place}
use Rattle.arj_script.specs.Input.{AtEnd, AtFault, ended_lines, lines_of}
use Rattle.arj_script.specs.declared.limits.TheConstants.{LINE_BYTES, SCRIPT_LINES}

-- ---- what is found

-- the input ended, and it is a script with this header and this journal
abbrev pub IsWhole : Input → Header → List Line → Type 0
IsWhole given header journal = (given.stopped ≡ AtEnd) × HasJournal (lines_of AtEnd given.came) header journal

-- The line behind these lines of a script is bad: it is longer than 500 bytes, or it is no line of a script at its place, nor,
-- behind `run`, the line `journal`; or the input ended, and there is no such line.
abbrev pub IsBadInScript : Input → List (List ℕ) → BadLine → Type 0
IsBadInScript given done why.TooLong =
    (place : Place) × (header : Option Header) × IsScript done place header × IsPastLine given done LINE_BYTES
IsBadInScript given done why.Unknown =
    (place : Place) × (header : Option Header) × (line : List ℕ) × IsScript done place header × IsAtLine given done line
    × (length done < SCRIPT_LINES) × IsBadLine place line × (BeginsJournal header line → ⊥)
IsBadInScript given done why.Missing =
    (place : Place) × (header : Option Header) × IsScript done place header × (given.stopped ≡ AtEnd) × (done ≡ lines_of AtEnd given.came)

-- The line behind these, which have a script and a journal, is bad: it is longer than 1,100 bytes, or no journal line has its text.
abbrev pub IsBadInJournal : Input → List (List ℕ) → BadLine → Type 0
IsBadInJournal given done why.TooLong =
    (header : Header) × (journal : List Line) × HasJournal done header journal × IsPastLine given done JOURNAL_LINE_BYTES
IsBadInJournal given done why.Unknown =
    (header : Header) × (journal : List Line) × (line : List ℕ) × HasJournal done header journal × IsAtLine given done line
    × (length journal < JOURNAL_LINES) × IsNoLine line
IsBadInJournal given done why.Missing = ⊥

-- in this half the line behind these is bad
abbrev pub IsBadIn : Half → Input → List (List ℕ) → BadLine → Type 0
IsBadIn half.Script given done why = IsBadInScript given done why
IsBadIn half.Journal given done why = IsBadInJournal given done why

-- the line with this number, from 1, is the first bad one of the input
abbrev pub IsBadAt : Input → ℕ → Half → BadLine → Type 0
IsBadAt given number at why = (done : List (List ℕ)) × (number ≡ length done + 1) × IsBadIn at given done why

-- a line more came than this half may have
abbrev pub IsTooMany : Input → Half → Type 0
IsTooMany given half.Script =
    (done : List (List ℕ)) × (place : Place) × (header : Option Header) × (line : List ℕ) × IsScript done place header × IsAtLine given done line
    × (length done ≡ SCRIPT_LINES) × (BeginsJournal header line → ⊥)
IsTooMany given half.Journal =
    (done : List (List ℕ)) × (header : Header) × (journal : List Line) × (line : List ℕ) × HasJournal done header journal × IsAtLine given done line
    × (length journal ≡ JOURNAL_LINES)

-- this is so of a journal under this header: it can't be read as a run, or it can, and this is the verdict
abbrev pub Judges : Header → List Line → Finding → Type 0
Judges header journal (finding.Unreadable b) = broken header journal ≡ Some b
Judges header journal (finding.Verdict v) = Readable header journal × SaysVerdict header journal v
Judges header journal _ = ⊥

-- this is so of the input
abbrev pub Finds : Input → Finding → Type 0
Finds given (finding.Bad number at why) = IsBadAt given number at why
Finds given (finding.Long at) = IsTooMany given at
Finds given (finding.Unreadable b) =
    (header : Header) × (journal : List Line) × IsWhole given header journal × Judges header journal (finding.Unreadable b)
Finds given (finding.Verdict v) =
    (header : Header) × (journal : List Line) × IsWhole given header journal × Judges header journal (finding.Verdict v)

-- these lines are the front of an input that can be checked
abbrev pub IsFront : List (List ℕ) → Type 0
IsFront lines =
    ((place : Place) × (header : Option Header) × IsScript lines place header) ⊎ ((header : Header) × (journal : List Line) × HasJournal lines header journal)

-- a read failed, and what had come could have been checked to its end
abbrev pub IsCutOff : Input → Type 0
IsCutOff given = (given.stopped ≡ AtFault) × IsFront (ended_lines given.came)

-- what was found, or why nothing was
abbrev pub FindsOrFails : Input → Result Finding Failure → Type 0
FindsOrFails given (Ok found) = Finds given found
FindsOrFails given (Err failure.Read) = IsCutOff given
FindsOrFails given (Err failure.Memory) = ⊤

-- ---- what is written

-- the text of a line behind no event
abbrev pub outside_text : Body → List ℕ
outside_text b = line_text (record { event = 0; body = b })

-- the line that breaks a rule, by its place
abbrev pub unreadable_text : Broken → List ℕ
unreadable_text b = codes "unreadable " ++ (decimal b.line ++ 10 ∷ [])

-- no, and the event of the first call whose answer differs
abbrev pub no_text : ℕ → List ℕ
no_text event = codes " no " ++ (decimal event ++ 10 ∷ [])

-- the word of an order, and whether each answer is that of this order
abbrev pub order_text : List ℕ → Option Wrong → List ℕ
order_text word None = word ++ codes " yes\n"
order_text word (Some wrong) = word ++ no_text wrong.event

-- a line for each order
abbrev pub verdict_text : Verdict → List ℕ
verdict_text v = order_text (codes "serial") v.serial ++ order_text (codes "nested") v.nested

-- what is written of what is found
abbrev pub finding_text : Finding → List ℕ
finding_text (finding.Bad number at why) = outside_text (body.Bad number)
finding_text (finding.Long at) = outside_text (body.Limit which.Lines)
finding_text (finding.Unreadable b) = unreadable_text b
finding_text (finding.Verdict v) = verdict_text v

-- yes twice, or else
abbrev pub verdict_status : Option Wrong → Option Wrong → ℕ
verdict_status None None = 0
verdict_status None (Some wrong) = 8
verdict_status (Some wrong) nested = 8

-- the status where it was written
abbrev pub finding_status : Finding → ℕ
finding_status (finding.Bad number at why) = 2
finding_status (finding.Long at) = 6
finding_status (finding.Unreadable b) = 8
finding_status (finding.Verdict v) = verdict_status v.serial v.nested
