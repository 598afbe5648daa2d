-- The input that says what was seen, and the inputs that are refused.
use Rattle.std.specs.Prelude.{◌≡◌, ◌≢◌, ◌<◌, ℕ, ◌+◌, ◌^◌, List, [], ◌∷◌, ◌++◌, length, codes, ⊤, false, Option, Some, None}
use Rattle.std.specs.List.{AllByRecursion, flat_map}
use Rattle.arj_journal.specs.LineForm.{LineInForm}
use Rattle.arj_journal.specs.LineText.{line_text, text}
use Rattle.arj_journal.specs.ScriptForm.{HeaderInForm}
use Rattle.arj_journal.specs.declared.body.Line.{Line}
use Rattle.arj_journal.specs.declared.event.Event.TheVariants as event
use Rattle.arj_journal.specs.declared.header.Header.{Header}
use Rattle.arj_script.specs.Grammar.{Asks, Form, HasForm, IsBadLine, Objects, Place, Run, Start, next_place}
use Rattle.arj_seen.specs.declared.fault.SeenFault.{SeenFault}
use Rattle.arj_seen.specs.declared.fault.SeenFault.TheVariants as fault
use Rattle.arj_seen.specs.declared.seen.Asked.{Asked}
use Rattle.arj_seen.specs.declared.seen.Asked.TheVariants as asked
use Rattle.arj_seen.specs.declared.seen.ScriptLine.{ScriptLine}
use Rattle.arj_seen.specs.declared.seen.Seen.{Seen}
use Rattle.arj_text.specs.Fields.{has_byte}

-- a line of a script with its end
abbrev pub ended : ScriptLine → List ℕ
ended line = line.text ++ 10 ∷ []

-- the text of a script's lines
abbrev pub script_text : List ScriptLine → List ℕ
script_text lines = flat_map ended lines

-- what a line of this form asks for
abbrev pub asked_by : Form → Asked
asked_by (Asks event.Settle) = asked.Settling
asked_by (Asks event.Quiesce) = asked.Settling
asked_by (Asks e) = asked.Event
asked_by form = asked.Nothing

-- the header behind a line of this form: `run` ends it
abbrev pub header_after : Place → Form → Option Header → Option Header
header_after (Objects h) Run header = Some h
header_after place form header = header

-- A line of a script at its place: no line feed stands in it, it has this form, and asks for what the form does.
pub record IsScriptLine (place : Place) (line : ScriptLine) (form : Form) : Type 0 where
  pub whole : has_byte 10 line.text ≡ false
  pub has : HasForm place line.text form
  pub asks : line.asked ≡ asked_by form

-- One after another, from this place and header on, these are lines of a script, and no line `journal`. Behind them it is at this
-- place, and has this header.
abbrev pub AreScript : Place → Option Header → List ScriptLine → Place → Option Header → Type 0
AreScript place header [] end after = (place ≡ end) × (header ≡ after)
AreScript place header (line ∷ lines) end after =
    (form : Form) × IsScriptLine place line form × (line.text ≢ codes "journal") × AreScript (next_place place form) (header_after place form header) lines end after

-- The input is the script, with the header that it says up to `run`, the line `journal`, and the text of the journal's lines, each in
-- form.
pub record IsSeen (bytes : List ℕ) (seen : Seen) : Type 0 where
  pub place : Place
  pub script : AreScript Start None seen.script.items place (Some seen.header)
  pub header : HeaderInForm seen.header
  pub input : bytes ≡ script_text seen.script.items ++ (codes "journal\n" ++ text seen.lines)
  pub lines : AllByRecursion LineInForm seen.lines

-- the number is this one, where that has room in 64 bits
abbrev pub IsNumber : ℕ → ℕ → Type 0
IsNumber number n = n < 2 ^ 64 → number ≡ n

-- The line behind these of a script isn't one of a script at its place, nor the line `journal`.
pub record HasBadScript (bytes : List ℕ) (number : ℕ) : Type 0 where
  pub done : List ScriptLine
  pub place : Place
  pub header : Option Header
  pub line : List ℕ
  pub rest : List ℕ
  pub script : AreScript Start None done place header
  pub whole : has_byte 10 line ≡ false
  pub bad : IsBadLine place line
  pub other : line ≢ codes "journal"
  pub input : bytes ≡ script_text done ++ (line ++ 10 ∷ rest)
  pub is : IsNumber number (length done + 1)

-- The line behind these of a script is `journal`, and no line `run` stands among them.
pub record HasNoRun (bytes : List ℕ) (number : ℕ) : Type 0 where
  pub done : List ScriptLine
  pub place : Place
  pub rest : List ℕ
  pub script : AreScript Start None done place None
  pub input : bytes ≡ script_text done ++ (codes "journal\n" ++ rest)
  pub is : IsNumber number (length done + 1)

-- Behind these lines of a script no line ends.
pub record HasNoJournal (bytes : List ℕ) (number : ℕ) : Type 0 where
  pub done : List ScriptLine
  pub place : Place
  pub header : Option Header
  pub rest : List ℕ
  pub script : AreScript Start None done place header
  pub whole : has_byte 10 rest ≡ false
  pub input : bytes ≡ script_text done ++ rest
  pub is : number ≡ length done

-- the bytes are a line with its line feed
pub record IsEnded (bytes : List ℕ) : Type 0 where
  pub front : List ℕ
  pub whole : has_byte 10 front ≡ false
  pub is : bytes ≡ front ++ 10 ∷ []

-- The first line of these bytes is no line of a journal, or they are the front of one and no line feed comes.
pub data IsNoJournal (bytes : List ℕ) : Type 0 where
  NoLine : (line rest : List ℕ) → bytes ≡ line ++ rest → IsEnded line → ((l : Line) → LineInForm l → line ≢ line_text l) → IsNoJournal bytes
  NoEnd : bytes ≢ [] → has_byte 10 bytes ≡ false → IsNoJournal bytes

-- so many lines behind the line `journal`, which is the line of this number
abbrev pub HasBadLine : ℕ → List ℕ → ℕ → Type 0
HasBadLine before bytes number =
    (lines : List Line) × (rest : List ℕ) × AllByRecursion LineInForm lines × (bytes ≡ text lines ++ rest) × IsNoJournal rest × IsNumber number (before + (length lines + 1))

-- Behind a script with its `run`, the line `journal`, and lines of a journal, what comes is no line of one.
pub record HasBadJournal (bytes : List ℕ) (number : ℕ) : Type 0 where
  pub done : List ScriptLine
  pub place : Place
  pub header : Header
  pub rest : List ℕ
  pub script : AreScript Start None done place (Some header)
  pub input : bytes ≡ script_text done ++ (codes "journal\n" ++ rest)
  pub bad : HasBadLine (length done + 1) rest number

-- This is so of an input that is refused so.
abbrev pub IsRefused : List ℕ → SeenFault → Type 0
IsRefused bytes (fault.NotOfAScript n) = HasBadScript bytes n
IsRefused bytes (fault.NoRun n) = HasNoRun bytes n
IsRefused bytes (fault.NoJournal n) = HasNoJournal bytes n
IsRefused bytes (fault.NotOfAJournal n) = HasBadJournal bytes n
IsRefused bytes fault.Memory = ⊤
