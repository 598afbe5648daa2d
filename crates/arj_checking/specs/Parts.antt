-- The parts of an input: a script, the line `journal`, and the lines of a journal.
use Rattle.std.specs.Prelude.{◌≡◌, ◌≤◌, ℕ, List, [], ◌∷◌, ◌++◌, length, codes, ⊤, Option, Some, None}
use Rattle.arj_checking.specs.declared.limits.TheConstants.{JOURNAL_LINES, JOURNAL_LINE_BYTES}
use Rattle.arj_journal.specs.LineForm.{LineInForm}
use Rattle.arj_journal.specs.LineText.{line_text}
use Rattle.arj_journal.specs.declared.body.Line.{Line}
use Rattle.arj_journal.specs.declared.header.Header.{Header}
use Rattle.arj_loop.specs.Forms.{HaveForms}
use Rattle.arj_loop.specs.Input.{header_from}
use Rattle.arj_script.specs.Grammar.{Form, Place, Running, Start}
use Rattle.arj_script.specs.declared.limits.TheConstants.{SCRIPT_LINES}

-- the header that these forms end: there is one exactly behind `run`
abbrev pub HeaderIs : List Form → Place → Option Header → Type 0
HeaderIs forms place None = (place ≡ Running → ⊥) × (header_from Start forms ≡ None)
HeaderIs forms place (Some h) = (place ≡ Running) × (header_from Start forms ≡ Some h)

-- These lines are the front of a script, up to a place, with the header that it has once `run` was read.
pub record IsScript (lines : List (List ℕ)) (place : Place) (header : Option Header) : Type 0 where
  pub forms : List Form
  pub read : HaveForms Start lines forms place
  pub header_is : HeaderIs forms place header
  pub few : length lines ≤ SCRIPT_LINES

-- The bytes, a line feed behind them, are the text of this journal line, which is in form.
pub record IsLine (bytes : List ℕ) (line : Line) : Type 0 where
  pub short : length bytes ≤ JOURNAL_LINE_BYTES
  pub form : LineInForm line
  pub text : bytes ++ 10 ∷ [] ≡ line_text line

-- no journal line has this text
abbrev pub IsNoLine : List ℕ → Type 0
IsNoLine bytes = (line : Line) → IsLine bytes line → ⊥

-- one after another they are
abbrev pub AreLines : List (List ℕ) → List Line → Type 0
AreLines [] [] = ⊤
AreLines (bytes ∷ more) (line ∷ lines) = IsLine bytes line × AreLines more lines
AreLines [] (line ∷ lines) = ⊥
AreLines (bytes ∷ more) [] = ⊥

-- These lines are a script, the line `journal`, and the lines of this journal.
pub record HasJournal (lines : List (List ℕ)) (header : Header) (journal : List Line) : Type 0 where
  pub script : List (List ℕ)
  pub texts : List (List ℕ)
  pub cut : lines ≡ script ++ codes "journal" ∷ texts
  pub is_script : IsScript script Running (Some header)
  pub are_lines : AreLines texts journal
  pub few : length journal ≤ JOURNAL_LINES

-- behind `run` this line ends the script
abbrev pub BeginsJournal : Option Header → List ℕ → Type 0
BeginsJournal None line = ⊥
BeginsJournal (Some h) line = line ≡ codes "journal"
