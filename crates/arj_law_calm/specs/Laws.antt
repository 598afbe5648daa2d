-- What a journal leaves is what a run can begin with.
use Rattle.std.specs.Prelude.{◌≡◌, ℕ, false, true, List, [], is_some}
use Rattle.std.specs.List.{AllByRecursion}
use Rattle.arj_journal.specs.LineForm.{LineInForm}
use Rattle.arj_journal.specs.ScriptForm.{HeaderInForm}
use Rattle.arj_journal.specs.declared.body.Line.{Line}
use Rattle.arj_journal.specs.declared.header.Header.{Header}
use Rattle.arj_law.specs.Joined.{GoesOn, marks_after}
use Rattle.arj_model.specs.Last.{listed, object_line}
use Rattle.arj_promise.specs.Runs.{FirstsAreHeld}
use Rattle.arj_reading.specs.Readable.{Readable}
use Rattle.arj_law_calm.specs.Next.{next_header}

-- no store is listed for what isn't an object of the header
abbrev pub ListsObjects : Header → List Line → Type 0
ListsObjects header lines = (x : ℕ) → is_some (object_line header x) ≡ false → listed header lines x ≡ []

-- the header goes on behind a journal that can be read as a run
abbrev pub HeadersGoOn : Type 0
HeadersGoOn = (header : Header) (lines : List Line) → Readable header lines → ListsObjects header lines →
    GoesOn header lines (next_header header lines)

-- what was never written has its first value still, which states of the format hold
abbrev pub FirstsStayHeld : Type 0
FirstsStayHeld = (header : Header) (lines : List Line) → HeaderInForm header →
    FirstsAreHeld (next_header header lines) (marks_after header lines)
