-- Which lines of a journal are in form.
use Rattle.std.specs.Prelude.{List}
use Rattle.std.specs.List.{AllByRecursion}
use Rattle.arj_journal.specs.LineForm.{LineInForm}
use Rattle.arj_journal.specs.declared.body.Line.{Line}
use Rattle.arj_journal.specs.declared.header.Header.{Header}
use Rattle.arj_promise.specs.Runs.{IsInForm, Run, journal_by}

-- each line of the journal is in form
abbrev pub AreInForm : List Line → Type 0
AreInForm lines = AllByRecursion LineInForm lines

-- So it is of every run in form.
abbrev pub RunsAreInForm : Type 0
RunsAreInForm = (hd : Header) (r : Run hd) → IsInForm hd r → AreInForm (journal_by hd r)
