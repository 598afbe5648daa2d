-- Lines that no part of a node says: of frames, of disks that stop, refusals, and of the run itself. They are in form, and so is the number
-- of each line's event.
use Rattle.std.specs.Prelude.{◌≡◌, false}
use Rattle.std.specs.List.{AllByRecursion}
use Rattle.arj_journal.specs.LineForm.{BodyInForm}
use Rattle.arj_journal.specs.declared.body.Line.{Line}
use Rattle.arj_journal.specs.declared.header.Header.{Header}
use Rattle.arj_law_parts.specs.steps.Spoken.{is_of_parts}
use Rattle.arj_promise.specs.Runs.{IsInForm, Run, journal_by}
use Rattle.arj_text.specs.Fields.{WordInForm}

-- the number of the line's event is in form, and its text where no part of a node says it
abbrev pub IsSaidInForm : Line → Type 0
IsSaidInForm line = WordInForm line.event × (is_of_parts line.body ≡ false → BodyInForm line.body)

-- so it is of each line of every run in form
abbrev pub RunsSayInForm : Type 0
RunsSayInForm = (hd : Header) (r : Run hd) → IsInForm hd r → AllByRecursion IsSaidInForm (journal_by hd r)
