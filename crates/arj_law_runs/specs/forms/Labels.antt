-- Labels that lines say, in form; and lines that say labels and nodes alone.
use Rattle.std.specs.Prelude.{⊤, ◌≡◌, Bool, true, false}
use Rattle.std.specs.List.{AllByRecursion}
use Rattle.arj_journal.specs.LineForm.{LineInForm, ParentInForm}
use Rattle.arj_journal.specs.declared.body.Body.{Body}
use Rattle.arj_journal.specs.declared.body.Body.TheVariants as body
use Rattle.arj_journal.specs.declared.body.Line.{Line}
use Rattle.arj_journal.specs.declared.header.Header.{Header}
use Rattle.arj_promise.specs.Runs.{IsInForm, Run, journal_by}
use Rattle.arj_text.specs.Label.{LabelInForm}

-- each label that the line says is in form: of the action of which it speaks, and of a parent
abbrev pub LabelsInForm : Body → Type 0
LabelsInForm (body.Began l k u p) = LabelInForm l × ParentInForm p
LabelsInForm (body.Ok l x o a) = LabelInForm l
LabelsInForm (body.Includes l x n) = LabelInForm l
LabelsInForm (body.Conflict l holder mode n) = LabelInForm l
LabelsInForm (body.Lost l n) = LabelInForm l
LabelsInForm (body.Changed l n d) = LabelInForm l
LabelsInForm (body.Committing l) = LabelInForm l
LabelsInForm (body.Committed l) = LabelInForm l
LabelsInForm (body.Ended l) = LabelInForm l
LabelsInForm (body.Aborted l c) = LabelInForm l
LabelsInForm (body.GaveUp l n) = LabelInForm l
LabelsInForm (body.Excluded l x n) = LabelInForm l
LabelsInForm _ = ⊤

-- so it is of each line of every run in form
abbrev pub RunsSayLabels : Type 0
RunsSayLabels = (hd : Header) (r : Run hd) → IsInForm hd r → AllByRecursion (λ (line : Line). LabelsInForm line.body) (journal_by hd r)

-- beside the number of its event the line says a label, and at most a node
abbrev pub is_of_names : Body → Bool
is_of_names (body.Lost l n) = true
is_of_names (body.Committing l) = true
is_of_names (body.Committed l) = true
is_of_names (body.Ended l) = true
is_of_names (body.GaveUp l n) = true
is_of_names _ = false

-- each such line of every run in form is in form
abbrev pub RunsSayNames : Type 0
RunsSayNames = (hd : Header) (r : Run hd) → IsInForm hd r →
    AllByRecursion (λ (line : Line). is_of_names line.body ≡ true → LineInForm line) (journal_by hd r)
