-- In every run each call is answered by its own operation.
use Rattle.std.specs.Prelude.{⊤}
use Rattle.std.specs.List.{AllByRecursion}
use Rattle.arj_journal.specs.declared.body.Body.{Body}
use Rattle.arj_journal.specs.declared.body.Body.TheVariants as body
use Rattle.arj_journal.specs.declared.body.Line.{Line}
use Rattle.arj_journal.specs.declared.header.Header.{Header}
use Rattle.arj_model.specs.Follows.{IsAnswerOf}
use Rattle.arj_promise.specs.Runs.{IsInForm, Run, journal_by}

-- an `ok` line has an answer of the operation that it names
abbrev pub AnswersIt : Body → Type 0
AnswersIt (body.Ok l x op answer) = IsAnswerOf op answer
AnswersIt b = ⊤

-- so it is of each line of a run
abbrev pub RunsAnswerOperations : Type 0
RunsAnswerOperations = (hd : Header) (r : Run hd) → IsInForm hd r → AllByRecursion (λ (line : Line). AnswersIt line.body) (journal_by hd r)
