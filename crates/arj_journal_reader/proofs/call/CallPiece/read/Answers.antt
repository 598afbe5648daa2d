-- The answer is the last word, and ` =` stands before it.
use Rattle.std.proofs.Common.{sym, ◌∙◌}
use Rattle.std.proofs.lemmas.Result.{err_from_is_err_and}
use Rattle.arj_text.specs.Fields.{OpTextInForm}
use Rattle.arj_text.specs.Words.{op_text}
use Rattle.arj_journal_reader.proofs.CallReading.{no_answer, no_equals, no_operation, none_taken, some_taken}
use Rattle.arj_journal_reader.proofs.call.CallPiece.read.Goals as goal

pub returns-in_default-before : goal.returns-in_default-before
returns-in_default-before c =
    no_equals c.args.bytes.now c.in-Some.front.now c.in-Some.word.now c.in-Some.ensures.0 c.in-Some.ensures.1 c.in_default-before.ensures

pub returns-in_err-op : goal.returns-in_err-op
returns-in_err-op c =
    let p = err_from_is_err_and c.from_residual-in_err-op.result c.from_residual-in_err-op.ensures.1 in
    let none = none_taken OpTextInForm op_text c.in-Some-before.words.now c.in_ok-operation.field-0 c.in_err-op.field-0.0 (sym c.taken.ensures ∙ c.in_err-op.was) c.in_ok-operation.ensures in
    rw (p.1, p.2) (no_operation c.args.bytes.now c.in-Some.front.now c.in-Some.word.now c.in-Some-before.words.now c.in_err-op.field-0.0 c.in-Some.ensures.0 c.in-Some.ensures.1 c.in-Some-before.ensures none)

pub returns-in_err-answer : goal.returns-in_err-answer
returns-in_err-answer c =
    let p = err_from_is_err_and c.from_residual-in_err-answer.result c.from_residual-in_err-answer.ensures.1 in
    let asked = some_taken OpTextInForm op_text c.in-Some-before.words.now c.in_ok-operation.field-0 c.in_ok-op.op (sym c.taken.ensures ∙ c.in_ok-op.was) c.in_ok-operation.ensures in
    rw (p.1, p.2) (no_answer c.args.bytes.now c.in-Some.front.now c.in-Some.word.now c.in-Some-before.words.now c.in_ok-op.op c.in_err-answer.field-0.0 c.in-Some.ensures.0 c.in-Some.ensures.1 c.in-Some-before.ensures asked c.in_err-answer.ensures)
