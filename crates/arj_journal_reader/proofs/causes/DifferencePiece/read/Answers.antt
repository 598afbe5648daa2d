-- The first word tells what differs.
use Rattle.std.proofs.lemmas.Result.{err_from_is_err_and}
use Rattle.arj_journal.specs.LineForm.{DifferenceInForm}
use Rattle.arj_journal.specs.LineText.{difference_text}
use Rattle.arj_journal_reader.specs.LineKinds.{differences}
use Rattle.arj_journal_reader.proofs.ByKind.{kind_read, no_kind}
use Rattle.arj_journal_reader.proofs.LineFacts.{differences_are}
use Rattle.arj_journal_reader.proofs.causes.DifferencePiece.read.Goals as goal

pub returns-in_err-kind : goal.returns-in_err-kind
returns-in_err-kind c =
    let p = err_from_is_err_and c.from_residual.result c.from_residual.ensures.1 in
    rw (p.1, p.2) (no_kind differences DifferenceInForm difference_text differences_are c.args.bytes.now c.in-Some.word.now c.in-Some.fields.now c.in_err-kind.field-0.0 c.in-Some.ensures.0 c.in-Some.ensures.1 c.in_err-kind.ensures)

pub returns : goal.returns
returns c =
    kind_read differences DifferenceInForm difference_text differences_are c.args.bytes.now c.in-Some.word.now c.in-Some.fields.now c.in_ok-kind.kind c.difference_of_kind.result c.in-Some.ensures.0 c.in-Some.ensures.1 c.in_ok-kind.ensures.1 c.difference_of_kind.ensures
