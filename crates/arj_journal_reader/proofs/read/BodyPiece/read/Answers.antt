-- The first word tells the kind of line.
use Rattle.std.proofs.lemmas.Result.{err_from_is_err_and}
use Rattle.arj_journal.specs.LineForm.{BodyInForm}
use Rattle.arj_journal_reader.specs.LineKinds.{lines}
use Rattle.arj_journal.specs.LineText.{body_text}
use Rattle.arj_journal_reader.proofs.ByKind.{kind_read, no_kind, one_word}
use Rattle.arj_journal_reader.proofs.LineFacts.{bodies_are}
use Rattle.arj_journal_reader.proofs.read.BodyPiece.read.Goals as goal

pub returns-in_default : goal.returns-in_default
returns-in_default c = one_word lines BodyInForm body_text bodies_are c.args.bytes.now c.in_default.ensures

pub returns-in_err-kind : goal.returns-in_err-kind
returns-in_err-kind c =
    let p = err_from_is_err_and c.from_residual.result c.from_residual.ensures.1 in
    rw (p.1, p.2) (no_kind lines BodyInForm body_text bodies_are c.args.bytes.now c.in-Some.word.now c.in-Some.fields.now c.in_err-kind.field-0.0 c.in-Some.ensures.0 c.in-Some.ensures.1 c.in_err-kind.ensures)

pub returns : goal.returns
returns c =
    kind_read lines BodyInForm body_text bodies_are c.args.bytes.now c.in-Some.word.now c.in-Some.fields.now c.in_ok-kind.kind c.of_kind.result c.in-Some.ensures.0 c.in-Some.ensures.1 c.in_ok-kind.ensures.1 c.of_kind.ensures
