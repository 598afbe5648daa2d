-- The first word tells the cause.
use Rattle.std.proofs.Common.{Err}
use Rattle.std.proofs.lemmas.Result.{err_from_is_err_and}
use Rattle.arj_journal.specs.LineText.{cause_text}
use Rattle.arj_journal_reader.specs.LineKinds.{WordedCause, causes}
use Rattle.arj_journal_reader.proofs.ByKind.{kind_read, no_kind}
use Rattle.arj_journal_reader.proofs.KindReading.{cause_of_words}
use Rattle.arj_journal_reader.proofs.LineFacts.{causes_are}
use Rattle.arj_journal_reader.proofs.causes.CausePiece.read.Goals as goal

pub returns-in_err-kind : goal.returns-in_err-kind
returns-in_err-kind c =
    let p = err_from_is_err_and c.from_residual.result c.from_residual.ensures.1 in
    rw (p.1, p.2) (cause_of_words c.args.bytes.now c.in-Some.word.now c.in-Some.fields.now (Err c.in_err-kind.field-0.0) c.in-Some.ensures.1
    (no_kind causes WordedCause cause_text causes_are c.args.bytes.now c.in-Some.word.now c.in-Some.fields.now c.in_err-kind.field-0.0 c.in-Some.ensures.0 c.in-Some.ensures.1 c.in_err-kind.ensures))

pub returns : goal.returns
returns c =
    cause_of_words c.args.bytes.now c.in-Some.word.now c.in-Some.fields.now c.cause_of_kind.result c.in-Some.ensures.1
    (kind_read causes WordedCause cause_text causes_are c.args.bytes.now c.in-Some.word.now c.in-Some.fields.now c.in_ok-kind.kind c.cause_of_kind.result c.in-Some.ensures.0 c.in-Some.ensures.1 c.in_ok-kind.ensures.1 c.cause_of_kind.ensures)
