use Rattle.std.proofs.lemmas.Result.{err_from_is_err_and}
use Rattle.arj_journal_reader.proofs.LineReading.{line_fails, line_read, no_end}
use Rattle.arj_journal_reader.proofs.read.line.Goals as goal

pub returns-in_default : goal.returns-in_default
returns-in_default c = no_end c.args.bytes.now c.in_default.ensures

pub returns-in_err-event : goal.returns-in_err-event
returns-in_err-event c =
    let p = err_from_is_err_and c.from_residual.result c.from_residual.ensures.1 in
    rw (p.1, p.2) (line_fails c.args.bytes.now c.in-Some.text.now c.in_err-event.field-0.0 c.in-Some.ensures c.in_err-event.ensures)

pub returns : goal.returns
returns c = line_read c.args.bytes.now c.in-Some.text.now c.in_ok-event.event c.in_ok-event.body c.in-Some.ensures c.in_ok-event.ensures
