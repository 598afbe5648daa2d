-- The first word ends at the first space.
use Rattle.std.proofs.lemmas.Result.{err_from_is_err_and}
use Rattle.arj_journal_reader.proofs.Taking.{first_fails, second_fails}
use Rattle.arj_journal_reader.proofs.piece.Tuple2Piece.read.Goals as goal

pub returns-in_err-first : goal.returns-in_err-first
returns-in_err-first g c =
    let p = err_from_is_err_and c.from_residual.result c.from_residual.ensures.1 in
    rw (p.1, p.2) (first_fails g.A.Piece.in_form g.A.Piece.text g.B.Piece.in_form g.B.Piece.text c.args.bytes.now c.in-Some.word.now c.in-Some.rest.now c.in_err-first.field-0.0 c.in-Some.ensures.0 c.in-Some.ensures.1 c.in_err-first.ensures)

pub returns-in_err-second : goal.returns-in_err-second
returns-in_err-second g c =
    let p = err_from_is_err_and c.from_residual-in_err-second.result c.from_residual-in_err-second.ensures.1 in
    rw (p.1, p.2) (second_fails g.A.Piece.in_form g.A.Piece.text g.B.Piece.in_form g.B.Piece.text c.args.bytes.now c.in-Some.word.now c.in-Some.rest.now c.in_err-second.field-0.0 c.in-Some.ensures.0 c.in-Some.ensures.1 c.in_err-second.ensures)
