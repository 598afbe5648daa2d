use Rattle.arj_prog.proofs.WrittenLines.{lines_at_run, lines_grow}
use Rattle.arj_prog.proofs.laws.lines_are_kept.Goals as goal

pub returns-clause-grows : goal.returns-clause-grows
returns-clause-grows c s d fits goes = lines_grow s d fits goes

pub returns-clause-run : goal.returns-clause-run
returns-clause-run c d fits = lines_at_run d fits
