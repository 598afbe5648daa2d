-- where the input ended before the line `journal`
use Rattle.arj_checking.proofs.Findings.{finds_missing}
use Rattle.arj_checking.proofs.checking.whole.Goals as goal

pub returns-then-not-parts : goal.returns-then-not-parts
returns-then-not-parts c given end at = finds_missing given c.args.parts.now c.bad_line.result c.bad_line.ensures c.if-not-parts.true end at
