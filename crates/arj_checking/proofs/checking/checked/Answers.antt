-- what was found, written or not
use Rattle.arj_checking.specs.Checks.{ends}
use Rattle.arj_checking.proofs.Findings.{checks_found}
use Rattle.arj_checking.proofs.checking.checked.Goals as goal

pub returns-in-Ok-clause-checks : goal.returns-in-Ok-clause-checks
returns-in-Ok-clause-checks g c =
    let f = c.in-Ok.ensures in
    checks_found c.no_difference_is_right.ensures f.0 (ends (g.S.Source.left c.args.source.now) (g.S.Source.faults c.args.source.now) (g.K.Sink.taken c.args.sink.now)) (ends (g.S.Source.left c.find.new.source) (g.S.Source.faults c.find.new.source) (g.K.Sink.taken c.write.new.sink)) c.in-Ok.finding c.write.result c.write.new.found f.1 f.2 c.write.ensures.writes
