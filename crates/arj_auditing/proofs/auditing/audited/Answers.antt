-- what was found, written or not
use Rattle.arj_auditing.proofs.Findings.{audits_found}
use Rattle.arj_checking.specs.Checks.{ends}
use Rattle.arj_auditing.proofs.auditing.audited.Goals as goal

pub returns-in-Ok-clause-audits : goal.returns-in-Ok-clause-audits
returns-in-Ok-clause-audits g c =
    let f = c.in-Ok.ensures in
    audits_found f.0 (ends (g.S.Source.left c.args.source.now) (g.S.Source.faults c.args.source.now) (g.K.Sink.taken c.args.sink.now)) (ends (g.S.Source.left c.look.new.source) (g.S.Source.faults c.look.new.source) (g.K.Sink.taken c.write.new.sink)) c.in-Ok.finding c.write.result f.1 f.2 c.write.ensures.writes
