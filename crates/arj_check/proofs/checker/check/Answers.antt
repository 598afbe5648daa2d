use Rattle.std.proofs.Common.{IfOk}
use Rattle.arj_reading.specs.Readable.{Readable}
use Rattle.arj_check.specs.Verdicts.{SaysVerdict}
use Rattle.arj_check.proofs.checker.check.Goals as goal
use Rattle.std.proofs.Common.{subst}

pub returns-in-Ok-clause-verdict : goal.returns-in-Ok-clause-verdict
returns-in-Ok-clause-verdict c =
    subst (λ ls. Readable c.args.header.now ls × SaysVerdict c.args.header.now ls c.in-Ok.verdict) c.as_slice-lines.ensures
    (c.in_ok-reading.ensures.read.0, subst (λ r. IfOk r (λ v. SaysVerdict c.args.header.now c.as_slice-lines.result.now v)) c.in-Ok.is (c.verdict.ensures c.in_ok-reading.ensures.read.0 c.in_ok-reading.ensures.read.1))
