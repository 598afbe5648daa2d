-- an image has few lines
use Rattle.std.proofs.Common.{arith}
use Rattle.arj_auditing.proofs.Stages.{few_lines}
use Rattle.arj_auditing.proofs.auditing.bad_line.Goals as goal

pub overflow_add-result : goal.overflow_add-result
overflow_add-result c =
    let at = c.requires.at in
    omega (arith, few_lines at.0 c.args.intake.now at.1)
