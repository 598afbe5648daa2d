-- an input has few lines
use Rattle.std.proofs.Common.{arith}
use Rattle.arj_checking.proofs.Stages.{few_lines}
use Rattle.arj_checking.proofs.checking.bad_line.Goals as goal

pub overflow_add-result : goal.overflow_add-result
overflow_add-result c =
    let at = c.requires.at in
    omega (arith, few_lines at.0 c.args.parts.now at.1)
