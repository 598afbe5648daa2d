use Rattle.arj_check.proofs.Calls.{calls_have_lines}
use Rattle.arj_check.proofs.laws.readable_calls_can_be_run.Goals as goal

pub returns : goal.returns
returns c = calls_have_lines
