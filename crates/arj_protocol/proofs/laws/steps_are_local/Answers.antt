use Rattle.arj_protocol.proofs.Steps.{steps_local, steps_lines}
use Rattle.arj_protocol.proofs.laws.steps_are_local.Goals as goal

pub returns-clause-local : goal.returns-clause-local
returns-clause-local c = steps_local

pub returns-clause-lines : goal.returns-clause-lines
returns-clause-lines c = steps_lines
