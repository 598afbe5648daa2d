use Rattle.std.proofs.Common.{refl}
use Rattle.arj_protocol.proofs.FollowSteps.{step_follows, restart_follows}
use Rattle.arj_protocol.proofs.laws.steps_follow_lines.Goals as goal

pub returns-clause-step : goal.returns-clause-step
returns-clause-step c = λ h x n t hd i up fit. step_follows h x n t up hd i fit

pub returns-clause-server : goal.returns-clause-server
returns-clause-server c = λ x inc. refl

pub returns-clause-naming : goal.returns-clause-naming
returns-clause-naming c = restart_follows
