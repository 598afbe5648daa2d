use Rattle.arj_bind.proofs.InOrder.{next_is, again_is, once_is}
use Rattle.arj_bind.proofs.KeepingOn.{keeps_on}
use Rattle.arj_bind.proofs.laws.calls_go_in_order.Goals as goal

pub returns-clause-order : goal.returns-clause-order
returns-clause-order c = next_is

pub returns-clause-again : goal.returns-clause-again
returns-clause-again c = again_is

pub returns-clause-once : goal.returns-clause-once
returns-clause-once c = once_is

pub returns-clause-keeps : goal.returns-clause-keeps
returns-clause-keeps c = keeps_on
