use Rattle.arj_protocol.proofs.Leaves.{handle_leaves}
use Rattle.arj_protocol.proofs.Unknown.{ends_leave}
use Rattle.arj_protocol.proofs.laws.messages_leave_other_objects.Goals as goal

pub returns-clause-message : goal.returns-clause-message
returns-clause-message c = handle_leaves

pub returns-clause-ends : goal.returns-clause-ends
returns-clause-ends c = ends_leave
