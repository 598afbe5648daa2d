use Rattle.arj_server.proofs.Means.{void_activate, void_invoke, void_vote}
use Rattle.arj_server.proofs.laws.messages_are_void_exactly.Goals as goal

pub returns-clause-activate : goal.returns-clause-activate
returns-clause-activate c = void_activate

pub returns-clause-invoke : goal.returns-clause-invoke
returns-clause-invoke c = void_invoke

pub returns-clause-vote : goal.returns-clause-vote
returns-clause-vote c = void_vote
