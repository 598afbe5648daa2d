use Rattle.arj_law_parts.proofs.parts.KeptCalls.{call_ran, call_activate, call_invoke, call_vote, call_told}
use Rattle.arj_law_parts.proofs.server.calls_keep_their_locks.Goals as goal

pub returns-clause-ran : goal.returns-clause-ran
returns-clause-ran c = call_ran

pub returns-clause-activate : goal.returns-clause-activate
returns-clause-activate c = call_activate

pub returns-clause-invoke : goal.returns-clause-invoke
returns-clause-invoke c = call_invoke

pub returns-clause-vote : goal.returns-clause-vote
returns-clause-vote c = call_vote

pub returns-clause-told : goal.returns-clause-told
returns-clause-told c = call_told
