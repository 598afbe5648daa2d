use Rattle.arj_server.proofs.Stays.{activate_stays, has_class, invoke_stays, ends_stay, vote_stays}
use Rattle.arj_server.proofs.laws.classes_stay.Goals as goal

pub returns-clause-empty : goal.returns-clause-empty
returns-clause-empty c = λ x inc k. record { all = tt; here = tt }

pub returns-clause-activate : goal.returns-clause-activate
returns-clause-activate c = activate_stays

pub returns-clause-invoke : goal.returns-clause-invoke
returns-clause-invoke c = invoke_stays c.operations_keep.ensures.class

pub returns-clause-vote : goal.returns-clause-vote
returns-clause-vote c = vote_stays

pub returns-clause-told : goal.returns-clause-told
returns-clause-told c = λ n x k m s is. ends_stay n x k m.ends s is

pub returns-clause-may : goal.returns-clause-may
returns-clause-may c = has_class
