use Rattle.std.proofs.Common.{not}
use Rattle.arj_base.specs.Rows.{is_on}
use Rattle.arj_base.specs.Uid.{uid_eq}
use Rattle.arj_lock.specs.Requests.{lowered}
use Rattle.arj_lock.proofs.Own.{lowered_object, lowered_holder}
use Rattle.arj_lock.proofs.OneEach.{one_each_grant, one_each_filter, one_each_map}
use Rattle.arj_lock.proofs.Uniqueness.{one_each_pass}
use Rattle.arj_lock.proofs.laws.rows_are_one_each.Goals as goal

pub returns-clause-empty : goal.returns-clause-empty
returns-clause-empty c = tt

pub returns-clause-grant : goal.returns-clause-grant
returns-clause-grant c = one_each_grant

pub returns-clause-pass : goal.returns-clause-pass
returns-clause-pass c = one_each_pass

pub returns-clause-drop : goal.returns-clause-drop
returns-clause-drop c = λ action rows one. one_each_filter (λ row. not (is_on row.holder action)) rows one

pub returns-clause-close : goal.returns-clause-close
returns-clause-close c = λ object rows one. one_each_filter (λ row. not (uid_eq row.object object)) rows one

pub returns-clause-lower : goal.returns-clause-lower
returns-clause-lower c =
    λ action object rows one. one_each_map (lowered action object) rows (lowered_object action object) (lowered_holder action object) one
