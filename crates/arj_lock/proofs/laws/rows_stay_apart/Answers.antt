use Rattle.std.proofs.Common.{[], not}
use Rattle.arj_base.specs.Rows.{is_on}
use Rattle.arj_base.specs.Uid.{uid_eq}
use Rattle.arj_lock.proofs.Apart.{apart_filter, apart_grant, apart_lower, apart_pass}
use Rattle.arj_lock.proofs.Members.{in_from}
use Rattle.arj_lock.proofs.laws.rows_stay_apart.Goals as goal

pub returns-clause-empty : goal.returns-clause-empty
returns-clause-empty c = λ on r s there. absurd (in_from r [] there)

pub returns-clause-grant : goal.returns-clause-grant
returns-clause-grant c = apart_grant

pub returns-clause-pass : goal.returns-clause-pass
returns-clause-pass c = apart_pass

pub returns-clause-drop : goal.returns-clause-drop
returns-clause-drop c = λ on action rows apart. apart_filter on (λ row. not (is_on row.holder action)) rows apart

pub returns-clause-close : goal.returns-clause-close
returns-clause-close c = λ on object rows apart. apart_filter on (λ row. not (uid_eq row.object object)) rows apart

pub returns-clause-lower : goal.returns-clause-lower
returns-clause-lower c = apart_lower
