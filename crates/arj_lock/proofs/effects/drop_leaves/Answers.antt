use Rattle.std.proofs.Common.{not}
use Rattle.arj_base.specs.Rows.{is_on}
use Rattle.arj_lock.proofs.Leaves.{gone_any, kept_any, kept_found, kept_rows}
use Rattle.arj_lock.proofs.effects.drop_leaves.Goals as goal

pub returns-clause-rows : goal.returns-clause-rows
returns-clause-rows c = λ action rows r. kept_rows (λ row. is_on row.holder action) r rows

pub returns-clause-mode : goal.returns-clause-mode
returns-clause-mode c = λ action rows one object holder. kept_found object holder (λ row. is_on row.holder action) rows one

pub returns-clause-any : goal.returns-clause-any
returns-clause-any c = λ action rows other. kept_any (λ row. is_on row.holder other) (λ row. not (is_on row.holder action)) rows

pub returns-clause-gone : goal.returns-clause-gone
returns-clause-gone c = gone_any
