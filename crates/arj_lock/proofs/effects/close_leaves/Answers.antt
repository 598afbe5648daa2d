use Rattle.std.proofs.Common.{not}
use Rattle.arj_base.specs.Rows.{is_on}
use Rattle.arj_base.specs.Uid.{uid_eq}
use Rattle.arj_lock.proofs.Leaves.{close_mode, kept_any, kept_rows}
use Rattle.arj_lock.proofs.effects.close_leaves.Goals as goal

pub returns-clause-rows : goal.returns-clause-rows
returns-clause-rows c = λ object rows r. kept_rows (λ row. uid_eq row.object object) r rows

pub returns-clause-mode : goal.returns-clause-mode
returns-clause-mode c = close_mode

pub returns-clause-any : goal.returns-clause-any
returns-clause-any c = λ object rows action. kept_any (λ row. is_on row.holder action) (λ row. not (uid_eq row.object object)) rows
