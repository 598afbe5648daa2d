use Rattle.std.proofs.Common.{sym}
use Rattle.arj_class.proofs.Places.{value_in_gap}
use Rattle.arj_class.proofs.table.value_of.Goals as goal

pub returns-in-Err : goal.returns-in-Err
returns-in-Err c = sym (value_in_gap _ _ _ c.in-Err.ensures)
