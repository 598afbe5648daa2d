use Rattle.std.proofs.Common.{sym, not, arith, ap}
use Rattle.arj_class.proofs.Places.{full_in_gap, put_when_full}
use Rattle.arj_class.proofs.table.put.Goals as goal

pub returns-in-Err-clause-done : goal.returns-in-Err-clause-done
returns-in-Err-clause-done c = sym (ap not (full_in_gap _ _ _ (rw c.deref.ensures.value at c.in-Err.ensures) (omega arith)))

pub returns-in-Err-clause-pairs : goal.returns-in-Err-clause-pairs
returns-in-Err-clause-pairs c = put_when_full _ _ _ _ (rw c.deref.ensures.value at c.in-Err.ensures) (omega arith)
