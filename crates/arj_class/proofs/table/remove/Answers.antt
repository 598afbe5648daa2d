use Rattle.std.proofs.Common.{sym, ◌∙◌}
use Rattle.arj_class.proofs.Places.{value_in_gap, remove_at_place, remove_in_gap}
use Rattle.arj_class.proofs.table.remove.Goals as goal

pub returns-in-Ok-clause-pairs : goal.returns-in-Ok-clause-pairs
returns-in-Ok-clause-pairs c = c.remove-value.ensures.items ∙ sym (remove_at_place _ _ _ (rw c.deref.ensures.value at c.in-Ok.ensures))

pub returns-in-Err-clause-value : goal.returns-in-Err-clause-value
returns-in-Err-clause-value c = sym (value_in_gap _ _ _ (rw c.deref.ensures.value at c.in-Err.ensures))

pub returns-in-Err-clause-pairs : goal.returns-in-Err-clause-pairs
returns-in-Err-clause-pairs c = sym (remove_in_gap _ _ _ (rw c.deref.ensures.value at c.in-Err.ensures))
