use Rattle.arj_law_lock_view.proofs.records.Free.{records_are_free}
use Rattle.arj_law_lock_view.proofs.late.late_records_find_nothing.Goals as goal

pub returns : goal.returns
returns c = records_are_free
