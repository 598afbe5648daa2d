use Rattle.arj_record.proofs.Ended.{keep_passes, locked, some_lock, undo_releases}
use Rattle.arj_record.proofs.Undone.{raised_once, restored_once}
use Rattle.arj_record.proofs.laws.ends_go_by_objects.Goals as goal

pub returns-clause-undo : goal.returns-clause-undo
returns-clause-undo g c = λ rs action x p. restored_once action x rs p

pub returns-clause-keep : goal.returns-clause-keep
returns-clause-keep g c = λ rs action x p. raised_once action x rs p

pub returns-clause-undo_locks : goal.returns-clause-undo_locks
returns-clause-undo_locks g c = undo_releases

pub returns-clause-keep_locks : goal.returns-clause-keep_locks
returns-clause-keep_locks g c = keep_passes

pub returns-clause-some_lock : goal.returns-clause-some_lock
returns-clause-some_lock g c = some_lock

pub returns-clause-locked : goal.returns-clause-locked
returns-clause-locked g c = locked
