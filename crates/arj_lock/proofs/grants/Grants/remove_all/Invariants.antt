use Rattle.std.proofs.Common.{◌≡◌, filter, length, not}
use Rattle.arj_lock.specs.Groups.{has}
use Rattle.arj_lock.specs.Locks.{rows_in}
use Rattle.arj_lock.proofs.grants.Grants.remove_all.Given as goal

-- the locks of other groups are there still
abbrev pub invariant-loop-grant : goal.invariant-loop-grant
invariant-loop-grant l = filter (λ row. not (has l.group row)) (rows_in l.self) ≡ filter (λ row. not (has l.group row)) (rows_in l.fn.self)

abbrev pub decreases-loop-grant : goal.decreases-loop-grant
decreases-loop-grant l = length l.self
