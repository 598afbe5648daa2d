use Rattle.std.proofs.Common.{◌≡◌, find}
use Rattle.arj_lock.specs.Groups.{is_next}
use Rattle.arj_lock.proofs.grants.scan.Given as goal

-- among the locks that are left it is the same one
abbrev pub invariant-loop-grant : goal.invariant-loop-grant
invariant-loop-grant l = find (is_next l.group l.after) l.grant-iterator ≡ find (is_next l.group l.after) l.locks.entries
