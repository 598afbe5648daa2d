use Rattle.std.proofs.Common.{◌≡◌}
use Rattle.arj_base.specs.Rows.{is_held_by, pass_rows}
use Rattle.arj_lock.specs.Exclusion.{IsOneEach}
use Rattle.arj_lock.specs.Locks.{rows_in}
use Rattle.arj_lock.specs.Passing.{count}
use Rattle.arj_lock.proofs.pass.pass.Given as goal

-- a pass of what there is gives the same as one of the whole
abbrev pub invariant-loop-grant : goal.invariant-loop-grant
invariant-loop-grant l = record {
  rows : pass_rows l.action (rows_in l.grants) ≡ pass_rows l.action (rows_in l.fn.grants);
  one_each : IsOneEach (rows_in l.grants);
}

abbrev pub decreases-loop-grant : goal.decreases-loop-grant
decreases-loop-grant l = count (is_held_by l.action) (rows_in l.grants)
