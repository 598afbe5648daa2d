use Rattle.std.proofs.Common.{◌≡◌, ◌++◌, take, drop}
use Rattle.arj_base.specs.Rows.{has_row}
use Rattle.arj_standing.specs.Held.{rows_of, shown}
use Rattle.arj_standing.proofs.told.has.Given as goal

abbrev pub invariant-loop-lock : goal.invariant-loop-lock
invariant-loop-lock l = has_row l.object l.action (rows_of (drop l.lock-index l.locks)) ≡ has_row l.object l.action (rows_of l.locks)
