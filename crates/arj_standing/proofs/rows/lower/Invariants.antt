use Rattle.std.proofs.Common.{◌≡◌, ◌++◌, take, drop}
use Rattle.arj_base.specs.Rows.{lower_row}
use Rattle.arj_standing.specs.Held.{rows_of, shown}
use Rattle.arj_standing.proofs.rows.lower.Given as goal

abbrev pub invariant-loop-lock : goal.invariant-loop-lock
invariant-loop-lock l = rows_of l.out.items ≡ lower_row l.action l.object (rows_of (take l.lock-index l.locks))
