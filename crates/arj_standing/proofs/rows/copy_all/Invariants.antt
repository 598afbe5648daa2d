use Rattle.std.proofs.Common.{◌≡◌, ◌++◌, take, drop}
use Rattle.arj_standing.specs.Held.{rows_of, shown}
use Rattle.arj_standing.proofs.rows.copy_all.Given as goal

abbrev pub invariant-loop-lock : goal.invariant-loop-lock
invariant-loop-lock l = rows_of l.out.items ≡ rows_of l.fn.out.items ++ rows_of (take l.lock-index l.locks)
