use Rattle.std.proofs.Common.{◌≡◌, ◌++◌, take, drop}
use Rattle.arj_base.specs.Rows.{grant_row}
use Rattle.arj_standing.specs.Held.{rows_of, shown}
use Rattle.arj_standing.proofs.rows.grant.Given as goal

abbrev pub invariant-loop-at : goal.invariant-loop-at
invariant-loop-at l =
    rows_of l.out.items ++ grant_row (shown l.new) (rows_of (drop l.at l.locks)) ≡ grant_row (shown l.new) (rows_of l.locks)
