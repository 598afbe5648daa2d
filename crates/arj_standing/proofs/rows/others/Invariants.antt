use Rattle.std.proofs.Common.{◌≡◌, take}
use Rattle.std.specs.List.{filter_map}
use Rattle.arj_standing.specs.Held.{other_row, rows_of}
use Rattle.arj_standing.proofs.rows.others.Given as goal

abbrev pub invariant-loop-lock : goal.invariant-loop-lock
invariant-loop-lock l = rows_of l.out.items ≡ filter_map (other_row l.object) (rows_of (take l.lock-index l.locks))
