use Rattle.std.proofs.Common.{◌≡◌, take, cond, Some}
use Rattle.std.specs.List.{filter_map}
use Rattle.arj_base.specs.Rows.{passed}
use Rattle.arj_model.specs.Table.{is_in_part}
use Rattle.arj_standing.specs.Held.{rows_of, shown}
use Rattle.arj_standing.proofs.told.commit.Given as goal

abbrev pub invariant-loop-lock : goal.invariant-loop-lock
invariant-loop-lock l =
    rows_of l.out.items ≡ filter_map (λ row. cond (is_in_part l.part row) (passed l.action (rows_of l.locks) row) (Some row)) (rows_of (take l.lock-index l.locks))
