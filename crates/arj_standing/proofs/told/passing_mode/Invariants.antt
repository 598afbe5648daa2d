use Rattle.std.proofs.Common.{◌≡◌, drop, find}
use Rattle.std.specs.Option.{option_map}
use Rattle.arj_base.specs.Rows.{goes_to}
use Rattle.arj_standing.specs.Held.{rows_of, shown}
use Rattle.arj_standing.proofs.told.passing_mode.Given as goal

abbrev pub invariant-loop-lock : goal.invariant-loop-lock
invariant-loop-lock l =
    option_map (λ row. row.mode) (find (goes_to l.action (shown l.to)) (rows_of (drop l.lock-index l.locks))) ≡ option_map (λ row. row.mode) (find (goes_to l.action (shown l.to)) (rows_of l.locks))
