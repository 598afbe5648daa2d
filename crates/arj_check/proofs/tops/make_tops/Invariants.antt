use Rattle.std.proofs.Common.{◌≡◌, List, ◌++◌, map, drop}
use Rattle.std.specs.List.{filter_map}
use Rattle.arj_journal.specs.declared.body.Line.{Line}
use Rattle.arj_model.specs.Actions.{acts, committed, recovered}
use Rattle.arj_model.specs.Calls.{Top, tops}
use Rattle.arj_reading.specs.Reading.{HasRead, placed_of}
use Rattle.arj_replay.specs.Orders.{paths}
use Rattle.arj_check.specs.Keys.{top_at}
use Rattle.arj_check.specs.Kept.{HasTops}
use Rattle.arj_check.proofs.tops.make_tops.Given as goal

abbrev pub invariant-loop-mark : goal.invariant-loop-mark
invariant-loop-mark l = (lines : List Line) → HasRead lines l.reading
    → (ts : List Top) × HasTops ts l.tops × (ts ++ filter_map (top_at (committed lines) (recovered lines) (paths (acts lines))) (map placed_of (drop l.mark-index l.mark-items)) ≡ tops lines)
