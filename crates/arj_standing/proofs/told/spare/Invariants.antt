use Rattle.std.proofs.Common.{◌≡◌, take}
use Rattle.std.specs.List.{filter_map}
use Rattle.arj_standing.specs.Held.{rows_of, spared}
use Rattle.arj_standing.proofs.told.spare.Given as goal

abbrev pub invariant-loop-lock : goal.invariant-loop-lock
invariant-loop-lock l = rows_of l.out.items ≡ filter_map (spared l.part l.action) (rows_of (take l.lock-index l.locks))
