-- Those so far.
use Rattle.std.proofs.Common.{◌≡◌, map, take}
use Rattle.std.specs.Prelude.{filter}
use Rattle.arj_changes.specs.Stores.{is_mover}
use Rattle.arj_changes.specs.Tops.{rank_of, tops_called}
use Rattle.arj_changes.proofs.entry.movers.Given as goal

abbrev pub invariant-loop-top : goal.invariant-loop-top
invariant-loop-top l = l.ranked.items ≡ map (rank_of (tops_called l.tops)) (filter (is_mover l.changes l.x) (take l.top-index l.tops))
