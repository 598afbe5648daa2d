use Rattle.std.proofs.Common.{◌≡◌, ◌≤◌, length, drop, filter, map}
use Rattle.arj_protocol.specs.Coord as coord
use Rattle.arj_root.specs.Merged.{of_work, least_in}
use Rattle.arj_root.specs.Noted.{of_tree}
use Rattle.arj_root.proofs.questions.least_among.Given as goal

-- the least from the place on
abbrev pub invariant-loop-i : goal.invariant-loop-i
invariant-loop-i l = record {
  within : l.i ≤ length l.grants;
  found : l.least ≡ least_in (map (λ (g : coord.Grant). g.least) (filter (coord.counts_grant l.top l.x (of_work l.calls l.joins) (of_tree l.tree)) (drop l.i l.grants)));
}

abbrev pub decreases-loop-i : goal.decreases-loop-i
decreases-loop-i l = l.i
