use Rattle.std.proofs.Common.{◌≡◌, ◌≤◌, length, drop, map}
use Rattle.arj_protocol.specs.Coord as coord
use Rattle.arj_protocol.specs.Order.{number_set}
use Rattle.arj_root.specs.Merged.{of_joins}
use Rattle.arj_root.specs.Noted.{of_tree}
use Rattle.arj_root.proofs.joins.stores_on.Given as goal

-- the stores from the place on
abbrev pub invariant-loop-i : goal.invariant-loop-i
invariant-loop-i l = record {
  within : l.i ≤ length l.joined;
  found : l.stores.keys ≡ number_set (map (λ (j : coord.Joined). j.store) (coord.joins_on l.x l.top (of_joins (drop l.i l.joined)) (of_tree l.tree)));
}

abbrev pub decreases-loop-i : goal.decreases-loop-i
decreases-loop-i l = l.i
