use Rattle.std.proofs.Common.{◌≡◌, ◌≤◌, length, drop, filter}
use Rattle.arj_protocol.specs.Coord as coord
use Rattle.arj_root.specs.Noted.{of_tree}
use Rattle.arj_root.proofs.sends.invoked_by.Given as goal

-- the nodes from the place on
abbrev pub invariant-loop-i : goal.invariant-loop-i
invariant-loop-i l = record {
  within : l.i ≤ length l.went;
  found : l.nodes.keys ≡ coord.nodes_of (filter (coord.is_invoked_by l.action (of_tree l.tree)) (drop l.i l.went));
}

abbrev pub decreases-loop-i : goal.decreases-loop-i
decreases-loop-i l = l.i
