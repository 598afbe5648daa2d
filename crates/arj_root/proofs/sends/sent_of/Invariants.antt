use Rattle.std.proofs.Common.{◌≡◌, ◌≤◌, length, drop, filter}
use Rattle.arj_base.specs.Rows.{is_on}
use Rattle.arj_protocol.specs.Coord as coord
use Rattle.arj_root.proofs.sends.sent_of.Given as goal

-- the nodes from the place on
abbrev pub invariant-loop-i : goal.invariant-loop-i
invariant-loop-i l = record {
  within : l.i ≤ length l.went;
  found : l.nodes.keys ≡ coord.nodes_of (filter (λ (w : coord.Went). is_on w.path l.action) (drop l.i l.went));
}

abbrev pub decreases-loop-i : goal.decreases-loop-i
decreases-loop-i l = l.i
