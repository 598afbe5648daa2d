use Rattle.std.proofs.Common.{◌≡◌, ◌≤◌, length, drop, filter, map}
use Rattle.arj_protocol.specs.Coord as coord
use Rattle.arj_protocol.specs.Order.{number_set}
use Rattle.arj_root.specs.Noted.{of_tree}
use Rattle.arj_root.proofs.questions.included.Given as goal

-- the objects from the place on
abbrev pub invariant-loop-i : goal.invariant-loop-i
invariant-loop-i l = record {
  within : l.i ≤ length l.joined;
  found : l.objects.keys ≡ number_set (map (λ (j : coord.Joined). j.x) (filter (λ (j : coord.Joined). coord.counts l.top j.path (of_tree l.tree)) (drop l.i l.joined)));
}

abbrev pub decreases-loop-i : goal.decreases-loop-i
decreases-loop-i l = l.i
