use Rattle.std.proofs.Common.{◌≡◌, ◌≤◌, length, drop, filter, map}
use Rattle.arj_protocol.specs.Coord as coord
use Rattle.arj_root.specs.Merged.{more_numbers}
use Rattle.arj_root.specs.Noted.{of_tree}
use Rattle.arj_root.proofs.questions.with_called.Given as goal

-- the objects from the place on, and those of the set
abbrev pub invariant-loop-i : goal.invariant-loop-i
invariant-loop-i l = record {
  within : l.i ≤ length l.said;
  found : l.objects.keys ≡ more_numbers (map (λ (s : coord.Said). s.x) (filter (λ (s : coord.Said). coord.counts l.top s.path (of_tree l.tree)) (drop l.i l.said))) l.fn.objects.keys;
}

abbrev pub decreases-loop-i : goal.decreases-loop-i
decreases-loop-i l = l.i
