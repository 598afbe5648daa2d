use Rattle.std.proofs.Common.{◌≡◌, ◌≤◌, drop, length}
use Rattle.arj_commit.specs.Sets.{targets_with}
use Rattle.arj_commit.proofs.whom.targets_with.Given as goal

-- the stores of the objects from here on are in the set
abbrev pub invariant-loop-i : goal.invariant-loop-i
invariant-loop-i l = record {
  within : l.i ≤ length l.used;
  added : l.set.items ≡ targets_with l.more l.changed (drop l.i l.used);
}

abbrev pub decreases-loop-i : goal.decreases-loop-i
decreases-loop-i l = l.i
