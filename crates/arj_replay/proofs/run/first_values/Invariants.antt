use Rattle.std.proofs.Common.{◌≡◌, ℕ, take}
use Rattle.std.specs.BTreeMap.{get}
use Rattle.std.specs.Ordering.{nat_cmp}
use Rattle.arj_replay.specs.Verdict.{first_among}
use Rattle.arj_replay.proofs.run.first_values.Given as goal

abbrev pub invariant-loop-object : goal.invariant-loop-object
invariant-loop-object l = (x : ℕ) → get nat_cmp l.values x ≡ first_among (take l.object-index l.objects) x
