use Rattle.std.proofs.Common.{◌≡◌, take}
use Rattle.arj_store.specs.Says.{named_in}
use Rattle.arj_store.proofs.packed.objects_in.Given as goal

abbrev pub invariant-loop-i : goal.invariant-loop-i
invariant-loop-i l = l.objects ≡ take l.i (named_in l.bytes)
