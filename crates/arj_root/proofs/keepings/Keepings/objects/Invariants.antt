use Rattle.std.proofs.Common.{◌≡◌, ◌++◌}
use Rattle.std.specs.Map.{keys_of}
use Rattle.arj_root.proofs.keepings.Keepings.objects.Given as goal

-- the objects so far, and those that are left
abbrev pub invariant-loop-x : goal.invariant-loop-x
invariant-loop-x l = l.objects ++ l.x-iterator ≡ keys_of l.self
