use Rattle.std.proofs.Common.{◌≡◌, ◌++◌}
use Rattle.std.specs.Map.{keys_of}
use Rattle.arj_naming.proofs.touched.numbers.Given as goal

-- the numbers so far, and those that are left
abbrev pub invariant-loop-x : goal.invariant-loop-x
invariant-loop-x l = l.all.keys ++ keys_of l.x-iterator ≡ keys_of l.objects.entries
