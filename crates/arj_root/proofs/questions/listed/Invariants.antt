use Rattle.std.proofs.Common.{◌≡◌, ◌++◌}
use Rattle.arj_root.proofs.questions.listed.Given as goal

-- the objects so far, and those that are left
abbrev pub invariant-loop-x : goal.invariant-loop-x
invariant-loop-x l = l.list ++ l.x-iterator ≡ l.objects.keys
