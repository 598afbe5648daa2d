use Rattle.std.proofs.Common.{◌≡◌}
use Rattle.arj_manager.specs.Index.{any_answers, picked}
use Rattle.arj_manager.proofs.walk.any.Given as goal

-- what is left answers the same as the whole
abbrev pub invariant-loop-x : goal.invariant-loop-x
invariant-loop-x l =
    any_answers l.question l.action (picked l.x-iterator l.objects.entries) ≡ any_answers l.question l.action (picked l.xs.keys l.objects.entries)
