use Rattle.std.proofs.Common.{◌≡◌}
use Rattle.arj_manager.specs.Index.{ended_all}
use Rattle.arj_manager.proofs.walk.end_each.Given as goal

-- what is left makes of the objects what the whole makes of them
abbrev pub invariant-loop-x : goal.invariant-loop-x
invariant-loop-x l = ended_all l.action l.end l.x-iterator l.objects.entries ≡ ended_all l.action l.end l.xs.keys l.fn.objects.entries
