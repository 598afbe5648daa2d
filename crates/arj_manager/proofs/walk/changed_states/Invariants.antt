use Rattle.std.proofs.Common.{◌≡◌, ◌++◌}
use Rattle.arj_manager.specs.Index.{picked}
use Rattle.arj_manager.specs.Manager.{changed_in}
use Rattle.arj_manager.proofs.walk.changed_states.Given as goal

-- the states so far, and those of the objects that are left
abbrev pub invariant-loop-x : goal.invariant-loop-x
invariant-loop-x l =
    l.states ++ changed_in l.top (picked l.x-iterator l.objects.entries) ≡ changed_in l.top (picked l.xs.keys l.objects.entries)
