use Rattle.std.proofs.Common.{◌⊎◌, Contains}
use Rattle.std.specs.Prelude.{◌↔◌}
use Rattle.arj_base.specs.declared.uid.Uid.{Uid}
use Rattle.arj_manager.specs.Manager.{tops_in}
use Rattle.arj_manager.proofs.tops.tops_of.Given as goal

-- the tops so far, and those of the objects that are left
abbrev pub invariant-loop-object : goal.invariant-loop-object
invariant-loop-object l =
    (u : Uid) → (Contains l.tops.items u ⊎ Contains (tops_in l.object-iterator) u) ↔ Contains (tops_in l.objects.entries) u
