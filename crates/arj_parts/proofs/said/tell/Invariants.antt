use Rattle.std.proofs.Common.{◌≡◌, ◌++◌, map}
use Rattle.std.specs.Vec.Iter.{into_iter_items}
use Rattle.arj_coord.specs.Shown.{effect_of}
use Rattle.arj_node.specs.Outgoing.{effects_of, loud}
use Rattle.arj_parts.proofs.said.tell.Given as goal

-- what is left handed back behind what is there is all of it handed back
abbrev pub invariant-loop-effect : goal.invariant-loop-effect
invariant-loop-effect l =
    record { all : effects_of l.outs ++ loud (map effect_of (into_iter_items l.effect-iterator)) ≡ effects_of l.fn.outs ++ loud l.fn.effects }
