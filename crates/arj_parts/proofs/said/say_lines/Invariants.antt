use Rattle.std.proofs.Common.{◌≡◌, ◌++◌}
use Rattle.std.specs.Vec.Iter.{into_iter_items}
use Rattle.arj_node.specs.Outgoing.{effects_of}
use Rattle.arj_parts.specs.Said.{says_of}
use Rattle.arj_parts.proofs.said.say_lines.Given as goal

-- what is left handed back behind what is there is all of it handed back
abbrev pub invariant-loop-line : goal.invariant-loop-line
invariant-loop-line l =
    record { all : effects_of l.outs ++ says_of (into_iter_items l.line-iterator) ≡ effects_of l.fn.outs ++ says_of l.fn.lines }
