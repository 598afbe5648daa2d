use Rattle.std.proofs.Common.{◌≡◌, ◌++◌, drop}
use Rattle.arj_protocol.specs.Asking.{gaveup_lines}
use Rattle.arj_asking.proofs.lines.say_all_gave_up.Given as goal

-- the nodes so far, and those that are left
abbrev pub invariant-loop-node : goal.invariant-loop-node
invariant-loop-node l =
    l.outs ++ gaveup_lines l.action (drop l.node-index l.nodes) l.coord ≡ l.fn.outs ++ gaveup_lines l.action l.nodes l.coord
