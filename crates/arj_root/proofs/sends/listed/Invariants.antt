use Rattle.std.proofs.Common.{◌≡◌, ◌++◌}
use Rattle.arj_root.proofs.sends.listed.Given as goal

-- the nodes so far, and those that are left
abbrev pub invariant-loop-node : goal.invariant-loop-node
invariant-loop-node l = l.list ++ l.node-iterator ≡ l.nodes.keys
