use Rattle.std.proofs.Common.{◌↔◌, drop}
use Rattle.std.specs.List.{AllByRecursion}
use Rattle.arj_msg.specs.InForm.{IsNode}
use Rattle.arj_node.proofs.sendable.are_nodes.Given as goal

-- those that are left are nodes exactly where all are
abbrev pub invariant-loop-n : goal.invariant-loop-n
invariant-loop-n l = AllByRecursion IsNode (drop l.n-index l.nodes) ↔ AllByRecursion IsNode l.nodes
