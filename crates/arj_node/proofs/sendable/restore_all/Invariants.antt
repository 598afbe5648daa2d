use Rattle.std.proofs.Common.{◌↔◌, drop}
use Rattle.std.specs.List.{AllByRecursion}
use Rattle.arj_msg.specs.Sendable.{StateSends}
use Rattle.arj_node.proofs.sendable.restore_all.Given as goal

-- those that are left restore exactly where all do
abbrev pub invariant-loop-state : goal.invariant-loop-state
invariant-loop-state l = AllByRecursion StateSends (drop l.state-index l.states) ↔ AllByRecursion StateSends l.states
