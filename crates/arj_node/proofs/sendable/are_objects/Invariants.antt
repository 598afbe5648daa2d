use Rattle.std.proofs.Common.{◌↔◌, drop}
use Rattle.std.specs.List.{AllByRecursion}
use Rattle.arj_msg.specs.InForm.{IsObject}
use Rattle.arj_node.proofs.sendable.are_objects.Given as goal

-- those that are left are objects exactly where all are
abbrev pub invariant-loop-item : goal.invariant-loop-item
invariant-loop-item g l = AllByRecursion (λ k. IsObject k.0) (drop l.item-index l.items) ↔ AllByRecursion (λ k. IsObject k.0) l.items
