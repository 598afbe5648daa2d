use Rattle.std.proofs.Common.{◌↔◌, drop}
use Rattle.std.specs.List.{AllByRecursion}
use Rattle.arj_msg.specs.InForm.{IsNode, IsObject}
use Rattle.arj_node.proofs.sendable.are_marks.Given as goal

-- those that are left are marks exactly where all are
abbrev pub invariant-loop-mark : goal.invariant-loop-mark
invariant-loop-mark l =
    AllByRecursion (λ k. IsObject k.0 × IsNode k.1) (drop l.mark-index l.marks) ↔ AllByRecursion (λ k. IsObject k.0 × IsNode k.1) l.marks
