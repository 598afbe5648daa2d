use Rattle.std.proofs.Common.{◌≡◌, ◌++◌, drop}
use Rattle.arj_protocol.specs.Confirm.{marked}
use Rattle.arj_root.proofs.keepings.marked.Given as goal

-- the stores so far, and those of the marks that are left
abbrev pub invariant-loop-y : goal.invariant-loop-y
invariant-loop-y l = l.stores ++ marked l.x (drop l.y-index l.marks) ≡ marked l.x l.marks
