use Rattle.std.proofs.Common.{◌≡◌, drop}
use Rattle.arj_protocol.specs.Tree.{behind}
use Rattle.arj_tree.proofs.tree.behind.Given as goal

-- what is left answers the same as the whole
abbrev pub invariant-loop-i : goal.invariant-loop-i
invariant-loop-i l = behind l.action (drop l.i l.path) ≡ behind l.action l.path
