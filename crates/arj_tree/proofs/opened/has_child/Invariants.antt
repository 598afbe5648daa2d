use Rattle.std.proofs.Common.{◌≡◌}
use Rattle.arj_tree.specs.Open.{has_child}
use Rattle.arj_tree.proofs.opened.has_child.Given as goal

-- what is left answers the same as the whole
abbrev pub invariant-loop-path : goal.invariant-loop-path
invariant-loop-path l = has_child l.action l.path-iterator ≡ has_child l.action l.opened.entries
