use Rattle.std.proofs.Common.{◌≡◌, ◌++◌}
use Rattle.arj_tree.specs.Open.{below}
use Rattle.arj_tree.proofs.opened.below.Given as goal

-- those that were looked at, and those that are left, the one begun last first
abbrev pub invariant-loop-path : goal.invariant-loop-path
invariant-loop-path l = l.uids ++ below l.action l.path-iterator.iter ≡ below l.action l.opened.entries
