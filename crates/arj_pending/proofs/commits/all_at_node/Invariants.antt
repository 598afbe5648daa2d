-- Those so far.
use Rattle.std.proofs.Common.{◌≡◌, map, take}
use Rattle.arj_pending.specs.Commits.{closed_at_node}
use Rattle.arj_pending.proofs.commits.all_at_node.Given as goal

abbrev pub invariant-loop-commit : goal.invariant-loop-commit
invariant-loop-commit l = l.after.items ≡ map (closed_at_node l.node l.at) (take l.commit-index l.commits)
