-- Those so far.
use Rattle.std.proofs.Common.{◌≡◌, map, take}
use Rattle.arj_text.specs.Label.{name}
use Rattle.arj_pending.specs.Commits.{closed_named}
use Rattle.arj_pending.proofs.commits.all_named.Given as goal

abbrev pub invariant-loop-commit : goal.invariant-loop-commit
invariant-loop-commit l = l.after.items ≡ map (closed_named (name l.label) l.at) (take l.commit-index l.commits)
