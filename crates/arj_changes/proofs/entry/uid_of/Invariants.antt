-- It is found among all exactly where it is found among those that are left.
use Rattle.std.proofs.Common.{◌≡◌, drop}
use Rattle.arj_changes.specs.Paths.{uid_numbered}
use Rattle.arj_changes.proofs.entry.uid_of.Given as goal

abbrev pub invariant-loop-action : goal.invariant-loop-action
invariant-loop-action l = uid_numbered l.id (drop l.action-index l.begun) ≡ uid_numbered l.id l.begun
