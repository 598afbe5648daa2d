-- It is found among all exactly where it is found among those that are left.
use Rattle.std.proofs.Common.{◌≡◌, drop}
use Rattle.arj_text.specs.Label.{name}
use Rattle.arj_changes.specs.Paths.{id_named}
use Rattle.arj_changes.proofs.read.number_of.Given as goal

abbrev pub invariant-loop-action : goal.invariant-loop-action
invariant-loop-action l = id_named (name l.label) (drop l.action-index l.begun) ≡ id_named (name l.label) l.begun
