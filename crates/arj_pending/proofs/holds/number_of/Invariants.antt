-- It is found among all as among those that are left.
use Rattle.std.proofs.Common.{◌≡◌, drop}
use Rattle.arj_pending.specs.Holds.{number_by}
use Rattle.arj_pending.proofs.holds.number_of.Given as goal

abbrev pub invariant-loop-action : goal.invariant-loop-action
invariant-loop-action l = number_by l.uid (drop l.action-index l.begun) ≡ number_by l.uid l.begun
