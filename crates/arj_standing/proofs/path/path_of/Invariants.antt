use Rattle.std.proofs.Common.{◌≡◌, drop}
use Rattle.arj_standing.specs.Begun.{links_of}
use Rattle.arj_standing.proofs.path.path_of.Given as goal

abbrev pub invariant-loop-action : goal.invariant-loop-action
invariant-loop-action l = links_of l.uid (drop l.action-index l.begun) ≡ links_of l.uid l.begun
