use Rattle.arj_rest.specs.Nodes.{AreAtRest}
use Rattle.arj_rest.proofs.nodes.are_at_rest.Given as goal

abbrev pub invariant-loop-done : goal.invariant-loop-done
invariant-loop-done l = AreAtRest l.image l.done
