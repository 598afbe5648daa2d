-- Those of the nodes so far that are up.
use Rattle.std.proofs.Common.{◌≡◌}
use Rattle.arj_saving.specs.Stops.{up_nodes}
use Rattle.arj_saving.proofs.stopping.up_nodes.Given as goal

abbrev pub invariant-loop-done : goal.invariant-loop-done
invariant-loop-done l = l.ups ≡ up_nodes l.lines l.done
