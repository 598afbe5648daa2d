-- The nodes that were crashed so far.
use Rattle.std.proofs.Common.{take}
use Rattle.arj_saving.specs.Stops.{HasCrashed, moment}
use Rattle.arj_saving.proofs.stopping.crash_all.Given as goal

abbrev pub invariant-loop-node : goal.invariant-loop-node
invariant-loop-node g l =
    HasCrashed g.M.Machine (take l.node-index l.nodes) (moment l.fn.rack l.fn.machine l.fn.journal) (moment l.rack l.machine l.journal)
