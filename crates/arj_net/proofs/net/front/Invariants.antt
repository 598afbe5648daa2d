use Rattle.std.proofs.Common.{length, ◌-◌, ◌≤◌}
use Rattle.arj_net.specs.Front.{ClosedBelow}
use Rattle.arj_net.proofs.net.front.Given as goal

abbrev pub invariant-loop-closed : goal.invariant-loop-closed
invariant-loop-closed l = record { within : l.closed ≤ length l.sent; below : ClosedBelow l.sent l.closed }

abbrev pub decreases-loop-closed : goal.decreases-loop-closed
decreases-loop-closed l = length l.sent - l.closed
