use Rattle.std.proofs.Common.{◌≡◌, ◌≤◌, drop, length}
use Rattle.arj_protocol.specs.Order.{uid_set}
use Rattle.arj_serve.proofs.held.in_order.Given as goal

-- the set has the Uids from here on
abbrev pub invariant-loop-i : goal.invariant-loop-i
invariant-loop-i l = record { within : l.i ≤ length l.uids; set : l.set.keys ≡ uid_set (drop l.i l.uids) }

abbrev pub decreases-loop-i : goal.decreases-loop-i
decreases-loop-i l = l.i
