use Rattle.std.proofs.Common.{◌≡◌, ◌≤◌, ◌-◌, drop, length}
use Rattle.arj_protocol.specs.Named as protocol
use Rattle.arj_naming.proofs.bindings.server_behind.Given as goal

-- what is left, from the server before this place on, gives the same as all servers
abbrev pub invariant-loop-i : goal.invariant-loop-i
invariant-loop-i l =
    record { first : 1 ≤ l.i; rest : protocol.server_behind l.last l.servers (drop (l.i - 1) l.servers) ≡ protocol.server_behind l.last l.servers l.servers }

abbrev pub decreases-loop-i : goal.decreases-loop-i
decreases-loop-i l = length l.servers - l.i
