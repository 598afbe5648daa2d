use Rattle.std.proofs.Common.{◌≡◌, ◌++◌, drop, filter}
use Rattle.arj_protocol.specs.Node.{is_earlier}
use Rattle.arj_serve.proofs.held.earlier_of.Given as goal

-- those so far, and those of the Uids that are left
abbrev pub invariant-loop-uid : goal.invariant-loop-uid
invariant-loop-uid l =
    l.earlier ++ filter (is_earlier l.m.node l.m.inc) (drop l.uid-index l.uids) ≡ filter (is_earlier l.m.node l.m.inc) l.uids
