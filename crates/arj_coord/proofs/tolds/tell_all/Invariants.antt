use Rattle.std.proofs.Common.{◌≡◌, ◌++◌, drop}
use Rattle.arj_protocol.specs.Ending.{tell_all}
use Rattle.arj_coord.proofs.tolds.tell_all.Given as goal

-- the tolds so far, and those that are left
abbrev pub invariant-loop-node : goal.invariant-loop-node
invariant-loop-node l =
    l.outs ++ tell_all l.root l.ack l.ends (drop l.node-index l.nodes) ≡ l.fn.outs ++ tell_all l.root l.ack l.ends l.nodes
