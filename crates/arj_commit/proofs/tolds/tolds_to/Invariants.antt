use Rattle.std.proofs.Common.{◌≡◌, ◌++◌, drop}
use Rattle.arj_commit.specs.Tolds.{tolds}
use Rattle.arj_commit.proofs.tolds.tolds_to.Given as goal

-- the tolds so far, and those that are left
abbrev pub invariant-loop-node : goal.invariant-loop-node
invariant-loop-node l = l.all ++ tolds l.plan (drop l.node-index l.sent) l.nodes l.ack ≡ tolds l.plan l.sent l.nodes l.ack
