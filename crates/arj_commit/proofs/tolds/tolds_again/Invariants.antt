use Rattle.std.proofs.Common.{◌≡◌, ◌++◌, drop}
use Rattle.arj_commit.specs.Tolds.{tolds_again}
use Rattle.arj_commit.proofs.tolds.tolds_again.Given as goal

-- the tolds so far, and those that are left
abbrev pub invariant-loop-node : goal.invariant-loop-node
invariant-loop-node l = l.all ++ tolds_again l.plan (drop l.node-index l.nodes) ≡ tolds_again l.plan l.nodes
