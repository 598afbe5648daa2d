use Rattle.std.proofs.Common.{◌≡◌, ◌++◌, drop, filter, not}
use Rattle.arj_protocol.specs.Ending.{is_deferred}
use Rattle.arj_coord.proofs.tolds.not_deferred.Given as goal

-- the nodes so far, and those that are left
abbrev pub invariant-loop-node : goal.invariant-loop-node
invariant-loop-node l =
    l.left ++ filter (λ n. not (is_deferred l.root l.intents n)) (drop l.node-index l.nodes) ≡ filter (λ n. not (is_deferred l.root l.intents n)) l.nodes
