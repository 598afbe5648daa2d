use Rattle.std.proofs.Common.{◌≡◌, ◌++◌, drop}
use Rattle.arj_protocol.specs.Ending.{let_go}
use Rattle.arj_protocol.specs.Order.{without_uid}
use Rattle.arj_coord.proofs.coord.Coord.let_go.Given as goal

-- the nodes so far, and those that are left
abbrev pub invariant-loop-node : goal.invariant-loop-node
invariant-loop-node l =
    l.left ++ let_go l.root (without_uid l.top l.intents) l.self (drop l.node-index l.nodes) ≡ let_go l.root (without_uid l.top l.intents) l.self l.nodes
