use Rattle.std.proofs.Common.{◌≡◌, ◌++◌, map, take}
use Rattle.arj_node.specs.Outgoing.{effects_of}
use Rattle.arj_protocol.specs.Node.{query_about}
use Rattle.arj_parts.proofs.said.ask_about.Given as goal

-- the queries so far
abbrev pub invariant-loop-action : goal.invariant-loop-action
invariant-loop-action l = record { sent : effects_of l.outs ≡ effects_of l.fn.outs ++ map query_about (take l.action-index l.actions) }
