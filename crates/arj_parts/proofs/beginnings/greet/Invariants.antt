use Rattle.std.proofs.Common.{◌≡◌, ◌++◌}
use Rattle.arj_node.specs.Outgoing.{effects_of}
use Rattle.arj_parts.proofs.Hellos.{hellos}
use Rattle.arj_protocol.specs.Step.{numbers_to}
use Rattle.arj_parts.proofs.beginnings.greet.Given as goal

-- the hellos so far
abbrev pub invariant-loop-before : goal.invariant-loop-before
invariant-loop-before l = record { sent : effects_of l.outs ≡ effects_of l.fn.outs ++ hellos l.number l.inc (numbers_to l.before) }
