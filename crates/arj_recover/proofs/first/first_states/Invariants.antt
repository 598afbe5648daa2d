use Rattle.std.proofs.Common.{◌≡◌, ◌≤◌, filter, map, take, length}
use Rattle.std.specs.List.{AllByRecursion}
use Rattle.arj_base.specs.State.{state_bytes}
use Rattle.arj_protocol.specs.Order.{has}
use Rattle.arj_protocol.specs.Step as step
use Rattle.arj_journal.specs.declared.header.ObjectLine.{ObjectLine}
use Rattle.arj_recover.proofs.first.first_states.Given as goal

-- the first states of the objects so far
abbrev pub invariant-loop-object : goal.invariant-loop-object
invariant-loop-object l = record {
  states : l.states ≡ map (step.first_state l.format) (filter (λ (o : ObjectLine). has o.stores l.node) (take l.object-index l.objects));
  sizes : AllByRecursion (λ s. length (state_bytes s) ≤ 65535) l.states;
}
