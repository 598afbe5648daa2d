use Rattle.std.proofs.Common.{◌≡◌, ◌++◌, List, map}
use Rattle.std.specs.List.{AllByRecursion}
use Rattle.std.specs.Vec.Iter.{into_iter_items}
use Rattle.arj_core.specs.declared.output.Output.{Output}
use Rattle.arj_core.specs.Steps.{PutsOut}
use Rattle.arj_msg.specs.Sendable.{IsSendable}
use Rattle.arj_node.specs.Outgoing.{AreSpelled, effects_of, messages_of, outgoing_of}
use Rattle.arj_node.specs.Ran.{inward, outward}
use Rattle.arj_node.proofs.putting.put_out.Given as goal

-- what is left put out behind what is there is all of it put out
abbrev pub invariant-loop-one : goal.invariant-loop-one
invariant-loop-one l = record {
  puts : (after : List Output) → PutsOut (outward l.number (effects_of (map outgoing_of (into_iter_items l.one-iterator)))) l.out after →
      PutsOut (outward l.number (effects_of l.fn.outs)) l.fn.out after;
  queue : (messages_of l.queue.items) ++ inward l.number (effects_of (map outgoing_of (into_iter_items l.one-iterator))) ≡ (messages_of l.fn.queue.items) ++ inward l.number (effects_of l.fn.outs);
  left : AreSpelled (map outgoing_of (into_iter_items l.one-iterator));
  spelled : AllByRecursion IsSendable (messages_of l.fn.queue.items) → AllByRecursion IsSendable (messages_of l.queue.items);
}
