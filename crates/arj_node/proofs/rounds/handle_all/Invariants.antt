use Rattle.std.proofs.Common.{◌≡◌}
use Rattle.std.specs.List.{AllByRecursion}
use Rattle.std.specs.Vec.Iter.{into_iter_items}
use Rattle.arj_journal.specs.declared.header.Header.{Header}
use Rattle.arj_msg.specs.Sendable.{IsSendable}
use Rattle.arj_node.specs.Outgoing.{messages_of}
use Rattle.arj_node.proofs.Handled.{Midway, flow}
use Rattle.arj_protocol.specs.Node.{Here, handle_all}
use Rattle.arj_node.proofs.rounds.handle_all.Given as goal

-- some messages are handled, and nothing was stopped
abbrev pub invariant-loop-m : goal.invariant-loop-m
invariant-loop-m g l = record {
  all : (header : Header) (h : Here) → g.P.Parts.stands header l.number l.fn.parts (g.D.Disk.file l.fn.disk) h
      → Midway l.number (g.P.Parts.stands header l.number l.parts (g.D.Disk.file l.disk)) (handle_all l.number (messages_of l.fn.messages.items) h) h.disk (messages_of (into_iter_items l.m-iterator)) (flow l.fn.out l.out (messages_of l.fn.queue.items) (messages_of l.queue.items));
  left : AllByRecursion IsSendable (messages_of (into_iter_items l.m-iterator));
  spelled : AllByRecursion IsSendable (messages_of l.fn.queue.items) → AllByRecursion IsSendable (messages_of l.queue.items);
  stops : g.D.Disk.stops l.disk ≡ g.D.Disk.stops l.fn.disk;
  arms : g.D.Disk.arms l.disk ≡ g.D.Disk.arms l.fn.disk;
  last_arm : g.D.Disk.last_arm l.disk ≡ g.D.Disk.last_arm l.fn.disk;
}
