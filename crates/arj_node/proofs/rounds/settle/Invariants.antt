use Rattle.std.proofs.Common.{◌≡◌, ◌+◌, ℕ, List, []}
use Rattle.std.specs.List.{AllByRecursion}
use Rattle.arj_journal.specs.declared.header.Header.{Header}
use Rattle.arj_msg.specs.Sendable.{IsSendable}
use Rattle.arj_node.specs.Outgoing.{effects_of, loud, messages_of}
use Rattle.arj_node.specs.Ran.{disk_after}
use Rattle.arj_node.proofs.Handled.{Stage, flow}
use Rattle.arj_protocol.specs.Effect.{Disk, Effect}
use Rattle.arj_protocol.specs.Node.{Here, Parts, whole}
use Rattle.arj_node.proofs.rounds.settle.Given as goal

-- some rounds are done, and nothing was stopped
abbrev pub invariant-rounds : goal.invariant-rounds
invariant-rounds g l = record {
  there : (header : Header) × (h : Here) × g.P.Parts.stands header l.number l.parts (g.D.Disk.file l.disk) h;
  all : (header : Header) (t : Parts) (es : List Effect) (d : Disk) →
      g.P.Parts.stands header l.number l.fn.parts (g.D.Disk.file l.fn.disk) (record { disk = disk_after es d; parts = t }) →
      effects_of l.fn.outs ≡ loud es
      → (k : ℕ) → k + l.counter ≡ 24 →
      Stage l.number k (g.P.Parts.stands header l.number l.parts (g.D.Disk.file l.disk)) (whole l.number t es d) d (flow l.fn.out l.out [] (messages_of l.queue.items));
  spelled : AllByRecursion IsSendable (messages_of l.queue.items);
  stops : g.D.Disk.stops l.disk ≡ g.D.Disk.stops l.fn.disk;
  arms : g.D.Disk.arms l.disk ≡ g.D.Disk.arms l.fn.disk;
  last_arm : g.D.Disk.last_arm l.disk ≡ g.D.Disk.last_arm l.fn.disk;
}
