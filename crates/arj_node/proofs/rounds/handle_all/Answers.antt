use Rattle.std.proofs.Common.{◌≡◌, ◌∙◌, ◌+◌, ◌∷◌, refl, sym, ap, subst, Err}
use Rattle.std.specs.List.{AllByRecursion}
use Rattle.std.specs.Vec.Iter.{into_iter_items, into_iter_len, into_iter_steps}
use Rattle.arj_core.specs.declared.node.CoreFault.TheVariants.{Halted}
use Rattle.arj_msg.specs.Sendable.{IsSendable}
use Rattle.arj_protocol.specs.Node.{handle_all}
use Rattle.arj_node.specs.Outgoing.{messages_of}
use Rattle.arj_node.proofs.Handled.{Midway, flow, midway_cut, midway_first, midway_step, same_fault}
use Rattle.arj_node.proofs.rounds.handle_all.Goals as goal

pub loop-m-init : goal.loop-m-init
loop-m-init g c =
    let are = c.into_iter-m-iterator.ensures.into_iter_gives.0 in
    record {
      all = λ header h stands. subst (λ ms. Midway c.args.number (g.P.Parts.stands header c.args.number c.args.parts.now (g.D.Disk.file c.args.disk.now)) (handle_all c.args.number (messages_of c.args.messages.items) h) h.disk (messages_of ms) (flow c.args.out.now c.args.out.now (messages_of c.args.queue.now.items) (messages_of c.args.queue.now.items)))
          (sym are) (midway_first c.args.number (g.P.Parts.stands header c.args.number c.args.parts.now (g.D.Disk.file c.args.disk.now)) (messages_of c.args.messages.items) h c.args.out.now (messages_of c.args.queue.now.items) stands);
      left = subst (λ ms. AllByRecursion IsSendable (messages_of ms)) (sym are) c.requires.spelled;
      spelled = λ s. s;
      stops = refl;
      arms = refl;
      last_arm = refl;
    }

pub loop-m-preserved : goal.loop-m-preserved
loop-m-preserved g c =
    let step : (into_iter_items c.loop-m.m-iterator ≡ c.in-Some.m ∷ into_iter_items c.next.new.self) × (into_iter_len c.next.new.self + 1 ≡ into_iter_len c.loop-m.m-iterator) =
    subst (λ r. into_iter_steps c.loop-m.m-iterator r c.next.new.self) c.in-Some.is c.next.ensures.steps in
    let left = subst (λ ms. AllByRecursion IsSendable (messages_of ms)) step.0 c.loop-m.invariant.left in
    record {
      all = λ header h stands. midway_step c.args.number (g.P.Parts.stands header c.args.number c.loop-m.parts (g.D.Disk.file c.loop-m.disk)) (g.P.Parts.stands header c.args.number c.handle_one.new.parts (g.D.Disk.file c.handle_one.new.disk))
          (handle_all c.args.number (messages_of c.args.messages.items) h) h.disk c.in-Some.m.value (messages_of (into_iter_items c.next.new.self)) c.args.out.now c.loop-m.out c.handle_one.new.out (messages_of c.args.queue.now.items) (messages_of c.loop-m.queue.items) (messages_of c.handle_one.new.queue.items)
          (subst (λ ms. Midway c.args.number (g.P.Parts.stands header c.args.number c.loop-m.parts (g.D.Disk.file c.loop-m.disk)) (handle_all c.args.number (messages_of c.args.messages.items) h) h.disk (messages_of ms) (flow c.args.out.now c.loop-m.out (messages_of c.args.queue.now.items) (messages_of c.loop-m.queue.items)))
          step.0 (c.loop-m.invariant.all header h stands)) (λ k on. c.in_ok-handle_one.ensures.done header k on);
      left = left.1;
      spelled = λ s. c.in_ok-handle_one.ensures.spelled (c.loop-m.invariant.spelled s);
      stops = c.in_ok-handle_one.ensures.counts.ok ∙ c.loop-m.invariant.stops;
      arms = c.in_ok-handle_one.ensures.counts.arms ∙ c.loop-m.invariant.arms;
      last_arm = c.in_ok-handle_one.ensures.counts.last_arm ∙ c.loop-m.invariant.last_arm;
    }

pub returns-in_err-handle_one-clause-halted : goal.returns-in_err-handle_one-clause-halted
returns-in_err-handle_one-clause-halted g c = λ halted header h stands.
    let step : (into_iter_items c.loop-m.m-iterator ≡ c.in-Some.m ∷ into_iter_items c.next.new.self) × (into_iter_len c.next.new.self + 1 ≡ into_iter_len c.loop-m.m-iterator) =
    subst (λ r. into_iter_steps c.loop-m.m-iterator r c.next.new.self) c.in-Some.is c.next.ensures.steps in
    let fault : c.in_err-handle_one.field-0.0 ≡ Halted =
    same_fault c.from_residual.result c.in_err-handle_one.field-0.0 Halted c.from_residual.ensures.1 halted in
    midway_cut c.args.number (g.P.Parts.stands header c.args.number c.loop-m.parts (g.D.Disk.file c.loop-m.disk)) (g.P.Parts.rests header c.args.number (g.D.Disk.file c.handle_one.new.disk))
    (handle_all c.args.number (messages_of c.args.messages.items) h) h.disk c.in-Some.m.value (messages_of (into_iter_items c.next.new.self)) c.args.out.now c.loop-m.out c.handle_one.new.out (messages_of c.args.queue.now.items) (messages_of c.loop-m.queue.items)
    (subst (λ ms. Midway c.args.number (g.P.Parts.stands header c.args.number c.loop-m.parts (g.D.Disk.file c.loop-m.disk)) (handle_all c.args.number (messages_of c.args.messages.items) h) h.disk (messages_of ms) (flow c.args.out.now c.loop-m.out (messages_of c.args.queue.now.items) (messages_of c.loop-m.queue.items)))
    step.0 (c.loop-m.invariant.all header h stands)) (λ k on. c.in_err-handle_one.ensures.halted (ap Err fault) header k on)
