use Rattle.std.proofs.Common.{◌≡◌, ◌∙◌, arith, ap, sym, subst, Some}
use Rattle.std.proofs.lemmas.Result.{on_ok_weaker}
use Rattle.arj_core.specs.Steps.{message_of}
use Rattle.arj_journal.specs.declared.header.Header.{Header}
use Rattle.arj_msg.specs.Layout.{FaultOf}
use Rattle.arj_msg.proofs.Sends.{in_form_sends}
use Rattle.arj_node.specs.Ran.{IsCut}
use Rattle.arj_node.specs.Stepped.{Steps, up_node}
use Rattle.arj_node.proofs.Frames.{void_frame}
use Rattle.arj_node.proofs.Spelled.{message_back, no_message}
use Rattle.arj_protocol.specs.Node.{Here}
use Rattle.arj_protocol.specs.Step.{frame_step}
use Rattle.arj_node.proofs.delivery.deliver.Goals as goal

pub take-requires-clause-spelled : goal.take-requires-clause-spelled
take-requires-clause-spelled g c = in_form_sends c.in-Ok.m.value c.in-Ok.ensures.found.0

pub returns-in-Ok-clause-done : goal.returns-in-Ok-clause-done
returns-in-Ok-clause-done g c =
    let is : message_of c.args.bytes.now ≡ Some c.in-Ok.m.value =
    ap message_of (sym c.in-Ok.ensures.found.1) ∙ message_back c.in-Ok.m.value c.in-Ok.ensures.found.0 in
    on_ok_weaker c.take.result
    (λ (done : (header : Header) (h : Here) → g.P.Parts.stands header c.args.number c.args.parts.now (g.D.Disk.file c.args.disk.now) h
    → Steps c.args.number (g.P.Parts.stands header c.args.number c.take.new.parts (g.D.Disk.file c.take.new.disk)) (frame_step c.args.frame c.args.from (up_node c.args.number h) h.parts (Some c.in-Ok.m.value)) c.args.out.now c.take.new.out).
    λ header h stands. subst (λ o. Steps c.args.number (g.P.Parts.stands header c.args.number c.take.new.parts (g.D.Disk.file c.take.new.disk)) (frame_step c.args.frame c.args.from (up_node c.args.number h) h.parts o) c.args.out.now c.take.new.out) (sym is) (done header h stands)) c.take.ensures.done

pub returns-in-Ok-clause-halted : goal.returns-in-Ok-clause-halted
returns-in-Ok-clause-halted g c = λ halted header h stands.
    let is : message_of c.args.bytes.now ≡ Some c.in-Ok.m.value =
    ap message_of (sym c.in-Ok.ensures.found.1) ∙ message_back c.in-Ok.m.value c.in-Ok.ensures.found.0 in
    subst (λ o. IsCut (g.P.Parts.rests header c.args.number (g.D.Disk.file c.take.new.disk)) (frame_step c.args.frame c.args.from (up_node c.args.number h) h.parts o).halting h.disk c.args.out.now c.take.new.out) (sym is) (c.take.ensures.halted halted header h stands)

pub returns-in_ok-push-in-Err-At-clause-done : goal.returns-in_ok-push-in-Err-At-clause-done
returns-in_ok-push-in-Err-At-clause-done g c = λ header h stands.
    let none = no_message c.args.bytes.now (λ i. omega (arith, c.type_inv.bytes i)) (subst (FaultOf c.args.bytes.now) c.in-Err-At.field-0-is c.in-Err-At.ensures.fault).none in
    subst (λ o. Steps c.args.number (g.P.Parts.stands header c.args.number c.args.parts.now (g.D.Disk.file c.args.disk.now)) (frame_step c.args.frame c.args.from (up_node c.args.number h) h.parts o) c.args.out.now c.push.new.self) (sym none)
    (void_frame c.args.number (g.P.Parts.stands header c.args.number c.args.parts.now (g.D.Disk.file c.args.disk.now)) c.args.frame h c.args.out.now c.push.new.self stands c.in_ok-push-in-Err-At.ensures.ok)
