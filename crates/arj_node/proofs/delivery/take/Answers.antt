use Rattle.std.proofs.Common.{◌≡◌, false, true, ap, subst, Err}
use Rattle.arj_node.specs.Handing.{IsTaken}
use Rattle.arj_node.proofs.Frames.{got_cut, halted_frame, left_frame}
use Rattle.arj_node.proofs.Quiet.{taken_quiet}
use Rattle.arj_protocol.specs.Node.{taken}
use Rattle.arj_node.proofs.delivery.take.Goals as goal

pub returns-in_ok-push-in-Ok-true-clause-halted : goal.returns-in_ok-push-in-Ok-true-clause-halted
returns-in_ok-push-in-Ok-true-clause-halted g c =
    λ halted header h stands. got_cut c.args.number (g.P.Parts.rests header c.args.number (g.D.Disk.file c.settle.new.disk)) c.args.frame (g.P.Parts.stands header c.args.number c.take.new.self (g.D.Disk.file c.take.new.disk)) h
    (taken c.args.number h.disk h.parts c.args.from c.args.m.value) c.new-outs.result c.take.new.outs c.args.out.now c.push.new.self c.settle.new.out c.new-outs.ensures
    (subst (λ b. IsTaken (g.P.Parts.stands header c.args.number c.take.new.self (g.D.Disk.file c.take.new.disk)) h (taken c.args.number h.disk h.parts c.args.from c.args.m.value) c.new-outs.result c.take.new.outs b) (let a = c.in-Ok-true.field-0-is in let b = c.in-Ok-true.field-0-test in let is : c.in-Ok-true.field-0 ≡ true = cc in is) (c.in-Ok-true.ensures.done header c.args.number h stands))
    c.in_ok-push-in-Ok-true.ensures.ok (λ t es d at are. c.settle.ensures.halted halted header t es d at are)

pub returns-in_ok-push-in-Ok-false-clause-done : goal.returns-in_ok-push-in-Ok-false-clause-done
returns-in_ok-push-in-Ok-false-clause-done g c =
    λ header h stands. left_frame c.args.number (g.P.Parts.stands header c.args.number c.take.new.self (g.D.Disk.file c.take.new.disk)) c.args.frame h
    (taken c.args.number h.disk h.parts c.args.from c.args.m.value) c.new-outs.result c.take.new.outs c.args.out.now c.push-in-Ok-false.new.self
    (subst (λ b. IsTaken (g.P.Parts.stands header c.args.number c.take.new.self (g.D.Disk.file c.take.new.disk)) h (taken c.args.number h.disk h.parts c.args.from c.args.m.value) c.new-outs.result c.take.new.outs b) (let a = c.in-Ok-false.field-0-is in let b = c.in-Ok-false.field-0-test in let is : c.in-Ok-false.field-0 ≡ false = cc in is) (c.in-Ok-false.ensures.done header c.args.number h stands))
    c.in_ok-push-in-Ok-false.ensures.ok

pub returns-in_ok-put_front-in-Err-Halted-clause-halted : goal.returns-in_ok-put_front-in-Err-Halted-clause-halted
returns-in_ok-put_front-in-Err-Halted-clause-halted g c =
    λ _ header h stands. halted_frame c.args.number (g.P.Parts.rests header c.args.number (g.D.Disk.file c.take.new.disk)) c.args.frame h
    (taken c.args.number h.disk h.parts c.args.from c.args.m.value) c.new-outs.result c.take.new.outs c.args.out.now c.push-in-Err-Halted.new.self c.put_front.new.out c.new-outs.ensures
    (taken_quiet c.args.number h.disk h.parts c.args.from c.args.m.value) (c.in-Err-Halted.ensures.halted (ap Err c.in-Err-Halted.field-0-is) header c.args.number h stands) c.in_ok-push-in-Err-Halted.ensures.ok c.in_ok-put_front-in-Err-Halted.ensures
