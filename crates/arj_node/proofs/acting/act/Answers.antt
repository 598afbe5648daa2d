use Rattle.std.proofs.Common.{◌≡◌, List, ap, subst, Err}
use Rattle.std.proofs.lemmas.Result.{on_ok_weaker}
use Rattle.arj_journal.specs.declared.header.Header.{Header}
use Rattle.arj_node.specs.Acting.{IsActed, acts_at, why_at}
use Rattle.arj_node.specs.Goes.{Goes}
use Rattle.arj_node.specs.Outgoing.{effects_of, loud}
use Rattle.arj_node.specs.Ran.{disk_after}
use Rattle.arj_node.proofs.Inputs.{acted_cut, acted_step, stopped_act}
use Rattle.arj_protocol.specs.Effect.{Disk, Effect}
use Rattle.arj_protocol.specs.Node.{Parts, whole}
use Rattle.arj_node.proofs.acting.act.Goals as goal

pub returns-in-Ok-None-clause-done : goal.returns-in-Ok-None-clause-done
returns-in-Ok-None-clause-done g c = on_ok_weaker c.settle.result
    (λ (settled : (header : Header) (t : Parts) (es : List Effect) (d : Disk) →
    g.P.Parts.stands header c.args.number c.act.new.self (g.D.Disk.file c.act.new.disk) (record { disk = disk_after es d; parts = t }) →
    effects_of c.act.new.outs ≡ loud es
    → Goes (g.P.Parts.stands header c.args.number c.settle.new.parts (g.D.Disk.file c.settle.new.disk)) (whole c.args.number t es d) c.args.out.now c.settle.new.out).
    λ header h class stands. acted_step c.args.number (g.P.Parts.stands header c.args.number c.settle.new.parts (g.D.Disk.file c.settle.new.disk)) (g.P.Parts.stands header c.args.number c.act.new.self (g.D.Disk.file c.act.new.disk)) header c.args.act h
    c.new-outs.result c.act.new.outs c.args.out.now c.settle.new.out c.new-outs.ensures
    (subst (IsActed (g.P.Parts.stands header c.args.number c.act.new.self (g.D.Disk.file c.act.new.disk)) h (why_at header c.args.act h) (acts_at c.args.act h) (record { before = c.new-outs.result; after = c.act.new.outs })) c.in-Ok-None.field-0-is
    (c.in-Ok-None.ensures.done header c.args.number h class stands)) (λ t es d at are. settled header t es d at are)) c.settle.ensures.done

pub returns-in-Ok-None-clause-halted : goal.returns-in-Ok-None-clause-halted
returns-in-Ok-None-clause-halted g c =
    λ halted header h class stands. acted_cut c.args.number (g.P.Parts.rests header c.args.number (g.D.Disk.file c.settle.new.disk)) (g.P.Parts.stands header c.args.number c.act.new.self (g.D.Disk.file c.act.new.disk)) header c.args.act h
    c.new-outs.result c.act.new.outs c.args.out.now c.settle.new.out c.new-outs.ensures
    (subst (IsActed (g.P.Parts.stands header c.args.number c.act.new.self (g.D.Disk.file c.act.new.disk)) h (why_at header c.args.act h) (acts_at c.args.act h) (record { before = c.new-outs.result; after = c.act.new.outs })) c.in-Ok-None.field-0-is
    (c.in-Ok-None.ensures.done header c.args.number h class stands)) (λ t es d at are. c.settle.ensures.halted halted header t es d at are)

pub returns-in_ok-put_front-in-Err-Halted-clause-halted : goal.returns-in_ok-put_front-in-Err-Halted-clause-halted
returns-in_ok-put_front-in-Err-Halted-clause-halted g c = λ _ header h class stands.
    let stop = c.in-Err-Halted.ensures.halted (ap Err c.in-Err-Halted.field-0-is) header c.args.number h class stands in
    stopped_act c.args.number (g.P.Parts.rests header c.args.number (g.D.Disk.file c.act.new.disk)) header c.args.act h c.new-outs.result c.act.new.outs c.args.out.now c.put_front.new.out c.new-outs.ensures stop.0 stop.1 c.in_ok-put_front-in-Err-Halted.ensures
