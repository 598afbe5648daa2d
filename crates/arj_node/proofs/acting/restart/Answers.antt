use Rattle.std.proofs.Common.{◌≡◌, None, ap, Err}
use Rattle.arj_core.specs.declared.node.CoreFault.TheVariants.{Halted}
use Rattle.arj_node.specs.Acting.{outs_again, parts_again}
use Rattle.arj_node.proofs.Handled.{same_fault, took_cut}
use Rattle.arj_node.proofs.Inputs.{does_cut, does_step}
use Rattle.arj_node.proofs.acting.restart.Goals as goal

pub returns-in_ok-settle-in-Ok-clause-done : goal.returns-in_ok-settle-in-Ok-clause-done
returns-in_ok-settle-in-Ok-clause-done g c =
    λ header d nodes rests. does_step c.args.number (g.P.Parts.stands header c.args.number c.settle.new.parts (g.D.Disk.file c.settle.new.disk)) (g.P.Parts.stands header c.args.number c.in-Ok.parts (g.D.Disk.file c.restart.new.disk)) None
    (parts_again c.args.number d) (outs_again header c.args.number d) d c.new-outs.result c.restart.new.outs c.args.out.now c.settle.new.out c.new-outs.ensures (c.in-Ok.ensures.done header d nodes rests) (λ u es e at are. c.in_ok-settle-in-Ok.ensures.done header u es e at are)

pub returns-in_err-settle-in-Ok-clause-halted : goal.returns-in_err-settle-in-Ok-clause-halted
returns-in_err-settle-in-Ok-clause-halted g c = λ halted header d nodes rests.
    let fault : c.in_err-settle-in-Ok.field-0.0 ≡ Halted =
    same_fault c.from_residual.result c.in_err-settle-in-Ok.field-0.0 Halted c.from_residual.ensures.1 halted in
    does_cut c.args.number (g.P.Parts.rests header c.args.number (g.D.Disk.file c.settle.new.disk)) (g.P.Parts.stands header c.args.number c.in-Ok.parts (g.D.Disk.file c.restart.new.disk))
    (parts_again c.args.number d) (outs_again header c.args.number d) d c.new-outs.result c.restart.new.outs c.args.out.now c.settle.new.out c.new-outs.ensures (c.in-Ok.ensures.done header d nodes rests) (λ u es e at are. c.in_err-settle-in-Ok.ensures.halted (ap Err fault) header u es e at are)

pub returns-in_ok-put_front-in-Err-Halted-clause-halted : goal.returns-in_ok-put_front-in-Err-Halted-clause-halted
returns-in_ok-put_front-in-Err-Halted-clause-halted g c =
    λ _ header d nodes rests. took_cut c.args.number (g.P.Parts.rests header c.args.number (g.D.Disk.file c.restart.new.disk)) (parts_again c.args.number d) (outs_again header c.args.number d) d
    c.new-outs.result c.restart.new.outs c.args.out.now c.put_front.new.out c.new-outs.ensures (c.in-Err-Halted.ensures.halted (ap Err c.in-Err-Halted.field-0-is) header d nodes rests) c.in_ok-put_front-in-Err-Halted.ensures
