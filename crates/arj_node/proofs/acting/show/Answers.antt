use Rattle.std.proofs.Common.{ap, Err}
use Rattle.arj_node.proofs.Inputs.{shows_cut}
use Rattle.arj_node.proofs.acting.show.Goals as goal

pub returns-in_ok-put_front-in-Err-Halted-clause-halted : goal.returns-in_ok-put_front-in-Err-Halted-clause-halted
returns-in_ok-put_front-in-Err-Halted-clause-halted g c =
    λ _ header h stands. shows_cut c.args.number (g.P.Parts.rests header c.args.number (g.D.Disk.file c.show.new.disk)) h c.args.x c.new-outs.result c.show.new.outs c.args.out.now c.put_front-in-Err-Halted.new.out c.new-outs.ensures
    (c.in-Err-Halted.ensures.halted (ap Err c.in-Err-Halted.field-0-is) header c.args.number h stands) c.in_ok-put_front-in-Err-Halted.ensures
