use Rattle.std.proofs.Common.{ap, Err}
use Rattle.arj_node.specs.Outgoing.{messages_of}
use Rattle.arj_node.proofs.Handled.{goes_taken, halted_taken}
use Rattle.arj_protocol.specs.Node.{taken}
use Rattle.arj_node.proofs.rounds.handle_one.Goals as goal

pub returns-in_ok-put_out-in-Ok-clause-done : goal.returns-in_ok-put_out-in-Ok-clause-done
returns-in_ok-put_out-in-Ok-clause-done g c =
    λ header h stands. goes_taken c.args.number (g.P.Parts.stands header c.args.number c.take.new.self (g.D.Disk.file c.take.new.disk)) h (taken c.args.number h.disk h.parts c.args.number c.args.m.value)
    c.new-outs.result c.take.new.outs c.in-Ok.field-0 c.args.out.now c.put_out.new.out (messages_of c.args.queue.now.items) (messages_of c.put_out.new.queue.items) c.new-outs.ensures (c.in-Ok.ensures.done header c.args.number h stands)
    c.in_ok-put_out-in-Ok.ensures.puts c.in_ok-put_out-in-Ok.ensures.queue

pub returns-in_ok-put_out-in-Err-Halted-clause-halted : goal.returns-in_ok-put_out-in-Err-Halted-clause-halted
returns-in_ok-put_out-in-Err-Halted-clause-halted g c =
    λ _ header h stands. halted_taken c.args.number (g.P.Parts.rests header c.args.number (g.D.Disk.file c.take.new.disk)) h (taken c.args.number h.disk h.parts c.args.number c.args.m.value)
    c.new-outs.result c.take.new.outs c.args.out.now c.put_out-in-Err-Halted.new.out c.new-outs.ensures (c.in-Err-Halted.ensures.halted (ap Err c.in-Err-Halted.field-0-is) header c.args.number h stands) c.in_ok-put_out-in-Err-Halted.ensures.puts
