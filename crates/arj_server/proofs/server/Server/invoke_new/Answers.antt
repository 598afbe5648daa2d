use Rattle.arj_server.proofs.Classes.{may_behind}
use Rattle.arj_server.proofs.Loops.{invoke_lines}
use Rattle.arj_server.proofs.server.Server.invoke_new.Goals as goal

pub run-requires-clause-may : goal.run-requires-clause-may
run-requires-clause-may c =
    may_behind c.args.node c.args.m.now.x c.args.m.now.op c.as_slice.result.now c.args.self.now c.apply_ends.new.self c.requires.copies.0 c.requires.has_op c.in_ok-apply_ends.ensures.part

pub returns-clause-lines : goal.returns-clause-lines
returns-clause-lines c =
    invoke_lines c.args.node c.args.m.now c.args.self.now c.apply_ends.new.self c.as_slice.result.now c.args.out.now c.apply_ends.new.out c.run.new.out c.as_slice.ensures c.in_ok-apply_ends.ensures.part c.in_ok-apply_ends.ensures.lines c.in_ok-reply.ensures.lines
