-- a step that is done, and one that was cut, stand on what the disk then says
use Rattle.std.proofs.Common.{None, Err, ap}
use Rattle.arj_core.specs.Steps.{input_of}
use Rattle.arj_protocol.specs.Step.{Node, step}
use Rattle.arj_protocol.specs.World.{cut}
use Rattle.arj_node_tests.proofs.alone.ask.Goals as goal

pub returns-in_ok-put_all-in-Ok-clause-stands : goal.returns-in_ok-put_all-in-Ok-clause-stands
returns-in_ok-put_all-in-Ok-clause-stands g c =
    let s = step c.requires.0 c.requires.1 (input_of c.args.input) in
    let did = c.in-Ok.ensures.done c.requires.0 c.requires.1 c.requires.2 in
    (c.requires.0, s.after, did.node)

pub returns-in_ok-put_all-in-Err-Halted-clause-stands : goal.returns-in_ok-put_all-in-Err-Halted-clause-stands
returns-in_ok-put_all-in-Err-Halted-clause-stands g c =
    let n : Node = c.requires.1 in
    let s = step c.requires.0 n (input_of c.args.input) in
    let was = c.in-Err-Halted.ensures.halted (ap Err c.in-Err-Halted.field-0-is) c.requires.0 n c.requires.2 in
    let left = cut was.work was.how s.halting n.disk in
    (c.requires.0, record n { disk = left.disk; live = None }, was.node)
