use Rattle.std.proofs.Common.{arith}
use Rattle.arj_msg.proofs.ValueLaws.{class_read, no_class_read}
use Rattle.arj_msg.proofs.state.read_class.Goals as goal

pub returns-in-Some : goal.returns-in-Some
returns-in-Some c =
    class_read c.args.bytes.now c.in_ok-code.code c.in_ok-code.rest.now c.in-Some.class (λ i. omega (arith, c.type_inv.bytes i)) c.in_ok-code.ensures c.in-Some.ensures

pub returns-in-None : goal.returns-in-None
returns-in-None c =
    no_class_read c.args.bytes.now c.in_ok-code.code c.in_ok-code.rest.now (λ i. omega (arith, c.type_inv.bytes i)) c.in_ok-code.ensures c.in-None.ensures
