use Rattle.std.proofs.Common.{ap, sym, arith, Err}
use Rattle.arj_msg.proofs.ValueLaws.{value_is, value_none}
use Rattle.arj_msg.proofs.state.restored.Goals as goal

pub returns-in-Ok : goal.returns-in-Ok
returns-in-Ok c =
    let v = c.in-Ok.ensures in
    sym (value_is c.args.format c.args.class c.args.payload.now c.in-Ok.value (v.class, v.in_form, v.held, v.payload))

pub returns-in-Err-Payload : goal.returns-in-Err-Payload
returns-in-Err-Payload c =
    sym (value_none c.args.format c.args.class c.args.payload.now (λ i. omega (arith, c.type_inv.payload i)) (c.in-Err-Payload.ensures.none (ap Err c.in-Err-Payload.field-0-is)))
