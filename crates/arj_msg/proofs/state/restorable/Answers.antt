use Rattle.std.proofs.Common.{◌∙◌, ap, sym, arith}
use Rattle.arj_msg.specs.State.{value_from}
use Rattle.arj_msg.proofs.StateLaws.{unpacks_none, unpacks_to, unpacks_to_none}
use Rattle.arj_msg.proofs.state.restorable.Goals as goal

pub returns-in_default : goal.returns-in_default
returns-in_default c =
    sym (unpacks_none c.args.packed.now (λ i. omega (arith, c.type_inv.packed i)) (λ s form saved is. c.in-Err.ensures.none c.in_default.not-Memory s form.3 is))

pub returns-in-Some : goal.returns-in-Some
returns-in-Some c =
    let s = c.in-Ok.state in
    let value = ap (value_from s.format s.class) (sym c.as_slice.ensures) ∙ sym c.in_ok-restored.ensures ∙ c.in-Some.is in
    sym (unpacks_to c.args.packed.now s c.in-Some.field-0 (λ i. omega (arith, c.type_inv.packed i)) c.in-Ok.ensures.packed c.in-Ok.ensures.in_form value)

pub returns-in-None : goal.returns-in-None
returns-in-None c =
    let s = c.in-Ok.state in
    let value = ap (value_from s.format s.class) (sym c.as_slice.ensures) ∙ sym c.in_ok-restored.ensures ∙ c.in-None.is in
    sym (unpacks_to_none c.args.packed.now s (λ i. omega (arith, c.type_inv.packed i)) (λ t form is. sym (c.in-Ok.ensures.only t form is)) value)
