use Rattle.std.proofs.Common.{◌≡◌, ◌++◌, ◌+◌, ◌-◌, arith, sym, ◌∙◌, ap, length, drop, take}
use Rattle.std.proofs.lemmas.List.{take_rest, length-drop}
use Rattle.byteorder.specs.Endian.{big_bytes}
use Rattle.arj_base.proofs.Packed.{spelled, state_once}
use Rattle.arj_base.proofs.state.unpack.Goals as goal

-- the fields, one behind the other, are the bytes
pub returns-clause-packed : goal.returns-clause-packed
returns-clause-packed c =
    let bytes = c.args.bytes.now in
    let at = c.behind_class-at.result in
    let payload : drop (at + 26) bytes ≡ c.extend.new.self =
    sym (c.in_ok-extend.ensures.ok ∙ ap (λ front. front ++ take (length bytes - (at + 26)) (drop (at + 26) bytes)) c.new-payload.ensures ∙ take_rest bytes (at + 26)) in
    let size : c.from_two-length.result ≡ length c.extend.new.self = omega (arith, ap length payload, length-drop (at + 26) bytes) in
    spelled (record {
      uid = c.from_bytes.result;
      class = c.in-Some-class_of_code.class;
      version = c.from_eight.result;
      writer =
          c.from_bytes-2.result;
      payload = c.extend.new.self;
      format = c.in-Some.format;
    })
    bytes at (sym c.behind_class-at.ensures.ends) (omega arith) (sym c.of.ensures ∙ c.in-Some.is) (sym (c.from_bytes.ensures.bytes ∙ c.field-2.ensures)) (sym c.in-Some-class_of_code.ensures) (sym c.if-not-has_version.ensures)
    (sym (c.from_eight.ensures ∙ c.field-3.ensures)) (sym (c.from_bytes-2.ensures.bytes ∙ c.field-4.ensures))
    (sym (c.from_two-length.ensures ∙ c.field.ensures) ∙ ap (big_bytes 2) size) payload

-- each of them fits
pub returns-clause-in_form : goal.returns-clause-in_form
returns-clause-in_form c =
    let bytes = c.args.bytes.now in
    let at = c.behind_class-at.result in
    let payload =
    ap length c.in_ok-extend.ensures.ok ∙ ap (λ front. length (front ++ take (length bytes - (at + 26)) (drop (at + 26) bytes))) c.new-payload.ensures ∙ ap length (take_rest bytes (at + 26)) in
    (c.from_bytes.ensures.fits, omega arith, c.from_bytes-2.ensures.fits, omega (arith, payload, length-drop (at + 26) bytes))

-- and no other state in form has these bytes
pub returns-clause-only : goal.returns-clause-only
returns-clause-only c t form same = state_once t _ form (returns-clause-in_form c) (same ∙ returns-clause-packed c)
