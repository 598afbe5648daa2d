use Rattle.std.proofs.Common.{◌∙◌, ◌≤◌, length, subst, ap, arith}
use Rattle.std.specs.List.{flat_map}
use Rattle.byteorder.specs.Endian.{big_bytes}
use Rattle.std.proofs.lemmas.List.{length-append}
use Rattle.arj_class.specs.Forms.{NumbersFit}
use Rattle.arj_class.proofs.Payloads.{length_numbers, numbers_fit_append}
use Rattle.arj_class.proofs.queue.QueueObjectClass.save_state.Goals as goal

-- the two parts of the ring are the queue
pub returns-clause-in_form : goal.returns-clause-in_form
returns-clause-in_form c =
    let parts = c.as_slices.ensures.items ∙ c.self.view_is in (
      subst (λ ns. length ns ≤ 32) c.self.view_is c.self.invariant,
      subst NumbersFit parts (numbers_fit_append _ _ c.in_ok-put_numbers.ensures.fit c.in_ok-put_numbers-2.ensures.fit),
    )

pub returns-clause-short : goal.returns-clause-short
returns-clause-short c =
    let front = c.as_slices.result.0.now in
    let back = c.as_slices.result.1.now in
    omega (
      arith,
      ap length c.in_ok-put_numbers.ensures.bytes,
      ap length c.in_ok-put_numbers-2.ensures.bytes,
      ap length c.new-payload.ensures,
      length-append c.new-payload.result (flat_map (big_bytes 8) front),
      length-append c.put_numbers.new.payload (flat_map (big_bytes 8) back),
      length_numbers front,
      length_numbers back,
      ap length c.as_slices.ensures.items,
      length-append front back,
    )
