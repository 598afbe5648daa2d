use Rattle.std.proofs.Common.{◌++◌, ◌≡◌, sym, ◌∙◌, ap, subst, arith, length}
use Rattle.std.specs.List.{flat_map}
use Rattle.std.proofs.lemmas.Bool.Decides.{nat_tests}
use Rattle.byteorder.specs.Endian.{big_bytes}
use Rattle.arj_class.specs.Forms.{NumbersFit}
use Rattle.arj_class.proofs.Payloads.{front_more, whole_front, numbers_fit_append, no_queue, numbers_once}
use Rattle.arj_class.proofs.queue.QueueObjectClass.restore_state.Goals as goal

-- a number more than a queue holds
pub returns-then-len-eq-QUEUE_NUMBERS-clause-none : goal.returns-then-len-eq-QUEUE_NUMBERS-clause-none
returns-then-len-eq-QUEUE_NUMBERS-clause-none c _ w form _ same =
    no_queue c.loop-number.numbers.items c.loop-number.rest.now c.args.payload.now c.loop-number.invariant.front
    (λ less. omega arith)
    (omega (arith, ap length c.in-Some.ensures.bytes)) w form same

pub loop-number-preserved : goal.loop-number-preserved
loop-number-preserved c = record {
  front =
      front_more (big_bytes 8) c.loop-number.numbers.items c.in-Some.number c.args.payload.now c.loop-number.rest.now c.in-Some.behind.now c.loop-number.invariant.front c.in-Some.ensures.bytes
      ∙ ap (λ ns. flat_map (big_bytes 8) ns ++ c.in-Some.behind.now) (sym c.in_ok-push.ensures.items);
  few = omega (arith, c.in_ok-push.ensures.len);
  fit = subst NumbersFit (sym c.in_ok-push.ensures.items) (numbers_fit_append _ _ c.loop-number.invariant.fit c.in-Some.ensures.fit);
}

-- fewer bytes than a number has
pub returns-then-not-is_empty-clause-none : goal.returns-then-not-is_empty-clause-none
returns-then-not-is_empty-clause-none c _ w form _ same =
    no_queue c.loop-number.numbers.items c.loop-number.rest.now c.args.payload.now c.loop-number.invariant.front
    (λ _. rw c.in_default.is at c.take_number.ensures.bytes)
    (grind (arith, nat_tests)) w form same

pub returns-clause-only : goal.returns-clause-only
returns-clause-only c w form same =
    let none : length c.loop-number.rest.now ≡ 0 = grind (arith, nat_tests) in
    let whole = whole_front (big_bytes 8) c.loop-number.numbers.items c.args.payload.now c.loop-number.rest.now c.loop-number.invariant.front none in
    numbers_once w c.loop-number.numbers.items form.1 c.loop-number.invariant.fit (same ∙ whole) ∙ sym c.from_vec.ensures.items
