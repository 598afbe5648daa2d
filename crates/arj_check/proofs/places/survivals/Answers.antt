use Rattle.std.proofs.Common.{rules, ◌≡◌, ◌<◌, length}
use Rattle.arj_model.specs.Actions.{committed, recovered}
use Rattle.arj_replay.specs.Orders.{survives as survives_of}
use Rattle.arj_check.proofs.places.survivals.Goals as goal
use Rattle.std.proofs.Common.{◌∙◌, ap, subst}
use Rattle.arj_check.proofs.Loops.{next_path, test_end, test_step}

pub loop-number-preserved : goal.loop-number-preserved
loop-number-preserved c = λ lines has.
    let lt : c.loop-number.number < length c.args.reading.now.list.items = search rules in
    let next = next_path lines c.loop-number.number (subst (λ xs. c.loop-number.number < length xs) has.list lt) in
    c.in_ok-push.ensures.items
    ∙ test_step (survives_of (committed lines) (recovered lines)) lines c.loop-number.number next.0 c.loop-number.tests.items c.survives_at-test.result next.2 (c.loop-number.invariant lines has)
    (c.survives_at-test.ensures lines next.0 has next.1 (c.as_slice.ensures.value ∙ c.loop-number.invariant lines has))

pub returns : goal.returns
returns c = λ lines has.
    let whole : c.loop-number.number ≡ length c.args.reading.now.list.items = search rules in
    c.loop-number.invariant lines has ∙ test_end (survives_of (committed lines) (recovered lines)) lines c.loop-number.number (whole ∙ ap length has.list)
