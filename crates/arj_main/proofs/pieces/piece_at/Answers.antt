use Rattle.std.proofs.Common.{◌≡◌, ◌-◌, sym, ◌∙◌, arith}
use Rattle.arj_main.proofs.Cut.{front_alone, front_at_cut, none_left, one_on}
use Rattle.arj_main.proofs.pieces.piece_at.Goals as goal

pub returns-in_default : goal.returns-in_default
returns-in_default c =
    sym (none_left c.args.separator c.args.number c.loop.counter c.loop.rest.now c.loop-test.true c.in_default.ensures) ∙ c.loop.invariant

pub loop-preserved : goal.loop-preserved
loop-preserved c =
    one_on c.args.separator c.args.number c.loop.counter c.loop.rest.now c.in-Some.field-0-0.now c.in-Some.behind.now c.loop-test.true c.in-Some.ensures.0 c.in-Some.ensures.1
    ∙ c.loop.invariant

pub returns-in-Some-cut : goal.returns-in-Some-cut
returns-in-Some-cut c =
    let done : c.args.number - c.loop.counter ≡ 0 = omega (arith, c.loop-test.false) in
    sym (front_at_cut c.args.separator (c.args.number - c.loop.counter) c.loop.rest.now c.in-Some-cut.piece.now c.in-Some-cut.field-0-1.now done c.in-Some-cut.ensures.0 c.in-Some-cut.ensures.1)
    ∙ c.loop.invariant

pub returns-in-None : goal.returns-in-None
returns-in-None c =
    let done : c.args.number - c.loop.counter ≡ 0 = omega (arith, c.loop-test.false) in
    sym (front_alone c.args.separator (c.args.number - c.loop.counter) c.loop.rest.now done c.in-None.ensures) ∙ c.loop.invariant
