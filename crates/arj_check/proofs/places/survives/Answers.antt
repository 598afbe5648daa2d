use Rattle.std.proofs.Common.{◌≡◌, ◌&&◌, true, false}
use Rattle.arj_model.specs.Actions.{committed}
use Rattle.arj_check.proofs.places.survives.Goals as goal
use Rattle.std.proofs.Common.{◌∙◌, ◌==◌, arith, ap}
use Rattle.std.specs.Prelude.{is_some}
use Rattle.std.proofs.lemmas.Bool.Decides.{nat_tests}
use Rattle.arj_model.specs.Actions.{has_end}
use Rattle.arj_reading.proofs.Numbers.{first_has}
use Rattle.arj_check.proofs.Survive.{survive_none, survive_other, survive_own}

pub returns-in_default : goal.returns-in_default
returns-in_default c = λ lines p has ha hp before. survive_none lines c.args.number c.args.action.now p ha hp c.in_default.is

pub returns-then-top-number : goal.returns-then-top-number
returns-then-top-number c = λ lines p has ha hp before.
    let same : (c.in-Some.top.number == c.args.number) ≡ true = grind (arith, nat_tests, c.if-top-number.true) in
    c.is_committed.ensures lines has ∙ survive_own lines c.args.number c.args.action.now p ha hp c.in-Some.top c.in-Some.is same

pub returns : goal.returns
returns c = λ lines p has ha hp before.
    let apart : (c.in-Some.top.number == c.args.number) ≡ false = grind (arith, nat_tests, c.if-top-number.false) in
    let ended : c.contains_key-ended.result ≡ has_end (committed lines) c.args.number =
    c.contains_key-ended.ensures ∙ ap is_some (has.committed_at c.args.number) ∙ first_has (committed lines) c.args.number in
    c.both.ensures ∙ (λ i. ended i && c.is_true_at-above.ensures i) ∙ survive_other lines c.args.number c.args.action.now p ha hp c.args.before.now c.in-Some.top c.in-Some.is apart before
