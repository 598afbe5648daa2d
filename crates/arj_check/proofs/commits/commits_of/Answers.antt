use Rattle.std.proofs.Common.{◌≡◌, ◌++◌, ◌∷◌, [], true, false}
use Rattle.arj_check.proofs.commits.commits_of.Goals as goal
use Rattle.std.proofs.Common.{◌∙◌, ◌==◌, arith, ap}
use Rattle.std.proofs.lemmas.Bool.Decides.{nat_tests}
use Rattle.std.specs.Option.{unwrap_or}
use Rattle.arj_model.specs.Nested.{commit_place}
use Rattle.arj_model.specs.Actions.{committed}
use Rattle.arj_check.proofs.Survive.{commit_is, commits_none, commits_other, commits_own}

pub returns-in_default : goal.returns-in_default
returns-in_default c =
    λ lines p has ha hp before. c.new.ensures.items ∙ commits_none lines c.args.number c.args.action.now p ha hp c.in_default.is

pub returns-then-top-number : goal.returns-then-top-number
returns-then-top-number c = λ lines p has ha hp before.
    let same : (c.in-Some.top.number == c.args.number) ≡ true = grind (arith, nat_tests, c.if-top-number.true) in
    c.new-then-top-number.ensures.items ∙ commits_own lines c.args.number c.args.action.now p ha hp c.in-Some.top c.in-Some.is same

pub returns : goal.returns
returns c = λ lines p has ha hp before.
    let apart : (c.in-Some.top.number == c.args.number) ≡ false = grind (arith, nat_tests, c.if-top-number.false) in
    let place : c.commit_at.result ≡ commit_place (committed lines) c.args.number =
    c.commit_at.ensures ∙ ap (λ o. unwrap_or o 0) (has.committed_at c.args.number) ∙ commit_is (committed lines) c.args.number in
    c.in_ok-push.ensures.items ∙ (λ i. c.in_ok-key.ensures i ++ place i ∷ []) ∙ commits_other lines c.args.number c.args.action.now p ha hp _ c.in-Some.top c.in-Some.is apart before
