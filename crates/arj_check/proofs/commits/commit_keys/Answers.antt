use Rattle.std.proofs.Common.{rules, ◌≡◌, ◌<◌, length, map}
use Rattle.arj_model.specs.Actions.{committed}
use Rattle.arj_replay.specs.Orders.{commits_in}
use Rattle.arj_check.proofs.commits.commit_keys.Goals as goal
use Rattle.std.proofs.Common.{◌∙◌, ap, subst}
use Rattle.arj_check.proofs.Loops.{map_push, next_path, test_end, test_step}

pub loop-number-preserved : goal.loop-number-preserved
loop-number-preserved c = λ lines has.
    let lt : c.loop-number.number < length c.args.reading.now.list.items = search rules in
    let next = next_path lines c.loop-number.number (subst (λ xs. c.loop-number.number < length xs) has.list lt) in
    ap (map (λ k. k.items)) c.in_ok-push.ensures.items ∙ map_push (λ k. k.items) c.loop-number.keys.items c.in_ok-key.key
    ∙ test_step (commits_in (committed lines)) lines c.loop-number.number next.0 (map (λ k. k.items) c.loop-number.keys.items) c.in_ok-key.key.items next.2 (c.loop-number.invariant lines has)
    (c.in_ok-key.ensures lines next.0 has next.1 (ap (map (λ k. k.items)) c.as_slice.ensures.value ∙ c.loop-number.invariant lines has))

pub returns : goal.returns
returns c = λ lines has.
    let whole : c.loop-number.number ≡ length c.args.reading.now.list.items = search rules in
    c.loop-number.invariant lines has ∙ test_end (commits_in (committed lines)) lines c.loop-number.number (whole ∙ ap length has.list)
