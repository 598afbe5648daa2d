use Rattle.std.proofs.Common.{rules, ◌≡◌, map, true, [], ◌∷◌, ◌++◌}
use Rattle.arj_model.specs.Actions.{acts, committed, recovered}
use Rattle.arj_model.specs.Calls.{tops as tops_of}
use Rattle.arj_replay.specs.Orders.{paths}
use Rattle.arj_replay.specs.Orders.{survives as survives_of}
use Rattle.arj_check.proofs.keys.call_key.Goals as goal
use Rattle.std.proofs.Common.{◌∙◌, ap, sym, slice_get, Some}
use Rattle.arj_replay.specs.Orders.{test_at}
use Rattle.std.proofs.lemmas.List.{append_assoc}
use Rattle.arj_model.specs.Serial.{serial_key}
use Rattle.arj_check.specs.Keys.{numbers_at}
use Rattle.arj_check.proofs.Survive.{key_no_top, key_none, key_some}

pub returns-in_default : goal.returns-in_default
returns-in_default c =
    λ lines below has tests tops are. key_none lines (tops_of lines) below c.args.mark.action c.args.mark.at (sym (ap (λ xs. slice_get xs c.args.mark.action) has.list) ∙ sym c.kept.ensures ∙ c.in_default.is)

pub returns-in_default-top : goal.returns-in_default-top
returns-in_default-top c =
    λ lines below has tests tops are. key_no_top lines (tops_of lines) below c.args.mark.action c.args.mark.at c.in-Some.action (sym (ap (λ xs. slice_get xs c.args.mark.action) has.list) ∙ sym c.kept.ensures ∙ c.in-Some.is) c.in_default-top.is

pub returns : goal.returns
returns c = λ lines below has tests tops are.
    let is : c.is_true_at.result ≡ true = search rules in
    let test : test_at (map (survives_of (committed lines) (recovered lines)) (paths (acts lines))) (Some c.args.mark.action) ≡ true =
    ap (λ ts. test_at ts (Some c.args.mark.action)) (sym tests) ∙ sym c.is_true_at.ensures ∙ is in
    let numbers = numbers_at (map (λ k. k.items) c.args.parts.now.below.now) (Some c.args.mark.action) in
    ap Some (c.in_ok-push.ensures.items ∙ ap (λ k. k ++ c.args.mark.at ∷ []) (c.in_ok-put_numbers.ensures ∙ ap (λ k. k ++ numbers) (c.in_ok-key.ensures (tops_of lines) tops)) ∙ append_assoc (serial_key (tops_of lines) c.in-Some-top.top.number) numbers (c.args.mark.at ∷ []))
    ∙ key_some lines (tops_of lines) below c.args.mark.action c.args.mark.at c.in-Some.action c.in-Some-top.top numbers (sym (ap (λ xs. slice_get xs c.args.mark.action) has.list) ∙ sym c.kept.ensures ∙ c.in-Some.is) c.in-Some-top.is test (λ p e. are.at c.args.mark.action p e)
