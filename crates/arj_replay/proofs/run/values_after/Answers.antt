use Rattle.std.proofs.Common.{rules, arith, ◌≡◌, ◌≤◌, ◌<◌, Some, None, ◌+◌, length, [], List}
use Rattle.arj_model.specs.Calls.{Call}
use Rattle.arj_model.specs.Last.{first_values as values_of_header}
use Rattle.arj_model.specs.Serial.{Values, after, run}
use Rattle.arj_replay.specs.Verdict.{HasValues, first_among}
use Rattle.arj_replay.proofs.run.values_after.Goals as goal
use Rattle.std.proofs.Common.{◌∙◌, ap, sym, subst, refl, drop}
use Rattle.std.proofs.lemmas.List.{drop_all, length-map}
use Rattle.arj_replay.proofs.Runs.{at_first, next_place}

pub loop-place-init : goal.loop-place-init
loop-place-init c =
    λ calls same all. (values_of_header c.args.header.now, at_first c.args.header.now c.in_ok-values.values (λ x. c.in_ok-values.ensures x ∙ ap (λ os. first_among os x) c.as_slice.ensures), refl)

pub loop-place-preserved : goal.loop-place-preserved
loop-place-preserved c = λ calls same all.
    let lt : c.loop-place.place-index < length c.args.places.now = search rules in
    let n = next_place c.args.header.now c.args.lines.now calls c.args.places.now c.loop-place.place-index same lt all in
    let before = c.loop-place.invariant calls same all in
    let goes : run before.0 (drop c.loop-place.place-index calls) ≡ run (after before.0 n.call) (drop (c.loop-place.place-index + 1) calls) = ap (run before.0) n.rest in
    (after before.0 n.call, c.in_ok-_wrong.ensures.values c.args.header.now before.0 n.call n.at n.has before.1, sym goes ∙ before.2)

pub returns : goal.returns
returns c = λ calls same all.
    let before = c.loop-place.invariant calls same all in
    let whole : c.loop-place.place-index ≡ length c.args.places.now = search rules in
    let as_many : length calls ≡ length c.args.places.now = sym (length-map calls (λ k. k.at)) ∙ ap length same in
    let le : length calls ≤ c.loop-place.place-index = omega (arith, whole, as_many) in
    subst (λ values. HasValues c.args.header.now values c.loop-place.values) (sym (ap (run before.0) (drop_all c.loop-place.place-index calls le)) ∙ before.2) before.1
