use Rattle.std.proofs.Common.{rules, ◌≡◌, ◌<◌, Some, None, ◌+◌, length}
use Rattle.arj_model.specs.Last.{first_values as values_of_header}
use Rattle.arj_model.specs.Serial.{after}
use Rattle.arj_replay.specs.Verdict.{IsWrong, differs_or, first_among, first_difference, wanted_of}
use Rattle.arj_replay.proofs.run.replay.Goals as goal
use Rattle.std.proofs.Common.{◌∙◌, ap, sym, subst, refl, drop}
use Rattle.arj_replay.proofs.Runs.{agrees, at_first, differs, next_place}

pub loop-place-init : goal.loop-place-init
loop-place-init c =
    λ calls same all. (values_of_header c.args.header.now, at_first c.args.header.now c.in_ok-values.values (λ x. c.in_ok-values.ensures x ∙ ap (λ os. first_among os x) c.as_slice.ensures), refl)

pub returns-in-Some : goal.returns-in-Some
returns-in-Some c = λ calls same all.
    let lt : c.loop-place.place-index < length c.args.places.now = search rules in
    let n = next_place c.args.header.now c.args.lines.now calls c.args.places.now c.loop-place.place-index same lt all in
    let before = c.loop-place.invariant calls same all in
    let goes : first_difference before.0 (drop c.loop-place.place-index calls) ≡ differs_or n.call.at (wanted_of n.call.op (before.0 n.call.x) n.call.answer) (first_difference (after before.0 n.call) (drop (c.loop-place.place-index + 1) calls)) = ap (first_difference before.0) n.rest in
    let said = c.in_ok-wrong.ensures.wrong c.args.header.now before.0 n.call n.at n.has before.1 in
    let found : IsWrong c.args.lines.now (differs_or n.call.at (wanted_of n.call.op (before.0 n.call.x) n.call.answer) None) (Some c.in-Some.wrong) = subst (IsWrong c.args.lines.now (differs_or n.call.at (wanted_of n.call.op (before.0 n.call.x) n.call.answer) None)) c.in-Some.is said in
    subst (λ d. IsWrong c.args.lines.now d (Some c.in-Some.wrong)) (sym goes ∙ before.2)
    (differs c.args.lines.now n.call.at (wanted_of n.call.op (before.0 n.call.x) n.call.answer) (first_difference (after before.0 n.call) (drop (c.loop-place.place-index + 1) calls)) c.in-Some.wrong found)

pub loop-place-preserved : goal.loop-place-preserved
loop-place-preserved c = λ calls same all.
    let lt : c.loop-place.place-index < length c.args.places.now = search rules in
    let n = next_place c.args.header.now c.args.lines.now calls c.args.places.now c.loop-place.place-index same lt all in
    let before = c.loop-place.invariant calls same all in
    let goes : first_difference before.0 (drop c.loop-place.place-index calls) ≡ differs_or n.call.at (wanted_of n.call.op (before.0 n.call.x) n.call.answer) (first_difference (after before.0 n.call) (drop (c.loop-place.place-index + 1) calls)) = ap (first_difference before.0) n.rest in
    let said = c.in_ok-wrong.ensures.wrong c.args.header.now before.0 n.call n.at n.has before.1 in
    let none : IsWrong c.args.lines.now (differs_or n.call.at (wanted_of n.call.op (before.0 n.call.x) n.call.answer) None) None =
    subst (IsWrong c.args.lines.now (differs_or n.call.at (wanted_of n.call.op (before.0 n.call.x) n.call.answer) None)) c.in_default.is said in (
      after before.0 n.call,
      c.in_ok-wrong.ensures.values c.args.header.now before.0 n.call n.at n.has before.1,
      sym (goes ∙ agrees c.args.lines.now n.call.at (wanted_of n.call.op (before.0 n.call.x) n.call.answer) (first_difference (after before.0 n.call) (drop (c.loop-place.place-index + 1) calls)) none) ∙ before.2,
    )
