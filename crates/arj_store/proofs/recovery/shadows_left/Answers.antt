use Rattle.std.proofs.Common.{◌≡◌, ◌<◌, ◌∙◌, sym, ap, arith, rules, length}
use Rattle.std.proofs.lemmas.List.{take_rest}
use Rattle.std.proofs.lemmas.Grind.{common_steps}
use Rattle.std.specs.List.{filter}
use Rattle.arj_store.specs.Shadow.{is_in, has_shadow}
use Rattle.arj_store.specs.Table.{at}
use Rattle.arj_store.proofs.Finding.{left_more, left_same, left_are}
use Rattle.arj_store.proofs.recovery.shadows_left.Goals as goal
use Rattle.arj_store.proofs.recovery.shadows_left.Goals.{then-is_left+in_ok-push, else-is_left}

pub loop-uid-preserved : goal.loop-uid-preserved
loop-uid-preserved c =
    let within : c.loop-uid.uid-index < length c.as_slice-uid-items.result.now = omega arith in
    elim c.if-is_left.branch [
      | then-is_left+in_ok-push w ↦
          w.left-is ∙ w.in_ok-push.ensures.ok ∙ left_more (λ u. has_shadow (at c.args.holdings.now u)) c.as_slice-uid-items.result.now c.loop-uid.uid-index _ c.loop-uid.left within c.loop-uid.invariant (sym c.is_left.ensures ∙ w.if-is_left.true)
      | else-is_left w ↦ w.left-is ∙ left_same (λ u. has_shadow (at c.args.holdings.now u)) c.as_slice-uid-items.result.now c.loop-uid.uid-index _ c.loop-uid.left within c.loop-uid.invariant (sym c.is_left.ensures ∙ w.if-is_left.false)
    ]

pub returns : goal.returns
returns c u =
    let same : c.as_slice-uid-items.result.now ≡ c.in_ok-held.held = search rules in
    let all : c.loop-uid.left ≡ filter (λ u. has_shadow (at c.args.holdings.now u)) c.as_slice-uid-items.result.now =
    grind (arith, common_steps, take_rest) in
    ap (λ us. is_in us u) (all ∙ ap (filter (λ u. has_shadow (at c.args.holdings.now u))) same) ∙ left_are (at c.args.holdings.now) c.in_ok-held.held c.in_ok-held.ensures.there u
