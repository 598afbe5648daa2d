use Rattle.std.proofs.Common.{◌++◌, ◌≡◌, sym, ◌∙◌, ap, subst, arith, length, refl, true, false}
use Rattle.std.specs.List.{flat_map}
use Rattle.std.proofs.lemmas.Bool.Decides.{nat_tests}
use Rattle.arj_class.specs.Forms.{PairsFit}
use Rattle.arj_class.specs.Keys.{KeysBelow, KeysRise, pair_bytes}
use Rattle.arj_class.proofs.Payloads.{front_more, whole_front, pairs_fit_append, no_table, no_table_unsorted, pairs_once, rise_push}
use Rattle.arj_class.proofs.table.TableObjectClass.restore_state.Goals as goal
use Rattle.arj_class.proofs.table.TableObjectClass.restore_state.Goals.{then-len-eq-TABLE_PAIRS-via-then-len-eq-TABLE_PAIRS}
use Rattle.arj_class.proofs.table.TableObjectClass.restore_state.Goals.{then-len-eq-TABLE_PAIRS-via-else-len-eq-TABLE_PAIRS+then-not-is_above}

-- a pair more than a table holds, or a key that isn't above those before it
pub returns-then-len-eq-TABLE_PAIRS-clause-none : goal.returns-then-len-eq-TABLE_PAIRS-clause-none
returns-then-len-eq-TABLE_PAIRS-clause-none c _ w form _ same =
    elim c.then-len-eq-TABLE_PAIRS.branch [
      | then-len-eq-TABLE_PAIRS-via-then-len-eq-TABLE_PAIRS taken ↦
          no_table c.loop-pair.pairs.items c.loop-pair.rest.now c.args.payload.now c.loop-pair.invariant.front
          (λ less. omega arith)
          (omega (arith, ap length c.in-Some.ensures.bytes)) w form same
      | then-len-eq-TABLE_PAIRS-via-else-len-eq-TABLE_PAIRS+then-not-is_above taken ↦
          no_table_unsorted c.loop-pair.pairs.items c.in-Some.pair c.args.payload.now c.loop-pair.rest.now c.in-Some.behind.now c.loop-pair.invariant.front c.in-Some.ensures.bytes
          c.loop-pair.invariant.fit c.in-Some.ensures.fit
          (λ below. let never : false ≡ true =
          taken.if-not-is_above.ensures.1 (subst (KeysBelow c.in-Some.pair.0) (sym taken.as_slice.ensures.value) below) in cc) w form same
    ]

pub loop-pair-preserved : goal.loop-pair-preserved
loop-pair-preserved c = record {
  front =
      front_more pair_bytes c.loop-pair.pairs.items c.in-Some.pair c.args.payload.now c.loop-pair.rest.now c.in-Some.behind.now c.loop-pair.invariant.front c.in-Some.ensures.bytes
      ∙ ap (λ ps. flat_map pair_bytes ps ++ c.in-Some.behind.now) (sym c.in_ok-push.ensures.items);
  few = omega (arith, c.in_ok-push.ensures.len);
  rise = subst KeysRise (sym c.in_ok-push.ensures.items) (rise_push _ _ c.loop-pair.invariant.rise (subst (KeysBelow c.in-Some.pair.0) c.as_slice.ensures.value (c.if-not-is_above.ensures.0 refl)));
  fit = subst PairsFit (sym c.in_ok-push.ensures.items) (pairs_fit_append _ _ c.loop-pair.invariant.fit c.in-Some.ensures.fit);
}

-- fewer bytes than a pair has
pub returns-then-not-is_empty-clause-none : goal.returns-then-not-is_empty-clause-none
returns-then-not-is_empty-clause-none c _ w form _ same =
    no_table c.loop-pair.pairs.items c.loop-pair.rest.now c.args.payload.now c.loop-pair.invariant.front
    (λ _. rw c.in_default.is at c.take_pair.ensures.bytes)
    (grind (arith, nat_tests)) w form same

pub returns-clause-only : goal.returns-clause-only
returns-clause-only c w form same =
    let none : length c.loop-pair.rest.now ≡ 0 = grind (arith, nat_tests) in
    let whole = whole_front pair_bytes c.loop-pair.pairs.items c.args.payload.now c.loop-pair.rest.now c.loop-pair.invariant.front none in
    pairs_once w c.loop-pair.pairs.items form.2 c.loop-pair.invariant.fit (same ∙ whole)
