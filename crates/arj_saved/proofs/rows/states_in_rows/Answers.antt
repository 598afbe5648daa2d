use Rattle.std.proofs.Common.{◌≡◌, ◌∙◌, ◌+◌, ◌-◌, ◌++◌, ◌∷◌, [], arith, sym, ap, subst, true, false}
use Rattle.std.specs.List.{AllByRecursion}
use Rattle.arj_base.specs.State.{StateInForm, state_bytes}
use Rattle.arj_saved.proofs.Read.{at_end, more, no_row, no_state, twice}
use Rattle.arj_saved.specs.Rows.{are_rows, is_packed, names_uid}
use Rattle.arj_segment_file.proofs.Read.{read_all, read_more}
use Rattle.arj_segment_file.specs.Format.{rows_in}
use Rattle.arj_store.proofs.Lists.{all_more}
use Rattle.arj_store.specs.Pair.{packed}
use Rattle.arj_saved.proofs.rows.states_in_rows.Goals as goal

pub loop-row-init : goal.loop-row-init
loop-row-init c =
    let all : c.args.count - 0 ≡ c.args.count = omega arith in
    record {
      rows = ap (λ ss. packed ss ++ rows_in (c.args.count - 0) c.args.rows.now) c.new-states.ensures ∙ ap (λ n. rows_in n c.args.rows.now) all;
      test = (λ i. are_rows (all i) c.args.rows.now (packed (c.new-states.ensures i)));
      in_form = subst (AllByRecursion StateInForm) (sym c.new-states.ensures) tt;
    }

pub returns-in_default : goal.returns-in_default
returns-in_default c =
    no_row c.args.count c.loop-row.row c.loop-row.rest.now c.loop-row.states (are_rows c.args.count c.args.rows.now []) c.loop-row.invariant.test
    c.loop-row-test.true c.in_default.ensures

pub returns-in_default-2 : goal.returns-in_default-2
returns-in_default-2 c =
    let bad : is_packed c.in-Some.packed.now ≡ false = rw c.in_default-2.is at c.in_ok-state.ensures in
    no_state c.args.count c.loop-row.row c.loop-row.rest.now c.loop-row.states (are_rows c.args.count c.args.rows.now []) c.loop-row.invariant.test
    c.loop-row-test.true (ap is_packed (sym c.in-Some.ensures.1) ∙ bad)

pub returns-then-again : goal.returns-then-again
returns-then-again c =
    let good : (is_packed c.in-Some.packed.now ≡ true) × (c.in-Some.packed.now ≡ state_bytes c.in-Some-2.state) × StateInForm c.in-Some-2.state =
    rw c.in-Some-2.is at c.in_ok-state.ensures in
    twice c.args.count c.loop-row.row c.loop-row.rest.now c.loop-row.states (are_rows c.args.count c.args.rows.now []) c.loop-row.invariant.test
    c.loop-row-test.true c.in-Some-2.state good.2 (sym c.in-Some.ensures.1 ∙ good.1)
    (sym (c.names-again.ensures ∙ ap (λ ss. names_uid ss c.in-Some-2.state.uid) c.as_slice.ensures) ∙ c.if-again.true)

pub loop-row-preserved : goal.loop-row-preserved
loop-row-preserved c =
    let good : (is_packed c.in-Some.packed.now ≡ true) × (c.in-Some.packed.now ≡ state_bytes c.in-Some-2.state) × StateInForm c.in-Some-2.state =
    rw c.in-Some-2.is at c.in_ok-state.ensures in
    record {
      rows = ap (λ ss. packed ss ++ rows_in (c.args.count - (c.loop-row.row + 1)) c.in-Some.behind.now) c.in_ok-push.ensures.ok
          ∙ ap (λ r. packed (c.loop-row.states ++ c.in-Some-2.state ∷ []) ++ rows_in (c.args.count - (c.loop-row.row + 1)) r) c.in-Some.ensures.2
          ∙ read_more c.args.count c.loop-row.row c.loop-row.rest.now c.loop-row.states (rows_in c.args.count c.args.rows.now) c.loop-row.invariant.rows c.loop-row-test.true c.in-Some.ensures.0 c.in-Some-2.state good.2 (sym c.in-Some.ensures.1 ∙ good.1);
      test = (λ i. are_rows (c.args.count - (c.loop-row.row + 1)) (c.in-Some.ensures.2 i) (packed (c.in_ok-push.ensures.ok i)))
          ∙ more c.args.count c.loop-row.row c.loop-row.rest.now c.loop-row.states (are_rows c.args.count c.args.rows.now []) c.loop-row.invariant.test
          c.loop-row-test.true c.in-Some-2.state good.2 (sym c.in-Some.ensures.1 ∙ good.1) c.in-Some.ensures.0 (ap is_packed (sym c.in-Some.ensures.1) ∙ good.0)
          (sym (c.names-again.ensures ∙ ap (λ ss. names_uid ss c.in-Some-2.state.uid) c.as_slice.ensures) ∙ c.if-again.false);
      in_form = subst (AllByRecursion StateInForm) (sym c.in_ok-push.ensures.ok) (all_more StateInForm c.loop-row.states c.in-Some-2.state c.loop-row.invariant.in_form good.2);
    }

pub returns-then-not-ended : goal.returns-then-not-ended
returns-then-not-ended c =
    sym (at_end c.args.count c.loop-row.row c.loop-row.rest.now c.loop-row.states (are_rows c.args.count c.args.rows.now []) c.loop-row.invariant.test c.loop-row-test.false)
    ∙ sym c.is_end-ended.ensures ∙ c.if-not-ended.true

pub returns : goal.returns
returns c = (
  sym (at_end c.args.count c.loop-row.row c.loop-row.rest.now c.loop-row.states (are_rows c.args.count c.args.rows.now []) c.loop-row.invariant.test c.loop-row-test.false)
      ∙ sym c.is_end-ended.ensures ∙ c.if-not-ended.false,
  read_all c.args.count c.loop-row.row c.loop-row.rest.now c.loop-row.states (rows_in c.args.count c.args.rows.now) c.loop-row.invariant.rows c.loop-row-test.false,
  c.loop-row.invariant.in_form,
)
