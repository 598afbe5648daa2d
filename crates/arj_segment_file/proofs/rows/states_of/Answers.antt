use Rattle.std.proofs.Common.{◌≡◌, ◌∙◌, ◌+◌, ◌-◌, ◌++◌, ◌∷◌, [], arith, sym, ap, subst, Some, None}
use Rattle.std.specs.List.{AllByRecursion}
use Rattle.arj_base.specs.State.{StateInForm}
use Rattle.arj_disk.specs.Formed.{IsStateOf}
use Rattle.arj_store.proofs.Lists.{all_more}
use Rattle.arj_store.specs.Pair.{Packs, packed}
use Rattle.arj_segment_file.specs.Format.{rows_in, states_in}
use Rattle.arj_segment_file.proofs.Read.{packs_is, read_all, read_end, read_left, read_more, read_state}
use Rattle.arj_segment_file.proofs.rows.states_of.Goals as goal

pub loop-row-init : goal.loop-row-init
loop-row-init c =
    let all : c.rows_of-count.result.0 - 0 ≡ c.rows_of-count.result.0 = omega arith in
    let rows : rows_in (c.rows_of-count.result.0 - 0) c.rows_of-count.result.1.now ≡ states_in c.args.bytes.now =
    ap (λ n. rows_in n c.rows_of-count.result.1.now) all ∙ c.rows_of-count.ensures in
    record {
      rows = ap (λ ss. packed ss ++ rows_in (c.rows_of-count.result.0 - 0) c.rows_of-count.result.1.now) c.new-states.ensures ∙ rows;
      left = subst (AllByRecursion (λ e. IsStateOf e.0 e.1)) (sym rows) (packs_is c.requires.0 c.args.bytes.now c.requires.1);
      in_form = subst (AllByRecursion StateInForm) (sym c.new-states.ensures) tt;
    }

pub returns-in_default-clause-states : goal.returns-in_default-clause-states
returns-in_default-clause-states c =
    read_end c.rows_of-count.result.0 c.loop-row.row c.loop-row.rest.now c.loop-row.states (states_in c.args.bytes.now) c.loop-row.invariant.rows c.in_default.ensures

pub unreachable-requires : goal.unreachable-requires
unreachable-requires c =
    read_state c.rows_of-count.result.0 c.loop-row.row c.loop-row.rest.now c.loop-row.states (states_in c.args.bytes.now) c.loop-row.invariant.rows c.loop-row-test.true c.in-Some.ensures.0 c.loop-row.invariant.left
    (subst (λ st. Packs (Some st) None) c.in-Some.ensures.1 (rw c.in_default-2.is at c.in_ok-state.ensures))

pub loop-row-preserved : goal.loop-row-preserved
loop-row-preserved c =
    let packs : Packs (Some c.in-Some.packed.now) (Some c.in-Some-2.state) = rw c.in-Some-2.is at c.in_ok-state.ensures in
    record {
      rows = ap (λ ss. packed ss ++ rows_in (c.rows_of-count.result.0 - (c.loop-row.row + 1)) c.in-Some.behind.now) c.in_ok-push.ensures.ok
          ∙ ap (λ r. packed (c.loop-row.states ++ c.in-Some-2.state ∷ []) ++ rows_in (c.rows_of-count.result.0 - (c.loop-row.row + 1)) r) c.in-Some.ensures.2
          ∙ read_more c.rows_of-count.result.0 c.loop-row.row c.loop-row.rest.now c.loop-row.states (states_in c.args.bytes.now) c.loop-row.invariant.rows c.loop-row-test.true c.in-Some.ensures.0 c.in-Some-2.state packs.0 (sym c.in-Some.ensures.1 ∙ packs.1);
      left = subst (λ r. AllByRecursion (λ e. IsStateOf e.0 e.1) (rows_in (c.rows_of-count.result.0 - (c.loop-row.row + 1)) r)) (sym c.in-Some.ensures.2)
          (read_left c.rows_of-count.result.0 c.loop-row.row c.loop-row.rest.now c.loop-row.states (states_in c.args.bytes.now) c.loop-row.invariant.rows c.loop-row-test.true c.in-Some.ensures.0 c.loop-row.invariant.left);
      in_form = subst (AllByRecursion StateInForm) (sym c.in_ok-push.ensures.ok) (all_more StateInForm c.loop-row.states c.in-Some-2.state c.loop-row.invariant.in_form packs.0);
    }

pub returns-clause-states : goal.returns-clause-states
returns-clause-states c =
    read_all c.rows_of-count.result.0 c.loop-row.row c.loop-row.rest.now c.loop-row.states (states_in c.args.bytes.now) c.loop-row.invariant.rows c.loop-row-test.false
