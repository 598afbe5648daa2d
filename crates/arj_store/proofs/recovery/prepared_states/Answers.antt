use Rattle.std.proofs.Common.{◌<◌, ◌∙◌, sym, ap, subst, arith, length, map}
use Rattle.std.specs.Prelude.{IfSome, IsSome, option_copied}
use Rattle.std.specs.List.{AllByRecursion}
use Rattle.arj_store.specs.Recovery.{newest, HasStatesOf}
use Rattle.arj_store.specs.Table.{at}
use Rattle.arj_store.proofs.Finding.{has_value, action_more}
use Rattle.arj_store.proofs.recovery.prepared_states.Goals as goal

-- each of the Uids has its objects
pub unreachable-requires : goal.unreachable-requires
unreachable-requires c =
    let within : c.loop-act.act-index < length c.as_slice-act-items.result.now = omega arith in
    has_value (at c.args.actions.now) c.in_ok-acts.acts c.as_slice-act-items.result.now c.loop-act.act-index _ c.as_slice-act-items.ensures within c.in_ok-acts.ensures.there (sym c.get.ensures ∙ ap option_copied c.in_default.is)

pub new_states-requires : goal.new_states-requires
new_states-requires c =
    subst (AllByRecursion (λ u. IsSome (newest (at c.args.shadows.now) (at c.args.committed.now) u))) (sym c.as_slice.ensures)
    (subst (λ o. IfSome o (AllByRecursion (λ u. IsSome (newest (at c.args.shadows.now) (at c.args.committed.now) u)))) (sym c.get.ensures ∙ ap option_copied c.in-Some.is) (c.requires _))

pub loop-act-preserved : goal.loop-act-preserved
loop-act-preserved c =
    let within : c.loop-act.act-index < length c.as_slice-act-items.result.now = omega arith in
    let more = action_more (at c.args.actions.now) (newest (at c.args.shadows.now) (at c.args.committed.now)) c.as_slice-act-items.result.now c.loop-act.act-index _ c.loop-act.prepared c.in-Some.objects.now c.in_ok-states.states
    within c.loop-act.invariant.acts c.loop-act.invariant.each (sym c.get.ensures ∙ ap option_copied c.in-Some.is) (ap (map (newest (at c.args.shadows.now) (at c.args.committed.now))) (sym c.as_slice.ensures) ∙ c.in_ok-states.ensures) in
    record {
      acts = ap (map (λ p. p.0)) c.in_ok-push.ensures.ok ∙ more.0;
      each = subst (AllByRecursion (HasStatesOf (at c.args.actions.now) (newest (at c.args.shadows.now) (at c.args.committed.now)))) (sym c.in_ok-push.ensures.ok) more.1;
    }
