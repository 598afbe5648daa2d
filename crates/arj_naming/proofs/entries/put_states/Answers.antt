use Rattle.std.proofs.Common.{◌≡◌, ◌∙◌, ◌∷◌, ◌+◌, subst, sym, ap}
use Rattle.std.specs.List.{AllByRecursion}
use Rattle.std.specs.Vec.Iter.{into_iter_items, into_iter_len, into_iter_steps}
use Rattle.arj_base.specs.declared.state.ObjectState.{ObjectState}
use Rattle.arj_base.specs.declared.uid.Uid.{Uid}
use Rattle.arj_naming.specs.Entries.{IsEntryState}
use Rattle.arj_law_store.proofs.store.Held.{all_put}
use Rattle.arj_protocol.specs.Effect.{moved}
use Rattle.arj_naming.proofs.entries.put_states.Goals as goal

pub returns-in_err-insert-clause-held : goal.returns-in_err-insert-clause-held
returns-in_err-insert-clause-held c =
    subst (AllByRecursion (λ (e : Uid × ObjectState). IsEntryState e.0 e.1)) (sym c.in_err-insert.ensures.err) c.loop-state.invariant.held

pub loop-state-preserved : goal.loop-state-preserved
loop-state-preserved c =
    let step : (into_iter_items c.loop-state.state-iterator ≡ c.in-Some.state ∷ into_iter_items c.next.new.self) × (into_iter_len c.next.new.self + 1 ≡ into_iter_len c.loop-state.state-iterator) =
    subst (λ r. into_iter_steps c.loop-state.state-iterator r c.next.new.self) c.in-Some.is c.next.ensures.steps in
    let left = subst (AllByRecursion (λ (s : ObjectState). IsEntryState s.uid s)) step.0 c.loop-state.invariant.left in
    record {
      moved = ap (moved (into_iter_items c.next.new.self)) c.in_ok-insert.ensures.entries ∙ (ap (λ ss. moved ss c.loop-state.held.entries) (sym step.0) ∙ c.loop-state.invariant.moved);
      left = left.1;
      held = subst (AllByRecursion (λ (e : Uid × ObjectState). IsEntryState e.0 e.1)) (sym c.in_ok-insert.ensures.entries) (all_put IsEntryState c.in-Some.state.uid c.in-Some.state c.loop-state.held.entries c.loop-state.invariant.held left.0);
    }

pub loop-state-preserved-in_ok-insert : goal.loop-state-preserved-in_ok-insert
loop-state-preserved-in_ok-insert c =
    let step : (into_iter_items c.loop-state.state-iterator ≡ c.in-Some.state ∷ into_iter_items c.next.new.self) × (into_iter_len c.next.new.self + 1 ≡ into_iter_len c.loop-state.state-iterator) =
    subst (λ r. into_iter_steps c.loop-state.state-iterator r c.next.new.self) c.in-Some.is c.next.ensures.steps in
    let left = subst (AllByRecursion (λ (s : ObjectState). IsEntryState s.uid s)) step.0 c.loop-state.invariant.left in
    record {
      moved = ap (moved (into_iter_items c.next.new.self)) c.in_ok-insert.ensures.entries ∙ (ap (λ ss. moved ss c.loop-state.held.entries) (sym step.0) ∙ c.loop-state.invariant.moved);
      left = left.1;
      held = subst (AllByRecursion (λ (e : Uid × ObjectState). IsEntryState e.0 e.1)) (sym c.in_ok-insert.ensures.entries) (all_put IsEntryState c.in-Some.state.uid c.in-Some.state c.loop-state.held.entries c.loop-state.invariant.held left.0);
    }
