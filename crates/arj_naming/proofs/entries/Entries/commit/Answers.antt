use Rattle.std.proofs.Common.{List, subst, sym}
use Rattle.std.specs.Prelude.{IfSome}
use Rattle.std.specs.List.{AllByRecursion}
use Rattle.arj_base.specs.declared.state.ObjectState.{ObjectState}
use Rattle.arj_base.specs.declared.uid.Uid.{Uid}
use Rattle.arj_naming.specs.Entries.{AreOfEntries, IsEntryState}
use Rattle.arj_law_store.proofs.store.Held.{all_without, found}
use Rattle.arj_naming.proofs.entries.Entries.commit.Goals as goal

pub put_states-requires-clause-states : goal.put_states-requires-clause-states
put_states-requires-clause-states c =
    let own : AreOfEntries c.in-Some.states =
    subst (λ o. IfSome o AreOfEntries) (sym c.in-Some.ensures.states) (found (λ a states. AreOfEntries states) c.args.action c.self.inside.pend.entries c.self.invariant.entries.pend) in
    subst (AllByRecursion (λ (s : ObjectState). IsEntryState s.uid s)) (sym c.into_vec.ensures) own.each

pub invariant_of-self : goal.invariant_of-self
invariant_of-self c = record {
  entries = record {
    held = c.self.invariant.entries.held;
    pend = subst (AllByRecursion (λ (e : Uid × List ObjectState). AreOfEntries e.1)) (sym c.take_prepared.ensures.pend) (all_without (λ u s. AreOfEntries s) c.args.action c.self.inside.pend.entries c.self.invariant.entries.pend);
  };
  by_entry = c.take_prepared.ensures.by_entry c.self.invariant.by_entry;
}

pub invariant_of-self-2 : goal.invariant_of-self-2
invariant_of-self-2 c = record {
  entries = record {
    held = c.put_states.ensures.held;
    pend = subst (AllByRecursion (λ (e : Uid × List ObjectState). AreOfEntries e.1)) (sym c.take_prepared.ensures.pend) (all_without (λ u s. AreOfEntries s) c.args.action c.self.inside.pend.entries c.self.invariant.entries.pend);
  };
  by_entry = c.take_prepared.ensures.by_entry c.self.invariant.by_entry;
}
