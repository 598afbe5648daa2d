use Rattle.std.proofs.Common.{◌∙◌, List, ap, subst, sym}
use Rattle.std.specs.List.{AllByRecursion}
use Rattle.arj_base.specs.declared.state.ObjectState.{ObjectState}
use Rattle.arj_base.specs.declared.uid.Uid.{Uid}
use Rattle.arj_naming.specs.ByEntry.{has_state_in, is_on_set}
use Rattle.arj_naming.specs.Entries.{AreOfEntries, IsEntryState}
use Rattle.arj_law_store.specs.store.Found.{by_uid}
use Rattle.arj_protocol.specs.Order.{at_uid}
use Rattle.arj_naming.proofs.Recovered.{each_by_uid}
use Rattle.arj_naming.proofs.entries.Entries.of_found.Goals as goal

pub invariant_of-entries : goal.invariant_of-entries
invariant_of-entries c = record {
  entries = record {
    held = subst (AllByRecursion (λ (e : Uid × ObjectState). IsEntryState e.0 e.1)) (sym (c.in_ok-held.ensures ∙ ap by_uid c.as_slice.ensures)) (each_by_uid c.args.found.now.committed c.requires.committed);
    pend = subst (AllByRecursion (λ (e : Uid × List ObjectState). AreOfEntries e.1)) (sym c.new.ensures.empty) tt;
  };
  by_entry = λ u act. (λ i. is_on_set act (at_uid u (c.new-2.ensures.empty i))) ∙ (λ i. has_state_in u (at_uid act (sym c.new.ensures.empty i)));
}
