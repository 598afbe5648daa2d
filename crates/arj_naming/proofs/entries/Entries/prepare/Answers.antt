use Rattle.std.proofs.Common.{List, subst, sym}
use Rattle.std.specs.List.{AllByRecursion}
use Rattle.arj_base.specs.declared.state.ObjectState.{ObjectState}
use Rattle.arj_base.specs.declared.uid.Uid.{Uid}
use Rattle.arj_naming.specs.Entries.{AreOfEntries}
use Rattle.arj_law_store.proofs.store.Held.{all_put, all_without}
use Rattle.arj_naming.proofs.entries.Entries.prepare.Goals as goal

pub invariant_of-self : goal.invariant_of-self
invariant_of-self c = record {
  entries = record {
    held = c.self.invariant.entries.held;
    pend = subst (AllByRecursion (λ (e : Uid × List ObjectState). AreOfEntries e.1)) (sym c.in_err-put_prepared.ensures.err) (all_without (λ u s. AreOfEntries s) c.args.action c.self.inside.pend.entries c.self.invariant.entries.pend);
  };
  by_entry = c.put_prepared.ensures.by_entry c.self.invariant.by_entry;
}

pub invariant_of-self-2 : goal.invariant_of-self-2
invariant_of-self-2 c = record {
  entries = record {
    held = c.self.invariant.entries.held;
    pend = subst (AllByRecursion (λ (e : Uid × List ObjectState). AreOfEntries e.1)) (sym c.in_ok-put_prepared.ensures.pend) (all_put (λ u s. AreOfEntries s) c.args.action c.args.states c.self.inside.pend.entries c.self.invariant.entries.pend c.requires);
  };
  by_entry = c.put_prepared.ensures.by_entry c.self.invariant.by_entry;
}
