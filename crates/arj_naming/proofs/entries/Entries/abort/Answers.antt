use Rattle.std.proofs.Common.{List, subst, sym}
use Rattle.std.specs.List.{AllByRecursion}
use Rattle.arj_base.specs.declared.state.ObjectState.{ObjectState}
use Rattle.arj_base.specs.declared.uid.Uid.{Uid}
use Rattle.arj_naming.specs.Entries.{AreOfEntries}
use Rattle.arj_law_store.proofs.store.Held.{all_without}
use Rattle.arj_naming.proofs.entries.Entries.abort.Goals as goal

pub invariant_of-self : goal.invariant_of-self
invariant_of-self c = record {
  entries = record {
    held = c.self.invariant.entries.held;
    pend = subst (AllByRecursion (λ (e : Uid × List ObjectState). AreOfEntries e.1)) (sym c.take_prepared.ensures.pend) (all_without (λ u s. AreOfEntries s) c.args.action c.self.inside.pend.entries c.self.invariant.entries.pend);
  };
  by_entry = c.take_prepared.ensures.by_entry c.self.invariant.by_entry;
}
