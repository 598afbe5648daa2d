use Rattle.std.proofs.Common.{◌≡◌, ◌++◌, List, drop}
use Rattle.std.specs.List.{AllByRecursion}
use Rattle.arj_base.specs.declared.state.ObjectState.{ObjectState}
use Rattle.arj_base.specs.declared.uid.Uid.{Uid}
use Rattle.arj_naming.specs.Entries.{AreOfEntries}
use Rattle.arj_naming.proofs.entries.Entries.prepare_all.Given as goal

-- what was prepared so far, and what is left
abbrev pub invariant-loop-action : goal.invariant-loop-action
invariant-loop-action l = record {
  held : l.self.held ≡ l.fn.self.held;
  pend : l.self.pend ++ drop l.action-index l.prepared ≡ l.prepared;
  left : AllByRecursion (λ (e : Uid × List ObjectState). AreOfEntries e.1) (drop l.action-index l.prepared);
}
