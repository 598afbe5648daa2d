use Rattle.std.proofs.Common.{◌≡◌, drop}
use Rattle.arj_naming.specs.Entries.{AreNodes}
use Rattle.arj_protocol.specs.Confirm.{marked, with_stores}
use Rattle.arj_naming.proofs.checks.include_all.Given as goal

-- with the stores that are left the entry is what it is with all
abbrev pub invariant-loop-mark : goal.invariant-loop-mark
invariant-loop-mark l = record {
  stores : with_stores (marked l.x (drop l.mark-index l.included)) l.entry.stores ≡ with_stores (marked l.x l.included) l.fn.entry.stores;
  servers : l.entry.servers ≡ l.fn.entry.servers;
  nodes : AreNodes l.fn.entry.stores → AreNodes l.entry.stores;
}
