use Rattle.std.proofs.Common.{◌≡◌, drop}
use Rattle.arj_naming.specs.Entries.{AreNodes}
use Rattle.arj_protocol.specs.Confirm.{marked, without_stores}
use Rattle.arj_naming.proofs.checks.exclude_all.Given as goal

-- without the stores that are left the entry is what it is without all
abbrev pub invariant-loop-mark : goal.invariant-loop-mark
invariant-loop-mark l = record {
  stores : without_stores (marked l.x (drop l.mark-index l.excluded)) l.entry.stores ≡ without_stores (marked l.x l.excluded) l.fn.entry.stores;
  servers : l.entry.servers ≡ l.fn.entry.servers;
  nodes : AreNodes l.fn.entry.stores → AreNodes l.entry.stores;
}
