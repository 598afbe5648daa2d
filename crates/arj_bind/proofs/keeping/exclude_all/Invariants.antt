use Rattle.std.proofs.Common.{◌≡◌, drop}
use Rattle.arj_protocol.specs.Confirm.{without_stores}
use Rattle.arj_bind.proofs.keeping.exclude_all.Given as goal

abbrev pub invariant-loop-store : goal.invariant-loop-store
invariant-loop-store l = without_stores (drop l.store-index l.excluded) l.stores ≡ without_stores l.excluded l.fn.stores
