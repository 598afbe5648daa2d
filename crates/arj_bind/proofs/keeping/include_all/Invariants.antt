use Rattle.std.proofs.Common.{◌≡◌, drop}
use Rattle.arj_protocol.specs.Confirm.{with_stores}
use Rattle.arj_bind.proofs.keeping.include_all.Given as goal

abbrev pub invariant-loop-store : goal.invariant-loop-store
invariant-loop-store l = with_stores (drop l.store-index l.included) l.stores ≡ with_stores l.included l.fn.stores
