use Rattle.std.proofs.Common.{◌≡◌, take}
use Rattle.std.specs.List.{filter}
use Rattle.arj_store.specs.Shadow.{has_shadow}
use Rattle.arj_store.specs.Table.{at}
use Rattle.arj_store.proofs.recovery.shadows_left.Given as goal

-- the entries so far that have a shadow
abbrev pub invariant-loop-uid : goal.invariant-loop-uid
invariant-loop-uid l = l.left ≡ filter (λ u. has_shadow (at l.holdings u)) (take l.uid-index l.uid-items)
