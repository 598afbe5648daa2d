use Rattle.std.proofs.Common.{◌≡◌, take}
use Rattle.arj_store.specs.Recovery.{entries_in}
use Rattle.arj_store.proofs.recovery.entries_of.Given as goal

-- the entries so far
abbrev pub invariant-loop-slot : goal.invariant-loop-slot
invariant-loop-slot l = l.entries ≡ entries_in (take l.slot-index l.names)
