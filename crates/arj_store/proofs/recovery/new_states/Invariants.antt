use Rattle.std.proofs.Common.{◌≡◌, take, map, Some}
use Rattle.arj_store.specs.Recovery.{newest}
use Rattle.arj_store.specs.Table.{at}
use Rattle.arj_store.proofs.recovery.new_states.Given as goal

-- the states so far
abbrev pub invariant-loop-uid : goal.invariant-loop-uid
invariant-loop-uid l = map (newest (at l.shadows) (at l.committed)) (take l.uid-index l.objects) ≡ map Some l.states
