use Rattle.std.proofs.Common.{take}
use Rattle.arj_store.specs.Shadow.{HoldsAll}
use Rattle.arj_store.specs.Table.{at}
use Rattle.arj_store.proofs.memory.hold.Given as goal

-- the objects so far are held
abbrev pub invariant-loop-uid : goal.invariant-loop-uid
invariant-loop-uid l = HoldsAll (take l.uid-index l.objects) l.act l.shadow (at l.initial.holdings) (at l.holdings)
