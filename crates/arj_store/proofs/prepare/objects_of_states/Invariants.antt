use Rattle.std.proofs.Common.{◌≡◌, take, map}
use Rattle.arj_store.specs.Pair.{uid_of}
use Rattle.arj_store.proofs.prepare.objects_of_states.Given as goal

abbrev pub invariant-loop-state : goal.invariant-loop-state
invariant-loop-state l = l.objects ≡ map uid_of (take l.state-index l.states)
