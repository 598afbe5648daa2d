use Rattle.std.proofs.Common.{◌≡◌, take, map}
use Rattle.std.specs.List.{AllByRecursion}
use Rattle.arj_store.specs.Recovery.{newest, HasStatesOf}
use Rattle.arj_store.specs.Table.{at}
use Rattle.arj_store.proofs.recovery.prepared_states.Given as goal

-- the actions so far, each with its states
abbrev pub invariant-loop-act : goal.invariant-loop-act
invariant-loop-act l = record {
  acts : map (λ p. p.0) l.prepared ≡ take l.act-index l.act-items;
  each : AllByRecursion (HasStatesOf (at l.actions) (newest (at l.shadows) (at l.committed))) l.prepared;
}
