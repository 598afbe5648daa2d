use Rattle.std.proofs.Common.{◌≡◌}
use Rattle.std.specs.List.{AllByRecursion}
use Rattle.std.specs.Vec.Iter.{into_iter_items}
use Rattle.arj_base.specs.declared.state.ObjectState.{ObjectState}
use Rattle.arj_base.specs.declared.uid.Uid.{Uid}
use Rattle.arj_naming.specs.Entries.{IsEntryState}
use Rattle.arj_protocol.specs.Effect.{moved}
use Rattle.arj_naming.proofs.entries.put_states.Given as goal

-- the states that are left make the same of what is there now as all of what was there first
abbrev pub invariant-loop-state : goal.invariant-loop-state
invariant-loop-state l = record {
  moved : moved (into_iter_items l.state-iterator) l.held.entries ≡ moved l.fn.states.items l.fn.held.entries;
  left : AllByRecursion (λ s. IsEntryState s.uid s) (into_iter_items l.state-iterator);
  held : AllByRecursion (λ (e : Uid × ObjectState). IsEntryState e.0 e.1) l.held.entries;
}
