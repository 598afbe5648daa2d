use Rattle.std.proofs.Common.{◌≡◌}
use Rattle.std.specs.Vec.Iter.{into_iter_items}
use Rattle.arj_base.specs.declared.uid.Uid.{Uid}
use Rattle.arj_store.specs.Table.{at}
use Rattle.arj_segment.specs.Tables.{kept_state}
use Rattle.arj_segment.proofs.gathering.keep_states.Given as goal

-- the states that are left, put over what is kept, give what all give over what was kept
abbrev pub invariant-loop-state : goal.invariant-loop-state
invariant-loop-state l =
    (u : Uid) → kept_state u (into_iter_items l.state-iterator) (at l.table u) ≡ kept_state u l.fn.states (at l.fn.table u)
