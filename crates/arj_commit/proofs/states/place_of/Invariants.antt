use Rattle.std.proofs.Common.{◌≡◌, ◌++◌, take, drop}
use Rattle.arj_protocol.specs.Commit.{with_state}
use Rattle.arj_base.specs.declared.state.ObjectState.{ObjectState}
use Rattle.arj_commit.proofs.states.place_of.Given as goal

-- the state goes behind those that were looked at
abbrev pub invariant-loop-at : goal.invariant-loop-at
invariant-loop-at l =
    (s : ObjectState) → s.uid.num ≡ l.num → with_state s l.states ≡ take l.at l.states ++ with_state s (drop l.at l.states)
