use Rattle.std.proofs.Common.{◌≡◌, drop, find}
use Rattle.arj_base.specs.Uid.{uid_eq, object}
use Rattle.arj_base.specs.declared.state.ObjectState.{ObjectState}
use Rattle.arj_commit.proofs.states.state_of.Given as goal

-- the state is among the rest, if it is there
abbrev pub invariant-loop-state : goal.invariant-loop-state
invariant-loop-state l =
    find (λ (s : ObjectState). uid_eq s.uid (object l.x)) (drop l.state-index l.states) ≡ find (λ (s : ObjectState). uid_eq s.uid (object l.x)) l.states
