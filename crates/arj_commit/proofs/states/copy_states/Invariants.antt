use Rattle.std.proofs.Common.{◌≡◌, take}
use Rattle.arj_commit.proofs.states.copy_states.Given as goal

-- the states so far are copied
abbrev pub invariant-loop-state : goal.invariant-loop-state
invariant-loop-state l = l.copied.items ≡ take l.state-index l.states
