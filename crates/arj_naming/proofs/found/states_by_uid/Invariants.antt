use Rattle.std.proofs.Common.{◌≡◌, ◌++◌, drop}
use Rattle.arj_law_store.specs.store.Found.{by_uid}
use Rattle.arj_naming.proofs.found.states_by_uid.Given as goal

-- the states so far
abbrev pub invariant-loop-state : goal.invariant-loop-state
invariant-loop-state l = l.held.entries ++ by_uid (drop l.state-index l.states) ≡ by_uid l.states
