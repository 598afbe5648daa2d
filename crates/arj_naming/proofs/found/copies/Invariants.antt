use Rattle.std.proofs.Common.{◌≡◌, ◌++◌, drop}
use Rattle.arj_naming.proofs.found.copies.Given as goal

-- the copies so far, and the states that are left
abbrev pub invariant-loop-state : goal.invariant-loop-state
invariant-loop-state l = l.copies ++ drop l.state-index l.states ≡ l.states
