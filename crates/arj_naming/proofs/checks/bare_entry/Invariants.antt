use Rattle.std.proofs.Common.{◌≡◌, drop}
use Rattle.arj_protocol.specs.Confirm.{first_of_each, is_bare}
use Rattle.arj_naming.proofs.checks.bare_entry.Given as goal

-- what is left is refused as all are
abbrev pub invariant-loop-state : goal.invariant-loop-state
invariant-loop-state l = first_of_each is_bare (drop l.state-index l.states) ≡ first_of_each is_bare l.states
