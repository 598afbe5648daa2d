use Rattle.std.proofs.Common.{◌≡◌, drop}
use Rattle.arj_protocol.specs.Confirm.{first_of_each, other_grant}
use Rattle.arj_naming.proofs.part.Part.other_grant.Given as goal

-- what is left is refused as all are
abbrev pub invariant-loop-inc : goal.invariant-loop-inc
invariant-loop-inc l = first_of_each (other_grant l.self) (drop l.inc-index l.grants) ≡ first_of_each (other_grant l.self) l.grants
