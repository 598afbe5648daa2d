use Rattle.std.proofs.Common.{◌≡◌, ◌++◌, drop}
use Rattle.arj_commit.specs.Requests.{grants_of}
use Rattle.arj_commit.proofs.requests.grants_of.Given as goal

-- the objects so far, and those that are left
abbrev pub invariant-loop-object : goal.invariant-loop-object
invariant-loop-object l = l.grants ++ grants_of (drop l.object-index l.used) ≡ grants_of l.used
