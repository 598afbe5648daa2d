use Rattle.std.proofs.Common.{◌≡◌, ◌++◌, drop}
use Rattle.arj_commit.specs.Requests.{binds_at}
use Rattle.arj_commit.proofs.requests.binds_at.Given as goal

-- the objects so far, and those that are left
abbrev pub invariant-loop-object : goal.invariant-loop-object
invariant-loop-object l = l.binds ++ binds_at l.server (drop l.object-index l.used) ≡ binds_at l.server l.used
