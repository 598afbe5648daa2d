use Rattle.std.proofs.Common.{◌≡◌, ◌++◌, drop}
use Rattle.arj_commit.specs.Requests.{votes}
use Rattle.arj_commit.proofs.requests.votes.Given as goal

-- the requests so far, and those that are left
abbrev pub invariant-loop-server : goal.invariant-loop-server
invariant-loop-server l = l.all ++ votes l.plan (drop l.server-index l.servers) ≡ votes l.plan l.servers
