use Rattle.std.proofs.Common.{◌≡◌, ◌++◌, drop}
use Rattle.arj_commit.specs.Requests.{prepares}
use Rattle.arj_commit.proofs.requests.prepares.Given as goal

-- the requests so far, and those that are left
abbrev pub invariant-loop-store : goal.invariant-loop-store
invariant-loop-store l = l.all ++ prepares l.plan (drop l.store-index l.stores) ≡ prepares l.plan l.stores
