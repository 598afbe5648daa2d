use Rattle.std.proofs.Common.{◌≡◌, ◌++◌, drop}
use Rattle.arj_commit.specs.Requests.{states_in}
use Rattle.arj_commit.proofs.requests.states_in.Given as goal

-- the states so far, and those that are left
abbrev pub invariant-loop-object : goal.invariant-loop-object
invariant-loop-object l = l.states ++ states_in l.store l.changed (drop l.object-index l.used) ≡ states_in l.store l.changed l.used
