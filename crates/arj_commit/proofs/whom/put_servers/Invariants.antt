use Rattle.std.proofs.Common.{◌≡◌, ◌≤◌, drop, length, map, filter}
use Rattle.arj_commit.specs.Sets.{added}
use Rattle.arj_protocol.specs.Commit.{Used}
use Rattle.arj_commit.proofs.whom.put_servers.Given as goal

-- the servers of the objects from here on are in the set
abbrev pub invariant-loop-i : goal.invariant-loop-i
invariant-loop-i l = record {
  within : l.i ≤ length l.used;
  added : l.set.items ≡ added (map (λ (u : Used). u.server) (filter (λ (u : Used). u.called) (drop l.i l.used))) l.fn.set.items;
}

abbrev pub decreases-loop-i : goal.decreases-loop-i
decreases-loop-i l = l.i
