use Rattle.std.proofs.Common.{◌≡◌, ◌++◌, drop, map, filter}
use Rattle.std.specs.Option.{option_to_list}
use Rattle.arj_protocol.specs.Commit.{Used, least_of, is_at_server}
use Rattle.arj_commit.proofs.requests.least_at.Given as goal

-- the least so far, and the rest
abbrev pub invariant-loop-object : goal.invariant-loop-object
invariant-loop-object l =
    least_of (option_to_list l.found ++ map (λ (u : Used). u.inc) (filter (is_at_server l.server) (drop l.object-index l.used))) ≡ least_of (map (λ (u : Used). u.inc) (filter (is_at_server l.server) l.used))
