-- It is found among all exactly where it is found among those that are left.
use Rattle.std.proofs.Common.{◌≡◌, drop, ◌==◌}
use Rattle.std.specs.Prelude.{find}
use Rattle.arj_clean.proofs.states.servers_of.Given as goal

abbrev pub invariant-loop-object : goal.invariant-loop-object
invariant-loop-object l = find (λ o. o.x == l.x) (drop l.object-index l.object-items) ≡ find (λ o. o.x == l.x) l.object-items
