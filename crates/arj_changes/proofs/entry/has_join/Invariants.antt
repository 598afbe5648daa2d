-- It is among all exactly where it is among those that are left.
use Rattle.std.proofs.Common.{◌≡◌, drop, ◌==◌}
use Rattle.std.specs.List.{list_any}
use Rattle.arj_changes.proofs.entry.has_join.Given as goal

abbrev pub invariant-loop-join : goal.invariant-loop-join
invariant-loop-join l = list_any (λ join. join.x == l.x) (drop l.join-index l.join-items) ≡ list_any (λ join. join.x == l.x) l.join-items
