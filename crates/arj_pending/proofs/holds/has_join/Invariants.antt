-- It is among all exactly where it is among those that are left.
use Rattle.std.proofs.Common.{◌≡◌, drop}
use Rattle.std.specs.List.{list_any}
use Rattle.arj_pending.specs.Holds.{is_join_at}
use Rattle.arj_pending.proofs.holds.has_join.Given as goal

abbrev pub invariant-loop-join : goal.invariant-loop-join
invariant-loop-join l = list_any (is_join_at l.node l.x) (drop l.join-index l.joins) ≡ list_any (is_join_at l.node l.x) l.joins
