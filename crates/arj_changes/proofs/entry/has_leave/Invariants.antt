-- It is among all exactly where it is among those that are left.
use Rattle.std.proofs.Common.{◌≡◌, drop, ◌==◌}
use Rattle.std.specs.List.{list_any}
use Rattle.arj_changes.proofs.entry.has_leave.Given as goal

abbrev pub invariant-loop-leave : goal.invariant-loop-leave
invariant-loop-leave l =
    list_any (λ leave. leave.x == l.x) (drop l.leave-index l.leave-items) ≡ list_any (λ leave. leave.x == l.x) l.leave-items
