-- It is among all exactly where it is among those that are left.
use Rattle.std.proofs.Common.{◌≡◌, drop}
use Rattle.std.specs.List.{list_any}
use Rattle.arj_pending.specs.Pends.{is_pend}
use Rattle.arj_pending.proofs.pends.has_pend.Given as goal

abbrev pub invariant-loop-pend : goal.invariant-loop-pend
invariant-loop-pend l =
    list_any (is_pend l.node l.action) (drop l.pend-index l.pend-items)
    ≡ list_any (is_pend l.node l.action) l.pend-items
