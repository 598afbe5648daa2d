-- It is among all exactly where it is among those that are left.
use Rattle.std.proofs.Common.{◌≡◌, drop}
use Rattle.std.specs.List.{list_any}
use Rattle.arj_changes.specs.Kept.{is_ended}
use Rattle.arj_pending.specs.Holds.{is_surviving}
use Rattle.arj_pending.proofs.holds.has_written.Given as goal

abbrev pub invariant-loop-write : goal.invariant-loop-write
invariant-loop-write l =
    list_any (is_surviving (is_ended l.changes) l.top) (drop l.write-index l.writes)
    ≡ list_any (is_surviving (is_ended l.changes) l.top) l.writes
