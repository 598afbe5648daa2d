-- It is among all exactly where it is among those that are left.
use Rattle.std.proofs.Common.{◌≡◌, ◌==◌, drop}
use Rattle.std.specs.List.{list_any}
use Rattle.arj_last.proofs.told.has_write.Given as goal

abbrev pub invariant-loop-write : goal.invariant-loop-write
invariant-loop-write l = list_any (λ w. w.top == l.top) (drop l.write-index l.writes) ≡ list_any (λ w. w.top == l.top) l.writes
