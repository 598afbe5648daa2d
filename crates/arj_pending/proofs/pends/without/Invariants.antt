-- Those so far.
use Rattle.std.proofs.Common.{◌≡◌, take}
use Rattle.arj_pending.specs.Pends.{without}
use Rattle.arj_pending.proofs.pends.without.Given as goal

abbrev pub invariant-loop-pend : goal.invariant-loop-pend
invariant-loop-pend l = l.left.items ≡ without l.node l.action (take l.pend-index l.pends)
