-- The first of all is the first of those that are left.
use Rattle.std.proofs.Common.{◌≡◌, ◌==◌, ◌&&◌, drop}
use Rattle.std.specs.Prelude.{find}
use Rattle.arj_pending.proofs.pends.prepare_with.Given as goal

abbrev pub invariant-loop-prepare : goal.invariant-loop-prepare
invariant-loop-prepare l =
    find (λ p. (p.frame == l.frame) && (p.to == l.node)) (drop l.prepare-index l.prepare-items)
    ≡ find (λ p. (p.frame == l.frame) && (p.to == l.node)) l.prepare-items
