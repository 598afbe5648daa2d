use Rattle.std.proofs.Common.{◌≡◌, ℕ, length, map}
use Rattle.arj_protocol.specs.Node.{stand_once}
use Rattle.arj_serve.proofs.meant.stand_once.Given as goal

-- the objects that are left give the same as all
abbrev pub invariant-loop-grant : goal.invariant-loop-grant
invariant-loop-grant l = stand_once (map (λ (g : ℕ × ℕ). g.0) l.left) ≡ stand_once (map (λ (g : ℕ × ℕ). g.0) l.grants)

abbrev pub decreases-loop-grant : goal.decreases-loop-grant
decreases-loop-grant l = length l.left
