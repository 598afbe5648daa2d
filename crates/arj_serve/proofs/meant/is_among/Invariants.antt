use Rattle.std.proofs.Common.{◌≡◌, ℕ, drop, map}
use Rattle.arj_protocol.specs.Order.{has}
use Rattle.arj_serve.proofs.meant.is_among.Given as goal

-- the objects that are left give the same as all
abbrev pub invariant-loop-grant : goal.invariant-loop-grant
invariant-loop-grant l = has (map (λ (g : ℕ × ℕ). g.0) (drop l.grant-index l.grants)) l.x ≡ has (map (λ (g : ℕ × ℕ). g.0) l.grants) l.x
