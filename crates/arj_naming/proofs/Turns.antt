-- Behind the last server comes the first.
use Rattle.std.proofs.Common.{◌≡◌, ◌≤◌, ℕ, List, [], ◌∷◌, length, refl, arith}
use Rattle.arj_protocol.specs.Named as protocol

pub no_more : (last : ℕ) (all rest : List ℕ) → length rest ≤ 1 → protocol.server_behind last all rest ≡ protocol.first_server all
no_more last all [] short = refl
no_more last all (s ∷ []) short = refl
no_more last all (s ∷ t ∷ ss) short = absurd (omega (arith, short))
