-- The object as a header has it.
use Rattle.std.specs.Prelude.{◌≡◌, ◌⊎◌, ℕ, true, List, [], ◌∷◌}
use Rattle.arj_protocol.specs.Words.{Header, ObjectLine}
use Rattle.arj_protocol.specs.Order.{has}

-- the line stands among these
abbrev pub IsLine : ObjectLine → List ObjectLine → Type 0
IsLine o [] = ⊥
IsLine o (p ∷ ps) = (p ≡ o) ⊎ IsLine o ps

-- The header has the object, by one line, with a store.
pub record HasObject (hd : Header) (x : ℕ) : Type 0 where
  pub line : ObjectLine
  pub there : IsLine line hd.objects
  pub is : line.x ≡ x
  pub once : (o : ObjectLine) → IsLine o hd.objects → o.x ≡ x → o ≡ line
  pub stored : (s : ℕ) × (has line.stores s ≡ true)
