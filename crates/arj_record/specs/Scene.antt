-- What a scene is told when an action ends.
use Rattle.std.specs.Prelude.{◌≡◌, List, [], ◌∷◌}
use Rattle.arj_base.specs.declared.uid.Uid.{Uid}

-- one call of a scene, with what it was given
pub data Call (V : Type 0) : Type 0 where
  restore : Uid → V → Call V
  pass : Uid → Call V
  release : Uid → Call V
  raise : Uid → Uid → Call V

-- The scene got these calls, in this order, and no other: each went on from what the one before it left.
abbrev pub Told : {S V : Type 0} → (S → Call V → S → Type 0) → S → List (Call V) → S → Type 0
Told step old [] new = new ≡ old
Told {S} step old (call ∷ calls) new = (next : S) × step old call next × Told step next calls new
