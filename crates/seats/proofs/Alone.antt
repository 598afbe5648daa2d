-- An action that stands below nobody.
use Rattle.std.proofs.Common.{◌≡◌, [], ◌∷◌, true, ◌∙◌, sym}
use Rattle.std.proofs.Math.Bool.{or-false}
use Rattle.arj_base.specs.declared.uid.Uid.{Uid}
use Rattle.arj_base.specs.Uid.{uid_eq}
use Rattle.arj_lock.specs.Exclusion.{StandsBelow}

-- Whoever is on its path is the action itself, so it stands below whoever is there.
pub alone : (u : Uid) → uid_eq u u ≡ true → StandsBelow uid_eq (u ∷ [])
alone u same = (same, λ b on. sym (or-false (uid_eq u b)) ∙ on)
