-- Files that are written one after another.
use Rattle.std.proofs.Common.{◌≡◌, List, [], ◌∷◌, ◌++◌, refl, subst, sym}
use Rattle.arj_disk.specs.FileMap.{FileMap}
use Rattle.arj_image.specs.declared.image.NodeFile.{NodeFile}
use Rattle.arj_resuming.specs.Written.{AreWritten, IsWritten}

-- one more
pub written_more : {D : Type 0} (file : D → FileMap) (fs : List NodeFile) (f : NodeFile) (first old new : List D) → AreWritten file fs first old →
    IsWritten file f old new → AreWritten file (fs ++ f ∷ []) first new
written_more file [] f first old new none one = (new, subst (λ ds. IsWritten file f ds new) none one, refl)
written_more file (g ∷ fs) f first old new (mid, is, rest) one = (mid, is, written_more file fs f mid old new rest one)
