-- The last of a list of ends.
use Rattle.std.proofs.Common.{◌≡◌, ◌-◌, List, [], ◌∷◌, suc, length, refl, arith}
use Rattle.std.specs.Prelude.{slice_get}
use Rattle.arj_protocol.specs.Ask.{last_end}
use Rattle.arj_protocol.specs.Words.{Uid, End}

pub last_is : (ends : List (Uid × End)) → slice_get ends (length ends - 1) ≡ last_end ends
last_is [] = refl
last_is (e ∷ []) = refl
last_is (e ∷ f ∷ es) = let behind : length (e ∷ f ∷ es) - 1 ≡ suc (length (f ∷ es) - 1) = omega arith in rw behind (last_is (f ∷ es))
