-- Labels of programs: each is of one program.
use Rattle.std.proofs.Common.{◌≡◌, ◌∙◌, ◌<◌, ℕ, List, ◌∷◌, ◌++◌, refl, ap, sym, subst}
use Rattle.std.specs.Prelude.{codes, drop, ◌^◌}
use Rattle.std.specs.Fmt.{decimal}
use Rattle.std.proofs.lemmas.Fmt.{decimal_injective}
use Rattle.arj_text.proofs.Texts.{cut_once, digits_only}

-- the label is one of the program with this number
abbrev pub IsOf : ℕ → List ℕ → Type 0
IsOf i l = (i < 2 ^ 64) × ((rest : List ℕ) × (l ≡ codes "P" ++ (decimal i ++ (codes "t" ++ rest))))

pub one_of : (i j : ℕ) (l : List ℕ) → IsOf i l → IsOf j l → i ≡ j
one_of i j l (low, (r, is)) (high, (s, are)) =
    let same : codes "P" ++ (decimal i ++ (codes "t" ++ r)) ≡ codes "P" ++ (decimal j ++ (codes "t" ++ s)) = sym is ∙ are in
    let tails : decimal i ++ 116 ∷ r ≡ decimal j ++ 116 ∷ s = ap (λ bs. drop 1 bs) same in
    let cut = cut_once 116 (decimal i) (decimal j) r s (digits_only 116 i refl low) (digits_only 116 j refl high) tails in
    decimal_injective i j low high cut.0

-- of equal labels too
pub one_label : (i j : ℕ) (l m : List ℕ) → l ≡ m → IsOf i l → IsOf j m → i ≡ j
one_label i j l m same first second = one_of i j m (subst (IsOf i) same first) second
