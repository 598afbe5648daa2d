-- What the last one of a list is.
use Rattle.std.proofs.Common.{◌≡◌, ◌-◌, ◌≤◌, ℕ, suc, List, [], ◌∷◌, length, get_or, Bool, refl, ◌∙◌, sym, ap, arith}
use Rattle.arj_image.specs.Texts.{is_last}

one_less : (n : ℕ) → suc (suc n) - 1 ≡ suc (suc n - 1)
one_less n = omega arith

by_index : {A : Type 0} (p : A → Bool) (items : List A) (d : A) → 1 ≤ length items → is_last p items ≡ p (get_or items (length items - 1) d)
by_index p [] d some = absurd (omega arith)
by_index p (a ∷ []) d some = refl
by_index p (a ∷ b ∷ items) d some =
    by_index p (b ∷ items) d (omega arith) ∙ ap (λ n. p (get_or (a ∷ b ∷ items) n d)) (sym (one_less (length items)))

pub last_at : {A : Type 0} (p : A → Bool) (items : List A) (a : A) → 1 ≤ length items → a ≡ get_or items (length items - 1) a →
    p a ≡ is_last p items
last_at p items a some is = ap p is ∙ sym (by_index p items a some)
