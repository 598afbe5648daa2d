-- What is escaped has no markup.
use Rattle.std.proofs.Common.{◌≡◌, ℕ, List, [], ◌∷◌, ◌++◌, Bool, true, false, cond, ◌==◌, ◌&&◌, ◌||◌, not, refl, ◌∙◌, ap, append_assoc}
use Rattle.std.specs.Prelude.{codes}
use Rattle.std.specs.List.{flat_map, list_any}
use Rattle.arj_words.specs.Page.{begins_with, entities, escaped, escaped_byte, is_printable, is_text_alone, plain_byte}

-- a byte that is shown, before such a text
module _ (b : ℕ) (rest : List ℕ) (h : is_text_alone rest ≡ true) where
  shown : (b == 38) ≡ false → (b == 60) ≡ false → (b == 62) ≡ false → (b == 34) ≡ false → (b == 39) ≡ false → (p : Bool) →
      is_text_alone (cond p b 63 ∷ rest) ≡ true
  shown a l g q s true =
      (λ i. not (l i || (g i || (q i || s i))) && (cond (a i) (list_any (λ e. begins_with e rest) entities) true && is_text_alone rest)) ∙ h
  shown a l g q s false = h

  by : (a l g q s f : Bool) → (b == 38) ≡ a → (b == 60) ≡ l → (b == 62) ≡ g → (b == 34) ≡ q → (b == 39) ≡ s
      → is_text_alone (cond a (codes "&amp;") (cond l (codes "&lt;") (cond g (codes "&gt;") (cond q (codes "&quot;") (cond s (codes "&#39;") (cond f (10 ∷ []) (plain_byte b ∷ [])))))) ++ rest) ≡ true
  by true l g q s f ea el eg eq es = h
  by false true g q s f ea el eg eq es = h
  by false false true q s f ea el eg eq es = h
  by false false false true s f ea el eg eq es = h
  by false false false false true f ea el eg eq es = h
  by false false false false false true ea el eg eq es = h
  by false false false false false false ea el eg eq es = shown ea el eg eq es (is_printable b)

  escaped_next : is_text_alone (escaped_byte b ++ rest) ≡ true
  escaped_next = by (b == 38) (b == 60) (b == 62) (b == 34) (b == 39) (b == 10) refl refl refl refl refl

pub escaped_alone : (bytes : List ℕ) → is_text_alone (escaped bytes) ≡ true
escaped_alone [] = refl
escaped_alone (b ∷ bytes) = escaped_next b (escaped bytes) (escaped_alone bytes)
