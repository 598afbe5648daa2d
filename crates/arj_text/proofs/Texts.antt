-- Texts that are cut at a byte, and which texts do not hold it.
use Rattle.std.proofs.Common.{◌≡◌, ◌≢◌, ℕ, ◌+◌, ◌<◌, ◌≤◌, ◌^◌, ◌%◌, List, [], ◌∷◌, ◌++◌, true, false, ◌||◌, Option, Some, None, refl, sym}
use Rattle.std.proofs.Common.{◌∙◌, ap, subst, arith}
use Rattle.std.specs.Prelude.{◌==◌}
use Rattle.std.specs.List.{list_all}
use Rattle.std.specs.Fmt.{decimal}
use Rattle.std.proofs.lemmas.Bool.{and_parts, or_from, or_parts, eq-eqb, ne_eqb, both_ways}
use Rattle.std.proofs.lemmas.Bool.Decides.{nat_tests}
use Rattle.std.proofs.lemmas.List.Folds.{list_any-append}
use Rattle.std.proofs.lemmas.Fmt.{decimal_by_steps}
use Rattle.arj_text.specs.Label.{is_label, is_letter, is_digit}
use Rattle.arj_text.specs.Fields.{IsRead, HasNoFirst, IsFirst, behind, has_byte, has_space}

-- A text is cut at the first such byte in one way.
pub cut_once : (k : ℕ) (w v r s : List ℕ) → has_byte k w ≡ false → has_byte k v ≡ false → w ++ k ∷ r ≡ v ++ k ∷ s → (w ≡ v) × (r ≡ s)
cut_once k [] [] r s hw hv e = (refl, cc)
cut_once k [] (b ∷ v) r s hw hv e =
    let same : b ≡ k = cc in
    absurd (both_ways _ (or_parts (b == k) (has_byte k v) hv).0 (eq-eqb b k same))
cut_once k (a ∷ w) [] r s hw hv e =
    let same : a ≡ k = cc in
    absurd (both_ways _ (or_parts (a == k) (has_byte k w) hw).0 (eq-eqb a k same))
cut_once k (a ∷ w) (b ∷ v) r s hw hv e =
    let head : a ≡ b = cc in
    let tail : w ++ k ∷ r ≡ v ++ k ∷ s = cc in
    let rest = cut_once k w v r s (or_parts (a == k) (has_byte k w) hw).1 (or_parts (b == k) (has_byte k v) hv).1 tail in
    let words : w ≡ v = rest.0 in
    (cc, rest.1)

-- A text without the byte is no word with the byte behind it.
pub no_cut : (k : ℕ) (bytes w r : List ℕ) → has_byte k bytes ≡ false → bytes ≢ w ++ k ∷ r
no_cut k bytes w r h e =
    let whole : has_byte k (w ++ k ∷ r) ≡ false = subst (λ bs. has_byte k bs ≡ false) e h in
    let parts : (has_byte k w || ((k == k) || has_byte k r)) ≡ false = sym (list_any-append (λ b. b == k) w (k ∷ r)) ∙ whole in
    both_ways (k == k) (or_parts (k == k) (has_byte k r) (or_parts (has_byte k w) _ parts).1).0 (eq-eqb k k refl)

-- the digits of a number hold no byte that is no digit
pub digits_only : (k n : ℕ) → is_digit k ≡ false → n < 2 ^ 64 → has_byte k (decimal n) ≡ false
digits_only k n apart h = decimal_by_steps (λ m ds. has_byte k ds ≡ false) one more n h
  where
    digit : (m : ℕ) → m < 10 → (48 + m == k) ≡ false
    digit m small = ne_eqb (48 + m) k (λ e. both_ways (is_digit k) apart (subst (λ b. is_digit b ≡ true) e (grind (arith, nat_tests))))

    one : (m : ℕ) → m < 10 → has_byte k ((48 + m) ∷ []) ≡ false
    one m small = or_from (48 + m == k) false (digit m small) refl

    more : (m : ℕ) (ds : List ℕ) → 10 ≤ m → has_byte k ds ≡ false → has_byte k (ds ++ ((48 + m % 10) ∷ [])) ≡ false
    more m ds large before =
        list_any-append (λ b. b == k) ds ((48 + m % 10) ∷ []) ∙
        or_from (has_byte k ds) _ before (or_from (48 + m % 10 == k) false (digit (m % 10) (omega arith)) refl)

-- a letter or a digit is no space
not_space_in_word : (b : ℕ) → (is_letter b || is_digit b) ≡ true → (b == 32) ≡ false
not_space_in_word b h =
    ne_eqb b 32 (λ e. both_ways (is_letter 32 || is_digit 32) refl (subst (λ n. (is_letter n || is_digit n) ≡ true) e h))

not_space_letter : (b : ℕ) → is_letter b ≡ true → (b == 32) ≡ false
not_space_letter b h = ne_eqb b 32 (λ e. both_ways (is_letter 32) refl (subst (λ n. is_letter n ≡ true) e h))

spaceless_word : (bs : List ℕ) → list_all (λ c. is_letter c || is_digit c) bs ≡ true → has_space bs ≡ false
spaceless_word [] h = refl
spaceless_word (b ∷ bs) h =
    let parts = and_parts (is_letter b || is_digit b) (list_all (λ c. is_letter c || is_digit c) bs) h in
    or_from (b == 32) (has_space bs) (not_space_in_word b parts.0) (spaceless_word bs parts.1)

-- labels hold no space
pub spaceless_label : (bs : List ℕ) → is_label bs ≡ true → has_space bs ≡ false
spaceless_label [] h = refl
spaceless_label (b ∷ bs) h =
    let parts = and_parts (is_letter b) (list_all (λ c. is_letter c || is_digit c) bs) h in
    or_from (b == 32) (has_space bs) (not_space_letter b parts.0) (spaceless_word bs parts.1)

-- what stands behind the same front
pub same_rest : (p r s : List ℕ) → p ++ r ≡ p ++ s → r ≡ s
same_rest [] r s e = e
same_rest (b ∷ p) r s e = same_rest p r s (let tail : p ++ r ≡ p ++ s = cc in tail)

-- Of a text without the separator nothing stands before one.
pub no_separator : {A : Type 0} (k : ℕ) (InForm : A → Type 0) (text : A → List ℕ) (bytes : List ℕ) → has_byte k bytes ≡ false →
    HasNoFirst k InForm text bytes
no_separator k InForm text bytes h = λ a r fits e. no_cut k bytes (text a) r h e

-- What stands before the first separator is read alone, where nothing in form holds one.
pub none_first : {A : Type 0} (k : ℕ) (InForm : A → Type 0) (text : A → List ℕ) (whole : (a : A) → InForm a →
    has_byte k (text a) ≡ false) (bytes w r : List ℕ)
    → has_byte k w ≡ false → bytes ≡ w ++ k ∷ r → IsRead InForm text w None → HasNoFirst k InForm text bytes
none_first k InForm text whole bytes w r hw parts none =
    λ b s fits e. none b fits (cut_once k w (text b) r s hw (whole b fits) (sym parts ∙ e)).0

pub some_first : {A : Type 0} (k : ℕ) (InForm : A → Type 0) (text : A → List ℕ) (whole : (a : A) → InForm a →
    has_byte k (text a) ≡ false) (bytes w r : List ℕ) (a : A)
    → has_byte k w ≡ false → bytes ≡ w ++ k ∷ r → IsRead InForm text w (Some a) → IsFirst k InForm text bytes a r
some_first k InForm text whole bytes w r a hw parts read = record {
  in_form = read.0;
  parts = parts ∙ ap (λ v. v ++ k ∷ r) read.1;
  only = λ b s fits e.
      cut_once k (text a) (text b) r s (whole a read.0) (whole b fits)
      (ap (λ v. v ++ k ∷ r) (sym read.1) ∙ (sym parts ∙ e));
}

-- What was read behind a front is what was read with it.
pub read_behind : {A : Type 0} (InForm : A → Type 0) (text : A → List ℕ) (front bytes rest : List ℕ) (found : Option A) →
    bytes ≡ front ++ rest → IsRead InForm text rest found → IsRead InForm (behind front text) bytes found
read_behind InForm text front bytes rest None whole h = λ a fits e. h a fits (same_rest front rest (text a) (sym whole ∙ e))
read_behind InForm text front bytes rest (Some a) whole h = (h.0, whole ∙ ap (λ r. front ++ r) h.1)
