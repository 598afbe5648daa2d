-- Labels of transfers are in form.
use Rattle.std.proofs.Common.{◌≡◌, ◌<◌, ◌≤◌, ◌+◌, ◌^◌, ◌%◌, ℕ, List, [], ◌∷◌, ◌++◌, Bool, true, false, ◌&&◌, ◌||◌, refl, sym, ◌∙◌, ap}
use Rattle.std.proofs.Common.{subst, arith}
use Rattle.std.specs.List.{list_all}
use Rattle.std.specs.Fmt.{decimal}
use Rattle.std.proofs.lemmas.Bool.{and_from}
use Rattle.std.proofs.lemmas.Bool.Decides.{nat_tests}
use Rattle.std.proofs.lemmas.Fmt.{decimal_by_steps}
use Rattle.std.proofs.lemmas.List.Folds.{list_all-append}
use Rattle.arj_gen.specs.Bank.{tag}
use Rattle.arj_text.specs.declared.label.Label.{Label}
use Rattle.arj_text.specs.Label.{LabelInForm, is_digit, is_label, is_letter, name}

or_true : (a : Bool) → (a || true) ≡ true
or_true true = refl
or_true false = refl

digits_fit : (n : ℕ) → n < 2 ^ 64 → list_all (λ c. is_letter c || is_digit c) (decimal n) ≡ true
digits_fit n h = decimal_by_steps (λ m ds. list_all (λ c. is_letter c || is_digit c) ds ≡ true) one more n h
  where
    digit : (m : ℕ) → m < 10 → (is_letter (48 + m) || is_digit (48 + m)) ≡ true
    digit m small =
        let is : is_digit (48 + m) ≡ true = grind (arith, nat_tests) in ap (λ t. is_letter (48 + m) || t) is ∙ or_true (is_letter (48 + m))

    one : (m : ℕ) → m < 10 → list_all (λ c. is_letter c || is_digit c) ((48 + m) ∷ []) ≡ true
    one m small = and_from (is_letter (48 + m) || is_digit (48 + m)) true (digit m small) refl

    more : (m : ℕ) (ds : List ℕ) → 10 ≤ m → list_all (λ c. is_letter c || is_digit c) ds ≡ true →
        list_all (λ c. is_letter c || is_digit c) (ds ++ ((48 + m % 10) ∷ [])) ≡ true
    more m ds large before =
        list_all-append (λ c. is_letter c || is_digit c) ds ((48 + m % 10) ∷ []) ∙
        and_from (list_all (λ c. is_letter c || is_digit c) ds) _ before (one (m % 10) (omega arith))

pub label_fits : (l : Label) (i : ℕ) → name l ≡ tag i → i ≤ 200 → LabelInForm l
label_fits l i is few = subst (λ bytes. is_label bytes ≡ true) (sym is) (digits_fit i (omega (arith, few)))
