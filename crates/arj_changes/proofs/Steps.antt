-- One step of a loop along a list.
use Rattle.std.proofs.Common.{◌≡◌, ◌<◌, ℕ, ◌+◌, List, [], ◌∷◌, ◌++◌, length, take, drop, get_or, Bool, true, false, cond, ◌&&◌, Option, sym}
use Rattle.std.proofs.Common.{◌∙◌, ap, append-nil}
use Rattle.std.specs.Prelude.{filter}
use Rattle.std.specs.List.{cons_option, filter_map, list_all}
use Rattle.std.proofs.lemmas.List.{drop_more, take_more}
use Rattle.std.proofs.lemmas.List.Elements.{filter-append, filter_map-append}

-- what a function gives of the items so far, and of the next one
pub filter_map_more : {A B : Type 0} (h : A → Option B) (xs : List A) (i : ℕ) (d : A) → i < length xs
    → filter_map h (take (i + 1) xs) ≡ filter_map h (take i xs) ++ cons_option (h (get_or xs i d)) []
filter_map_more h xs i d lt = ap (filter_map h) (take_more xs i d lt) ∙ filter_map-append h (take i xs) (get_or xs i d ∷ [])

filter_more : {A : Type 0} (p : A → Bool) (xs : List A) (i : ℕ) (d : A) (b : Bool) → i < length xs → p (get_or xs i d) ≡ b
    → filter p (take (i + 1) xs) ≡ filter p (take i xs) ++ cond b (get_or xs i d ∷ []) []
filter_more p xs i d b lt e =
    ap (filter p) (take_more xs i d lt) ∙ filter-append p (take i xs) (get_or xs i d ∷ []) ∙ (λ k. filter p (take i xs) ++ cond (e k) (get_or xs i d ∷ []) [])

-- those that pass a test, where the next one does
pub filter_kept : {A : Type 0} (p : A → Bool) (xs : List A) (i : ℕ) (d : A) → i < length xs → p (get_or xs i d) ≡ true
    → filter p (take (i + 1) xs) ≡ filter p (take i xs) ++ get_or xs i d ∷ []
filter_kept p xs i d lt e = filter_more p xs i d true lt e

-- where it doesn't
pub filter_past : {A : Type 0} (p : A → Bool) (xs : List A) (i : ℕ) (d : A) → i < length xs → p (get_or xs i d) ≡ false
    → filter p (take (i + 1) xs) ≡ filter p (take i xs)
filter_past p xs i d lt e = filter_more p xs i d false lt e ∙ append-nil (filter p (take i xs))

all_more : {A : Type 0} (p : A → Bool) (xs : List A) (i : ℕ) (d : A) (b : Bool) → i < length xs → p (get_or xs i d) ≡ b
    → list_all p (drop i xs) ≡ (b && list_all p (drop (i + 1) xs))
all_more p xs i d b lt e = ap (list_all p) (drop_more xs i d lt) ∙ (λ k. e k && list_all p (drop (i + 1) xs))

-- all of those that are left pass a test exactly where all behind the next do, if that does
pub all_past : {A : Type 0} (p : A → Bool) (xs : List A) (i : ℕ) (d : A) → i < length xs → p (get_or xs i d) ≡ true
    → list_all p (drop (i + 1) xs) ≡ list_all p (drop i xs)
all_past p xs i d lt e = sym (all_more p xs i d true lt e)

-- not all do, if the next doesn't
pub all_not : {A : Type 0} (p : A → Bool) (xs : List A) (i : ℕ) (d : A) → i < length xs → p (get_or xs i d) ≡ false →
    list_all p (drop i xs) ≡ false
all_not p xs i d lt e = all_more p xs i d false lt e
