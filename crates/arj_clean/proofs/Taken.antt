-- What holds of each item of a list, one after another.
use Rattle.std.proofs.Common.{◌≡◌, ◌<◌, ◌≤◌, ℕ, ◌+◌, List, [], ◌∷◌, ◌++◌, take, get_or, length, sym, ◌∙◌, ap, subst, arith, refl, zero, suc}
use Rattle.std.specs.List.{AllByRecursion}
use Rattle.std.proofs.lemmas.List.{take_more}

all_push : {A : Type 0} (P : A → Type 0) (xs : List A) (x : A) → AllByRecursion P xs → P x → AllByRecursion P (xs ++ x ∷ [])
all_push P [] x h p = (p, tt)
all_push P (y ∷ xs) x h p = (h.0, all_push P xs x h.1 p)

-- one more
pub all_taken : {A : Type 0} (P : A → Type 0) (xs : List A) (at : ℕ) (x : A) → at < length xs → x ≡ get_or xs at x → AllByRecursion P (take at xs) → P x →
    AllByRecursion P (take (at + 1) xs)
all_taken P xs at x lt is h p =
    subst (AllByRecursion P) (sym (take_more xs at x lt ∙ (λ i. take at xs ++ sym is i ∷ []))) (all_push P (take at xs) x h p)

take_all : {A : Type 0} (xs : List A) (n : ℕ) → length xs ≤ n → take n xs ≡ xs
take_all [] zero le = refl
take_all [] (suc n) le = refl
take_all (x ∷ xs) zero le = absurd (omega (arith, le))
take_all (x ∷ xs) (suc n) le = ap (λ ys. x ∷ ys) (take_all xs n (omega (arith, le)))

-- all of them
pub all_of_taken : {A : Type 0} (P : A → Type 0) (xs : List A) (n : ℕ) → length xs ≤ n → AllByRecursion P (take n xs) → AllByRecursion P xs
all_of_taken P xs n le h = subst (AllByRecursion P) (take_all xs n le) h

all_at : {A : Type 0} (P : A → Type 0) (xs : List A) (at : ℕ) (d : A) → at < length xs → AllByRecursion P xs → P (get_or xs at d)
all_at P [] at d lt h = absurd (omega (arith, lt))
all_at P (x ∷ xs) zero d lt h = h.0
all_at P (x ∷ xs) (suc n) d lt h = all_at P xs n d (omega (arith, lt)) h.1

-- the same of numbers
pub numbers_taken : (P : ℕ → Type 0) (xs : List ℕ) (at : ℕ) → at < length xs → AllByRecursion P (take at xs) → P (get_or xs at 0) →
    AllByRecursion P (take (at + 1) xs)
numbers_taken P xs at lt h p = subst (AllByRecursion P) (sym (take_more xs at 0 lt)) (all_push P (take at xs) (get_or xs at 0) h p)

pub number_at : (P : ℕ → Type 0) (xs : List ℕ) (at : ℕ) → at < length xs → AllByRecursion P xs → P (get_or xs at 0)
number_at P xs at lt h = all_at P xs at 0 lt h
