-- How many distinct numbers there are up to a limit.
use Rattle.std.proofs.Common.{◌≡◌, ◌≤◌, ◌==◌, ◌+◌, ◌&&◌, ◌||◌, ℕ, zero, suc, Bool, true, false, cond, not, length, filter, List, []}
use Rattle.std.proofs.Common.{◌∷◌, refl, sym, ◌∙◌, ap, arith, eqb-true}
use Rattle.std.specs.List.{AllByRecursion, list_any}
use Rattle.std.proofs.lemmas.Bool.{and_parts}
use Rattle.std.proofs.lemmas.Bool.Decides.{nat_tests}
use Rattle.arj_text.specs.Fields.{IsWithin, is_distinct}

-- without one of them
abbrev without : ℕ → List ℕ → List ℕ
without n ns = filter (λ (m : ℕ). not (m == n)) ns

or_off : (a b : Bool) → (a || b) ≡ false → (a ≡ false) × (b ≡ false)
or_off false b off = (refl, off)
or_off true b off = absurd (cc off)

none_goes : (n : ℕ) (ns : List ℕ) → list_any (λ (m : ℕ). m == n) ns ≡ false → without n ns ≡ ns
none_goes n [] none = refl
none_goes n (m ∷ ms) none = let off = or_off (m == n) (list_any (λ (k : ℕ). k == n) ms) none in
    (λ i. cond (not (off.0 i)) (m ∷ without n ms) (without n ms)) ∙ ap (λ ks. m ∷ ks) (none_goes n ms off.1)

not_back : (b : Bool) → not b ≡ true → b ≡ false
not_back true e = cc e
not_back false e = refl

-- at most one goes
one_goes : (n : ℕ) (ns : List ℕ) → is_distinct ns ≡ true → length ns ≤ length (without n ns) + 1
one_goes n [] once = omega arith
one_goes n (m ∷ ms) once = by (m == n) refl (one_goes n ms parts.1)
  where
    parts : (not (list_any (λ (k : ℕ). k == m) ms) ≡ true) × (is_distinct ms ≡ true)
    parts = and_parts (not (list_any (λ (k : ℕ). k == m) ms)) (is_distinct ms) once

    by : (b : Bool) → (m == n) ≡ b → length ms ≤ length (without n ms) + 1 →
        length (m ∷ ms) ≤ length (cond (not b) (m ∷ without n ms) (without n ms)) + 1
    by true e ih =
        let same : m ≡ n = eqb-true m n e in
        let none = not_back (list_any (λ (k : ℕ). k == m) ms) parts.0 in
        let stays : length (without n ms) ≡ length ms =
        ap length (ap (λ k. without k ms) (sym same) ∙ none_goes m ms none) in
        omega (arith, stays)
    by false e ih = omega (arith, ih)

any_left : (n k : ℕ) (ns : List ℕ) → list_any (λ (m : ℕ). m == k) ns ≡ false → list_any (λ (m : ℕ). m == k) (without n ns) ≡ false
any_left n k [] none = refl
any_left n k (m ∷ ms) none = by (m == n) (any_left n k ms off.1)
  where
    off : ((m == k) ≡ false) × (list_any (λ (j : ℕ). j == k) ms ≡ false)
    off = or_off (m == k) (list_any (λ (j : ℕ). j == k) ms) none

    by : (b : Bool) → list_any (λ (j : ℕ). j == k) (without n ms) ≡ false →
        list_any (λ (j : ℕ). j == k) (cond (not b) (m ∷ without n ms) (without n ms)) ≡ false
    by true ih = ih
    by false ih = λ i. off.0 i || ih i

distinct_left : (n : ℕ) (ns : List ℕ) → is_distinct ns ≡ true → is_distinct (without n ns) ≡ true
distinct_left n [] once = refl
distinct_left n (m ∷ ms) once = by (m == n) (distinct_left n ms parts.1)
  where
    parts : (not (list_any (λ (k : ℕ). k == m) ms) ≡ true) × (is_distinct ms ≡ true)
    parts = and_parts (not (list_any (λ (k : ℕ). k == m) ms)) (is_distinct ms) once

    by : (b : Bool) → is_distinct (without n ms) ≡ true → is_distinct (cond (not b) (m ∷ without n ms) (without n ms)) ≡ true
    by true ih = ih
    by false ih =
        let off = any_left n m ms (not_back (list_any (λ (k : ℕ). k == m) ms) parts.0) in
        λ i. not (off i) && ih i

low_left : (n : ℕ) (ns : List ℕ) → AllByRecursion (IsWithin 1 (suc n)) ns → AllByRecursion (IsWithin 1 n) (without (suc n) ns)
low_left n [] all = tt
low_left n (m ∷ ms) all = by (m == suc n) refl (low_left n ms all.1)
  where
    low : (m == suc n) ≡ false → m ≤ suc n → m ≤ n
    low other is = grind (arith, nat_tests, other, is)

    by : (b : Bool) → (m == suc n) ≡ b → AllByRecursion (IsWithin 1 n) (without (suc n) ms) →
        AllByRecursion (IsWithin 1 n) (cond (not b) (m ∷ without (suc n) ms) (without (suc n) ms))
    by true e ih = ih
    by false e ih = ((all.0.0, low e all.0.1), ih)

-- distinct numbers from 1 to n are at most n
pub distinct_few : (n : ℕ) (ns : List ℕ) → AllByRecursion (IsWithin 1 n) ns → is_distinct ns ≡ true → length ns ≤ n
distinct_few zero [] all once = omega arith
distinct_few zero (m ∷ ms) all once = let no_way = all.0 in absurd (omega (arith, no_way.0, no_way.1))
distinct_few (suc n) ns all once =
    let fewer = distinct_few n (without (suc n) ns) (low_left n ns all) (distinct_left (suc n) ns once) in
    let one = one_goes (suc n) ns once in
    omega (arith, fewer, one)
