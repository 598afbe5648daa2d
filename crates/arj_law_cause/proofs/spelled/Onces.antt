-- Lists of nodes that each stand once: marks keep them so, and there are at most as many as there are nodes.
use Rattle.arj_law_parts.proofs.Words
use Words.{◌≡◌, ◌≤◌, ◌==◌, ◌+◌, ◌++◌, ◌||◌, arith, nat_tests, ℕ, zero, suc, Bool, true, false, cond, not, List, [], ◌∷◌, filter, length}
use Words.{eqb-true}
use Words.{refl, subst, AllByRecursion, or_parts, and_parts, is_listed, with_store, without_store, with_stores, without_stores, ⊤}
use Rattle.arj_law_serial.proofs.Terms.{is_distinct}

-- no number stands twice
abbrev pub Once : List ℕ → Type 0
Once [] = ⊤
Once (n ∷ ns) = (is_listed n ns ≡ false) × Once ns

pub distinct_once : (ns : List ℕ) → is_distinct ns ≡ true → Once ns
distinct_once [] is = tt
distinct_once (n ∷ ns) is =
    let both = and_parts (not (is_listed n ns)) (is_distinct ns) is in
    (turned (is_listed n ns) both.0, distinct_once ns both.1)
  where
    turned : (b : Bool) → not b ≡ true → b ≡ false
    turned true never = absurd (cc never)
    turned false so = refl

-- ---- marks

unlisted_filter : (test : ℕ → Bool) (n : ℕ) (ns : List ℕ) → is_listed n ns ≡ false → is_listed n (filter test ns) ≡ false
unlisted_filter test n [] none = none
unlisted_filter test n (m ∷ ms) none =
    let both = or_parts (m == n) (is_listed n ms) none in by (test m) both.0 (unlisted_filter test n ms both.1)
  where
    by : (b : Bool) → (m == n) ≡ false → is_listed n (filter test ms) ≡ false →
        is_listed n (cond b (m ∷ filter test ms) (filter test ms)) ≡ false
    by true apart ih = λ i. apart i || ih i
    by false apart ih = ih

pub once_filter : (test : ℕ → Bool) (ns : List ℕ) → Once ns → Once (filter test ns)
once_filter test [] once = tt
once_filter test (n ∷ ns) once = by (test n) (once_filter test ns once.1)
  where
    by : (b : Bool) → Once (filter test ns) → Once (cond b (n ∷ filter test ns) (filter test ns))
    by true ih = (unlisted_filter test n ns once.0, ih)
    by false ih = ih

not_behind : (n m : ℕ) (ns : List ℕ) → is_listed n ns ≡ false → (m == n) ≡ false → is_listed n (ns ++ m ∷ []) ≡ false
not_behind n m [] none apart = λ i. apart i || false
not_behind n m (k ∷ ks) none apart =
    let both = or_parts (k == n) (is_listed n ks) none in
    let rest = not_behind n m ks both.1 apart in
    λ i. both.0 i || rest i

once_behind : (m : ℕ) (ns : List ℕ) → is_listed m ns ≡ false → Once ns → Once (ns ++ m ∷ [])
once_behind m [] none once = (refl, tt)
once_behind m (n ∷ ns) none once =
    let both = or_parts (n == m) (is_listed m ns) none in
    (not_behind n m ns once.0 (turned n m both.0), once_behind m ns both.1 once.1)
  where
    turned : (a b : ℕ) → (a == b) ≡ false → (b == a) ≡ false
    turned a b apart = grind (arith, nat_tests, apart)

pub once_with : (ms ns : List ℕ) → Once ns → Once (with_stores ms ns)
once_with [] ns once = once
once_with (m ∷ ms) ns once = once_with ms (with_store m ns) (by (is_listed m ns) refl)
  where
    by : (b : Bool) → is_listed m ns ≡ b → Once (cond b ns (ns ++ m ∷ []))
    by true is = once
    by false is = once_behind m ns is once

pub once_without : (ms ns : List ℕ) → Once ns → Once (without_stores ms ns)
once_without [] ns once = once
once_without (m ∷ ms) ns once = once_without ms (without_store m ns) (once_filter (λ node. not (node == m)) ns once)

-- ---- how many

kept : (m : ℕ) (ns : List ℕ) → is_listed m ns ≡ false → length ns ≤ length (without_store m ns)
kept m [] none = omega arith
kept m (n ∷ ns) none = let both = or_parts (n == m) (is_listed m ns) none in by (n == m) both.0 (kept m ns both.1)
  where
    by : (b : Bool) → b ≡ false → length ns ≤ length (without_store m ns) →
        length (n ∷ ns) ≤ length (cond (not b) (n ∷ without_store m ns) (without_store m ns))
    by true no_way ih = absurd (cc no_way)
    by false apart ih = omega (arith, ih)

one_less : (m : ℕ) (ns : List ℕ) → Once ns → length ns ≤ length (without_store m ns) + 1
one_less m [] once = omega arith
one_less m (n ∷ ns) once = by (n == m) refl (one_less m ns once.1)
  where
    by : (b : Bool) → (n == m) ≡ b → length ns ≤ length (without_store m ns) + 1 →
        length (n ∷ ns) ≤ length (cond (not b) (n ∷ without_store m ns) (without_store m ns)) + 1
    by true is ih = let all = kept m ns (subst (λ k. is_listed k ns ≡ false) (eqb-true n m is) once.0) in omega (arith, all)
    by false is ih = omega (arith, ih)

abbrev AreUpTo : ℕ → List ℕ → Type 0
AreUpTo most ns = AllByRecursion (λ (n : ℕ). (1 ≤ n) × (n ≤ most)) ns

lower : (most : ℕ) (ns : List ℕ) → AreUpTo (suc most) ns → AreUpTo most (without_store (suc most) ns)
lower most [] all = tt
lower most (n ∷ ns) all = by (n == suc most) refl (lower most ns all.1)
  where
    by : (b : Bool) → (n == suc most) ≡ b → AreUpTo most (without_store (suc most) ns) →
        AreUpTo most (cond (not b) (n ∷ without_store (suc most) ns) (without_store (suc most) ns))
    by true is ih = ih
    by false apart ih = let low = (all.0).0 in let high = (all.0).1 in ((low, grind (arith, nat_tests, high, apart)), ih)

pub few_once : (most : ℕ) (ns : List ℕ) → Once ns → AreUpTo most ns → length ns ≤ most
few_once zero [] once all = omega arith
few_once zero (n ∷ ns) once all = absurd (let low = (all.0).0 in let high = (all.0).1 in omega (arith, low, high))
few_once (suc most) ns once all =
    let rest = few_once most (without_store (suc most) ns) (once_filter (λ node. not (node == suc most)) ns once) (lower most ns all) in
    let one = one_less (suc most) ns once in
    omega (arith, rest, one)
