-- Lists of increasing numbers are short where their numbers are few, and lists of marks.
use Rattle.arj_law_parts.proofs.Words
use Words.{◌≡◌, ◌||◌, ◌&&◌, ◌==◌, ◌<◌, ◌≤◌, ◌+◌, ◌*◌, arith, ℕ, Bool, true, false, cond, not, List, [], ◌∷◌, filter, length, eqb-true}
use Words.{subst, ⊎_elim, AllByRecursion, or_cases, has, with_mark, with_marks, nat_lt, Option, Some, None, filter_map, cons_option}
use Words.{flat_map, length-append, without_number}
use Rattle.arj_law_runs.specs.coordinators.Rooms.{AreRising}

-- numbers from one on, and below another
abbrev pub AreBetween : ℕ → ℕ → List ℕ → Type 0
AreBetween low high ns = AllByRecursion (λ (n : ℕ). (low ≤ n) × (n < high)) ns

raised : (n high : ℕ) (ns : List ℕ) → AllByRecursion (λ (m : ℕ). n < m) ns → AllByRecursion (λ (m : ℕ). m < high) ns → AreBetween (n + 1)
    high ns
raised n high [] above below = tt
raised n high (m ∷ ms) above below = (((let a = above.0 in omega (arith, a)), below.0), raised n high ms above.1 below.1)

below_all : (low high : ℕ) (ns : List ℕ) → AreBetween low high ns → AllByRecursion (λ (m : ℕ). m < high) ns
below_all low high [] all = tt
below_all low high (n ∷ ns) all = ((all.0).1, below_all low high ns all.1)

-- of increasing numbers there are at most as many as there are numbers
pub few_between : (low high : ℕ) (ns : List ℕ) → low ≤ high → AreRising ns → AreBetween low high ns → length ns + low ≤ high
few_between low high [] least rising all = omega (arith, least)
few_between low high (n ∷ ns) least rising all =
    let first = (all.0).0 in
    let last = (all.0).1 in
    let rest = few_between (n + 1) high ns (omega (arith, last)) rising.1 (raised n high ns rising.0 (below_all low high ns all.1)) in
    omega (arith, first, last, rest)

-- ---- among other numbers

behind_first : (y z : ℕ) (ys xs : List ℕ) → y ≤ z → AllByRecursion (λ (m : ℕ). z < m) xs → AllByRecursion (λ (m : ℕ). has (y ∷ ys) m ≡ true)
    xs → AllByRecursion (λ (m : ℕ). has ys m ≡ true) xs
behind_first y z ys [] least above all = tt
behind_first y z ys (m ∷ ms) least above all = (
  ⊎_elim (λ same. absurd (let e = eqb-true y m same in let a = above.0 in omega (arith, e, a, least))) (λ rest. rest)
      (or_cases (y == m) (has ys m) all.0),
  behind_first y z ys ms least above.1 all.1,
)

is_above : (y x : ℕ) (ys : List ℕ) → AllByRecursion (λ (m : ℕ). y < m) ys → has ys x ≡ true → y < x
is_above y x [] above is = absurd (cc is)
is_above y x (m ∷ ms) above is = ⊎_elim (λ same. subst (λ z. y < z) (eqb-true m x same) above.0) (λ rest. is_above y x ms above.1 rest)
    (or_cases (m == x) (has ms x) is)

-- increasing numbers among others are no more than those
pub few_among : (ys xs : List ℕ) → AreRising ys → AreRising xs → AllByRecursion (λ (x : ℕ). has ys x ≡ true) xs → length xs ≤ length ys
few_among ys [] up rising all = omega arith
few_among [] (x ∷ xs) up rising all = absurd (cc all.0)
few_among (y ∷ ys) (x ∷ xs) up rising all =
    ⊎_elim (first (λ zs r a. few_among ys zs up.1 r a)) (later (λ zs r a. few_among ys zs up.1 r a)) (or_cases (y == x) (has ys x) all.0)
  where
    Few : List ℕ → Type 0
    Few zs = length zs ≤ length ys

    Among : Type 0
    Among = (zs : List ℕ) → AreRising zs → AllByRecursion (λ (z : ℕ). has ys z ≡ true) zs → Few zs

    first : Among → (y == x) ≡ true → length (x ∷ xs) ≤ length (y ∷ ys)
    first few same =
        let e = eqb-true y x same in
        let rest = few xs rising.1 (behind_first y x ys xs (omega (arith, e)) rising.0 all.1) in
        omega (arith, rest)

    later : Among → has ys x ≡ true → length (x ∷ xs) ≤ length (y ∷ ys)
    later few there =
        let a = is_above y x ys up.0 there in
        let rest = few (x ∷ xs) rising (there, behind_first y x ys xs (omega (arith, a)) rising.0 all.1) in
        omega (arith, rest)

-- ---- lengths

pub filter_shorter : {A : Type 0} (test : A → Bool) (xs : List A) → length (filter test xs) ≤ length xs
filter_shorter test [] = omega arith
filter_shorter {A} test (x ∷ xs) = by (test x) (filter_shorter test xs)
  where
    by : (b : Bool) → length (filter test xs) ≤ length xs → length (cond b (x ∷ filter test xs) (filter test xs)) ≤ length (x ∷ xs)
    by true ih = omega (arith, ih)
    by false ih = omega (arith, ih)

pub filter_map_shorter : {A B : Type 0} (f : A → Option B) (xs : List A) → length (filter_map f xs) ≤ length xs
filter_map_shorter f [] = omega arith
filter_map_shorter {A} {B} f (x ∷ xs) = by (f x) (filter_map_shorter f xs)
  where
    by : (o : Option B) → length (filter_map f xs) ≤ length xs → length (cons_option o (filter_map f xs)) ≤ length (x ∷ xs)
    by None ih = omega (arith, ih)
    by (Some y) ih = omega (arith, ih)

-- a number of a list taken out leaves a shorter one
pub without_shorter : (n : ℕ) (ns : List ℕ) → has ns n ≡ true → length (without_number n ns) + 1 ≤ length ns
without_shorter n [] is = absurd (cc is)
without_shorter n (m ∷ ms) is = by (m == n) is (without_shorter n ms)
  where
    by : (b : Bool) → (b || has ms n) ≡ true → (has ms n ≡ true → length (without_number n ms) + 1 ≤ length ms) →
        length (cond (not b) (m ∷ without_number n ms) (without_number n ms)) + 1 ≤ length (m ∷ ms)
    by true on ih = let less : length (without_number n ms) ≤ length ms = filter_shorter (λ k. not (k == n)) ms in omega (arith, less)
    by false on ih = let less = ih on in omega (arith, less)

-- lists of at most 16 items each, one behind the other
pub flat_short : {A B : Type 0} (f : A → List B) (xs : List A) → AllByRecursion (λ (x : A). length (f x) ≤ 16) xs →
    length (flat_map f xs) ≤ 16 * length xs
flat_short f [] all = omega arith
flat_short {A} {B} f (x ∷ xs) all =
    let rest = flat_short f xs all.1 in let first = all.0 in omega (arith, length-append (f x) (flat_map f xs), rest, first)

-- ---- marks

pub mark_longer : (m : ℕ × ℕ) (ks : List (ℕ × ℕ)) → length (with_mark m ks) ≤ length ks + 1
mark_longer m [] = omega arith
mark_longer m (k ∷ ks) = by (nat_lt k.0 m.0 || ((k.0 == m.0) && nat_lt k.1 m.1)) (mark_longer m ks)
  where
    by : (b : Bool) → length (with_mark m ks) ≤ length ks + 1 → length (cond b (k ∷ with_mark m ks) (m ∷ k ∷ ks)) ≤ length (k ∷ ks) + 1
    by true ih = omega (arith, ih)
    by false ih = omega arith

pub marks_longer : (ms ks : List (ℕ × ℕ)) → length (with_marks ms ks) ≤ length ms + length ks
marks_longer [] ks = omega arith
marks_longer (m ∷ ms) ks = let rest = marks_longer ms (with_mark m ks) in let one = mark_longer m ks in omega (arith, rest, one)

all_mark : (Q : ℕ × ℕ → Type 0) (m : ℕ × ℕ) (ks : List (ℕ × ℕ)) → Q m → AllByRecursion Q ks → AllByRecursion Q (with_mark m ks)
all_mark Q m [] its all = (its, tt)
all_mark Q m (k ∷ ks) its all = by (nat_lt k.0 m.0 || ((k.0 == m.0) && nat_lt k.1 m.1)) (all_mark Q m ks its all.1)
  where
    by : (b : Bool) → AllByRecursion Q (with_mark m ks) → AllByRecursion Q (cond b (k ∷ with_mark m ks) (m ∷ k ∷ ks))
    by true ih = (all.0, ih)
    by false ih = (its, all)

pub all_marks : (Q : ℕ × ℕ → Type 0) (ms ks : List (ℕ × ℕ)) → AllByRecursion Q ms → AllByRecursion Q ks →
    AllByRecursion Q (with_marks ms ks)
all_marks Q [] ks its all = all
all_marks Q (m ∷ ms) ks its all = all_marks Q ms (with_mark m ks) its.1 (all_mark Q m ks its.0 all)
