-- Small facts on tests, lists and places.
use Rattle.arj_law.proofs.Terms
use Terms.{◌≡◌, ◌<◌, ◌≤◌, ℕ, ◌+◌, List, [], ◌∷◌, ◌++◌, Bool, true, false, cond, ◌&&◌, nat_lt, ◌==◌, refl, sym, ◌∙◌, subst, filter, Option}
use Terms.{Some, None, arith, AllByRecursion, filter_map, cons_option, eq-eqb, eqb-true, false_from_ne_true, nat_tests, Body, Line, Act}
use Terms.{Placed, acts_after, read, put, lex}
use Rattle.std.proofs.Common.{true≢false}

-- Tests.

-- a test isn't both true and false
pub never : {P : Type 0} (b : Bool) → b ≡ true → b ≡ false → P
never b holds fails = absurd (true≢false (sym holds ∙ fails))

pub turned : (m n : ℕ) → (m == n) ≡ false → (n == m) ≡ false
turned m n e = false_from_ne_true (n == m) (λ same. never (m == n) (eq-eqb m n (sym (eqb-true n m same))) e)

pub not_below_itself : (n : ℕ) → nat_lt n n ≡ false
not_below_itself n = grind (arith, nat_tests)

pub not_below_back : (m n : ℕ) → m < n → nat_lt n m ≡ false
not_below_back m n e = grind (arith, nat_tests)

-- Lists.

-- this holds of each item and each one behind it
abbrev pub Pairwise : {A : Type 0} → (A → A → Type 0) → List A → Type 0
Pairwise R [] = Unit {0}
Pairwise R (a ∷ rest) = AllByRecursion (R a) rest × Pairwise R rest

pub all_map : {A : Type 0} (P Q : A → Type 0) → ((a : A) → P a → Q a) → (xs : List A) → AllByRecursion P xs → AllByRecursion Q xs
all_map P Q f [] ps = ps
all_map P Q f (x ∷ xs) ps = (f x ps.0, all_map P Q f xs ps.1)

pub all_both : {A : Type 0} (P Q : A → Type 0) (xs : List A) → AllByRecursion P xs → AllByRecursion Q xs →
    AllByRecursion (λ a. P a × Q a) xs
all_both P Q [] ps qs = ps
all_both P Q (x ∷ xs) ps qs = ((ps.0, qs.0), all_both P Q xs ps.1 qs.1)

pub pairwise_map : {A : Type 0} (R S : A → A → Type 0) → ((a b : A) → R a b → S a b) → (xs : List A) → Pairwise R xs → Pairwise S xs
pairwise_map R S f [] ps = tt
pairwise_map R S f (x ∷ xs) ps = (all_map (R x) (S x) (f x) xs ps.0, pairwise_map R S f xs ps.1)

pub pairwise_both : {A : Type 0} (R S : A → A → Type 0) (xs : List A) → Pairwise R xs → Pairwise S xs → Pairwise (λ a b. R a b × S a b) xs
pairwise_both R S [] ps qs = tt
pairwise_both R S (x ∷ xs) ps qs = (all_both (R x) (S x) xs ps.0 qs.0, pairwise_both R S xs ps.1 qs.1)

-- what holds of each two items holds of each and those behind it
pub pairwise_of : {A : Type 0} (R : A → A → Type 0) (xs : List A) → AllByRecursion (λ a. AllByRecursion (R a) xs) xs → Pairwise R xs
pairwise_of R [] h = tt
pairwise_of R (x ∷ xs) h =
    (h.0.1, pairwise_of R xs (all_map (λ a. R a x × AllByRecursion (R a) xs) (λ a. AllByRecursion (R a) xs) (λ a p. p.1) xs h.1))

-- what stands before an item and behind it
pub pairwise_before : {A : Type 0} (R : A → A → Type 0) (xs : List A) (y : A) (zs : List A) → Pairwise R (xs ++ y ∷ zs) →
    AllByRecursion (λ x. R x y) xs
pairwise_before R [] y zs p = tt
pairwise_before R (x ∷ xs) y zs p = (among xs p.0, pairwise_before R xs y zs p.1)
  where
    among : (ws : List _) → AllByRecursion (R x) (ws ++ y ∷ zs) → R x y
    among [] q = q.0
    among (w ∷ ws) q = among ws q.1

pub pairwise_behind : {A : Type 0} (R : A → A → Type 0) (xs : List A) (y : A) (zs : List A) → Pairwise R (xs ++ y ∷ zs) →
    AllByRecursion (R y) zs
pairwise_behind R [] y zs p = p.0
pairwise_behind R (x ∷ xs) y zs p = pairwise_behind R xs y zs p.1

pub filter_none : {A : Type 0} (t : A → Bool) (xs : List A) → AllByRecursion (λ a. t a ≡ false) xs → filter t xs ≡ []
filter_none t [] h = refl
filter_none t (x ∷ xs) h = subst (λ b. cond b (x ∷ filter t xs) (filter t xs) ≡ []) (sym h.0) (filter_none t xs h.1)

-- What holds of each item that gives something holds of what it gives.
pub all_filter_map : {A B : Type 0} (P : A → Type 0) (Q : B → Type 0) (h : A → Option B) → ((a : A) (b : B) → P a → h a ≡ Some b → Q b) →
    (xs : List A) → AllByRecursion P xs → AllByRecursion Q (filter_map h xs)
all_filter_map P Q h f [] ps = tt
all_filter_map {A} {B} P Q h f (x ∷ xs) ps = by (all_filter_map P Q h f xs ps.1) (h x) refl
  where
    by : AllByRecursion Q (filter_map h xs) → (o : Option B) → h x ≡ o → AllByRecursion Q (cons_option o (filter_map h xs))
    by ih None e = ih
    by ih (Some b) e = (f x b ps.0 e, ih)

pub pairwise_filter_map : {A B : Type 0} (R : A → A → Type 0) (S : B → B → Type 0) (h : A → Option B) →
    ((a a' : A) (b b' : B) → R a a' → h a ≡ Some b → h a' ≡ Some b' → S b b') → (xs : List A) → Pairwise R xs → Pairwise S (filter_map h xs)
pairwise_filter_map R S h f [] ps = tt
pairwise_filter_map {A} {B} R S h f (x ∷ xs) ps = by (pairwise_filter_map R S h f xs ps.1) (h x) refl
  where
    by : Pairwise S (filter_map h xs) → (o : Option B) → h x ≡ o → Pairwise S (cons_option o (filter_map h xs))
    by ih None e = ih
    by ih (Some b) e = (all_filter_map (R x) (S b) h (λ a c r g. f x a b c r e g) xs ps.0, ih)

-- Places.

-- what is read from a place on stands there or behind it
all_from : {A : Type 0} (f : List Act → Body → Option A) (us : List Act) (m n : ℕ) (ls : List Line) → m ≤ n →
    AllByRecursion (λ s. m ≤ s.at) (read f us n ls)
all_from f us m n [] le = tt
all_from {A} f us m n (l ∷ ls) le = by (all_from f (acts_after us l.body) m (n + 1) ls (omega (arith, le))) (f us l.body)
  where
    by : AllByRecursion (λ s. m ≤ s.at) (read f (acts_after us l.body) (n + 1) ls) → (o : Option A) →
        AllByRecursion (λ s. m ≤ s.at) (put n o (read f (acts_after us l.body) (n + 1) ls))
    by ih None = ih
    by ih (Some a) = (le, ih)

-- the places of what is read rise
pub read_rises : {A : Type 0} (f : List Act → Body → Option A) (us : List Act) (n : ℕ) (ls : List Line) →
    Pairwise (λ s t. s.at < t.at) (read f us n ls)
read_rises f us n [] = tt
read_rises {A} f us n (l ∷ ls) = by (read_rises f (acts_after us l.body) (n + 1) ls) (f us l.body)
  where
    rest : List (Placed A)
    rest = read f (acts_after us l.body) (n + 1) ls

    by : Pairwise (λ s t. s.at < t.at) rest → (o : Option A) → Pairwise (λ s t. s.at < t.at) (put n o rest)
    by ih None = ih
    by ih (Some a) = (
      all_map (λ s. n + 1 ≤ s.at) (λ s. n < s.at) (λ s e. omega (arith, e)) rest
          (all_from f (acts_after us l.body) (n + 1) (n + 1) ls (omega arith)),
      ih,
    )

-- Keys.

pub lex_same : (ms : List ℕ) → lex ms ms ≡ false
lex_same [] = refl
lex_same (m ∷ ms) = (λ i. cond (not_below_itself m i) true (eq-eqb m m refl i && lex ms ms)) ∙ lex_same ms

pub lex_turn : (ms ns : List ℕ) → lex ms ns ≡ true → lex ns ms ≡ false
lex_turn [] [] e = refl
lex_turn [] (n ∷ ns) e = refl
lex_turn (m ∷ ms) [] e = never false e refl
lex_turn (m ∷ ms) (n ∷ ns) e = by (lex_turn ms ns) (nat_lt m n) refl (m == n) refl e
  where
    by : (lex ms ns ≡ true → lex ns ms ≡ false) → (b : Bool) → nat_lt m n ≡ b → (s : Bool) → (m == n) ≡ s →
        cond b true (s && lex ms ns) ≡ true → cond (nat_lt n m) true ((n == m) && lex ns ms) ≡ false
    by ih true lt s same g =
        let back : nat_lt n m ≡ false = grind (arith, nat_tests, lt) in
        let apart : (n == m) ≡ false = grind (arith, nat_tests, lt) in
        (λ i. cond (back i) true (apart i && lex ns ms))
    by ih false lt true same g =
        let back : nat_lt n m ≡ false = grind (arith, nat_tests, same) in
        (λ i. cond (back i) true ((n == m) && ih g i)) ∙ grind arith
    by ih false lt false same g = never false g refl
