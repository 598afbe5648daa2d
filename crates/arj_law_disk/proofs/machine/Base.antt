-- Tests of numbers, and functions changed at one place.
use Rattle.arj_law_disk.proofs.Terms
use Terms.{◌≡◌, ◌⊎◌, ℕ, ◌<◌, List, Bool, true, false, cond, ◌==◌, ◌||◌, ◌&&◌, not, Option, Some, None, is_some, refl, sym, ◌∙◌, ap, subst}
use Terms.{inl, inr, ⊎_elim, arith, Packed, Stage, is_open, is_sealed, is_gone, open_by, Below, put, put2}
use Rattle.std.proofs.lemmas.Bool.Decides.{Decides-eqb}

pub bool_cases : (b : Bool) → (b ≡ true) ⊎ (b ≡ false)
bool_cases true = inl refl
bool_cases false = inr refl

pub test_cases : (n k : ℕ) → (n ≡ k) ⊎ ((n == k) ≡ false)
test_cases n k = ⊎_elim (λ (e : (n == k) ≡ true). inl ((Decides-eqb n k).0 e)) (λ (e : (n == k) ≡ false). inr e) (bool_cases (n == k))

pub test_same : (n : ℕ) → (n == n) ≡ true
test_same n = (Decides-eqb n n).1 refl

pub test_is : (n k : ℕ) → (n == k) ≡ true → n ≡ k
test_is n k = (Decides-eqb n k).0

pub test_not : (n k : ℕ) → (n ≡ k → ⊥) → (n == k) ≡ false
test_not n k never = ⊎_elim (λ (e : n ≡ k). absurd (never e)) (λ (e : (n == k) ≡ false). e) (test_cases n k)

pub differs : (n k : ℕ) → (n == k) ≡ false → n ≡ k → ⊥
differs n k e same = let never : true ≡ false = sym (test_same k) ∙ ap (λ m. m == k) (sym same) ∙ e in cc

-- two answers of one test
pub never : {b : Bool} → b ≡ true → b ≡ false → ⊥
never yes_ no_ = let e : true ≡ false = sym yes_ ∙ no_ in cc

pub never_some : {A : Type 0} {o : Option A} {a : A} → o ≡ Some a → o ≡ None → ⊥
never_some {A} {o} {a} is none = let e : ◌≡◌ {A = Option A} (Some a) None = sym is ∙ none in cc

pub some_is : {A : Type 0} {o : Option A} {a b : A} → o ≡ Some a → o ≡ Some b → a ≡ b
some_is {A} {o} {a} {b} is also = let e : ◌≡◌ {A = Option A} (Some a) (Some b) = sym is ∙ also in cc

-- what holds of a function with another value at one place
pub put_cases : {A : Type 0} (P : A → Type 0) (k : ℕ) (v : A) (f : ℕ → A) (n : ℕ) → (n ≡ k → P v) → ((n == k) ≡ false → P (f n)) →
    P (put k v f n)
put_cases P k v f n here there = by (n == k) refl
  where
    by : (b : Bool) → (n == k) ≡ b → P (cond b v (f n))
    by true e = here (test_is n k e)
    by false e = there e

pub put_same : {A : Type 0} (k : ℕ) (v : A) (f : ℕ → A) → put k v f k ≡ v
put_same k v f = rw (test_same k)

pub put_other : {A : Type 0} (k : ℕ) (v : A) (f : ℕ → A) (n : ℕ) → (n == k) ≡ false → put k v f n ≡ f n
put_other k v f n e = rw e

-- a Bool function raised at one place
pub put_true : (k : ℕ) (f : ℕ → Bool) (n : ℕ) → put k true f n ≡ true → (n ≡ k) ⊎ (f n ≡ true)
put_true k f n = put_cases (λ b. b ≡ true → (n ≡ k) ⊎ (f n ≡ true)) k true f n (λ e h. inl e) (λ e h. inr h)

pub put_rises : (k : ℕ) (f : ℕ → Bool) (n : ℕ) → f n ≡ true → put k true f n ≡ true
put_rises k f n h = put_cases (λ b. b ≡ true) k true f n (λ e. refl) (λ e. h)

pub put2_true : (k l : ℕ) (f : ℕ → ℕ → Bool) (n m : ℕ) → put2 k l true f n m ≡ true → ((n ≡ k) × (m ≡ l)) ⊎ (f n m ≡ true)
put2_true k l f n m = put_cases (λ g. g m ≡ true → ((n ≡ k) × (m ≡ l)) ⊎ (f n m ≡ true)) k (put l true (f k)) f n
    (λ e h. ⊎_elim (λ (i : m ≡ l). inl (e, i)) (λ (i : f k m ≡ true). inr (ap (λ a. f a m) e ∙ i)) (put_true l (f k) m h))
    (λ e h. inr h)

pub put2_rises : (k l : ℕ) (f : ℕ → ℕ → Bool) (n m : ℕ) → f n m ≡ true → put2 k l true f n m ≡ true
put2_rises k l f n m h =
    put_cases (λ g. g m ≡ true) k (put l true (f k)) f n (λ e. put_rises l (f k) m (ap (λ a. f a m) (sym e) ∙ h)) (λ e. h)

pub put2_same : (k l : ℕ) (f : ℕ → ℕ → Bool) → put2 k l true f k l ≡ true
put2_same k l f = rw (put_same k (put l true (f k)) f) (put_same l true (f k))

pub falls_to : (b : Bool) → (b ≡ true → ⊥) → b ≡ false
falls_to true n = absurd (n refl)
falls_to false n = refl

-- parts of tests
pub and_left : (a b : Bool) → (a && b) ≡ true → a ≡ true
and_left true b e = refl
and_left false b e = e

pub and_right : (a b : Bool) → (a && b) ≡ true → b ≡ true
and_right true b e = e
and_right false b e = let n : false ≡ true = e in cc

pub or_cases : (a b : Bool) → (a || b) ≡ true → (a ≡ true) ⊎ (b ≡ true)
or_cases true b e = inl refl
or_cases false b e = inr e

pub or_left : (a b : Bool) → a ≡ true → (a || b) ≡ true
or_left true b e = refl
or_left false b e = let n : false ≡ true = e in cc

pub or_right : (a b : Bool) → b ≡ true → (a || b) ≡ true
or_right true b e = refl
or_right false b e = e

pub not_true : (a : Bool) → not a ≡ true → a ≡ false
not_true true e = let n : false ≡ true = e in cc
not_true false e = refl

pub not_false : (a : Bool) → a ≡ false → not a ≡ true
not_false a e = rw e

-- stages
pub gone_sealed : (g : Stage) → is_gone g ≡ true → is_sealed g ≡ true
gone_sealed Stage.Idle e = e
gone_sealed Stage.Preparing e = e
gone_sealed Stage.Confirming e = refl
gone_sealed Stage.Gone e = refl

pub gone_closed : (g : Stage) → is_gone g ≡ true → is_open g ≡ false
gone_closed Stage.Idle e = refl
gone_closed Stage.Preparing e = let n : false ≡ true = e in cc
gone_closed Stage.Confirming e = let n : false ≡ true = e in cc
gone_closed Stage.Gone e = refl

-- a top whose outcome is open isn't decided, and is open or has its record
pub open_done : (d : Bool) (g : Stage) (i : Option (List ℕ)) → open_by d g i ≡ true → d ≡ false
open_done true g i e = let n : false ≡ true = e in cc
open_done false g i e = refl

pub open_parts : (d : Bool) (g : Stage) (i : Option (List ℕ)) → open_by d g i ≡ true → (is_open g ≡ true) ⊎ (is_some i ≡ true)
open_parts d g i e = or_cases (is_open g) (is_some i) (and_right (not d) (is_open g || is_some i) e)

pub open_made : (d : Bool) (g : Stage) (i : Option (List ℕ)) → d ≡ false → (is_open g ≡ true) ⊎ (is_some i ≡ true) → open_by d g i ≡ true
open_made d g i e (inl h) = rw (e, h)
open_made d g i e (inr h) = rw e (or_right (is_open g) (is_some i) h)

pub closed_done : (d : Bool) (g : Stage) (i : Option (List ℕ)) → d ≡ true → open_by d g i ≡ false
closed_done d g i e = rw e

-- versions
pub below_trans : (a b c : Packed) → Below a b → Below b c → Below a c
below_trans a b c (inl p) (inl q) = inl (omega (arith, p, q))
below_trans a b c (inl p) (inr q) = inl (subst (λ x. a.version < x.version) q p)
below_trans a b c (inr p) (inl q) = inl (subst (λ x. x.version < c.version) (sym p) q)
below_trans a b c (inr p) (inr q) = inr (p ∙ q)

pub below_both : (a b : Packed) → Below a b → Below b a → a ≡ b
below_both a b (inl p) (inl q) = absurd (omega (arith, p, q))
below_both a b (inl p) (inr q) = sym q
below_both a b (inr p) q = p
