-- Rows keep apart, whatever is granted, passes or goes.
use Rattle.arj_law_lock.proofs.Terms
use Terms.{◌≡◌, ◌≤◌, ◌⊎◌, ℕ, Bool, true, false, cond, max, inl, inr, sym, ◌∙◌, subst, arith, Act, Sub, same, on, at_act, Rows, Clear, Apart}
use Terms.{raise, pass, drop_below}
use Rattle.arj_law_lock.proofs.machine.Paths.{by_cases, on_self, on_up, on_above, on_trans, not_same, act_cases, act_here, act_other}

pub apart_none : Apart (λ a. 0)
apart_none a b p q = absurd (omega (arith, p))

turn : (a b : Act) → (on a b ≡ true) ⊎ (on b a ≡ true) → (on b a ≡ true) ⊎ (on a b ≡ true)
turn a b (inl p) = inr p
turn a b (inr p) = inl p

-- rows that are below those of a table that keeps apart keep apart
pub apart_less : (old new : Rows) → Apart old → ((a : Act) → new a ≤ old a) → Apart new
apart_less old new h less a b p q = let k = less a in let l = less b in h a b (omega (arith, p, k)) (omega (arith, q, l))

two_of : (x y : ℕ) → 2 ≤ max x y → (2 ≤ x) ⊎ (2 ≤ y)
two_of x y p = grind arith

pub apart_raise : (rows : Rows) (a : Act) (k : ℕ) → Apart rows → Clear rows a k → Apart (raise rows a k)
apart_raise rows a k h clear = act_cases (λ (x : Act) (v : ℕ). (y : Act) → 2 ≤ v → 1 ≤ raise rows a k y →
    (on x y ≡ true) ⊎ (on y x ≡ true)) rows a (max (rows a) k) first others
  where
    first : (y : Act) → 2 ≤ max (rows a) k → 1 ≤ raise rows a k y → (on a y ≡ true) ⊎ (on y a ≡ true)
    first = λ y p. act_cases (λ (z : Act) (v : ℕ). 1 ≤ v → (on a z ≡ true) ⊎ (on z a ≡ true)) rows a (max (rows a) k) (λ q. inl (on_self a))
        (λ z apart q. elim (by_cases (on a z)) [
          | inl t ↦ inl t
          | inr f ↦
              elim (two_of (rows a) k p) [ inl m ↦ h a z m q | inr m ↦ (let none = (clear z f).1 m in absurd (omega (arith, q, none))) ]
        ]) y

    others : (x : Act) → same x a ≡ false → (y : Act) → 2 ≤ rows x → 1 ≤ raise rows a k y → (on x y ≡ true) ⊎ (on y x ≡ true)
    others = λ x other y p. act_cases (λ (z : Act) (v : ℕ). 1 ≤ v → (on x z ≡ true) ⊎ (on z x ≡ true)) rows a (max (rows a) k)
        (λ q. elim (by_cases (on a x)) [ inl t ↦ inr t | inr f ↦ (let l = (clear x f).0 in absurd (omega (arith, p, l))) ])
        (λ z apart q. h x z p q) y

-- what stands on the path of what is above an action stands on its own
heir : (a : Act) (n : ℕ) (b : Act) → (on (Sub a n) b ≡ true) ⊎ (on b (Sub a n) ≡ true) → (on a b ≡ true) ⊎ (on b a ≡ true)
heir a n b (inl p) =
    elim (on_up a n b p) [ inl is ↦ inr (subst (λ (x : Act). on x a ≡ true) (sym is) (on_above a n a (on_self a))) | inr o ↦ inl o ]
heir a n b (inr p) = inr (on_trans b (Sub a n) a p (on_above a n a (on_self a)))

pub pass_here : (rows : Rows) (a : Act) (n : ℕ) → pass rows a n a ≡ max (rows a) (rows (Sub a n))
pass_here rows a n =
    act_other (at_act rows a (max (rows a) (rows (Sub a n)))) (Sub a n) 0 a (not_same a n) ∙ act_here rows a (max (rows a) (rows (Sub a n)))

pub pass_other : (rows : Rows) (a : Act) (n : ℕ) (b : Act) → same b (Sub a n) ≡ false → same b a ≡ false → pass rows a n b ≡ rows b
pass_other rows a n b p q =
    act_other (at_act rows a (max (rows a) (rows (Sub a n)))) (Sub a n) 0 b p ∙ act_other rows a (max (rows a) (rows (Sub a n))) b q

-- a row after a pass: an unchanged one, the heir's, or none
pub pass_cases : (P : Act → ℕ → Type 0) (rows : Rows) (a : Act) (n : ℕ) → P (Sub a n) 0 → P a (max (rows a) (rows (Sub a n))) →
    ((b : Act) → same b a ≡ false → same b (Sub a n) ≡ false → P b (rows b)) → (b : Act) → P b (pass rows a n b)
pass_cases P rows a n gone heirs others = act_cases P (at_act rows a (max (rows a) (rows (Sub a n)))) (Sub a n) 0 gone
    (λ b p. act_cases (λ (c : Act) (v : ℕ). same c (Sub a n) ≡ false →
    P c v) rows a (max (rows a) (rows (Sub a n))) (λ q. heirs) (λ c q r. others c q r) b p)

pub apart_pass : (rows : Rows) (a : Act) (n : ℕ) → Apart rows → Apart (pass rows a n)
apart_pass rows a n h =
    pass_cases (λ (x : Act) (v : ℕ). (y : Act) → 2 ≤ v → 1 ≤ pass rows a n y → (on x y ≡ true) ⊎ (on y x ≡ true)) rows a n
    (λ y p. absurd (omega (arith, p)))
    (λ y p. pass_cases (λ (z : Act) (v : ℕ). 1 ≤ v → (on a z ≡ true) ⊎ (on z a ≡ true)) rows a n
    (λ q. absurd (omega (arith, q)))
    (λ q. inl (on_self a))
    (λ z apart gone q. elim (two_of (rows a) (rows (Sub a n)) p) [ inl m ↦ h a z m q | inr m ↦ heir a n z (h (Sub a n) z m q) ]) y)
    (λ x apart gone y p. pass_cases (λ (z : Act) (v : ℕ). 1 ≤ v → (on x z ≡ true) ⊎ (on z x ≡ true)) rows a n
    (λ q. absurd (omega (arith, q)))
    (λ q. elim (one_of (rows a) (rows (Sub a n)) q)
    [ inl m ↦ h x a p m | inr m ↦ turn a x (heir a n x (turn x (Sub a n) (h x (Sub a n) p m))) ])
    (λ z other left q. h x z p q) y)
  where
    one_of : (x y : ℕ) → 1 ≤ max x y → (1 ≤ x) ⊎ (1 ≤ y)
    one_of x y p = grind arith

pub drop_less : (rows : Rows) (a b : Act) → drop_below rows a b ≤ rows b
drop_less rows a b = by (on b a)
  where
    by : (w : Bool) → cond w 0 (rows b) ≤ rows b
    by true = omega arith
    by false = omega arith

pub drop_other : (rows : Rows) (a b : Act) → on b a ≡ false → drop_below rows a b ≡ rows b
drop_other rows a b e = λ i. cond (e i) 0 (rows b)
