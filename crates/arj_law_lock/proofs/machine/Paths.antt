-- Actions and their paths; functions that change at one place.
use Rattle.arj_law_lock.proofs.Terms
use Terms.{◌≡◌, ◌≤◌, ◌+◌, ◌⊎◌, ℕ, ◌==◌, Bool, true, false, cond, ◌&&◌, ◌||◌, inl, inr, refl, sym, ◌∙◌, ap, subst, arith, Act, Root, Sub}
use Terms.{same, on, root, top, is_top, is_action, at, at_act}
use Rattle.arj_law_lock.specs.machine.Actions.{depth}

pub by_cases : (b : Bool) → (b ≡ true) ⊎ (b ≡ false)
by_cases true = inl refl
by_cases false = inr refl

pub differ : {A : Type 0} {b : Bool} → b ≡ true → b ≡ false → A
differ t f = let never : true ≡ false = sym t ∙ f in absurd (cc)

pub or_one : (a b : Bool) → (a || b) ≡ true → (a ≡ true) ⊎ (b ≡ true)
or_one true b e = inl refl
or_one false b e = inr e

pub or_left : (a b : Bool) → a ≡ true → (a || b) ≡ true
or_left a b e = λ i. e i || b

pub or_right : (a b : Bool) → b ≡ true → (a || b) ≡ true
or_right true b e = refl
or_right false b e = e

pub and_both : (a b : Bool) → (a && b) ≡ true → (a ≡ true) × (b ≡ true)
and_both true b e = (refl, e)
and_both false b e = let never : false ≡ true = e in absurd (cc)

pub same_number : (m n : ℕ) → (m == n) ≡ true → m ≡ n
same_number m n e = grind arith

pub number_self : (m : ℕ) → (m == m) ≡ true
number_self m = grind arith

pub same_self : (a : Act) → same a a ≡ true
same_self (Root u) = number_self u
same_self (Sub a n) = λ i. same_self a i && number_self n i

pub same_is : (a b : Act) → same a b ≡ true → a ≡ b
same_is (Root u) (Root v) e = ap Root (same_number u v e)
same_is (Root u) (Sub b n) e = let never : false ≡ true = e in absurd (cc)
same_is (Sub a m) (Root v) e = let never : false ≡ true = e in absurd (cc)
same_is (Sub a m) (Sub b n) e =
    let p = and_both (same a b) (m == n) e in
    λ i. Sub (same_is a b p.0 i) (same_number m n p.1 i)

pub same_sym : (a b : Act) → same a b ≡ true → same b a ≡ true
same_sym a b e = subst (λ (c : Act). same c a ≡ true) (same_is a b e) (same_self a)

-- where the two differ one way they differ the other way
pub other_way : (a b : Act) → same a b ≡ false → same b a ≡ false
other_way a b e = elim (by_cases (same b a)) [ inl t ↦ differ (same_sym b a t) e | inr f ↦ f ]

pub on_self : (a : Act) → on a a ≡ true
on_self (Root u) = number_self u
on_self (Sub a n) = or_left (same (Sub a n) (Sub a n)) (on a (Sub a n)) (same_self (Sub a n))

-- the path of an action is itself and the path of the one above it
pub on_up : (a : Act) (n : ℕ) (b : Act) → on (Sub a n) b ≡ true → (b ≡ Sub a n) ⊎ (on a b ≡ true)
on_up a n b e = elim (or_one (same (Sub a n) b) (on a b) e) [ inl s ↦ inl (sym (same_is (Sub a n) b s)) | inr o ↦ inr o ]

pub on_above : (a : Act) (n : ℕ) (b : Act) → on a b ≡ true → on (Sub a n) b ≡ true
on_above a n b e = or_right (same (Sub a n) b) (on a b) e

pub on_same : (a b : Act) → a ≡ b → on a b ≡ true
on_same a b e = subst (λ (c : Act). on a c ≡ true) e (on_self a)

pub on_trans : (a b c : Act) → on a b ≡ true → on b c ≡ true → on a c ≡ true
on_trans (Root u) b c p q = let is : Root u ≡ b = same_is (Root u) b p in subst (λ (x : Act). on x c ≡ true) (sym is) q
on_trans (Sub a n) b c p q = by (on_trans a b c) (on_up a n b p)
  where
    by : (on a b ≡ true → on b c ≡ true → on a c ≡ true) → (b ≡ Sub a n) ⊎ (on a b ≡ true) → on (Sub a n) c ≡ true
    by ih (inl is) = subst (λ (x : Act). on x c ≡ true) is q
    by ih (inr o) = on_above a n c (ih o q)

pub on_root : (a b : Act) → on a b ≡ true → root a ≡ root b
on_root (Root u) b p = ap root (same_is (Root u) b p)
on_root (Sub a n) b p = by (on_root a b) (on_up a n b p)
  where
    by : (on a b ≡ true → root a ≡ root b) → (b ≡ Sub a n) ⊎ (on a b ≡ true) → root a ≡ root b
    by ih (inl is) = sym (ap root is)
    by ih (inr o) = ih o

-- what stands on a path isn't deeper
shallow : (a b : Act) → on a b ≡ true → depth b ≤ depth a
shallow (Root u) b p = let is : depth b ≡ depth (Root u) = ap depth (sym (same_is (Root u) b p)) in omega (arith, is)
shallow (Sub a n) b p = by (shallow a b) (on_up a n b p)
  where
    by : (on a b ≡ true → depth b ≤ depth a) → (b ≡ Sub a n) ⊎ (on a b ≡ true) → depth b ≤ depth (Sub a n)
    by ih (inl is) = let e : depth b ≡ depth a + 1 = ap depth is in omega (arith, e)
    by ih (inr o) = let l = ih o in omega (arith, l)

-- what stands below an action isn't on its path
pub not_below : (a : Act) (n : ℕ) → on a (Sub a n) ≡ false
not_below a n = elim (by_cases (on a (Sub a n)))
    [ inl t ↦ (let l : depth a + 1 ≤ depth a = shallow a (Sub a n) t in absurd (omega (arith, l))) | inr f ↦ f ]

pub not_same : (a : Act) (n : ℕ) → same a (Sub a n) ≡ false
not_same a n = elim (by_cases (same a (Sub a n)))
    [ inl t ↦ differ (subst (λ (c : Act). on a c ≡ true) (same_is a (Sub a n) t) (on_self a)) (not_below a n) | inr f ↦ f ]

pub on_base : (a : Act) → on a (Root (root a)) ≡ true
on_base (Root u) = on_self (Root u)
on_base (Sub a n) = on_above a n (Root (root a)) (on_base a)

pub on_top : (a : Act) → on a (top a) ≡ true
on_top (Root u) = on_self (Root u)
on_top (Sub (Root u) n) = on_self (Sub (Root u) n)
on_top (Sub (Sub a m) n) = on_above (Sub a m) n (top (Sub a m)) (on_top (Sub a m))

pub top_root : (a : Act) → root (top a) ≡ root a
top_root (Root u) = refl
top_root (Sub (Root u) n) = refl
top_root (Sub (Sub a m) n) = top_root (Sub a m)

pub top_is : (a : Act) → is_action a ≡ true → is_top (top a) ≡ true
top_is (Root u) e = let never : false ≡ true = e in absurd (cc)
top_is (Sub (Root u) n) e = refl
top_is (Sub (Sub a m) n) e = top_is (Sub a m) refl

pub top_self : (m : Act) → is_top m ≡ true → top m ≡ m
top_self (Root u) e = refl
top_self (Sub (Root u) n) e = refl
top_self (Sub (Sub a m) n) e = let never : false ≡ true = e in absurd (cc)

pub top_action : (m : Act) → is_top m ≡ true → is_action m ≡ true
top_action (Root u) e = let never : false ≡ true = e in absurd (cc)
top_action (Sub a n) e = refl

pub root_is : (a : Act) → is_action a ≡ false → a ≡ Root (root a)
root_is (Root u) e = refl
root_is (Sub a n) e = let never : true ≡ false = e in absurd (cc)

-- all actions of a path have one top
pub one_top : (a b : Act) → is_action b ≡ true → on a b ≡ true → top a ≡ top b
one_top (Root u) b e p = ap top (same_is (Root u) b p)
one_top (Sub (Root u) n) b e p = by (on_up (Root u) n b p)
  where
    by : (b ≡ Sub (Root u) n) ⊎ (on (Root u) b ≡ true) → Sub (Root u) n ≡ top b
    by (inl is) = sym (ap top is)
    by (inr o) = differ e (ap is_action (sym (same_is (Root u) b o)))
one_top (Sub (Sub a m) n) b e p = by (one_top (Sub a m) b e) (on_up (Sub a m) n b p)
  where
    by : (on (Sub a m) b ≡ true → top (Sub a m) ≡ top b) → (b ≡ Sub (Sub a m) n) ⊎ (on (Sub a m) b ≡ true) → top (Sub a m) ≡ top b
    by ih (inl is) = sym (ap top is)
    by ih (inr o) = ih o

pub top_of : (a m : Act) → is_top m ≡ true → on a m ≡ true → top a ≡ m
top_of a m e p = one_top a m (top_action m e) p ∙ top_self m e

-- on a top's path stand the top and its root
pub above_top : (m u : Act) → is_top m ≡ true → on m u ≡ true → (u ≡ m) ⊎ (u ≡ Root (root m))
above_top m u e p =
    elim (by_cases (is_action u)) [ inl t ↦ inl (by t (by_cases (is_top u))) | inr f ↦ inr (root_is u f ∙ ap Root (sym (on_root m u p))) ]
  where
    top_here : (m u : Act) → is_top m ≡ true → on m u ≡ true → is_action u ≡ true → u ≡ m
    top_here (Root v) u e p t = differ {b = false} (sym (let never : false ≡ true = e in absurd (cc))) refl
    top_here (Sub (Root v) n) u e p t =
        elim (on_up (Root v) n u p) [ inl is ↦ is | inr o ↦ differ t (ap is_action (sym (same_is (Root v) u o))) ]
    top_here (Sub (Sub a k) n) u e p t = let never : false ≡ true = e in absurd (cc)

    by : is_action u ≡ true → (is_top u ≡ true) ⊎ (is_top u ≡ false) → u ≡ m
    by t w = top_here m u e p t

pub on_kin : (m t : Act) → is_top m ≡ true → is_top t ≡ true → on m t ≡ true → m ≡ t
on_kin m t e f p = sym (top_self m e) ∙ top_of m t f p

-- Functions that change at one place.

pub at_cases : {V : Type 0} (P : ℕ → V → Type 0) (f : ℕ → V) (k : ℕ) (v : V) → P k v → ((j : ℕ) → (j == k) ≡ false → P j (f j)) → (j : ℕ) →
    P j (at f k v j)
at_cases P f k v here there j = by (j == k) refl
  where
    by : (b : Bool) → (j == k) ≡ b → P j (cond b v (f j))
    by true e = subst (λ (i : ℕ). P i v) (sym (same_number j k e)) here
    by false e = there j e

pub at_here : {V : Type 0} (f : ℕ → V) (k : ℕ) (v : V) → at f k v k ≡ v
at_here f k v = λ i. cond (number_self k i) v (f k)

pub act_cases : {V : Type 0} (P : Act → V → Type 0) (f : Act → V) (a : Act) (v : V) → P a v → ((b : Act) → same b a ≡ false → P b (f b)) →
    (b : Act) → P b (at_act f a v b)
act_cases P f a v here there b = by (same b a) refl
  where
    by : (w : Bool) → same b a ≡ w → P b (cond w v (f b))
    by true e = subst (λ (c : Act). P c v) (sym (same_is b a e)) here
    by false e = there b e

pub act_here : {V : Type 0} (f : Act → V) (a : Act) (v : V) → at_act f a v a ≡ v
act_here f a v = λ i. cond (same_self a i) v (f a)

pub act_other : {V : Type 0} (f : Act → V) (a : Act) (v : V) (b : Act) → same b a ≡ false → at_act f a v b ≡ f b
act_other f a v b e = λ i. cond (e i) v (f b)
