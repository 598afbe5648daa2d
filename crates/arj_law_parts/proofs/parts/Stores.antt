-- Store lists, with marks taken out and put in, and lists of checks.
use Rattle.arj_law_parts.proofs.Words
use Words.{◌≡◌, ◌⊎◌, ◌<◌, ◌+◌, ◌==◌, ℕ, List, [], ◌∷◌, ◌++◌, Bool, true, false, cond, not, ◌&&◌, ◌||◌, nat_lt, Option, Some, None, refl}
use Words.{sym, ◌∙◌, ap, subst, inl, inr, ⊎_elim, arith, filter, min, list_any, or_parts, or_cases, or_left, or_right, eqb-true}
use Words.{list_any-append, In, in_filter, in_map, ConfirmedReply, is_listed, with_store, without_store, either, Marks, marked, with_stores}
use Words.{without_stores, same_nodes, adds_store, first_of_each}

same_number : (n : ℕ) → (n == n) ≡ true
same_number n = grind arith

pub one_of : {X : Type 0} (p : X → Bool) (xs : List X) → list_any p xs ≡ true → (x : X) × In x xs × (p x ≡ true)
one_of p [] e = cc
one_of {X} p (x ∷ xs) e = by (p x) refl e (one_of p xs)
  where
    by : (b : Bool) → p x ≡ b → (b || list_any p xs) ≡ true → (list_any p xs ≡ true → (y : X) × In y xs × (p y ≡ true)) →
        (y : X) × In y (x ∷ xs) × (p y ≡ true)
    by true is h ih = (x, inl refl, is)
    by false is h ih = let r = ih h in (r.0, inr r.1, r.2)

pub kept_in : {X : Type 0} (p : X → Bool) (x : X) (xs : List X) → In x xs → p x ≡ true → In x (filter p xs)
kept_in p x [] i e = absurd i
kept_in {X} p x (y ∷ ys) i e = by (p y) refl i (kept_in p x ys)
  where
    by : (b : Bool) → p y ≡ b → In x (y ∷ ys) → (In x ys → p x ≡ true → In x (filter p ys)) → In x (cond b (y ∷ filter p ys) (filter p ys))
    by true is (inl same) ih = inl same
    by true is (inr j) ih = inr (ih j e)
    by false is (inl same) ih = let no_way : true ≡ false = sym e ∙ ap p (sym same) ∙ is in cc
    by false is (inr j) ih = ih j e

listed_in : (s : ℕ) (ss : List ℕ) → In s ss → is_listed s ss ≡ true
listed_in s [] i = absurd i
listed_in s (t ∷ ts) (inl same) = or_left (t == s) (is_listed s ts) (ap (λ k. k == s) same ∙ same_number s)
listed_in s (t ∷ ts) (inr i) = or_right (t == s) (is_listed s ts) (listed_in s ts i)

-- ---- marks

pub with_listed : (ms ss : List ℕ) (s : ℕ) → is_listed s (with_stores ms ss) ≡ true → (is_listed s ss ≡ true) ⊎ In s ms
with_listed [] ss s on = inl on
with_listed (m ∷ ms) ss s on = ⊎_elim (λ old. one (is_listed m ss) old) (λ i. inr (inr i)) (with_listed ms (with_store m ss) s on)
  where
    one : (b : Bool) → is_listed s (cond b ss (ss ++ m ∷ [])) ≡ true → (is_listed s ss ≡ true) ⊎ In s (m ∷ ms)
    one true h = inl h
    one false h = ⊎_elim (λ old. inl old) (λ new.
        ⊎_elim (λ same. inr (inl (eqb-true m s same))) (λ none. let no_way : false ≡ true = none in cc) (or_cases (m == s) false new))
        (or_cases (is_listed s ss) (is_listed s (m ∷ [])) (sym (list_any-append (λ k. k == s) ss (m ∷ [])) ∙ h))

filtered : (p : ℕ → Bool) (s : ℕ) (ss : List ℕ) → is_listed s (filter p ss) ≡ true → is_listed s ss ≡ true
filtered p s [] on = on
filtered p s (t ∷ ts) on = by (p t) on (filtered p s ts)
  where
    by : (b : Bool) → is_listed s (cond b (t ∷ filter p ts) (filter p ts)) ≡ true →
        (is_listed s (filter p ts) ≡ true → is_listed s ts ≡ true) → is_listed s (t ∷ ts) ≡ true
    by true h ih = ⊎_elim (λ same. or_left (t == s) (is_listed s ts) same) (λ rest. or_right (t == s) (is_listed s ts) (ih rest))
        (or_cases (t == s) (is_listed s (filter p ts)) h)
    by false h ih = or_right (t == s) (is_listed s ts) (ih h)

pub without_listed : (ms ss : List ℕ) (s : ℕ) → is_listed s (without_stores ms ss) ≡ true → is_listed s ss ≡ true
without_listed [] ss s on = on
without_listed (m ∷ ms) ss s on = filtered (λ node. not (node == m)) s ss (without_listed ms (without_store m ss) s on)

unlisted : (m : ℕ) (ss : List ℕ) → is_listed m ss ≡ false → without_store m ss ≡ ss
unlisted m [] none = refl
unlisted m (s ∷ ss) none = let f = or_parts (s == m) (is_listed m ss) none in
    (λ i. cond (not (f.0 i)) (s ∷ without_store m ss) (without_store m ss)) ∙ ap (λ ts. s ∷ ts) (unlisted m ss f.1)

pub without_none : (ms ss : List ℕ) → ((m : ℕ) → In m ms → is_listed m ss ≡ false) → without_stores ms ss ≡ ss
without_none [] ss none = refl
without_none (m ∷ ms) ss none = ap (without_stores ms) (unlisted m ss (none m (inl refl))) ∙ without_none ms ss (λ k i. none k (inr i))

pub same_nodes_self : (ns : List ℕ) → same_nodes ns ns ≡ true
same_nodes_self [] = refl
same_nodes_self (n ∷ ns) = λ i. same_number n i && same_nodes_self ns i

-- a store that is new is one of the marks
pub added_mark : (included excluded stores : List ℕ) → adds_store (with_stores included (without_stores excluded stores)) stores ≡ true →
    (s : ℕ) × In s included
added_mark included excluded stores e =
    let w = one_of (λ s. not (is_listed s stores)) (with_stores included (without_stores excluded stores)) e in
    ⊎_elim (λ old. absurd (never w.0 (without_listed excluded stores w.0 old) w.2)) (λ i. (w.0, i)) (with_listed included
    (without_stores excluded stores) w.0 (listed_in w.0 (with_stores included (without_stores excluded stores)) w.1))
  where
    never : (s : ℕ) → is_listed s stores ≡ true → not (is_listed s stores) ≡ true → ⊥
    never s on off = let no_way : false ≡ true = ap not (sym on) ∙ off in cc

-- a mark of an object stands in the list of all marks
pub mark_of : (x s : ℕ) (marks : Marks) → In s (marked x marks) → (t : ℕ) × In (x, t) marks
mark_of x s marks i =
    let m = in_map (λ (k : ℕ × ℕ). k.1) s (filter (λ (k : ℕ × ℕ). k.0 == x) marks) i in
    let f = in_filter (λ (k : ℕ × ℕ). k.0 == x) m.0 marks m.1 in
    (m.0.1, subst (λ k. In k marks) (λ j. (eqb-true m.0.0 x f.1 j, m.0.1)) f.0)

-- ---- checks

pub either_none : {A : Type 0} (a b : Option A) → either a b ≡ None → (a ≡ None) × (b ≡ None)
either_none None b e = (refl, e)
either_none (Some a) b e = cc

pub each_passes : {A : Type 0} (f : A → Option ConfirmedReply) (xs : List A) (x : A) → first_of_each f xs ≡ None → In x xs → f x ≡ None
each_passes f [] x e i = absurd i
each_passes f (y ∷ ys) x e (inl same) = ap f (sym same) ∙ (either_none (f y) (first_of_each f ys) e).0
each_passes f (y ∷ ys) x e (inr i) = each_passes f ys x (either_none (f y) (first_of_each f ys) e).1 i

-- ---- versions

next_is : (v : ℕ) → v < 18446744073709551615 → min (v + 1) 18446744073709551615 ≡ v + 1
next_is v h = omega (arith, h)

pub not_old : (v : ℕ) (b : Bool) → v < 18446744073709551615 →
    (nat_lt (min (v + 1) 18446744073709551615) v || ((min (v + 1) 18446744073709551615 == v) && b)) ≡ false
not_old v b h = ap (λ k. nat_lt k v || ((k == v) && b)) (next_is v h) ∙ (λ i. below i || (other i && b))
  where
    below : nat_lt (v + 1) v ≡ false
    below = grind arith

    other : (v + 1 == v) ≡ false
    other = grind arith
