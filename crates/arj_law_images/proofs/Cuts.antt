-- Calls whose places rise, cut behind one of them; and how many tops made those in front of a place.
use Rattle.arj_law_parts.proofs.Words
use Words.{◌≡◌, ◌⊎◌, ◌<◌, ◌≤◌, ◌+◌, ◌==◌, ◌&&◌, ◌||◌, ℕ, List, [], ◌∷◌, ◌++◌, filter, Bool, true, false, cond, nat_le, nat_lt, refl, sym, ◌∙◌}
use Words.{ap, inl, inr, arith, eqb-true, eq-eqb, AllByRecursion, list_all, list_any, nat_tests, In, in_filter}
use Rattle.arj_law.proofs.Common.{Pairwise}
use Rattle.arj_law_runs.proofs.journal.Books.{never}
use Rattle.arj_model.specs.{Calls.Call, Last.count_tops}

-- ---- lists

-- a filter by a test that is the same on what is there
pub filter_same : {A : Type 0} (p q : A → Bool) (xs : List A) → ((a : A) → In a xs → p a ≡ q a) → filter p xs ≡ filter q xs
filter_same p q [] same = refl
filter_same p q (x ∷ xs) same = (λ i. cond (same x (inl refl) i) (x ∷ filter p xs) (filter p xs))
    ∙ (λ i. cond (q x) (x ∷ filter_same p q xs (λ a j. same a (inr j)) i) (filter_same p q xs (λ a j. same a (inr j)) i))

-- two filters in either order
pub filter_swap : {A : Type 0} (p q : A → Bool) (xs : List A) → filter p (filter q xs) ≡ filter q (filter p xs)
filter_swap p q [] = refl
filter_swap p q (x ∷ xs) = by (p x) refl (q x) refl (filter_swap p q xs)
  where
    by : (a : Bool) → p x ≡ a → (b : Bool) → q x ≡ b → filter p (filter q xs) ≡ filter q (filter p xs) →
        filter p (cond b (x ∷ filter q xs) (filter q xs)) ≡ filter q (cond a (x ∷ filter p xs) (filter p xs))
    by true is true on ih = (λ i. cond (is i) (x ∷ filter p (filter q xs)) (filter p (filter q xs))) ∙ ap (λ ys. x ∷ ys) ih
        ∙ (λ i. cond (sym on i) (x ∷ filter q (filter p xs)) (filter q (filter p xs)))
    by true is false on ih = ih ∙ (λ i. cond (sym on i) (x ∷ filter q (filter p xs)) (filter q (filter p xs)))
    by false is true on ih = (λ i. cond (is i) (x ∷ filter p (filter q xs)) (filter p (filter q xs))) ∙ ih
    by false is false on ih = ih

pub all_of : {A : Type 0} (p : A → Bool) (xs : List A) → ((a : A) → In a xs → p a ≡ true) → list_all p xs ≡ true
all_of p [] each = refl
all_of p (x ∷ xs) each = λ i. each x (inl refl) i && all_of p xs (λ a j. each a (inr j)) i

-- ---- places

pub le_test : (m n : ℕ) → m ≤ n → nat_le m n ≡ true
le_test m n le = grind (arith, nat_tests, le)

pub lt_test : (m n : ℕ) → m < n → nat_lt m n ≡ true
lt_test m n less = grind (arith, nat_tests, less)

pub not_le : (m n : ℕ) → n < m → nat_le m n ≡ false
not_le m n less = grind (arith, nat_tests, less)

pub not_lt : (m n : ℕ) → n ≤ m → nat_lt m n ≡ false
not_lt m n le = grind (arith, nat_tests, le)

pub compare : (m n : ℕ) → (m < n) ⊎ ((m ≡ n) ⊎ (n < m))
compare m n = grind arith

-- calls of one place are one
pub one_at : (cs : List Call) → Pairwise (λ (a b : Call). a.at < b.at) cs → (c d : Call) → In c cs → In d cs → c.at ≡ d.at → c ≡ d
one_at [] rises c d i j same = absurd i
one_at (x ∷ xs) rises c d (inl a) (inl b) same = sym a ∙ b
one_at (x ∷ xs) rises c d (inl a) (inr j) same =
    let less = below xs rises.0 d j in let at = ap (λ (z : Call). z.at) a in absurd (omega (arith, less, at, same))
  where
    below : (ys : List Call) → AllByRecursion (λ (b : Call). x.at < b.at) ys → (e : Call) → In e ys → x.at < e.at
    below [] all e k = absurd k
    below (y ∷ ys) all e (inl is) = let at = ap (λ (z : Call). z.at) is in let l = all.0 in omega (arith, at, l)
    below (y ∷ ys) all e (inr k) = below ys all.1 e k
one_at (x ∷ xs) rises c d (inr i) (inl b) same =
    let less = below xs rises.0 c i in let at = ap (λ (z : Call). z.at) b in absurd (omega (arith, less, at, same))
  where
    below : (ys : List Call) → AllByRecursion (λ (b : Call). x.at < b.at) ys → (e : Call) → In e ys → x.at < e.at
    below [] all e k = absurd k
    below (y ∷ ys) all e (inl is) = let at = ap (λ (z : Call). z.at) is in let l = all.0 in omega (arith, at, l)
    below (y ∷ ys) all e (inr k) = below ys all.1 e k
one_at (x ∷ xs) rises c d (inr i) (inr j) same = one_at xs rises.1 c d i j same

-- what stands up to a call is what stands before it, and the call
pub cut_at : (cs : List Call) (c : Call) → Pairwise (λ (a b : Call). a.at < b.at) cs → In c cs →
    filter (λ (e : Call). nat_le e.at c.at) cs ≡ filter (λ (e : Call). nat_lt e.at c.at) cs ++ c ∷ []
cut_at [] c rises i = absurd i
cut_at (x ∷ xs) c rises (inl is) =
    (λ i. cond (le_test x.at c.at (itself x.at c.at (ap (λ (z : Call). z.at) is)) i) (x ∷ filter (λ (e : Call). nat_le e.at c.at) xs)
    (filter (λ (e : Call). nat_le e.at c.at) xs))
    ∙ (λ i. is i ∷ none_le xs rises.0 i)
    ∙ sym ((λ i. cond (not_lt x.at c.at (back x.at c.at (ap (λ (z : Call). z.at) is)) i) (x ∷ filter (λ (e : Call). nat_lt e.at c.at) xs)
    (filter (λ (e : Call). nat_lt e.at c.at) xs) ++ c ∷ []) ∙ ap (λ ys. ys ++ c ∷ []) (none_lt xs rises.0))
  where
    itself : (m n : ℕ) → m ≡ n → m ≤ n
    itself m n e = omega (arith, e)

    back : (m n : ℕ) → m ≡ n → n ≤ m
    back m n e = omega (arith, e)

    at : x.at ≡ c.at
    at = ap (λ (z : Call). z.at) is

    none_le : (ys : List Call) → AllByRecursion (λ (b : Call). x.at < b.at) ys → filter (λ (e : Call). nat_le e.at c.at) ys ≡ []
    none_le [] all = refl
    none_le (y ∷ ys) all = (λ i. cond (not_le y.at c.at (let l = all.0 in omega (arith, l, at)) i)
        (y ∷ filter (λ (e : Call). nat_le e.at c.at) ys) (filter (λ (e : Call). nat_le e.at c.at) ys)) ∙ none_le ys all.1

    none_lt : (ys : List Call) → AllByRecursion (λ (b : Call). x.at < b.at) ys → filter (λ (e : Call). nat_lt e.at c.at) ys ≡ []
    none_lt [] all = refl
    none_lt (y ∷ ys) all = (λ i. cond (not_lt y.at c.at (let l = all.0 in omega (arith, l, at)) i)
        (y ∷ filter (λ (e : Call). nat_lt e.at c.at) ys) (filter (λ (e : Call). nat_lt e.at c.at) ys)) ∙ none_lt ys all.1
cut_at (x ∷ xs) c rises (inr i) =
    (λ j. cond (le_test x.at c.at (weaker x.at c.at (below xs rises.0 i)) j) (x ∷ filter (λ (e : Call). nat_le e.at c.at) xs)
    (filter (λ (e : Call). nat_le e.at c.at) xs))
    ∙ ap (λ ys. x ∷ ys) (cut_at xs c rises.1 i)
    ∙ (λ j. cond (sym (lt_test x.at c.at (below xs rises.0 i)) j) (x ∷ filter (λ (e : Call). nat_lt e.at c.at) xs)
    (filter (λ (e : Call). nat_lt e.at c.at) xs) ++ c ∷ [])
  where
    weaker : (m n : ℕ) → m < n → m ≤ n
    weaker m n less = omega (arith, less)

    below : (ys : List Call) → AllByRecursion (λ (b : Call). x.at < b.at) ys → In c ys → x.at < c.at
    below [] all k = absurd k
    below (y ∷ ys) all (inl is) = let at = ap (λ (z : Call). z.at) is in let l = all.0 in omega (arith, at, l)
    below (y ∷ ys) all (inr k) = below ys all.1 k

-- ---- how many tops

off : (m n : ℕ) → (m ≡ n → ⊥) → (m == n) ≡ false
off m n other = by (m == n) refl
  where
    by : (b : Bool) → (m == n) ≡ b → b ≡ false
    by true is = absurd (other (eqb-true m n is))
    by false is = refl

some_of : (k : ℕ) (cs : List Call) → list_any (λ (d : Call). d.top == k) cs ≡ true → (d : Call) × In d cs × (d.top ≡ k)
some_of k [] is = absurd (cc is)
some_of k (c ∷ cs) is = by (c.top == k) refl is (some_of k cs)
  where
    by : (b : Bool) → (c.top == k) ≡ b → (b || list_any (λ (d : Call). d.top == k) cs) ≡ true →
        (list_any (λ (d : Call). d.top == k) cs ≡ true → (d : Call) × In d cs × (d.top ≡ k)) → (d : Call) × In d (c ∷ cs) × (d.top ≡ k)
    by true here any ih = (c, inl refl, eqb-true c.top k here)
    by false here any ih = let r = ih any in (r.0, inr r.1, r.2)

is_some_of : (k : ℕ) (cs : List Call) (d : Call) → In d cs → d.top ≡ k → list_any (λ (e : Call). e.top == k) cs ≡ true
is_some_of k [] d i same = absurd i
is_some_of k (c ∷ cs) d (inl is) same =
    ap (λ b. b || list_any (λ (e : Call). e.top == k) cs) (eq-eqb c.top k (ap (λ (z : Call). z.top) is ∙ same))
is_some_of k (c ∷ cs) d (inr i) same = by (c.top == k) (is_some_of k cs d i same)
  where
    by : (b : Bool) → list_any (λ (e : Call). e.top == k) cs ≡ true → (b || list_any (λ (e : Call). e.top == k) cs) ≡ true
    by true ih = refl
    by false ih = ih

pub into : {A : Type 0} (p : A → Bool) (x : A) (xs : List A) → In x xs → p x ≡ true → In x (filter p xs)
into p x [] i is = absurd i
into {A} p x (y ∷ ys) (inl same) is = by (p y) (ap p same ∙ is)
  where
    by : (b : Bool) → b ≡ true → In x (cond b (y ∷ filter p ys) (filter p ys))
    by true on = inl same
    by false on = absurd (cc on)
into {A} p x (y ∷ ys) (inr i) is = by (p y) (into p x ys i is)
  where
    by : (b : Bool) → In x (filter p ys) → In x (cond b (y ∷ filter p ys) (filter p ys))
    by true j = inr j
    by false j = j

-- Calls that a wider test takes in are of one top more: those of this top, of which there is one.
module _ (k : ℕ) (p q : Call → Bool) where
  -- on these calls the wider test is the other, or takes those of the top
  abbrev Widens : List Call → Type 0
  Widens cs = (c : Call) → In c cs → ((c.top ≡ k → ⊥) → q c ≡ p c) × (c.top ≡ k → (q c ≡ true) × (p c ≡ false))

  same_any : (m : ℕ) → (m ≡ k → ⊥) → (cs : List Call) → Widens cs →
      list_any (λ (d : Call). d.top == m) (filter q cs) ≡ list_any (λ (d : Call). d.top == m) (filter p cs)
  same_any m other [] wide = refl
  same_any m other (c ∷ cs) wide = by (c.top == m) refl (same_any m other cs (λ d i. wide d (inr i)))
    where
      its : ((c.top ≡ k → ⊥) → q c ≡ p c) × (c.top ≡ k → (q c ≡ true) × (p c ≡ false))
      its = wide c (inl refl)

      skip : (b : Bool) → (c.top == m) ≡ false → list_any (λ (d : Call). d.top == m) (cond b (c ∷ filter q cs) (filter q cs))
          ≡ list_any (λ (d : Call). d.top == m) (filter q cs)
      skip true off_top = ap (λ t. t || list_any (λ (d : Call). d.top == m) (filter q cs)) off_top
      skip false off_top = refl

      skip_too : (b : Bool) → (c.top == m) ≡ false → list_any (λ (d : Call). d.top == m) (cond b (c ∷ filter p cs) (filter p cs))
          ≡ list_any (λ (d : Call). d.top == m) (filter p cs)
      skip_too true off_top = ap (λ t. t || list_any (λ (d : Call). d.top == m) (filter p cs)) off_top
      skip_too false off_top = refl

      by : (b : Bool) → (c.top == m) ≡ b → list_any (λ (d : Call). d.top == m) (filter q cs)
          ≡ list_any (λ (d : Call). d.top == m) (filter p cs) →
          list_any (λ (d : Call). d.top == m) (cond (q c) (c ∷ filter q cs) (filter q cs))
          ≡ list_any (λ (d : Call). d.top == m) (cond (p c) (c ∷ filter p cs) (filter p cs))
      by true on ih =
          let same : q c ≡ p c = its.0 (λ is. other (sym (eqb-true c.top m on) ∙ is)) in
          (λ i. list_any (λ (d : Call). d.top == m) (cond (same i) (c ∷ filter q cs) (filter q cs))) ∙ both (p c)
        where
          both : (b : Bool) → list_any (λ (d : Call). d.top == m) (cond b (c ∷ filter q cs) (filter q cs))
              ≡ list_any (λ (d : Call). d.top == m) (cond b (c ∷ filter p cs) (filter p cs))
          both true = ap (λ t. (c.top == m) || t) ih
          both false = ih
      by false off_top ih = skip (q c) off_top ∙ ih ∙ sym (skip_too (p c) off_top)

  pub one_more : (cs : List Call) → Widens cs → (c : Call) → In c cs → c.top ≡ k → count_tops (filter q cs) ≡ count_tops (filter p cs) + 1
  one_more [] wide c i is = absurd i
  one_more (d ∷ cs) wide c i is = by (d.top == k) refl (λ e j at. one_more cs (λ f l. wide f (inr l)) e j at)
    where
      Later : Type 0
      Later = (e : Call) → In e cs → e.top ≡ k → count_tops (filter q cs) ≡ count_tops (filter p cs) + 1

      rest : Widens cs
      rest e j = wide e (inr j)

      its : ((d.top ≡ k → ⊥) → q d ≡ p d) × (d.top ≡ k → (q d ≡ true) × (p d ≡ false))
      its = wide d (inl refl)

      -- no call of the top is left
      same : list_any (λ (e : Call). e.top == k) (filter q cs) ≡ false → filter q cs ≡ filter p cs
      same none = filter_same q p cs (λ e j. (rest e j).0 (λ at. never (is_some_of k (filter q cs) e
          (into q e cs j ((rest e j).1 at).0) at) none))

      counted : Later → (b : Bool) → list_any (λ (e : Call). e.top == k) (filter q cs) ≡ b →
          cond b (count_tops (filter q cs)) (count_tops (filter q cs) + 1) ≡ count_tops (filter p cs) + 1
      counted ih true any = let s = some_of k (filter q cs) any in let f = in_filter q s.0 cs s.1 in ih s.0 f.0 s.2
      counted ih false none = ap (λ zs. count_tops zs + 1) (same none)

      there : (d.top == k) ≡ false → In c cs
      there off_top = at i
        where
          at : In c (d ∷ cs) → In c cs
          at (inl here) = never (eq-eqb d.top k (ap (λ (z : Call). z.top) here ∙ is)) off_top
          at (inr j) = j

      taken : Later → (b : Bool) → (d.top ≡ k → ⊥) → In c cs → count_tops (cond b (d ∷ filter q cs) (filter q cs))
          ≡ count_tops (cond b (d ∷ filter p cs) (filter p cs)) + 1
      taken ih true other j = (λ i. cond (same_any d.top other cs rest i) (count_tops (filter q cs)) (count_tops (filter q cs) + 1))
          ∙ each (list_any (λ (e : Call). e.top == d.top) (filter p cs)) (ih c j is)
        where
          each : (b : Bool) → count_tops (filter q cs) ≡ count_tops (filter p cs) + 1 →
              cond b (count_tops (filter q cs)) (count_tops (filter q cs) + 1)
              ≡ cond b (count_tops (filter p cs)) (count_tops (filter p cs) + 1) + 1
          each true ih = ih
          each false ih = ap (λ n. n + 1) ih
      taken ih false other j = ih c j is

      by : (b : Bool) → (d.top == k) ≡ b → Later → count_tops (filter q (d ∷ cs)) ≡ count_tops (filter p (d ∷ cs)) + 1
      by true on ih =
          let at = eqb-true d.top k on in
          let both = its.1 at in
          (λ i. count_tops (cond (both.0 i) (d ∷ filter q cs) (filter q cs)))
          ∙ (λ i. cond (list_any (λ (e : Call). e.top == at i) (filter q cs)) (count_tops (filter q cs)) (count_tops (filter q cs) + 1))
          ∙ counted ih (list_any (λ (e : Call). e.top == k) (filter q cs)) refl
          ∙ (λ i. count_tops (cond (sym both.1 i) (d ∷ filter p cs) (filter p cs)) + 1)
      by false off_top ih =
          let other : d.top ≡ k → ⊥ = λ at. never (eq-eqb d.top k at) off_top in
          (λ i. count_tops (cond (its.0 other i) (d ∷ filter q cs) (filter q cs))) ∙ taken ih (p d) other (there off_top)
