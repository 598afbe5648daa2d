-- Marks: which stores a commit excludes of an object.
use Rattle.arj_law_parts.proofs.Words
use Words.{◌≡◌, ◌⊎◌, ℕ, ◌==◌, ◌&&◌, ◌||◌, not, List, [], ◌∷◌, Bool, true, false, refl, sym, ◌∙◌, ap, inl, inr, ⊎_elim, map, nat_lt}
use Words.{if◌then◌else◌, list_any, Uid, ObjectState, object, states_for, is_marked, with_mark, with_marks, marks_at, marks_store}
use Words.{without_number}
use Words.commit
use Words.order
use Rattle.arj_law_disk_view.proofs.Terms.{target, test_is, test_same, never, falls_to, Among, IsOf, IsTidy, plan_at}
use Rattle.arj_law_disk_view.proofs.view.Planned.{sent_there, sent_named}

or_swap : (a b c : Bool) → (a || (b || c)) ≡ (b || (a || c))
or_swap true true c = refl
or_swap true false c = refl
or_swap false true c = refl
or_swap false false c = refl

or_step : (a b c : Bool) → ((a || b) || c) ≡ (b || (a || c))
or_step true true c = refl
or_step true false c = refl
or_step false true c = refl
or_step false false c = refl

-- one more mark
any_mark : (f : ℕ × ℕ → Bool) (m : ℕ × ℕ) (ks : List (ℕ × ℕ)) → list_any f (with_mark m ks) ≡ (f m || list_any f ks)
any_mark f m [] = refl
any_mark f m (k ∷ ks) = by (nat_lt k.0 m.0 || ((k.0 == m.0) && nat_lt k.1 m.1)) (any_mark f m ks)
  where
    by : (b : Bool) → list_any f (with_mark m ks) ≡ (f m || list_any f ks) →
        list_any f (if b then k ∷ with_mark m ks else m ∷ k ∷ ks) ≡ (f m || (f k || list_any f ks))
    by true ih = ap (λ c. f k || c) ih ∙ or_swap (f k) (f m) (list_any f ks)
    by false ih = refl

any_marks : (f : ℕ × ℕ → Bool) (ms all : List (ℕ × ℕ)) → list_any f (with_marks ms all) ≡ (list_any f ms || list_any f all)
any_marks f [] all = refl
any_marks f (m ∷ ms) all = any_marks f ms (with_mark m all) ∙ ap (λ c. list_any f ms || c) (any_mark f m all)
    ∙ sym (or_step (f m) (list_any f ms) (list_any f all))

-- the marks of a store, at one object and one store
any_at : (x s r : ℕ) (states : List ObjectState) → list_any (λ (m : ℕ × ℕ). (m.0 == x) && (m.1 == r)) (map {A = ObjectState} {B = ℕ × ℕ}
    (λ st. (st.uid.num, s)) states) ≡ (list_any (λ (st : ObjectState). st.uid.num == x) states && (s == r))
any_at x s r [] = refl
any_at x s r (t ∷ ts) = ap (λ c. ((t.uid.num == x) && (s == r)) || c) (any_at x s r ts)
    ∙ spread (t.uid.num == x) (list_any (λ (st : ObjectState). st.uid.num == x) ts) (s == r)
  where
    spread : (a b c : Bool) → ((a && c) || (b && c)) ≡ ((a || b) && c)
    spread true true true = refl
    spread true true false = refl
    spread true false true = refl
    spread true false false = refl
    spread false true true = refl
    spread false true false = refl
    spread false false true = refl
    spread false false false = refl

any_of : (x : ℕ) (states : List ObjectState) (st : ObjectState) → IsOf (object x) states st →
    list_any (λ (q : ObjectState). q.uid.num == x) states ≡ true
any_of x [] st of = absurd of.0
any_of x (t ∷ ts) st of =
    ⊎_elim (λ same. ap (λ b. b || list_any (λ (q : ObjectState). q.uid.num == x) ts) (ap (λ (q : ObjectState). q.uid.num == x) same
    ∙ ap (λ (u : Uid). u.num == x) of.1 ∙ test_same x)) (λ more. by (t.uid.num == x) (any_of x ts st (more, of.1))) of.0
  where
    by : (b : Bool) → list_any (λ (q : ObjectState). q.uid.num == x) ts ≡ true →
        (b || list_any (λ (q : ObjectState). q.uid.num == x) ts) ≡ true
    by true h = refl
    by false h = h

one_of : (x : ℕ) (states : List ObjectState) → list_any (λ (q : ObjectState). q.uid.num == x) states ≡ true →
    (st : ObjectState) × Among st states × (st.uid.num ≡ x)
one_of x [] on = absurd (cc on)
one_of x (t ∷ ts) on = by (t.uid.num == x) refl on (one_of x ts)
  where
    by : (b : Bool) → (t.uid.num == x) ≡ b → (b || list_any (λ (q : ObjectState). q.uid.num == x) ts) ≡ true →
        (list_any (λ (q : ObjectState). q.uid.num == x) ts ≡ true → (st : ObjectState) × Among st ts × (st.uid.num ≡ x)) →
        (st : ObjectState) × Among st (t ∷ ts) × (st.uid.num ≡ x)
    by true e on ih = (t, inl refl, test_is t.uid.num x e)
    by false e on ih = let r = ih on in (r.0, inr r.1, r.2)

module _ (x : ℕ) (p : commit.Plan) (tidy : IsTidy p) where
  -- a state of the object goes to a store exactly where that is a target
  sends_to : (s : ℕ) → list_any (λ (q : ObjectState). q.uid.num == x) (states_for s p) ≡ target (plan_at x p) s
  sends_to s = by (target (plan_at x p) s) refl
    where
      by : (b : Bool) → target (plan_at x p) s ≡ b → list_any (λ (q : ObjectState). q.uid.num == x) (states_for s p) ≡ b
      by true on = let f = sent_there x s p tidy on in any_of x (states_for s p) f.0 f.1
      by false off = falls_to (list_any (λ (q : ObjectState). q.uid.num == x) (states_for s p))
          (λ on. let f = one_of x (states_for s p) on in never (sent_named x s p tidy f.0 f.1 f.2) off)

  pub marks_one : (s r : ℕ) → is_marked x r (marks_store s p) ≡ ((target (plan_at x p) s && (s == r)) || is_marked x r p)
  marks_one s r = any_marks (λ (m : ℕ × ℕ). (m.0 == x) && (m.1 == r)) (marks_at s p) p.excluded
      ∙ ap (λ c. c || is_marked x r p) (any_at x s r (states_for s p) ∙ ap (λ c. c && (s == r)) (sends_to s))

-- ---- sets of numbers

pub has_without : (n m : ℕ) (ns : List ℕ) → order.has (without_number n ns) m ≡ (order.has ns m && not (m == n))
has_without n m [] = refl
has_without n m (k ∷ ks) = by (k == n) refl (has_without n m ks)
  where
    shown : (a b : Bool) → (k == m) ≡ a → (m == n) ≡ b → (k == n) ≡ b ⊎ (a ≡ false)
    shown true b e f = inl (ap (λ j. j == n) (test_is k m e) ∙ f)
    shown false b e f = inr refl

    keeps : (a b c : Bool) → (b ≡ false) ⊎ (a ≡ false) → (a || (c && not b)) ≡ ((a || c) && not b)
    keeps true true c (inl h) = absurd (cc h)
    keeps true true c (inr h) = absurd (cc h)
    keeps true false true h = refl
    keeps true false false h = refl
    keeps false true true h = refl
    keeps false true false h = refl
    keeps false false true h = refl
    keeps false false false h = refl

    drops : (a b c : Bool) → (b ≡ true) ⊎ (a ≡ false) → (c && not b) ≡ ((a || c) && not b)
    drops true true true h = refl
    drops true true false h = refl
    drops true false c (inl h) = absurd (cc h)
    drops true false c (inr h) = absurd (cc h)
    drops false true true h = refl
    drops false true false h = refl
    drops false false true h = refl
    drops false false false h = refl

    by : (b : Bool) → (k == n) ≡ b → order.has (without_number n ks) m ≡ (order.has ks m && not (m == n)) →
        order.has (if not b then k ∷ without_number n ks else without_number n ks) m ≡ (((k == m) || order.has ks m) && not (m == n))
    by true e ih =
        ih ∙ drops (k == m) (m == n) (order.has ks m) (⊎_elim (λ h. inl (sym h ∙ e)) (λ h. inr h) (shown (k == m) (m == n) refl refl))
    by false e ih = ap (λ c. (k == m) || c) ih
        ∙ keeps (k == m) (m == n) (order.has ks m) (⊎_elim (λ h. inl (sym h ∙ e)) (λ h. inr h) (shown (k == m) (m == n) refl refl))
