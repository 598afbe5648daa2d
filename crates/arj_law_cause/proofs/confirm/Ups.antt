-- A journal of which each restart gives a greater incarnation: behind more lines none is lower. And of two beginnings of a list one begins
-- the other.
use Rattle.arj_law_parts.proofs.Words
use Words.{◌≡◌, ◌⊎◌, ◌≤◌, ◌<◌, ◌∙◌, ◌==◌, ◌++◌, ℕ, Bool, true, false, if◌then◌else◌, List, [], ◌∷◌, refl, sym, ap, subst, inl, inr, arith}
use Words.{append-nil, append_assoc, eqb-true, Body, Line, Start}
use Words.body
use Rattle.arj_model.specs.Refusals.{inc_step, incarnation}
use Rattle.arj_law_cause.proofs.bindings.Lines.{inc_with}

-- each restart gives a greater incarnation than the node had
abbrev pub UpsRise : Start → List Line → Type 0
UpsRise st ls = (pre : List Line) (e n i : ℕ) (post : List Line) → ls ≡ pre ++ record { event = e; body = body.Up n i } ∷ post →
    incarnation st pre n < i

pub rise_before : (st : Start) (xs ys : List Line) → UpsRise st (xs ++ ys) → UpsRise st xs
rise_before st xs ys up pre e n i post are = up pre e n i (post ++ ys) ((λ j. are j ++ ys)
    ∙ append_assoc pre (record { event = e; body = body.Up n i } ∷ post) ys)

low : (m : ℕ) → m ≤ m
low m = omega arith

far : (k m n : ℕ) → k ≤ m → m ≤ n → k ≤ n
far k m n a b = omega (arith, a, b)

module _ (st : Start) (n : ℕ) where
  one : (pre : List Line) (e : ℕ) (b : Body) (post : List Line) → UpsRise st (pre ++ record { event = e; body = b } ∷ post) →
      incarnation st pre n ≤ inc_step n b (incarnation st pre n)
  one pre e (body.Up m i) post up = by (m == n) refl
    where
      less : (k : ℕ) → k < i → k ≤ i
      less k is = omega (arith, is)

      by : (b : Bool) → (m == n) ≡ b → incarnation st pre n ≤ (if b then i else incarnation st pre n)
      by true same = less (incarnation st pre n) (subst (λ j. incarnation st pre j < i) (eqb-true m n same) (up pre e m i post refl))
      by false other = low (incarnation st pre n)
  one pre e b post up = low (incarnation st pre n)

  pub rise : (before mid : List Line) → UpsRise st (before ++ mid) → incarnation st before n ≤ incarnation st (before ++ mid) n
  rise before [] up = subst (λ ls. incarnation st before n ≤ incarnation st ls n) (sym (append-nil before)) (low (incarnation st before n))
  rise before (l ∷ mid) up = far (incarnation st before n) (incarnation st (before ++ l ∷ []) n) (incarnation st (before ++ l ∷ mid) n)
      (subst (λ m. incarnation st before n ≤ m) (sym (inc_with st n l.event before l.body)) (one before l.event l.body mid up))
      (subst (λ ls. incarnation st (before ++ l ∷ []) n ≤ incarnation st ls n) (append_assoc before (l ∷ []) mid)
      (rise (before ++ l ∷ []) mid (subst (UpsRise st) (sym (append_assoc before (l ∷ []) mid)) up)))

-- ---- two beginnings

abbrev rest_of : List Line → List Line
rest_of [] = []
rest_of (l ∷ ls) = ls

abbrev first_or : Line → List Line → Line
first_or l [] = l
first_or l (m ∷ ls) = m

pub begins_other : (xs ys zs ws : List Line) → xs ++ ys ≡ zs ++ ws →
    ((m : List Line) × (zs ≡ xs ++ m)) ⊎ ((m : List Line) × (xs ≡ zs ++ m))
begins_other [] ys zs ws is = inl (zs, refl)
begins_other (x ∷ xs) ys [] ws is = inr (x ∷ xs, refl)
begins_other (x ∷ xs) ys (z ∷ zs) ws is = by (begins_other xs ys zs ws (ap rest_of is))
  where
    head : x ≡ z
    head = ap (first_or x) is

    by : ((m : List Line) × (zs ≡ xs ++ m)) ⊎ ((m : List Line) × (xs ≡ zs ++ m)) →
        ((m : List Line) × (z ∷ zs ≡ (x ∷ xs) ++ m)) ⊎ ((m : List Line) × (x ∷ xs ≡ (z ∷ zs) ++ m))
    by (inl r) = inl (r.0, λ i. sym head i ∷ r.1 i)
    by (inr r) = inr (r.0, λ i. head i ∷ r.1 i)
