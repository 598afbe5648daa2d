-- Which stores a Confirm includes, by the plan of its commit.
use Rattle.arj_law_parts.proofs.Words
use Words.{◌≡◌, ◌⊎◌, ◌∙◌, ◌==◌, ◌&&◌, ◌++◌, not, ℕ, Bool, true, false, cond, List, [], ◌∷◌, map, filter, flat_map, Option, Some, None}
use Words.{refl, sym}
use Words.{ap, subst, inl, inr, ⊎_elim, and_parts, eq-eqb, eqb-true, list_any, In, in_find, is_listed, marked, Plan, Used, included_of}
use Words.{is_marked}
use Words.{joins_left, has, changed_of, stand_once}
use Rattle.arj_law_disk_view.proofs.Terms.{never, or_cases, or_left, or_right, plan_at, plan_by, used_at}
use Rattle.arj_law_disk_view.proofs.view.ConfirmSteps.{marked_is}

-- ---- an object is used once

abbrev numbers : List Used → List ℕ
numbers us = map (λ (g : ℕ × ℕ). g.0) (map {A = Used} {B = ℕ × ℕ} (λ u. (u.x, u.grant)) us)

has_number : (u : Used) (us : List Used) → In u us → has (numbers us) u.x ≡ true
has_number u [] i = absurd i
has_number u (v ∷ vs) (inl same) = or_left (v.x == u.x) (has (numbers vs) u.x) (ap (λ (w : Used). v.x == w.x) (sym same) ∙ itself v.x)
  where
    itself : (n : ℕ) → (n == n) ≡ true
    itself n = eq-eqb n n refl
has_number u (v ∷ vs) (inr more) = or_right (v.x == u.x) (has (numbers vs) u.x) (has_number u vs more)

-- who is used is what is found of its object
once_found : (us : List Used) → stand_once (numbers us) ≡ true → (u : Used) → In u us → used_at u.x us ≡ Some u
once_found [] once u i = absurd i
once_found (v ∷ vs) once u i = by i (and_parts (not (has (numbers vs) v.x)) (stand_once (numbers vs)) once)
    (λ more rest. once_found vs rest u more)
  where
    off : (b : Bool) → not b ≡ true → b ≡ false
    off true is = absurd (cc is)
    off false is = refl

    by : (v ≡ u) ⊎ In u vs → (not (has (numbers vs) v.x) ≡ true) × (stand_once (numbers vs) ≡ true) →
        (In u vs → stand_once (numbers vs) ≡ true → used_at u.x vs ≡ Some u) →
        cond (v.x == u.x) (Some v) (used_at u.x vs) ≡ Some u
    by (inl same) p ih = (λ i. cond ((ap (λ (w : Used). v.x == w.x) (sym same) ∙ eq-eqb v.x v.x refl) i) (Some v) (used_at u.x vs))
        ∙ ap Some same
    by (inr more) p ih = one (v.x == u.x) refl
      where
        one : (b : Bool) → (v.x == u.x) ≡ b → cond b (Some v) (used_at u.x vs) ≡ Some u
        one true is = absurd (never (ap (has (numbers vs)) (eqb-true v.x u.x is) ∙ has_number u vs more) (off (has (numbers vs) v.x) p.0))
        one false is = ih more p.1

any_split : {A : Type 0} (f : A → Bool) (xs ys : List A) → list_any f (xs ++ ys) ≡ true → (list_any f xs ≡ true) ⊎ (list_any f ys ≡ true)
any_split f [] ys is = inr is
any_split f (x ∷ xs) ys is = ⊎_elim (λ here. inl (or_left (f x) (list_any f xs) here))
    (λ more. ⊎_elim (λ one. inl (or_right (f x) (list_any f xs) one)) (λ two. inr two) (any_split f xs ys more))
    (or_cases (f x) (list_any f (xs ++ ys)) is)

any_first : {A : Type 0} (f : A → Bool) (xs ys : List A) → list_any f xs ≡ true → list_any f (xs ++ ys) ≡ true
any_first f [] ys is = absurd (cc is)
any_first f (x ∷ xs) ys is = ⊎_elim (λ here. or_left (f x) (list_any f (xs ++ ys)) here)
    (λ more. or_right (f x) (list_any f (xs ++ ys)) (any_first f xs ys more)) (or_cases (f x) (list_any f xs) is)

any_last : {A : Type 0} (f : A → Bool) (xs ys : List A) → list_any f ys ≡ true → list_any f (xs ++ ys) ≡ true
any_last f [] ys is = is
any_last f (x ∷ xs) ys is = or_right (f x) (list_any f (xs ++ ys)) (any_last f xs ys is)

module _ (p : Plan) (y s : ℕ) where
  abbrev test : ℕ × ℕ → Bool
  test m = (m.0 == y) && (m.1 == s)

  abbrev left_of : ℕ → List ℕ → List (ℕ × ℕ)
  left_of x js = map {A = ℕ} {B = ℕ × ℕ} (λ r. (x, r)) (filter (λ r. not (is_marked x r p)) js)

  from_used : (x : ℕ) (js : List ℕ) → list_any test (left_of x js) ≡ true → (x ≡ y) × (has js s ≡ true) × (is_marked y s p ≡ false)
  from_used x [] is = absurd (cc is)
  from_used x (j ∷ js) is = by (is_marked x j p) refl is (λ more. from_used x js more)
    where
      by : (b : Bool) → is_marked x j p ≡ b →
          list_any test (map {A = ℕ} {B = ℕ × ℕ} (λ r. (x, r)) (cond (not b) (j ∷ filter (λ r. not (is_marked x r p)) js)
          (filter (λ r. not (is_marked x r p)) js))) ≡ true →
          (list_any test (left_of x js) ≡ true → (x ≡ y) × (has js s ≡ true) × (is_marked y s p ≡ false)) →
          (x ≡ y) × (has (j ∷ js) s ≡ true) × (is_marked y s p ≡ false)
      by true e h ih = let z = ih h in (z.0, or_right (j == s) (has js s) z.1, z.2)
      by false e h ih = ⊎_elim
          (λ here. let q = and_parts (x == y) (j == s) here in
          let one = eqb-true x y q.0 in let two = eqb-true j s q.1 in
          (one, or_left (j == s) (has js s) q.1, (λ i. is_marked (sym one i) (sym two i) p) ∙ e))
          (λ more. let z = ih more in (z.0, or_right (j == s) (has js s) z.1, z.2))
          (or_cases ((x == y) && (j == s)) (list_any test (left_of x js)) h)

  to_used : (x : ℕ) (js : List ℕ) → x ≡ y → has js s ≡ true → is_marked y s p ≡ false → list_any test (left_of x js) ≡ true
  to_used x [] same on off = absurd (cc on)
  to_used x (j ∷ js) same on off = by (is_marked x j p) refl (or_cases (j == s) (has js s) on) (λ more. to_used x js same more off)
    where
      by : (b : Bool) → is_marked x j p ≡ b → ((j == s) ≡ true) ⊎ (has js s ≡ true) → (has js s ≡ true →
          list_any test (left_of x js) ≡ true) →
          list_any test (map {A = ℕ} {B = ℕ × ℕ} (λ r. (x, r)) (cond (not b) (j ∷ filter (λ r. not (is_marked x r p)) js)
          (filter (λ r. not (is_marked x r p)) js))) ≡ true
      by true e (inl here) ih = absurd (never e ((λ i. is_marked (same i) (eqb-true j s here i) p) ∙ off))
      by true e (inr more) ih = ih more
      by false e (inl here) ih = or_left ((x == y) && (j == s)) (list_any test (left_of x js)) (λ i. eq-eqb x y same i && here i)
      by false e (inr more) ih = or_right ((x == y) && (j == s)) (list_any test (left_of x js)) (ih more)

  from_all : (us : List Used) → list_any test (flat_map (joins_left p) us) ≡ true →
      (u : Used) × In u us × (u.x ≡ y) × (has u.joins s ≡ true) × (is_marked y s p ≡ false)
  from_all [] is = absurd (cc is)
  from_all (u ∷ us) is = ⊎_elim (λ here. let z = from_used u.x u.joins here in (u, inl refl, z.0, z.1, z.2))
      (λ more. let z = from_all us more in (z.0, inr z.1, z.2, z.3, z.4)) (any_split test (joins_left p u) (flat_map (joins_left p) us) is)

  to_all : (us : List Used) (u : Used) → In u us → u.x ≡ y → has u.joins s ≡ true → is_marked y s p ≡ false →
      list_any test (flat_map (joins_left p) us) ≡ true
  to_all [] u i same on off = absurd i
  to_all (v ∷ vs) u (inl is) same on off = any_first test (joins_left p v) (flat_map (joins_left p) vs)
      (subst (λ (w : Used). list_any test (joins_left p w) ≡ true) (sym is) (to_used u.x u.joins same on off))
  to_all (v ∷ vs) u (inr more) same on off = any_last test (joins_left p v) (flat_map (joins_left p) vs) (to_all vs u more same on off)

  -- what is included of an object is a join that isn't marked, of one that is used
  pub included_join : stand_once (numbers p.used) ≡ true → is_listed s (marked y (included_of p)) ≡ true →
      (u : Used) × In u p.used × (u.x ≡ y) × (has (let q = plan_at y p in q.joins) s ≡ true) × (is_marked y s p ≡ false)
  included_join once on =
      let z = from_all p.used (sym (marked_is y s (included_of p)) ∙ on) in
      let found : used_at y p.used ≡ Some z.0 = ap (λ x. used_at x p.used) (sym z.2) ∙ once_found p.used once z.0 z.1 in
      (z.0, z.1, z.2, ap (λ o. has (let q = plan_by o (changed_of y p) in q.joins) s) found ∙ z.3, z.4)

  -- where none is included each join is marked
  pub none_left : marked y (included_of p) ≡ [] → has (let q = plan_at y p in q.joins) s ≡ true → is_marked y s p ≡ true
  none_left none on = by (is_marked y s p) refl
    where
      used : (o : Option Used) → used_at y p.used ≡ o → has (let q = plan_by o (changed_of y p) in q.joins) s ≡ true →
          is_marked y s p ≡ false → ⊥
      used None found has_it off = cc has_it
      used (Some u) found has_it off =
          let f = in_find (λ (w : Used). w.x == y) u p.used found in
          let no_way : is_listed s [] ≡ true = ap (is_listed s) (sym none) ∙ marked_is y s (included_of p)
          ∙ to_all p.used u f.0 (eqb-true u.x y f.1) has_it off in cc no_way

      by : (b : Bool) → is_marked y s p ≡ b → is_marked y s p ≡ true
      by true is = is
      by false is = absurd (used (used_at y p.used) refl on is)
