-- What is read of a journal with one line more.
use Rattle.arj_law_parts.proofs.Words
use Words.{◌≡◌, ℕ, ◌+◌, List, [], ◌∷◌, ◌++◌, length, Bool, true, false, ◌||◌, Option, Some, None, refl, sym, ◌∙◌, ap, subst, inl, inr}
use Words.{⊎_elim, ◌⊎◌, arith, append-nil, list_any, Body, Line, In}
use Rattle.arj_law_lock_view.proofs.Terms.{Placed, acts, acts_after, put, read}
use Rattle.arj_model.proofs.Read.{acts-append, read-append}
use Rattle.arj_model.specs.Actions.{Act}

-- the journal with one more line
abbrev pub more : List Line → ℕ → Body → List Line
more lines event b = lines ++ record { event = event; body = b } ∷ []

pub acts_more : (lines : List Line) (event : ℕ) (b : Body) → acts (more lines event b) ≡ acts_after (acts lines) b
acts_more lines event b = acts-append [] lines (record { event = event; body = b })

pub length_more : {A : Type 0} (xs : List A) (x : A) → length (xs ++ x ∷ []) ≡ length xs + 1
length_more [] x = refl
length_more (y ∷ xs) x = let ih = length_more xs x in omega (arith, ih)

-- ---- lists

pub in_left : {A : Type 0} (a : A) (xs ys : List A) → In a xs → In a (xs ++ ys)
in_left a [] ys none = absurd none
in_left a (x ∷ xs) ys (inl is) = inl is
in_left a (x ∷ xs) ys (inr i) = inr (in_left a xs ys i)

pub in_right : {A : Type 0} (a : A) (xs ys : List A) → In a ys → In a (xs ++ ys)
in_right a [] ys i = i
in_right a (x ∷ xs) ys i = inr (in_right a xs ys i)

pub in_either : {A : Type 0} (a : A) (xs ys : List A) → In a (xs ++ ys) → In a xs ⊎ In a ys
in_either a [] ys i = inr i
in_either a (x ∷ xs) ys (inl is) = inl (inl is)
in_either a (x ∷ xs) ys (inr i) = ⊎_elim (λ l. inl (inr l)) (λ r. inr r) (in_either a xs ys i)

any_step : {A : Type 0} (p : A → Bool) (x : A) (xs : List A) → (list_any p xs ≡ true → (a : A) × In a xs × (p a ≡ true)) → (b : Bool) →
    p x ≡ b → (b || list_any p xs) ≡ true → (a : A) × In a (x ∷ xs) × (p a ≡ true)
any_step p x xs ih true is h = (x, inl refl, is)
any_step p x xs ih false is h = let r = ih h in (r.0, inr r.1, r.2)

pub any_to : {A : Type 0} (p : A → Bool) (xs : List A) → list_any p xs ≡ true → (a : A) × In a xs × (p a ≡ true)
any_to p [] h = absurd (cc h)
any_to p (x ∷ xs) h = any_step p x xs (any_to p xs) (p x) refl h

or_second : (b c : Bool) → c ≡ true → (b || c) ≡ true
or_second true c is = refl
or_second false c is = is

pub any_from : {A : Type 0} (p : A → Bool) (xs : List A) (a : A) → In a xs → p a ≡ true → list_any p xs ≡ true
any_from p [] a i h = absurd i
any_from p (x ∷ xs) a (inl is) h = ap (λ (b : Bool). b || list_any p xs) (ap p is ∙ h)
any_from p (x ∷ xs) a (inr i) h = or_second (p x) (list_any p xs) (any_from p xs a i h)

-- ---- what is read

module _ {A : Type 0} (f : List Act → Body → Option A) (lines : List Line) (event : ℕ) (b : Body) where
  -- what comes of the line
  abbrev now : Option A
  now = f (acts lines) b

  read_more : read f [] 0 (more lines event b) ≡ read f [] 0 lines ++ put (length lines) now []
  read_more = read-append f [] 0 lines (record { event = event; body = b })
      ∙ ap (λ (n : ℕ). read f [] 0 lines ++ put n now []) (let e : 0 + length lines ≡ length lines = omega arith in e)

  pub read_none : now ≡ None → read f [] 0 (more lines event b) ≡ read f [] 0 lines
  read_none is = read_more ∙ ap (λ (o : Option A). read f [] 0 lines ++ put (length lines) o []) is ∙ append-nil (read f [] 0 lines)

  pub read_some : (a : A) → now ≡ Some a → read f [] 0 (more lines event b) ≡ read f [] 0 lines ++ record { at = length lines; it = a } ∷ []
  read_some a is = read_more ∙ ap (λ (o : Option A). read f [] 0 lines ++ put (length lines) o []) is

  pub in_old : (e : Placed A) → In e (read f [] 0 lines) → In e (read f [] 0 (more lines event b))
  in_old e i = subst (In e) (sym read_more) (in_left e (read f [] 0 lines) (put (length lines) now []) i)

  pub in_new : (a : A) → now ≡ Some a → In (record { at = length lines; it = a }) (read f [] 0 (more lines event b))
  in_new a is = subst (In (record { at = length lines; it = a })) (sym (read_some a is))
      (in_right (record { at = length lines; it = a }) (read f [] 0 lines) (record { at = length lines; it = a } ∷ []) (inl refl))

  pub in_cases : (e : Placed A) → In e (read f [] 0 (more lines event b)) →
      In e (read f [] 0 lines) ⊎ ((now ≡ Some e.it) × (e.at ≡ length lines))
  in_cases e i = ⊎_elim (λ old. inl old) (λ new. inr (last now refl new))
      (in_either e (read f [] 0 lines) (put (length lines) now []) (subst (In e) read_more i))
    where
      last : (o : Option A) → now ≡ o → In e (put (length lines) o []) → (now ≡ Some e.it) × (e.at ≡ length lines)
      last None is none = absurd none
      last (Some a) is (inl same) = (is ∙ ap Some (ap (λ (p : Placed A). p.it) same), sym (ap (λ (p : Placed A). p.at) same))
      last (Some a) is (inr none) = absurd none
