-- Tests on lists, and actions in a list.
use Rattle.arj_law_parts.proofs.Words
use Words.{◌≡◌, ◌∙◌, ◌||◌, ℕ, zero, suc, Bool, true, false, cond, List, [], ◌∷◌, filter, Option, Some, None, refl, sym, ap, inl}
use Words.{inr, ⊎_elim, bytes_eq, bytes_eq-Decides, In, Uid, is_on, uid_eq, uid_same, list_any, or_cases, slice_get, at_place}
use Rattle.arj_law_runs.proofs.Terms.{Act, act_in, uids, AreDistinct}

-- two tests that follow of one another are one
pub same_test : (a b : Bool) → (a ≡ true → b ≡ true) → (b ≡ true → a ≡ true) → a ≡ b
same_test true b forth back = sym (forth refl)
same_test false true forth back = back refl
same_test false false forth back = refl

pub any_in : {A : Type 0} (f : A → Bool) (xs : List A) (x : A) → In x xs → f x ≡ true → list_any f xs ≡ true
any_in f [] x i is = absurd i
any_in f (y ∷ ys) x (inl same) is = ap (λ b. b || list_any f ys) (ap f same ∙ is)
any_in f (y ∷ ys) x (inr i) is = by (f y) (any_in f ys x i is)
  where
    by : (b : Bool) → list_any f ys ≡ true → (b || list_any f ys) ≡ true
    by true more = refl
    by false more = more

pub some_in : {A : Type 0} (f : A → Bool) (xs : List A) → list_any f xs ≡ true → (x : A) × In x xs × (f x ≡ true)
some_in f [] is = absurd (cc is)
some_in f (x ∷ xs) is = ⊎_elim (λ here. (x, inl refl, here)) (λ more. let r = some_in f xs more in (r.0, inr r.1, r.2))
    (or_cases (f x) (list_any f xs) is)

pub any_same : {A : Type 0} (f g : A → Bool) (xs : List A) → ((x : A) → In x xs → f x ≡ g x) → list_any f xs ≡ list_any g xs
any_same f g [] each = refl
any_same f g (x ∷ xs) each = λ i. each x (inl refl) i || any_same f g xs (λ y j. each y (inr j)) i

pub any_uids : (f : Uid → Bool) (xs : List Act) → list_any f (uids xs) ≡ list_any (λ (a : Act). f a.uid) xs
any_uids f [] = refl
any_uids f (x ∷ xs) = λ i. f x.uid || any_uids f xs i

pub in_filter_too : {A : Type 0} (p : A → Bool) (x : A) (xs : List A) → In x xs → p x ≡ true → In x (filter p xs)
in_filter_too p x [] i is = absurd i
in_filter_too p x (y ∷ ys) i is = by (p y) refl i (λ j. in_filter_too p x ys j is)
  where
    by : (b : Bool) → p y ≡ b → In x (y ∷ ys) → (In x ys → In x (filter p ys)) → In x (cond b (y ∷ filter p ys) (filter p ys))
    by true e (inl same) ih = inl same
    by true e (inr j) ih = inr (ih j)
    by false e (inl same) ih = let no_way : false ≡ true = sym e ∙ ap p same ∙ is in absurd (cc no_way)
    by false e (inr j) ih = ih j

-- what stands in a list stands at a place
pub placed_in : {A : Type 0} (x : A) (xs : List A) → In x xs → (j : ℕ) × (at_place j xs ≡ Some x)
placed_in {A} x xs i = let r = by xs i in (suc r.0, r.1)
  where
    by : (ys : List A) → In x ys → (j : ℕ) × (slice_get ys j ≡ Some x)
    by [] i = absurd i
    by (y ∷ ys) (inl same) = (zero, ap Some same)
    by (y ∷ ys) (inr i) = let r = by ys i in (suc r.0, r.1)

-- ---- actions

-- who is in a list is on it
pub on_of : (xs : List Act) (x : Act) → In x xs → is_on (uids xs) x.uid ≡ true
on_of [] x i = absurd i
on_of (y ∷ ys) x (inl same) = ap (λ b. b || is_on (uids ys) x.uid) (ap (λ (z : Act). uid_eq z.uid x.uid) same ∙ uid_same x.uid)
on_of (y ∷ ys) x (inr i) = by (uid_eq y.uid x.uid) (on_of ys x i)
  where
    by : (b : Bool) → is_on (uids ys) x.uid ≡ true → (b || is_on (uids ys) x.uid) ≡ true
    by true ih = refl
    by false ih = ih

-- who began is found by its label
pub found_there : (xs : List Act) → AreDistinct xs → (a : Act) → In a xs → act_in xs a.label ≡ Some a
found_there [] apart a i = absurd i
found_there (x ∷ xs) apart a (inl same) = ap (λ b. cond b (Some x) (act_in xs a.label))
    (ap (λ (y : Act). bytes_eq y.label a.label) same ∙ (bytes_eq-Decides a.label a.label).1 refl) ∙ ap Some same
found_there (x ∷ xs) apart a (inr i) = by (bytes_eq x.label a.label) refl (found_there xs apart.3 a i)
  where
    by : (b : Bool) → bytes_eq x.label a.label ≡ b → act_in xs a.label ≡ Some a → cond b (Some x) (act_in xs a.label) ≡ Some a
    by true same ih = let no_way : ◌≡◌ {A = Option Act} None (Some a) = sym apart.1
        ∙ ap (act_in xs) ((bytes_eq-Decides x.label a.label).0 same) ∙ ih in absurd (cc no_way)
    by false other ih = ih
