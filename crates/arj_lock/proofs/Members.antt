-- Rows of a list, and of what a step makes of it.
use Rattle.std.proofs.Common.{◌≡◌, ◌⊎◌, ℕ, zero, suc, List, [], ◌∷◌, Bool, true, false, cond, Option, Some, None, refl, sym, ◌∙◌, ap, inl}
use Rattle.std.proofs.Common.{inr, filter, map, find, arith, Contains}
use Rattle.std.specs.List.{filter_map, cons_option}

-- the value stands in the list
abbrev pub In : {X : Type 0} → X → List X → Type 0
In x [] = ⊥
In x (y ∷ ys) = (y ≡ x) ⊎ In x ys

pub in_from : {X : Type 0} (x : X) (xs : List X) → Contains xs x → In x xs
in_from x [] c = let never : ◌≡◌ {A = ℕ} 0 1 = omega (arith, c.1) in cc
in_from x (y ∷ ys) (zero, less, is) = inl is
in_from x (y ∷ ys) (suc k, less, is) = inr (in_from x ys (k, omega (arith, less), is))

pub in_to : {X : Type 0} (x : X) (xs : List X) → In x xs → Contains xs x
in_to x [] i = absurd i
in_to x (y ∷ ys) (inl is) = (0, omega arith, is)
in_to x (y ∷ ys) (inr i) = let c = in_to x ys i in (suc c.0, omega (arith, c.1), c.2)

pub in_filter : {X : Type 0} (p : X → Bool) (x : X) (xs : List X) → In x (filter p xs) → In x xs × (p x ≡ true)
in_filter p x [] i = absurd i
in_filter {X} p x (y ∷ ys) i = by (in_filter p x ys) (p y) refl i
  where
    by : (In x (filter p ys) → In x ys × (p x ≡ true)) → (b : Bool) → p y ≡ b → In x (cond b (y ∷ filter p ys) (filter p ys)) →
        In x (y ∷ ys) × (p x ≡ true)
    by ih true e (inl is) = (inl is, ap p (sym is) ∙ e)
    by ih true e (inr j) = let r = ih j in (inr r.0, r.1)
    by ih false e j = let r = ih j in (inr r.0, r.1)

pub in_map : {X Y : Type 0} (f : X → Y) (y : Y) (xs : List X) → In y (map f xs) → (x : X) × In x xs × (f x ≡ y)
in_map f y [] i = absurd i
in_map f y (x ∷ xs) (inl is) = (x, inl refl, is)
in_map f y (x ∷ xs) (inr i) = let r = in_map f y xs i in (r.0, inr r.1, r.2)

pub in_filter_map : {X Y : Type 0} (f : X → Option Y) (y : Y) (xs : List X) → In y (filter_map f xs) → (x : X) × In x xs × (f x ≡ Some y)
in_filter_map f y [] i = absurd i
in_filter_map {X} {Y} f y (x ∷ xs) i = by (in_filter_map f y xs) (f x) refl i
  where
    by : (In y (filter_map f xs) → (x : X) × In x xs × (f x ≡ Some y)) → (o : Option Y) → f x ≡ o → In y (cons_option o (filter_map f xs)) →
        (z : X) × In z (x ∷ xs) × (f z ≡ Some y)
    by ih None e j = let r = ih j in (r.0, inr r.1, r.2)
    by ih (Some z) e (inl is) = (x, inl refl, e ∙ ap Some is)
    by ih (Some z) e (inr j) = let r = ih j in (r.0, inr r.1, r.2)

-- what a search found stands in the list and passes the test
pub in_find : {X : Type 0} (p : X → Bool) (x : X) (xs : List X) → find p xs ≡ Some x → In x xs × (p x ≡ true)
in_find p x [] e = cc
in_find {X} p x (y ∷ ys) e = by (in_find p x ys) (p y) refl e
  where
    by : (find p ys ≡ Some x → In x ys × (p x ≡ true)) → (b : Bool) → p y ≡ b → cond b (Some y) (find p ys) ≡ Some x →
        In x (y ∷ ys) × (p x ≡ true)
    by ih true t is = let same : y ≡ x = cc in (inl same, ap p (sym same) ∙ t)
    by ih false t is = let r = ih is in (inr r.0, r.1)

-- nothing that passes stands in a list in which none was found
pub in_find_none : {X : Type 0} (p : X → Bool) (x : X) (xs : List X) → find p xs ≡ None → In x xs → p x ≡ false
in_find_none p x [] e i = absurd i
in_find_none {X} p x (y ∷ ys) e i = by (in_find_none p x ys) (p y) refl e i
  where
    by : (find p ys ≡ None → In x ys → p x ≡ false) → (b : Bool) → p y ≡ b → cond b (Some y) (find p ys) ≡ None → In x (y ∷ ys) →
        p x ≡ false
    by ih true t is j = cc
    by ih false t is (inl same) = ap p (sym same) ∙ t
    by ih false t is (inr j) = ih is j
