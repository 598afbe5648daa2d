-- What a stable sort does with items that belong behind all others.
use Rattle.std.proofs.Common.{◌≡◌, List, [], ◌∷◌, ◌++◌, Bool, true, false, cond, not, refl, sym, ◌∙◌, ap, subst, filter}
use Rattle.std.specs.List.{AllByRecursion}
use Rattle.arj_model.specs.Serial.{insert, arrange}

-- every item of the list fails the test, or passes it
abbrev pub NoneOf : {A : Type 0} → (A → Bool) → List A → Type 0
NoneOf t xs = AllByRecursion (λ a. t a ≡ false) xs

abbrev pub AllOf : {A : Type 0} → (A → Bool) → List A → Type 0
AllOf t xs = AllByRecursion (λ a. t a ≡ true) xs

-- an item goes behind what it isn't to stand before
insert_behind : {A : Type 0} (less : A → A → Bool) (a : A) (xs ys : List A) → AllByRecursion (λ b. less b a ≡ true) xs →
    insert less a (xs ++ ys) ≡ xs ++ insert less a ys
insert_behind less a [] ys h = refl
insert_behind {A} less a (x ∷ xs) ys h =
    let ih = insert_behind less a xs ys h.1 in
    let P : Bool → Type 0 = λ b. cond b (x ∷ insert less a (xs ++ ys)) (a ∷ x ∷ (xs ++ ys)) ≡ x ∷ (xs ++ insert less a ys) in
    subst P (sym h.0) (ap (λ (zs : List A). x ∷ zs) ih)

-- and in front of what it isn't to stand behind
insert_front : {A : Type 0} (less : A → A → Bool) (a : A) (ys : List A) → AllByRecursion (λ b. less b a ≡ false) ys →
    insert less a ys ≡ a ∷ ys
insert_front less a [] h = refl
insert_front less a (y ∷ ys) h =
    let P : Bool → Type 0 = λ b. cond b (y ∷ insert less a ys) (a ∷ y ∷ ys) ≡ a ∷ y ∷ ys in subst P (sym h.0) refl

-- among two parts, the second of which it isn't to stand behind, it goes into the first
insert_first : {A : Type 0} (less : A → A → Bool) (a : A) (xs ys : List A) → AllByRecursion (λ b. less b a ≡ false) ys →
    insert less a (xs ++ ys) ≡ insert less a xs ++ ys
insert_first less a [] ys h = insert_front less a ys h
insert_first {A} less a (x ∷ xs) ys h = by (insert_first less a xs ys h) (less x a)
  where
    by : insert less a (xs ++ ys) ≡ insert less a xs ++ ys → (b : Bool) →
        cond b (x ∷ insert less a (xs ++ ys)) (a ∷ x ∷ (xs ++ ys)) ≡ cond b (x ∷ insert less a xs) (a ∷ x ∷ xs) ++ ys
    by ih true = ap (λ (zs : List A). x ∷ zs) ih
    by ih false = refl

-- what holds of the item and of each item of the list holds of each where it was inserted
all_insert : {A : Type 0} (P : A → Type 0) (less : A → A → Bool) (a : A) (xs : List A) → P a → AllByRecursion P xs →
    AllByRecursion P (insert less a xs)
all_insert P less a [] p ps = (p, ps)
all_insert {A} P less a (x ∷ xs) p ps = by (all_insert P less a xs p ps.1) (less x a)
  where
    by : AllByRecursion P (insert less a xs) → (b : Bool) → AllByRecursion P (cond b (x ∷ insert less a xs) (a ∷ x ∷ xs))
    by ih true = (ps.0, ih)
    by ih false = (p, ps)

pub all_arrange : {A : Type 0} (P : A → Type 0) (less : A → A → Bool) (xs : List A) → AllByRecursion P xs →
    AllByRecursion P (arrange less xs)
all_arrange P less [] ps = ps
all_arrange P less (x ∷ xs) ps = all_insert P less x (arrange less xs) ps.0 (all_arrange P less xs ps.1)

-- two tests that agree on the item against each item of the list insert alike
insert_same : {A : Type 0} (less other : A → A → Bool) (a : A) (xs : List A) → AllByRecursion (λ b. other b a ≡ less b a) xs →
    insert other a xs ≡ insert less a xs
insert_same less other a [] h = refl
insert_same {A} less other a (x ∷ xs) h =
    (λ i. cond (h.0 i) (x ∷ insert_same less other a xs h.1 i) (a ∷ x ∷ xs))

all_map : {A : Type 0} (P Q : A → Type 0) → ((a : A) → P a → Q a) → (xs : List A) → AllByRecursion P xs → AllByRecursion Q xs
all_map P Q f [] ps = ps
all_map P Q f (x ∷ xs) ps = (f x ps.0, all_map P Q f xs ps.1)

fails_in_filter : {A : Type 0} (t : A → Bool) (xs : List A) → NoneOf t (filter (λ a. not (t a)) xs)
fails_in_filter t [] = tt
fails_in_filter {A} t (x ∷ xs) = by (fails_in_filter t xs) (t x) refl
  where
    by : NoneOf t (filter (λ a. not (t a)) xs) → (b : Bool) → t x ≡ b →
        NoneOf t (cond (not b) (x ∷ filter (λ a. not (t a)) xs) (filter (λ a. not (t a)) xs))
    by ih true e = ih
    by ih false e = (e, ih)

passes_in_filter : {A : Type 0} (t : A → Bool) (xs : List A) → AllOf t (filter t xs)
passes_in_filter t [] = tt
passes_in_filter {A} t (x ∷ xs) = by (passes_in_filter t xs) (t x) refl
  where
    by : AllOf t (filter t xs) → (b : Bool) → t x ≡ b → AllOf t (cond b (x ∷ filter t xs) (filter t xs))
    by ih true e = (e, ih)
    by ih false e = ih

-- Items that pass the test stand behind all others and keep their order; the others are arranged as before.
pub arrange_last : {A : Type 0} (less other : A → A → Bool) (t : A → Bool)
    → ((a b : A) → t a ≡ false → t b ≡ false → other a b ≡ less a b)
    → ((a b : A) → t a ≡ false → t b ≡ true → other a b ≡ true)
    → ((a b : A) → t a ≡ true → other a b ≡ false)
    → (xs : List A) → arrange other xs ≡ arrange less (filter (λ a. not (t a)) xs) ++ filter t xs
arrange_last less other t same before behind [] = refl
arrange_last {A} less other t same before behind (x ∷ xs) = by (arrange_last less other t same before behind xs) (t x) refl
  where
    front : List A
    front = arrange less (filter (λ a. not (t a)) xs)

    none : NoneOf t front
    none = all_arrange (λ a. t a ≡ false) less (filter (λ a. not (t a)) xs) (fails_in_filter t xs)

    back : AllOf t (filter t xs)
    back = passes_in_filter t xs

    by : arrange other xs ≡ front ++ filter t xs → (b : Bool) → t x ≡ b
        → insert other x (arrange other xs) ≡ arrange less (cond (not b) (x ∷ filter (λ a. not (t a)) xs) (filter (λ a. not (t a)) xs)) ++ cond b (x ∷ filter t xs) (filter t xs)
    by ih true e =
        ap (insert other x) ih
        ∙ insert_behind other x front (filter t xs) (all_map (λ a. t a ≡ false) (λ a. other a x ≡ true) (λ a f. before a x f e) front none)
        ∙ ap (λ ys. front ++ ys) (insert_front other x (filter t xs) (all_map (λ a. t a ≡ true) (λ a. other a x ≡ false) (λ a p. behind a x p) (filter t xs) back))
    by ih false e =
        ap (insert other x) ih
        ∙ insert_first other x front (filter t xs) (all_map (λ a. t a ≡ true) (λ a. other a x ≡ false) (λ a p. behind a x p) (filter t xs) back)
        ∙ ap (λ ys. ys ++ filter t xs) (insert_same less other x front (all_map (λ a. t a ≡ false) (λ a. other a x ≡ less a x) (λ a f. same a x f e) front none))
