-- Lists of two parts.
use Rattle.arj_law.proofs.Terms
use Terms.{◌≡◌, List, [], ◌∷◌, ◌++◌, map, Bool, true, false, cond, Option, Some, None, refl, ◌∙◌, ap, AllByRecursion, filter_map}
use Terms.{cons_option, option_map, arrange, insert}
use Rattle.arj_law.proofs.{Common.all_map, Moves.all_arrange}

pub all_append : {A : Type 0} (P : A → Type 0) (xs ys : List A) → AllByRecursion P xs → AllByRecursion P ys → AllByRecursion P (xs ++ ys)
all_append P [] ys ps qs = qs
all_append P (x ∷ xs) ys ps qs = (ps.0, all_append P xs ys ps.1 qs)

pub all_front : {A : Type 0} (P : A → Type 0) (xs ys : List A) → AllByRecursion P (xs ++ ys) → AllByRecursion P xs
all_front P [] ys ps = tt
all_front P (x ∷ xs) ys ps = (ps.0, all_front P xs ys ps.1)

pub all_over : {A B : Type 0} (P : A → Type 0) (Q : B → Type 0) (f : A → B) → ((a : A) → P a → Q (f a)) → (xs : List A) →
    AllByRecursion P xs → AllByRecursion Q (map f xs)
all_over P Q f h [] ps = tt
all_over P Q f h (x ∷ xs) ps = (h x ps.0, all_over P Q f h xs ps.1)

-- the two quantifiers change places
pub all_turn : {A B : Type 0} (R : A → B → Type 0) (xs : List A) (ys : List B) → AllByRecursion (λ a. AllByRecursion (R a) ys) xs →
    AllByRecursion (λ b. AllByRecursion (λ a. R a b) xs) ys
all_turn R xs [] h = tt
all_turn {A} {B} R xs (y ∷ ys) h = (
  all_map (λ a. AllByRecursion (R a) (y ∷ ys)) (λ a. R a y) (λ a p. p.0) xs h,
  all_turn R xs ys (all_map (λ a. AllByRecursion (R a) (y ∷ ys)) (λ a. AllByRecursion (R a) ys) (λ a p. p.1) xs h),
)

pub filter_map_same : {A B : Type 0} (P : A → Type 0) (f g : A → Option B) → ((a : A) → P a → f a ≡ g a) → (xs : List A) →
    AllByRecursion P xs → filter_map f xs ≡ filter_map g xs
filter_map_same P f g h [] ps = refl
filter_map_same P f g h (x ∷ xs) ps = (λ i. cons_option (h x ps.0 i) (filter_map_same P f g h xs ps.1 i))

pub filter_map_over : {A B C D : Type 0} (P : A → Type 0) (m : A → C) (f : C → Option D) (g : A → Option B) (n : B → D) →
    ((a : A) → P a → f (m a) ≡ option_map n (g a)) → (xs : List A) → AllByRecursion P xs → filter_map f (map m xs) ≡ map n (filter_map g xs)
filter_map_over P m f g n h [] ps = refl
filter_map_over {A} {B} {C} {D} P m f g n h (x ∷ xs) ps = (λ i. cons_option (h x ps.0 i) (filter_map_over P m f g n h xs ps.1 i)) ∙ by (g x)
  where
    by : (o : Option B) → cons_option (option_map n o) (map n (filter_map g xs)) ≡ map n (cons_option o (filter_map g xs))
    by None = refl
    by (Some b) = refl

-- a sort of what stands in two parts sorts each
insert_front : {A : Type 0} (less : A → A → Bool) (a : A) (xs ys : List A) → AllByRecursion (λ y. less y a ≡ false) ys →
    insert less a (xs ++ ys) ≡ insert less a xs ++ ys
insert_front less a [] [] h = refl
insert_front less a [] (y ∷ ys) h = (λ i. cond (h.0 i) (y ∷ insert less a ys) (a ∷ y ∷ ys))
insert_front {A} less a (x ∷ xs) ys h = by (insert_front less a xs ys h) (less x a)
  where
    by : insert less a (xs ++ ys) ≡ insert less a xs ++ ys → (b : Bool) →
        cond b (x ∷ insert less a (xs ++ ys)) (a ∷ x ∷ (xs ++ ys)) ≡ cond b (x ∷ insert less a xs) (a ∷ x ∷ xs) ++ ys
    by ih true = ap (λ zs. x ∷ zs) ih
    by ih false = refl

pub arrange_join : {A : Type 0} (less : A → A → Bool) (xs ys : List A) →
    AllByRecursion (λ x. AllByRecursion (λ y. less y x ≡ false) ys) xs → arrange less (xs ++ ys) ≡ arrange less xs ++ arrange less ys
arrange_join less [] ys h = refl
arrange_join less (x ∷ xs) ys h = ap (insert less x) (arrange_join less xs ys h.1)
    ∙ insert_front less x (arrange less xs) (arrange less ys) (all_arrange (λ y. less y x ≡ false) less ys h.0)

-- a sort by a test that says the same of what it is of
insert_over : {A B : Type 0} (P : A → Type 0) (m : A → B) (more : B → B → Bool) (less : A → A → Bool) → ((a b : A) → P a → P b → more (m a)
    (m b) ≡ less a b) → (a : A) (xs : List A) → P a → AllByRecursion P xs → insert more (m a) (map m xs) ≡ map m (insert less a xs)
insert_over P m more less h a [] p ps = refl
insert_over {A} {B} P m more less h a (x ∷ xs) p ps =
    (λ i. cond (h x a ps.0 p i) (m x ∷ insert_over P m more less h a xs p ps.1 i) (m a ∷ m x ∷ map m xs)) ∙ by (less x a)
  where
    by : (b : Bool) → cond b (m x ∷ map m (insert less a xs)) (m a ∷ m x ∷ map m xs) ≡ map m (cond b (x ∷ insert less a xs) (a ∷ x ∷ xs))
    by true = refl
    by false = refl

pub arrange_over : {A B : Type 0} (P : A → Type 0) (m : A → B) (more : B → B → Bool) (less : A → A → Bool) → ((a b : A) → P a → P b →
    more (m a) (m b) ≡ less a b) → (xs : List A) → AllByRecursion P xs → arrange more (map m xs) ≡ map m (arrange less xs)
arrange_over P m more less h [] ps = refl
arrange_over P m more less h (x ∷ xs) ps = ap (insert more (m x)) (arrange_over P m more less h xs ps.1)
    ∙ insert_over P m more less h x (arrange less xs) ps.0 (all_arrange P less xs ps.1)

-- the same of one list
pub arrange_same : {A : Type 0} (P : A → Type 0) (more less : A → A → Bool) → ((a b : A) → P a → P b → more a b ≡ less a b) →
    (xs : List A) → AllByRecursion P xs → arrange more xs ≡ arrange less xs
arrange_same P more less h [] ps = refl
arrange_same P more less h (x ∷ xs) ps =
    ap (insert more x) (arrange_same P more less h xs ps.1) ∙ insert_same x (arrange less xs) ps.0 (all_arrange P less xs ps.1)
  where
    insert_same : (a : _) (ys : List _) → P a → AllByRecursion P ys → insert more a ys ≡ insert less a ys
    insert_same a [] p qs = refl
    insert_same a (y ∷ ys) p qs = (λ i. cond (h y a qs.0 p i) (y ∷ insert_same a ys p qs.1 i) (a ∷ y ∷ ys))
