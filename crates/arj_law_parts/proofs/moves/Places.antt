-- Places of lists, and what holds of each item.
use Rattle.arj_law_parts.proofs.Words
use Words.{◌≡◌, ℕ, zero, suc, Bool, true, false, List, [], ◌∷◌, ◌++◌, length, refl, subst, ap, Some, is_some, slice_get, slice_set, cond}
use Words.{AllByRecursion, lookup, match_ordering, insert_entry, take, Label, label_cmp, at_place, set_place}
use Rattle.std.proofs.Common.{Ordering, Less, Equal, Greater}

-- ---- places

place_there : {A : Type 0} (k : ℕ) (a b : A) (xs : List A) → slice_get xs k ≡ Some b → slice_get (slice_set xs k a) k ≡ Some a
place_there k a b [] h = absurd (cc h)
place_there zero a b (x ∷ xs) h = refl
place_there (suc k) a b (x ∷ xs) h = place_there k a b xs h

pub place_same : {A : Type 0} (k : ℕ) (a b : A) (xs : List A) → at_place k xs ≡ Some b → at_place k (set_place k a xs) ≡ Some a
place_same zero a b xs h = absurd (cc h)
place_same (suc k) a b xs h = place_there k a b xs h

-- a place that is there stays, whatever is put
still_there : {A : Type 0} (j k : ℕ) (a : A) (xs : List A) → is_some (slice_get xs j) ≡ true →
    is_some (slice_get (slice_set xs k a) j) ≡ true
still_there j k a [] h = h
still_there zero zero a (x ∷ xs) h = refl
still_there zero (suc k) a (x ∷ xs) h = refl
still_there (suc j) zero a (x ∷ xs) h = h
still_there (suc j) (suc k) a (x ∷ xs) h = still_there j k a xs h

pub set_there : {A : Type 0} (j k : ℕ) (a : A) (xs : List A) → is_some (at_place j xs) ≡ true →
    is_some (at_place j (set_place k a xs)) ≡ true
set_there zero k a xs h = absurd (cc h)
set_there (suc j) zero a xs h = h
set_there (suc j) (suc k) a xs h = still_there j k a xs h

-- ---- lists

pub all_to : {A : Type 0} (P Q : A → Type 0) (xs : List A) → ((a : A) → P a → Q a) → AllByRecursion P xs → AllByRecursion Q xs
all_to P Q [] f h = tt
all_to P Q (x ∷ xs) f h = (f x h.0, all_to P Q xs f h.1)

pub all_on : {A : Type 0} (P : A → Type 0) (xs ys : List A) → AllByRecursion P xs → AllByRecursion P ys → AllByRecursion P (xs ++ ys)
all_on P [] ys a b = b
all_on P (x ∷ xs) ys a b = (a.0, all_on P xs ys a.1 b)

all_got : {A : Type 0} (P : A → Type 0) (k : ℕ) (a : A) (xs : List A) → AllByRecursion P xs → slice_get xs k ≡ Some a → P a
all_got P k a [] all h = absurd (cc h)
all_got P zero a (x ∷ xs) all h = let same : x ≡ a = cc h in subst P same all.0
all_got P (suc k) a (x ∷ xs) all h = all_got P k a xs all.1 h

pub all_placed : {A : Type 0} (P : A → Type 0) (k : ℕ) (a : A) (xs : List A) → AllByRecursion P xs → at_place k xs ≡ Some a → P a
all_placed P zero a xs all h = absurd (cc h)
all_placed P (suc k) a xs all h = all_got P k a xs all h

all_slice : {A : Type 0} (P : A → Type 0) (k : ℕ) (a : A) (xs : List A) → AllByRecursion P xs → P a → AllByRecursion P (slice_set xs k a)
all_slice P k a [] all h = tt
all_slice P zero a (x ∷ xs) all h = (h, all.1)
all_slice P (suc k) a (x ∷ xs) all h = (all.0, all_slice P k a xs all.1 h)

pub all_set : {A : Type 0} (P : A → Type 0) (k : ℕ) (a : A) (xs : List A) → AllByRecursion P xs → P a → AllByRecursion P (set_place k a xs)
all_set P zero a xs all h = all
all_set P (suc k) a xs all h = all_slice P k a xs all h

pub all_inserted : {V : Type 0} (P : Label × V → Type 0) (l : Label) (v : V) (m : List (Label × V)) → ((j : Label) → P (j, v)) →
    AllByRecursion P m → AllByRecursion P (insert_entry label_cmp m l v)
all_inserted P l v [] h all = (h l, tt)
all_inserted {V} P l v (f ∷ m) h all = by (label_cmp l f.0) (all_inserted P l v m h all.1)
  where
    by : (o : Ordering) → AllByRecursion P (insert_entry label_cmp m l v) →
        AllByRecursion P (match_ordering o ((l, v) ∷ f ∷ m) ((f.0, v) ∷ m) (f ∷ insert_entry label_cmp m l v))
    by Less ih = (h l, all)
    by Equal ih = (h f.0, all.1)
    by Greater ih = (all.0, ih)

-- what a label finds stands in the list
pub all_found : {V : Type 0} (Q : V → Type 0) (f : Label → Bool) (v : V) (m : List (Label × V)) →
    AllByRecursion (λ (g : Label × V). Q g.1) m →
    lookup f m ≡ Some v → Q v
all_found Q f v [] all h = absurd (cc h)
all_found {V} Q f v (g ∷ m) all h = by (f g.0) h (all_found Q f v m all.1)
  where
    by : (b : Bool) → cond b (Some g.1) (lookup f m) ≡ Some v → (lookup f m ≡ Some v → Q v) → Q v
    by true is ih = let same : g.1 ≡ v = cc is in subst Q same all.0
    by false is ih = ih is

-- the first ones of a list
pub all_taken : {A : Type 0} (P : A → Type 0) (k : ℕ) (xs : List A) → AllByRecursion P xs → AllByRecursion P (take k xs)
all_taken P zero xs h = tt
all_taken P (suc k) [] h = tt
all_taken P (suc k) (x ∷ xs) h = (h.0, all_taken P k xs h.1)

slice_long : {A : Type 0} (k : ℕ) (a : A) (xs : List A) → length (slice_set xs k a) ≡ length xs
slice_long k a [] = refl
slice_long zero a (x ∷ xs) = refl
slice_long (suc k) a (x ∷ xs) = ap suc (slice_long k a xs)

-- what is put at a place makes no list longer
pub set_long : {A : Type 0} (k : ℕ) (a : A) (xs : List A) → length (set_place k a xs) ≡ length xs
set_long zero a xs = refl
set_long (suc k) a xs = slice_long k a xs
