-- An item taken up by one that is there, or put at the end.
use Rattle.std.proofs.Common.{◌≡◌, ℕ, ◌+◌, ◌<◌, zero, suc, Bool, true, false, List, [], ◌∷◌, ◌++◌, length, refl, ap, sym, ◌∙◌, Some, None}
use Rattle.std.proofs.Common.{arith, if◌then◌else◌, get_or, subst, min, unwrap_or}
use Rattle.std.proofs.lemmas.Option.{slice_get_read}
use Rattle.std.specs.Prelude.{slice_get, slice_set}
use Rattle.arj_protocol.specs.Coord.{Joined, Grant, same_join, is_grant_of, granted_with, joined_with}
use Rattle.arj_protocol.specs.Commit.{least_of}
use Rattle.arj_protocol.specs.Order.{number_set, with_number}
use Rattle.arj_root.specs.Merged.{more_numbers, least_in, place_of, merged_with, rejoined, regranted}

-- none passes
pub merged_none : {A : Type 0} (test : A → Bool) (merge : A → A) (new : A) (n : ℕ) (items : List A) → place_of test n items ≡ None →
    merged_with test merge new items ≡ items ++ new ∷ []
merged_none test merge new n [] none = refl
merged_none {A} test merge new n (a ∷ items) none = by (test a) (merged_none test merge new (n + 1) items) none
  where
    by : (t : Bool) → (place_of test (n + 1) items ≡ None → merged_with test merge new items ≡ items ++ new ∷ []) →
        (if t then Some n else place_of test (n + 1) items) ≡ None
        → (if t then merge a ∷ items else a ∷ merged_with test merge new items) ≡ a ∷ (items ++ new ∷ [])
    by true ih none = absurd (cc none)
    by false ih none = ap (λ rest. a ∷ rest) (ih none)

-- no place stands before the one from which it is counted
late : {A : Type 0} (test : A → Bool) (n m : ℕ) (items : List A) → place_of test n items ≡ Some m → m < n → ⊥
late test n m [] found less = cc found
late {A} test n m (c ∷ items) found less = each (test c) found (λ found. late test (n + 1) m items found (omega (arith, less)))
  where
    each : (t : Bool) → (if t then Some n else place_of test (n + 1) items) ≡ Some m → (place_of test (n + 1) items ≡ Some m → ⊥) → ⊥
    each true found ih = let same : n ≡ m = cc found in omega (arith, same, less)
    each false found ih = ih found

-- the one at this place passes
pub merged_at : {A : Type 0} (test : A → Bool) (merge : A → A) (new : A) (n m k : ℕ) (items : List A) (a b : A) →
    place_of test n items ≡ Some m → m ≡ n + k → slice_get items k ≡ Some a → b ≡ merge a →
    slice_set items k b ≡ merged_with test merge new items
merged_at test merge new n m k [] a b at place here is = absurd (cc here)
merged_at {A} test merge new n m zero (c ∷ items) a b at place here is = by (test c) refl at
  where
    by : (t : Bool) → test c ≡ t → (if t then Some n else place_of test (n + 1) items) ≡ Some m →
        b ∷ items ≡ (if t then merge c ∷ items else c ∷ merged_with test merge new items)
    by true passes found = let same : c ≡ a = cc here in ap (λ x. x ∷ items) (is ∙ ap merge (sym same))
    by false passes_not found = absurd (late test (n + 1) m items found (omega (arith, place)))
merged_at {A} test merge new n m (suc k) (c ∷ items) a b at place here is =
    by (test c) at (λ found. merged_at test merge new (n + 1) m k items a b found (omega (arith, place)) here is)
  where
    by : (t : Bool) → (if t then Some n else place_of test (n + 1) items) ≡ Some m →
        (place_of test (n + 1) items ≡ Some m → slice_set items k b ≡ merged_with test merge new items) →
        c ∷ slice_set items k b ≡ (if t then merge c ∷ items else c ∷ merged_with test merge new items)
    by true found ih = let same : n ≡ m = cc found in absurd (omega (arith, same, place))
    by false found ih = ap (λ rest. c ∷ rest) (ih found)

-- grants and includes are such lists
pub granted_is : (g : Grant) (gs : List Grant) → granted_with g gs ≡ merged_with (is_grant_of g.top g.x) (regranted g.least g) g gs
granted_is g [] = refl
granted_is g (h ∷ gs) = ap (λ rest. if is_grant_of g.top g.x h then regranted g.least g h ∷ gs else h ∷ rest) (granted_is g gs)

pub joined_is : (j : Joined) (items : List Joined) → joined_with j items ≡ merged_with (same_join j) (rejoined j.loaded) j items
joined_is j [] = refl
joined_is j (i ∷ items) = ap (λ rest. if same_join j i then rejoined j.loaded i ∷ items else i ∷ rest) (joined_is j items)

-- one that is noted where its kind is there, and where it isn't
pub taken_up : {A : Type 0} (test : A → Bool) (merge : A → A) (new : A) (items seen kept : List A) (at : ℕ) (a b : A) → seen ≡ items →
    items ≡ kept → place_of test 0 seen ≡ Some at → at < length seen → a ≡ get_or items at a → b ≡ merge a
    → slice_set items at b ≡ merged_with test merge new kept
taken_up test merge new items seen kept at a b seen_is same place within read is =
    let here : slice_get items at ≡ Some a =
    slice_get_read items (length items) at a refl (subst (λ l. at < length l) seen_is within) read in
    merged_at test merge new 0 at at items a b (ap (place_of test 0) (sym seen_is) ∙ place) (omega arith) here is ∙ ap (merged_with test merge new) same

pub put_last : {A : Type 0} (test : A → Bool) (merge : A → A) (new : A) (items seen kept after : List A) → seen ≡ items → items ≡ kept →
    place_of test 0 seen ≡ None → after ≡ items ++ new ∷ [] → after ≡ merged_with test merge new kept
put_last test merge new items seen kept after seen_is same none is =
    is ∙ sym (merged_none test merge new 0 items (ap (place_of test 0) (sym seen_is) ∙ none)) ∙ ap (merged_with test merge new) same

-- ---- what a commit asks

-- the numbers of two lists
pub more_is : (ns ms : List ℕ) → more_numbers ns (number_set ms) ≡ number_set (ns ++ ms)
more_is [] ms = refl
more_is (n ∷ ns) ms = ap (with_number n) (more_is ns ms)

-- the least of a list
pub least_is : (ns : List ℕ) → unwrap_or (least_in ns) 0 ≡ least_of ns
least_is [] = refl
least_is (n ∷ []) = refl
least_is (n ∷ m ∷ ns) = ap (min n) (least_is (m ∷ ns))
