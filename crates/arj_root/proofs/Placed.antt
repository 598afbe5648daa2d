-- The places of grants as these are noted, and what is asked by them.
use Rattle.std.proofs.Common.{◌≡◌, ℕ, ◌+◌, ◌<◌, zero, suc, Bool, true, false, ◌&&◌, ◌||◌, ◌==◌, List, [], ◌∷◌, ◌++◌, append-nil, add-zero}
use Rattle.std.proofs.Common.{length, refl, ap, sym, ◌∙◌, if◌then◌else◌, arith, Option, Some}
use Rattle.std.specs.List.{list_any}
use Rattle.std.specs.Prelude.{slice_get, slice_set}
use Rattle.std.specs.Ordering.{nat_cmp, is_eq}
use Rattle.std.specs.declared.cmp.Ordering.{Ordering}
use Rattle.std.specs.declared.cmp.Ordering.TheVariants.{Less, Equal, Greater}
use Rattle.std.specs.FinMap.{nat_cmp-IsAntisymmetric}
use Rattle.std.proofs.lemmas.Bool.Decides.{nat_tests}
use Rattle.arj_protocol.proofs.Maps.{put_other, put_same}
use Rattle.arj_protocol.specs.Order.{is_binding}
use Rattle.arj_protocol.specs.Coord.{Grant, is_grant_of}
use Rattle.arj_protocol.specs.Words.{Uid, Binding, uid_eq}
use Rattle.arj_root.specs.Merged.{place_of}
use Rattle.arj_root.specs.Placed.{Places, placed, with_place, places_from, HasPlaces, place_in, any_named_at}

-- what is at an object after one more
placed_more : (k j : ℕ) (top : Uid) (n : ℕ) (m : Places) →
    placed j (with_place k top n m) ≡ placed j m ++ (if k == j then (top, n) ∷ [] else [])
placed_more k j top n m = by (nat_cmp j k) refl
  where
    elsewhere : is_eq (nat_cmp j k) ≡ false → placed j (with_place k top n m) ≡ placed j m ++ (if k == j then (top, n) ∷ [] else [])
    elsewhere apart =
        let other : (k == j) ≡ false = grind (arith, nat_tests, apart) in
        rw (put_other k j (placed k m ++ (top, n) ∷ []) m apart) (rw other (sym (append-nil (placed j m))))

    by : (r : Ordering) → nat_cmp j k ≡ r → placed j (with_place k top n m) ≡ placed j m ++ (if k == j then (top, n) ∷ [] else [])
    by Less is = elsewhere (ap is_eq is)
    by Greater is = elsewhere (ap is_eq is)
    by Equal is =
        let same : j ≡ k = nat_cmp-IsAntisymmetric j k is in
        let here : (k == k) ≡ true = grind arith in
        rw same (rw (put_same k (placed k m ++ (top, n) ∷ []) m) (rw here refl))

-- a grant at the end
places_push : (x n : ℕ) (gs : List Grant) (g : Grant) →
    places_from x n (gs ++ g ∷ []) ≡ places_from x n gs ++ (if g.x == x then (g.top, n + length gs) ∷ [] else [])
places_push x n [] g = ap (λ (k : ℕ). if g.x == x then (g.top, k) ∷ [] else []) (sym (add-zero n))
places_push x n (h ∷ gs) g = by (h.x == x) (places_push x (n + 1) gs g)
  where
    place : (n + 1) + length gs ≡ n + suc (length gs)
    place = omega arith

    more : ℕ → List (Uid × ℕ)
    more k = if g.x == x then (g.top, k) ∷ [] else []

    by : (t : Bool) → places_from x (n + 1) (gs ++ g ∷ []) ≡ places_from x (n + 1) gs ++ more ((n + 1) + length gs)
        → (if t then (h.top, n) ∷ places_from x (n + 1) (gs ++ g ∷ []) else places_from x (n + 1) (gs ++ g ∷ [])) ≡ (if t then (h.top, n) ∷ places_from x (n + 1) gs else places_from x (n + 1) gs) ++ more (n + suc (length gs))
    by true ih = ap (λ es. (h.top, n) ∷ es) (ih ∙ ap (λ k. places_from x (n + 1) gs ++ more k) place)
    by false ih = ih ∙ ap (λ k. places_from x (n + 1) gs ++ more k) place

-- a grant that keeps its top and its object keeps its place
places_set : (x n k : ℕ) (gs : List Grant) (a b : Grant) → slice_get gs k ≡ Some a → b.top ≡ a.top → b.x ≡ a.x →
    places_from x n (slice_set gs k b) ≡ places_from x n gs
places_set x n k [] a b at top object = refl
places_set x n zero (h ∷ gs) a b at top object =
    let same : h ≡ a = cc at in
    let tops : b.top ≡ h.top = top ∙ ap (λ (g : Grant). g.top) (sym same) in
    let objects : b.x ≡ h.x = object ∙ ap (λ (g : Grant). g.x) (sym same) in
    λ i. if objects i == x then (tops i, n) ∷ places_from x (n + 1) gs else places_from x (n + 1) gs
places_set x n (suc k) (h ∷ gs) a b at top object =
    ap (λ es. if h.x == x then (h.top, n) ∷ es else es) (places_set x (n + 1) k gs a b at top object)

pub has_pushed : (m new : Places) (gs items : List Grant) (g : Grant) (n : ℕ) → HasPlaces m gs → n ≡ length gs →
    new ≡ with_place g.x g.top n m → items ≡ gs ++ g ∷ [] → HasPlaces new items
has_pushed m new gs items g n has n_is new_is items_is x =
    let start : 0 + length gs ≡ length gs = omega arith in
    ap (placed x) new_is ∙ placed_more g.x x g.top n m ∙ (λ i. has x i ++ (if g.x == x then (g.top, (n_is ∙ sym start) i) ∷ [] else [])) ∙ sym (places_push x 0 gs g) ∙ ap (places_from x 0) (sym items_is)

pub has_set : (m : Places) (k : ℕ) (gs : List Grant) (a b : Grant) → HasPlaces m gs → slice_get gs k ≡ Some a → b.top ≡ a.top → b.x ≡ a.x →
    HasPlaces m (slice_set gs k b)
has_set m k gs a b has at top object x = has x ∙ sym (places_set x 0 k gs a b at top object)

-- the place of a grant
place_in_is : (top : Uid) (x n : ℕ) (gs : List Grant) → place_in top (places_from x n gs) ≡ place_of (is_grant_of top x) n gs
place_in_is top x n [] = refl
place_in_is top x n (g ∷ gs) = by (g.x == x) (uid_eq g.top top) refl (place_in_is top x (n + 1) gs)
  where
    by : (t e : Bool) → uid_eq g.top top ≡ e → place_in top (places_from x (n + 1) gs) ≡ place_of (is_grant_of top x) (n + 1) gs
        → place_in top (if t then (g.top, n) ∷ places_from x (n + 1) gs else places_from x (n + 1) gs) ≡ (if e && t then Some n else place_of (is_grant_of top x) (n + 1) gs)
    by true true is ih = rw is refl
    by true false is ih = rw is ih
    by false true is ih = ih
    by false false is ih = ih

pub found_place : (m : Places) (gs kept : List Grant) (top : Uid) (x : ℕ) (o : Option ℕ) → HasPlaces m gs → gs ≡ kept →
    o ≡ place_in top (placed x m) → o ≡ place_of (is_grant_of top x) 0 kept
found_place m gs kept top x o has same is =
    is ∙ ap (place_in top) (has x) ∙ place_in_is top x 0 gs ∙ ap (place_of (is_grant_of top x) 0) same

pub place_within : (test : Grant → Bool) (n k : ℕ) (gs : List Grant) → place_of test n gs ≡ Some k → k < n + length gs
place_within test n k [] found = absurd (cc found)
place_within test n k (g ∷ gs) found = by (test g) found (λ found. place_within test (n + 1) k gs found)
  where
    by : (t : Bool) → (if t then Some n else place_of test (n + 1) gs) ≡ Some k →
        (place_of test (n + 1) gs ≡ Some k → k < (n + 1) + length gs) → k < n + suc (length gs)
    by true found ih = let same : n ≡ k = cc found in omega (arith, same)
    by false found ih = omega (arith, ih found)

-- a grant that named the binding
named_is : (top : Uid) (b : Binding) (x n : ℕ) (whole gs : List Grant) → ((k : ℕ) → slice_get whole (n + k) ≡ slice_get gs k) →
    any_named_at top b whole (places_from x n gs) ≡ list_any (λ g. is_grant_of top x g && is_binding b g.named) gs
named_is top b x n whole [] all = refl
named_is top b x n whole (g ∷ gs) all = by (g.x == x) (uid_eq g.top top) refl (named_is top b x (n + 1) whole gs rest)
  where
    rest : (k : ℕ) → slice_get whole ((n + 1) + k) ≡ slice_get gs k
    rest k = let place : (n + 1) + k ≡ n + suc k = omega arith in ap (slice_get whole) place ∙ all (suc k)

    here : slice_get whole n ≡ Some g
    here = ap (slice_get whole) (sym (add-zero n)) ∙ all 0

    by : (t e : Bool) → uid_eq g.top top ≡ e →
        any_named_at top b whole (places_from x (n + 1) gs) ≡ list_any (λ g. is_grant_of top x g && is_binding b g.named) gs
        → any_named_at top b whole (if t then (g.top, n) ∷ places_from x (n + 1) gs else places_from x (n + 1) gs) ≡ (((e && t) && is_binding b g.named) || list_any (λ g. is_grant_of top x g && is_binding b g.named) gs)
    by true true is ih = rw (is, here) (ap (λ r. is_binding b g.named || r) ih)
    by true false is ih = rw is ih
    by false true is ih = ih
    by false false is ih = ih

pub named_by_places : (m : Places) (gs kept : List Grant) (top : Uid) (b : Binding) (x : ℕ) → HasPlaces m gs → gs ≡ kept →
    any_named_at top b gs (placed x m) ≡ list_any (λ g. is_grant_of top x g && is_binding b g.named) kept
named_by_places m gs kept top b x has same =
    ap (any_named_at top b gs) (has x) ∙ named_is top b x 0 gs gs (λ k. let zero_is : 0 + k ≡ k = omega arith in ap (slice_get gs) zero_is)
    ∙ ap (list_any (λ g. is_grant_of top x g && is_binding b g.named)) same
