-- A walk along the index tells as much as one over all objects.
use Rattle.std.proofs.Common.{◌≡◌, ℕ, List, [], ◌∷◌, ◌++◌, Bool, true, false, cond, ◌||◌, Option, Some, None, refl, sym, ◌∙◌, ap, filter}
use Rattle.std.specs.BTreeMap.{is_at}
use Rattle.std.specs.Cmp.{nat_cmp_total, eq_by_cmp_equiv}
use Rattle.std.specs.FinMap.{nat_cmp-IsAntisymmetric}
use Rattle.std.specs.List.{list_any, filter_map, cons_option, AllByRecursion}
use Rattle.std.specs.List.Sorted.{IsStrictlySortedBy}
use Rattle.std.specs.Map.{keys_of, set_value}
use Rattle.std.specs.Ordering.{nat_cmp, is_eq, ordering_reverse}
use Rattle.std.specs.declared.cmp.Ordering.{Ordering}
use Rattle.std.specs.declared.cmp.Ordering.TheVariants.{Less, Equal, Greater}
use Rattle.std.proofs.lemmas.Bool.{both_ways, false_from_ne_true}
use Rattle.std.proofs.lemmas.Map.{NonePasses, lookup-none, none_passes_from_lookup}
use Rattle.std.proofs.lemmas.Map.Entries.{none_below_head, none_past_head}
use Rattle.std.proofs.lemmas.Map.Keys.{IsDistinct-from_sorted, sorted_head, sorted_tail}
use Rattle.arj_base.specs.declared.mode.End.{End}
use Rattle.arj_base.specs.declared.uid.Uid.{Uid}
use Rattle.arj_protocol.specs.Copy.{Copy, end_copy}
use Rattle.arj_protocol.specs.Order.{at_number, each}
use Rattle.arj_manager.specs.Index.{touches, ended_all, ended_at, found_at, picked}
use Rattle.arj_manager.specs.Manager.{Copies, ended}
use Rattle.arj_manager.proofs.Touching.{untouched}

-- ---- numbers in order

same_at : (x y : ℕ) → is_at (nat_cmp x) y ≡ is_at (nat_cmp y) x
same_at x y = (eq_by_cmp_equiv nat_cmp_total).symm x y

pub at_is : (x y : ℕ) → is_at (nat_cmp x) y ≡ true → x ≡ y
at_is x y at = by (nat_cmp x y) refl at
  where
    by : (r : Ordering) → nat_cmp x y ≡ r → is_eq r ≡ true → x ≡ y
    by Less is at = absurd (cc at)
    by Equal is at = nat_cmp-IsAntisymmetric x y is
    by Greater is at = absurd (cc at)

-- the number is one of these
abbrev pub among : List ℕ → ℕ → Bool
among xs y = list_any (is_at (nat_cmp y)) xs

below_none : (y : ℕ) (xs : List ℕ) → AllByRecursion (λ z. nat_cmp y z ≡ Less) xs → among xs y ≡ false
below_none y [] all = refl
below_none y (x ∷ xs) all = rw all.0 (below_none y xs all.1)

below_all : (y x : ℕ) (xs : List ℕ) → nat_cmp y x ≡ Less → AllByRecursion (λ z. nat_cmp x z ≡ Less) xs →
    AllByRecursion (λ z. nat_cmp y z ≡ Less) xs
below_all y x [] less all = tt
below_all y x (z ∷ xs) less all = (nat_cmp_total.trans y x z less all.0, below_all y x xs less all.1)

pub none_sorted : IsStrictlySortedBy nat_cmp []
unfolding IsStrictlySortedBy
none_sorted = tt

-- ---- ends

-- each object that passes the test, after the end
abbrev ended_if : Uid → End → (ℕ → Bool) → Copies → Copies
ended_if u e t m = each (λ y c. cond (t y) (end_copy u e c) c) m

none_ended : (u : Uid) (e : End) (x : ℕ) (m : Copies) → NonePasses (is_at (nat_cmp x)) m → ended_at u e x m ≡ m
none_ended u e x [] none = refl
none_ended u e x (d ∷ ds) none =
    λ i. (d.0, cond ((same_at d.0 x ∙ none.0) i) (end_copy u e d.1) d.1) ∷ none_ended u e x ds none.1 i

pub ended_none : (u : Uid) (e : End) (x : ℕ) (m : Copies) → at_number x m ≡ None → m ≡ ended_at u e x m
ended_none u e x m none = sym (none_ended u e x m (none_passes_from_lookup (is_at (nat_cmp x)) m none))

pub set_ended : (u : Uid) (e : End) (x : ℕ) (c : Copy) (m : Copies) → IsStrictlySortedBy nat_cmp (keys_of m) → at_number x m ≡ Some c →
    set_value (is_at (nat_cmp x)) m (end_copy u e c) ≡ ended_at u e x m
set_ended u e x c [] sorted at = absurd (cc at)
set_ended u e x c (d ∷ ds) sorted at =
    by (is_at (nat_cmp x) d.0) refl (set_ended u e x c ds (sorted_tail nat_cmp d.0 (keys_of ds) sorted)) at
  where
    by : (b : Bool) → is_at (nat_cmp x) d.0 ≡ b →
        (at_number x ds ≡ Some c → set_value (is_at (nat_cmp x)) ds (end_copy u e c) ≡ ended_at u e x ds) →
        cond b (Some d.1) (at_number x ds) ≡ Some c
        → cond b ((d.0, end_copy u e c) ∷ ds) (d ∷ set_value (is_at (nat_cmp x)) ds (end_copy u e c)) ≡ (d.0, cond (is_at (nat_cmp d.0) x) (end_copy u e d.1) d.1) ∷ ended_at u e x ds
    by true is ih at =
        let found : d.1 ≡ c = cc at in
        let rest = none_past_head (eq_by_cmp_equiv nat_cmp_total) x d ds (IsDistinct-from_sorted nat_cmp (keys_of (d ∷ ds)) sorted) is in
        λ i. (d.0, cond (sym (same_at d.0 x ∙ is) i) (end_copy u e (sym found i)) d.1) ∷ sym (none_ended u e x ds rest) i
    by false is ih at = λ i. (d.0, cond (sym (same_at d.0 x ∙ is) i) (end_copy u e d.1) d.1) ∷ ih at i

each_same : (m : Copies) → m ≡ each (λ y c. c) m
each_same [] = refl
each_same (d ∷ ds) = λ i. d ∷ each_same ds i

twice : (u : Uid) (e : End) (x : ℕ) (xs : List ℕ) (m : Copies) → AllByRecursion (λ z. nat_cmp x z ≡ Less) xs →
    ended_if u e (among xs) (ended_at u e x m) ≡ ended_if u e (among (x ∷ xs)) m
twice u e x xs [] less = refl
twice u e x xs (d ∷ ds) less =
    λ i. (d.0, by (is_at (nat_cmp d.0) x) (among xs d.0) (λ at. ap (among xs) (at_is d.0 x at) ∙ below_none x xs less) i) ∷ twice u e x xs ds less i
  where
    by : (a b : Bool) → (a ≡ true → b ≡ false) →
        cond b (end_copy u e (cond a (end_copy u e d.1) d.1)) (cond a (end_copy u e d.1) d.1) ≡ cond (a || b) (end_copy u e d.1) d.1
    by true true apart = absurd (cc (apart refl))
    by true false apart = refl
    by false true apart = refl
    by false false apart = refl

ended_among : (u : Uid) (e : End) (xs : List ℕ) (m : Copies) → IsStrictlySortedBy nat_cmp xs →
    ended_all u e xs m ≡ ended_if u e (among xs) m
ended_among u e [] m sorted = each_same m
ended_among u e (x ∷ xs) m sorted =
    ended_among u e xs (ended_at u e x m) (sorted_tail nat_cmp x xs sorted) ∙ twice u e x xs m (sorted_head nat_cmp x xs sorted)

covers : (u : Uid) (e : End) (xs : List ℕ) (m : Copies) → AllByRecursion (λ (d : ℕ × Copy). touches u d.1 ≡ true → among xs d.0 ≡ true) m →
    ended_if u e (among xs) m ≡ ended u e m
covers u e xs [] all = refl
covers u e xs (d ∷ ds) all = λ i. (d.0, by (among xs d.0) all.0 i) ∷ covers u e xs ds all.1 i
  where
    by : (b : Bool) → (touches u d.1 ≡ true → b ≡ true) → cond b (end_copy u e d.1) d.1 ≡ end_copy u e d.1
    by true here = refl
    by false here = sym (untouched u e d.1 (false_from_ne_true (touches u d.1) (λ on. both_ways false refl (here on))))

-- the end of these objects is that of all, where they are all that the action uses
pub all_ended : (u : Uid) (e : End) (xs : List ℕ) (m : Copies) → IsStrictlySortedBy nat_cmp xs →
    AllByRecursion (λ (d : ℕ × Copy). touches u d.1 ≡ true → among xs d.0 ≡ true) m → ended_all u e xs m ≡ ended u e m
all_ended u e xs m sorted all = ended_among u e xs m sorted ∙ covers u e xs m all

-- ---- objects picked out

same_rest : (x : ℕ) (xs : List ℕ) (m : Copies) → NonePasses (is_at (nat_cmp x)) m →
    filter (λ (d : ℕ × Copy). among xs d.0) m ≡ filter (λ (d : ℕ × Copy). among (x ∷ xs) d.0) m
same_rest x xs [] none = refl
same_rest x xs (d ∷ ds) none =
    λ i. cond (sym (same_at d.0 x ∙ none.0) i || among xs d.0) (d ∷ same_rest x xs ds none.1 i) (same_rest x xs ds none.1 i)

first_picked : (x : ℕ) (xs : List ℕ) (m : Copies) → AllByRecursion (λ z. nat_cmp x z ≡ Less) xs → IsStrictlySortedBy nat_cmp (keys_of m)
    → found_at x (at_number x m) ++ filter (λ (d : ℕ × Copy). among xs d.0) m ≡ filter (λ (d : ℕ × Copy). among (x ∷ xs) d.0) m
first_picked x xs [] less sorted = refl
first_picked x xs (d ∷ ds) less sorted = by (nat_cmp x d.0) refl (first_picked x xs ds less (sorted_tail nat_cmp d.0 (keys_of ds) sorted))
  where
    whole : Copies
    whole = filter (λ (d : ℕ × Copy). among (x ∷ xs) d.0) ds

    by : (r : Ordering) → nat_cmp x d.0 ≡ r → found_at x (at_number x ds) ++ filter (λ (d : ℕ × Copy). among xs d.0) ds ≡ whole
        → found_at x (cond (is_eq r) (Some d.1) (at_number x ds)) ++ cond (among xs d.0) (d ∷ filter (λ (d : ℕ × Copy). among xs d.0) ds) (filter (λ (d : ℕ × Copy). among xs d.0) ds)
        ≡ cond (is_at (nat_cmp d.0) x || among xs d.0) (d ∷ whole) whole
    by Less is ih =
        let none = none_below_head nat_cmp_total x d ds sorted is in
        (λ i. found_at x (lookup-none (is_at (nat_cmp x)) ds none.1 i) ++ cond (among xs d.0) (d ∷ filter (λ (d : ℕ × Copy). among xs d.0) ds) (filter (λ (d : ℕ × Copy). among xs d.0) ds))
        ∙ same_rest x xs (d ∷ ds) none
    by Equal is ih =
        let one : x ≡ d.0 = nat_cmp-IsAntisymmetric x d.0 is in
        let off : among xs d.0 ≡ false = ap (among xs) (sym one) ∙ below_none x xs less in
        let at : is_at (nat_cmp d.0) x ≡ true = same_at d.0 x ∙ ap is_eq is in
        let rest = none_past_head (eq_by_cmp_equiv nat_cmp_total) x d ds (IsDistinct-from_sorted nat_cmp (keys_of (d ∷ ds)) sorted) (ap is_eq is) in
        (λ i. (one i, d.1) ∷ cond (off i) (d ∷ filter (λ (d : ℕ × Copy). among xs d.0) ds) (filter (λ (d : ℕ × Copy). among xs d.0) ds))
        ∙ ((λ i. d ∷ same_rest x xs ds rest i) ∙ (λ i. cond (sym at i || among xs d.0) (d ∷ whole) whole))
    by Greater is ih =
        let under : nat_cmp d.0 x ≡ Less = nat_cmp_total.antisymm d.0 x ∙ ap ordering_reverse is in
        let off : among xs d.0 ≡ false = below_none d.0 xs (below_all d.0 x xs under less) in
        let at : is_at (nat_cmp d.0) x ≡ false = ap is_eq under in
        (λ i. found_at x (at_number x ds) ++ cond (off i) (d ∷ filter (λ (d : ℕ × Copy). among xs d.0) ds) (filter (λ (d : ℕ × Copy). among xs d.0) ds))
        ∙ (ih ∙ (λ i. cond (sym at i || sym off i) (d ∷ whole) whole))

picked_is : (xs : List ℕ) (m : Copies) → IsStrictlySortedBy nat_cmp xs → IsStrictlySortedBy nat_cmp (keys_of m) →
    picked xs m ≡ filter (λ (d : ℕ × Copy). among xs d.0) m
picked_is [] m sorted ordered = none m
  where
    none : (m : Copies) → [] ≡ filter (λ (d : ℕ × Copy). among [] d.0) m
    none [] = refl
    none (d ∷ ds) = none ds
picked_is (x ∷ xs) m sorted ordered =
    ap (λ rest. found_at x (at_number x m) ++ rest) (picked_is xs m (sorted_tail nat_cmp x xs sorted) ordered) ∙ first_picked x xs m (sorted_head nat_cmp x xs sorted) ordered

any_of : (p q : ℕ × Copy → Bool) (m : Copies) → AllByRecursion (λ d. p d ≡ true → q d ≡ true) m → list_any p (filter q m) ≡ list_any p m
any_of p q [] all = refl
any_of p q (d ∷ ds) all = by (q d) (p d) refl all.0 (any_of p q ds all.1)
  where
    by : (b a : Bool) → p d ≡ a → (p d ≡ true → b ≡ true) → list_any p (filter q ds) ≡ list_any p ds →
        list_any p (cond b (d ∷ filter q ds) (filter q ds)) ≡ (p d || list_any p ds)
    by true a is here ih = ap (λ rest. p d || rest) ih
    by false true is here ih = absurd (both_ways false refl (here is))
    by false false is here ih = ih ∙ (λ i. sym is i || list_any p ds)

-- whether one of those that are picked out answers yes, where all that do are picked out
pub any_picked : (p : ℕ × Copy → Bool) (xs : List ℕ) (m : Copies) → IsStrictlySortedBy nat_cmp xs → IsStrictlySortedBy nat_cmp (keys_of m) →
    AllByRecursion (λ d. p d ≡ true → among xs d.0 ≡ true) m → list_any p (picked xs m) ≡ list_any p m
any_picked p xs m sorted ordered all = ap (list_any p) (picked_is xs m sorted ordered) ∙ any_of p (λ d. among xs d.0) m all

made_of : {Y : Type 0} (f : ℕ × Copy → Option Y) (q : ℕ × Copy → Bool) (m : Copies) → AllByRecursion (λ d. q d ≡ false → f d ≡ None) m →
    filter_map f (filter q m) ≡ filter_map f m
made_of f q [] all = refl
made_of {Y} f q (d ∷ ds) all = by (q d) all.0 (made_of f q ds all.1)
  where
    by : (b : Bool) → (b ≡ false → f d ≡ None) → filter_map f (filter q ds) ≡ filter_map f ds →
        filter_map f (cond b (d ∷ filter q ds) (filter q ds)) ≡ cons_option (f d) (filter_map f ds)
    by true none ih = ap (cons_option (f d)) ih
    by false none ih = ih ∙ (λ i. cons_option (sym (none refl) i) (filter_map f ds))

-- and what they make
pub made_picked : {Y : Type 0} (f : ℕ × Copy → Option Y) (xs : List ℕ) (m : Copies) → IsStrictlySortedBy nat_cmp xs →
    IsStrictlySortedBy nat_cmp (keys_of m) → AllByRecursion (λ d. among xs d.0 ≡ false → f d ≡ None) m →
    filter_map f (picked xs m) ≡ filter_map f m
made_picked f xs m sorted ordered all = ap (filter_map f) (picked_is xs m sorted ordered) ∙ made_of f (λ d. among xs d.0) m all
