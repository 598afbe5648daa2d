-- Maps by number and lists by place: what a change at one key leaves at another.
use Rattle.std.proofs.Common.{◌≡◌, ◌≢◌, ℕ, zero, suc, List, [], ◌∷◌, Bool, true, false, cond, refl, ap, subst, Option, Some, None, arith}
use Rattle.std.specs.Prelude.{slice_get, slice_set}
use Rattle.std.specs.List.{list_any}
use Rattle.std.specs.declared.cmp.Ordering.{Ordering}
use Rattle.std.specs.declared.cmp.Ordering.TheVariants.{Less, Equal, Greater}
use Rattle.std.specs.Ordering.{nat_cmp, is_eq, match_ordering}
use Rattle.std.proofs.lemmas.Bool.{or_parts}
use Rattle.std.specs.FinMap.{nat_cmp-IsAntisymmetric}
use Rattle.arj_protocol.specs.Order.{at_number, put_number, each}
use Rattle.arj_protocol.specs.Tree.{at_place, set_place}

-- a value put at another key leaves what is found
pub put_other : {X : Type 0} (k j : ℕ) (v : X) (m : List (ℕ × X)) → is_eq (nat_cmp j k) ≡ false →
    at_number j (put_number k v m) ≡ at_number j m
put_other {X} k j v [] h = rw h refl
put_other {X} k j v (e ∷ es) h = by (nat_cmp k e.0) refl (put_other k j v es h)
  where
    found : Ordering → Option X
    found r = at_number j (match_ordering r ((k, v) ∷ e ∷ es) ((e.0, v) ∷ es) (e ∷ put_number k v es))

    by : (r : Ordering) → nat_cmp k e.0 ≡ r → at_number j (put_number k v es) ≡ at_number j es → found r ≡ at_number j (e ∷ es)
    by Less is ih = rw h refl
    by Equal is ih =
        let same : k ≡ e.0 = nat_cmp-IsAntisymmetric k e.0 is in
        let other : is_eq (nat_cmp j e.0) ≡ false = subst (λ n. is_eq (nat_cmp j n) ≡ false) same h in
        rw other refl
    by Greater is ih = rw ih refl

-- a value changed at each key is found changed
pub found-each : {X : Type 0} (f : ℕ → X → X) (k : ℕ) (m : List (ℕ × X)) → (P : Option X → Type 0) → ((x : X) → P (Some (f k x))) → P None →
    P (at_number k (each f m))
found-each f k [] P some none = none
found-each {X} f k (e ∷ es) P some none = by (nat_cmp k e.0) refl (found-each f k es P some none)
  where
    by : (r : Ordering) → nat_cmp k e.0 ≡ r → P (at_number k (each f es)) → P (cond (is_eq r) (Some (f e.0 e.1)) (at_number k (each f es)))
    by Less is ih = ih
    by Equal is ih = subst (λ n. P (Some (f n e.1))) (nat_cmp-IsAntisymmetric k e.0 is) (some e.1)
    by Greater is ih = ih

-- an item put at another place leaves what stands
set_other : {A : Type 0} (i j : ℕ) (a : A) (items : List A) → j ≢ i → slice_get (slice_set items i a) j ≡ slice_get items j
set_other i j a [] h = refl
set_other zero zero a (x ∷ xs) h = absurd (h refl)
set_other zero (suc j) a (x ∷ xs) h = refl
set_other (suc i) zero a (x ∷ xs) h = refl
set_other (suc i) (suc j) a (x ∷ xs) h = set_other i j a xs (λ e. h (ap suc e))

pub place_other : {A : Type 0} (i j : ℕ) (a : A) (items : List A) → j ≢ i → at_place j (set_place i a items) ≡ at_place j items
place_other zero j a items h = refl
place_other (suc i) zero a items h = refl
place_other (suc i) (suc j) a items h = set_other i j a items (λ e. h (ap suc e))

-- a value put at a key is found there
pub put_same : {X : Type 0} (k : ℕ) (v : X) (m : List (ℕ × X)) → at_number k (put_number k v m) ≡ Some v
put_same {X} k v [] = rw (itself k) refl
  where
    itself : (n : ℕ) → is_eq (nat_cmp n n) ≡ true
    itself n = grind arith
put_same {X} k v (e ∷ es) = by (nat_cmp k e.0) refl (put_same k v es)
  where
    itself : (n : ℕ) → is_eq (nat_cmp n n) ≡ true
    itself n = grind arith

    by : (r : Ordering) → nat_cmp k e.0 ≡ r → at_number k (put_number k v es) ≡ Some v →
        at_number k (match_ordering r ((k, v) ∷ e ∷ es) ((e.0, v) ∷ es) (e ∷ put_number k v es)) ≡ Some v
    by Less is ih = rw (itself k) refl
    by Equal is ih = rw is refl
    by Greater is ih = rw is ih

-- what a key finds stands in the list
pub found_any : {X : Type 0} (f : ℕ × X → Bool) (k : ℕ) (x : X) (m : List (ℕ × X)) → list_any f m ≡ false → at_number k m ≡ Some x →
    (j : ℕ) × (f (j, x) ≡ false)
found_any f k x [] none h = absurd (cc h)
found_any {X} f k x (e ∷ es) none h = by (nat_cmp k e.0) refl h (found_any f k x es (or_parts (f e) (list_any f es) none).1)
  where
    by : (r : Ordering) → nat_cmp k e.0 ≡ r → cond (is_eq r) (Some e.1) (at_number k es) ≡ Some x →
        (at_number k es ≡ Some x → (j : ℕ) × (f (j, x) ≡ false)) → (j : ℕ) × (f (j, x) ≡ false)
    by Less is found ih = ih found
    by Greater is found ih = ih found
    by Equal is found ih =
        let here : e.1 ≡ x = cc found in
        (e.0, subst (λ v. f (e.0, v) ≡ false) here (or_parts (f e) (list_any f es) none).0)
