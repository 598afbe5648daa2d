-- The first states of a node: of distinct objects, few, and the pair that they are.
use Rattle.std.proofs.Common.{◌≡◌, ◌<◌, ◌≤◌, ◌+◌, ℕ, Bool, true, false, cond, List, [], ◌∷◌, map, filter, length, refl, ap, arith, suc}
use Rattle.std.proofs.lemmas.Bool.Decides.{nat_tests}
use Rattle.std.specs.Prelude.{nat_lt, ◌&&◌}
use Rattle.std.specs.List.{AllByRecursion, IsDistinct}
use Rattle.arj_base.specs.State.{state_bytes, StateInForm}
use Rattle.arj_base.specs.Uid.{uid_eq, object}
use Rattle.arj_base.specs.declared.state.Format.{Format}
use Rattle.arj_disk.specs.Says.{role_of}
use Rattle.arj_disk.specs.declared.slot.Role.TheVariants as role
use Rattle.arj_journal.specs.ScriptForm.{HeaderInForm, ObjectLineInForm, are_by_number}
use Rattle.arj_protocol.specs.Order.{has}
use Rattle.arj_protocol.specs.Step.{first_state}
use Rattle.arj_protocol.specs.Words.{Header, ObjectLine}
use Rattle.arj_store.specs.Pair.{AreDistinct, uid_of}
use Rattle.arj_store.proofs.Sizes.{state_within}

-- ---- objects by number

-- each number is above this one
abbrev AreAbove : ℕ → List ObjectLine → Type 0
AreAbove x os = AllByRecursion (λ (o : ObjectLine). x < o.x) os

above_more : (x y : ℕ) (os : List ObjectLine) → x < y → AreAbove y os → AreAbove x os
above_more x y [] less all = tt
above_more x y (o ∷ os) less all = (omega (arith, less, all.0), above_more x y os less all.1)

both : (a b : Bool) → (a && b) ≡ true → (a ≡ true) × (b ≡ true)
both true true is = (refl, refl)
both true false is = cc
both false b is = cc

above : (o : ObjectLine) (os : List ObjectLine) → are_by_number (o ∷ os) ≡ true → AreAbove o.x os
above o [] by = tt
above o (p ∷ os) by =
    let less : o.x < p.x = grind (arith, nat_tests, (both (nat_lt o.x p.x) (are_by_number (p ∷ os)) by).0) in
    (less, above_more o.x p.x os less (above p os (both (nat_lt o.x p.x) (are_by_number (p ∷ os)) by).1))

behind : (o : ObjectLine) (os : List ObjectLine) → are_by_number (o ∷ os) ≡ true → are_by_number os ≡ true
behind o [] by = refl
behind o (p ∷ os) by = (both (nat_lt o.x p.x) (are_by_number (p ∷ os)) by).1

module _ (n : ℕ) where
  abbrev stored : List ObjectLine → List ObjectLine
  stored os = filter (λ (o : ObjectLine). has o.stores n) os

  kept_above : (x : ℕ) (os : List ObjectLine) → AreAbove x os → AreAbove x (stored os)
  kept_above x [] all = tt
  kept_above x (o ∷ os) all = by (has o.stores n) (kept_above x os all.1)
    where
      by : (b : Bool) → AreAbove x (stored os) → AreAbove x (cond b (o ∷ stored os) (stored os))
      by true more = (all.0, more)
      by false more = more

other_object : (x y : ℕ) → x < y → uid_eq (object x) (object y) ≡ false
other_object x y less = grind (arith, nat_tests, less)

apart : (f : Format) (x : ℕ) (os : List ObjectLine) → AreAbove x os → AllByRecursion (λ u. uid_eq (object x) u ≡ false) (map uid_of (map (first_state f) os))
apart f x [] all = tt
apart f x (o ∷ os) all = (other_object x o.x all.0, apart f x os all.1)

pub distinct_at : (f : Format) (n : ℕ) (os : List ObjectLine) → are_by_number os ≡ true → IsDistinct uid_eq (map uid_of (map (first_state f) (stored n os)))
unfolding IsDistinct
distinct_at f n [] by = tt
distinct_at f n (o ∷ os) by = with_one (has o.stores n) (distinct_at f n os (behind o os by))
  where
    with_one : (b : Bool) → IsDistinct uid_eq (map uid_of (map (first_state f) (stored n os))) →
        IsDistinct uid_eq (map uid_of (map (first_state f) (cond b (o ∷ stored n os) (stored n os))))
    with_one true more = (apart f o.x (stored n os) (kept_above n o.x os (above o os by)), more)
    with_one false more = more

own_at : (f : Format) (os : List ObjectLine) → AllByRecursion (λ s. role_of s.uid ≡ role.Store) (map (first_state f) os)
own_at f [] = tt
own_at f (o ∷ os) = (refl, own_at f os)

pub are_distinct : (n : ℕ) (hd : Header) → HeaderInForm hd → AreDistinct role.Store (map (first_state hd.format) (stored n hd.objects))
are_distinct n hd form = record { distinct = distinct_at hd.format n hd.objects form.objects.1; own = own_at hd.format (stored n hd.objects) }

-- numbers above x and up to 256 are few
few_above : (x k : ℕ) (os : List ObjectLine) → are_by_number os ≡ true → AreAbove x os → AllByRecursion (ObjectLineInForm k) os → x ≤ 256 →
    length os + x ≤ 256
few_above x k [] by all form less = omega (arith, less)
few_above x k (o ∷ os) by all form less =
    let more : length os + o.x ≤ 256 =
    few_above o.x k os (behind o os by) (above o os by) form.1 form.0.number.1 in omega (arith, more, all.0)

fewer : (n : ℕ) (os : List ObjectLine) → length (stored n os) ≤ length os
fewer n [] = omega arith
fewer n (o ∷ os) = by (has o.stores n) (fewer n os)
  where
    by : (b : Bool) → length (stored n os) ≤ length os → length (cond b (o ∷ stored n os) (stored n os)) ≤ length (o ∷ os)
    by true le = omega (arith, le)
    by false le = omega (arith, le)

length_states : (f : Format) (os : List ObjectLine) → length (map (first_state f) os) ≡ length os
length_states f [] = refl
length_states f (o ∷ os) = ap suc (length_states f os)

positive : (k : ℕ) (os : List ObjectLine) → AllByRecursion (ObjectLineInForm k) os → AreAbove 0 os
positive k [] form = tt
positive k (o ∷ os) form = (omega (arith, form.0.number.0), positive k os form.1)

pub are_few : (n : ℕ) (hd : Header) → HeaderInForm hd → length (map (first_state hd.format) (stored n hd.objects)) ≤ 65535
are_few n hd form =
    let all : length hd.objects + 0 ≤ 256 =
    few_above 0 hd.nodes hd.objects form.objects.1 (positive hd.nodes hd.objects form.objects.0) form.objects.0 (omega arith) in
    omega (arith, all, fewer n hd.objects, length_states hd.format (stored n hd.objects))

-- ---- in form

form_one : (f : Format) (k : ℕ) (o : ObjectLine) → ObjectLineInForm k o → length (state_bytes (first_state f o)) ≤ 65535 → StateInForm (first_state f o)
form_one f k o form small =
    ((omega arith, omega arith, omega (arith, form.number.1)), omega arith, (omega arith, omega arith, omega arith), omega (arith, small, (state_within (first_state f o)).0))

pub firsts_form : (f : Format) (n k : ℕ) (os : List ObjectLine) → AllByRecursion (ObjectLineInForm k) os →
    AllByRecursion (λ s. length (state_bytes s) ≤ 65535) (map (first_state f) (stored n os)) →
    AllByRecursion StateInForm (map (first_state f) (stored n os))
firsts_form f n k [] form small = tt
firsts_form f n k (o ∷ os) form small = by (has o.stores n) (λ more. firsts_form f n k os form.1 more) small
  where
    by : (b : Bool) →
        (AllByRecursion (λ s. length (state_bytes s) ≤ 65535) (map (first_state f) (stored n os)) →
        AllByRecursion StateInForm (map (first_state f) (stored n os)))
        → AllByRecursion (λ s. length (state_bytes s) ≤ 65535) (map (first_state f) (cond b (o ∷ stored n os) (stored n os))) →
        AllByRecursion StateInForm (map (first_state f) (cond b (o ∷ stored n os) (stored n os)))
    by true rest all = (form_one f k o form.0 all.0, rest all.1)
    by false rest all = rest all
