-- What a search finds among pairs whose keys rise, and what an edit at that place does.
use Rattle.std.proofs.Common.{◌≡◌, ℕ, ◌+◌, ◌-◌, ◌<◌, ◌≤◌, zero, suc, List, [], ◌∷◌, length, get_or, set, Some, None, Result, Ok, Err}
use Rattle.std.proofs.Common.{MatchResult, sym, ap, refl, arith, true, nat_lt, is_some, if◌then◌else◌}
use Rattle.std.specs.Prelude.{IsTrue}
use Rattle.std.specs.List.{insert, remove, slice_get}
use Rattle.std.proofs.lemmas.Option.{get_or_from_slice_get, slice_get_within}
use Rattle.std.specs.List.Sorted.{IsSearchInRange, IsBinarySearchResult, IsNonDecreasingBy}
use Rattle.std.specs.Ordering.{nat_cmp, ordering_index}
use Rattle.std.proofs.lemmas.Cmp.{ranked}
use Rattle.std.proofs.lemmas.List.Sorted.{IsNonDecreasingBy-from_default}
use Rattle.std.proofs.lemmas.Bool.Decides.{nat_tests}
use Rattle.arj_class.specs.Keys.{KeysAbove, KeysBelow, KeysRise, key_at, IsPlace, IsGap}
use Rattle.arj_class.specs.Table.{value_at, put_pair, remove_pair, is_full_for}

-- a key above all keys is above each
above_at : (k : ℕ) (ps : List (ℕ × ℕ)) → KeysAbove k ps → (j : ℕ) → j < length ps → k < key_at ps j
above_at k [] above j within = omega arith
above_at k (p ∷ ps) above zero within = above.0
above_at k (p ∷ ps) above (suc j) within = above_at k ps above.1 j (omega arith)

-- rising keys, by place
rise_at : (ps : List (ℕ × ℕ)) → KeysRise ps → (i j : ℕ) → i < j → j < length ps → key_at ps i < key_at ps j
rise_at [] rise i j less within = omega arith
rise_at (p ∷ ps) rise i zero less within = omega arith
rise_at (p ∷ ps) rise zero (suc j) less within = above_at p.0 ps rise.0 j (omega arith)
rise_at (p ∷ ps) rise (suc i) (suc j) less within = rise_at ps rise.1 i j (omega arith) (omega arith)

-- keys below another, by place
below_at : (k : ℕ) (ps : List (ℕ × ℕ)) → KeysBelow k ps → (j : ℕ) → j < length ps → key_at ps j < k
below_at k [] below j within = omega arith
below_at k (p ∷ ps) below zero within = below.0
below_at k (p ∷ ps) below (suc j) within = below_at k ps below.1 j (omega arith)

below_from_at : (k : ℕ) (ps : List (ℕ × ℕ)) → ((j : ℕ) → j < length ps → key_at ps j < k) → KeysBelow k ps
below_from_at k [] each = tt
below_from_at k (p ∷ ps) each = (each 0 (omega arith), below_from_at k ps (λ j within. each (suc j) (omega arith)))

-- where the last of rising keys is below another, all are
below_last : (k : ℕ) (ps : List (ℕ × ℕ)) → KeysRise ps → key_at ps (length ps - 1) < k → KeysBelow k ps
below_last k ps rise last =
    below_from_at k ps (λ j within. grind (arith, rise_at ps rise j (length ps - 1), last, λ (same : j ≡ length ps - 1). ap (key_at ps) same))

-- what comparing the last key with another says of all
pub above_last : (k : ℕ) (ps : List (ℕ × ℕ)) (last : ℕ × ℕ) → KeysRise ps → Some last ≡ slice_get ps (length ps - 1) →
    (IsTrue (nat_lt last.0 k) → KeysBelow k ps) × (KeysBelow k ps → IsTrue (nat_lt last.0 k))
above_last k ps last rise is =
    let same : key_at ps (length ps - 1) ≡ last.0 = ap (λ p. p.0) (get_or_from_slice_get ps (length ps - 1) last (0, 0) (sym is)) in
    let within : length ps - 1 < length ps = slice_get_within ps (length ps - 1) last (sym is) in (
      (λ less. let smaller : key_at ps (length ps - 1) < k = grind (arith, nat_tests) in below_last k ps rise smaller),
      (λ below. let smaller = below_at k ps below (length ps - 1) within in grind (arith, nat_tests)),
    )

module _ (ps : List (ℕ × ℕ)) (rise : KeysRise ps) (k : ℕ) where
  -- the comparisons with k rise along the list, as a binary search asks
  comparisons_rise : IsNonDecreasingBy (λ pair. ordering_index (nat_cmp pair.0 k)) ps
  comparisons_rise = IsNonDecreasingBy-from_default (λ pair. ordering_index (nat_cmp pair.0 k)) ps (0, 0) (λ i j le within.
      let keys_rise : key_at ps i ≤ key_at ps j = grind (arith, rise_at ps rise i j, λ (same : i ≡ j). ap (key_at ps) same) in
      grind (arith, nat_tests))

  -- a binary search by key ends at the key's place or at its gap
  pub searched : (r : Result ℕ ℕ) → IsSearchInRange r (length ps) → IsBinarySearchResult (λ pair. nat_cmp pair.0 k) ps r →
      MatchResult r (IsPlace k ps) (IsGap k ps)
  searched (Ok at) within equal =
      let here : key_at ps at ≡ k = ranked _ k _ (sym (equal (0, 0))) in
      record { within = within; here = here; before = λ j less. omega (arith, rise_at ps rise j at less within, here) }
  searched (Err at) within parted = record {
    within = within;
    before = λ j less. ranked _ k _ (sym ((parted comparisons_rise).0 j (0, 0) (omega arith) less));
    after = λ j le less. ranked _ k _ (sym ((parted comparisons_rise).1 j (0, 0) le less));
  }

-- the place of the key among the later pairs
place_behind : (k : ℕ) (p : ℕ × ℕ) (ps : List (ℕ × ℕ)) (i : ℕ) → IsPlace k (p ∷ ps) (suc i) → IsPlace k ps i
place_behind k p ps i at = record { within = omega (arith, at.within); here = at.here; before = λ j less. at.before (suc j) (omega arith) }

-- the gap of the key among the later pairs
gap_behind : (k : ℕ) (p : ℕ × ℕ) (ps : List (ℕ × ℕ)) (i : ℕ) → IsGap k (p ∷ ps) (suc i) → IsGap k ps i
gap_behind k p ps i gap = record {
  within = omega (arith, gap.within);
  before = λ j less. gap.before (suc j) (omega arith);
  after = λ j le within. gap.after (suc j) (omega arith) (omega arith);
}

gap_at_front : (k : ℕ) (p : ℕ × ℕ) (ps : List (ℕ × ℕ)) → IsGap k (p ∷ ps) 0 → IsGap k ps 0
gap_at_front k p ps gap = record {
  within = omega arith;
  before = λ j less. omega arith;
  after = λ j le within. gap.after (suc j) (omega arith) (omega arith);
}

-- the value at the key's place is the key's
pub value_at_place : (k : ℕ) (ps : List (ℕ × ℕ)) (i : ℕ) → IsPlace k ps i → value_at k ps ≡ Some (get_or ps i (0, 0)).1
value_at_place k [] i at = absurd (omega (arith, at.within))
value_at_place k (p ∷ ps) zero at = let here : p.0 ≡ k = at.here in grind (arith, nat_tests)
value_at_place k (p ∷ ps) (suc i) at =
    let less : p.0 < k = at.before 0 (omega arith) in
    let later = value_at_place k ps i (place_behind k p ps i at) in
    grind (arith, nat_tests)

-- writing over the pair there is putting the key's value
pub put_at_place : (k v : ℕ) (ps : List (ℕ × ℕ)) (i : ℕ) → IsPlace k ps i → put_pair k v ps ≡ set ps i (k, v)
put_at_place k v [] i at = absurd (omega (arith, at.within))
put_at_place k v (p ∷ ps) zero at = let here : p.0 ≡ k = at.here in grind (arith, nat_tests)
put_at_place k v (p ∷ ps) (suc i) at =
    let less : p.0 < k = at.before 0 (omega arith) in
    let later = put_at_place k v ps i (place_behind k p ps i at) in
    grind (arith, nat_tests)

-- taking the pair there out is removing the key
pub remove_at_place : (k : ℕ) (ps : List (ℕ × ℕ)) (i : ℕ) → IsPlace k ps i → remove_pair k ps ≡ remove ps i
remove_at_place k [] i at = absurd (omega (arith, at.within))
remove_at_place k (p ∷ ps) zero at = let here : p.0 ≡ k = at.here in grind (arith, nat_tests)
remove_at_place k (p ∷ ps) (suc i) at =
    let less : p.0 < k = at.before 0 (omega arith) in
    let later = remove_at_place k ps i (place_behind k p ps i at) in
    grind (arith, nat_tests)

-- a key that has a gap has no value
pub value_in_gap : (k : ℕ) (ps : List (ℕ × ℕ)) (i : ℕ) → IsGap k ps i → value_at k ps ≡ None
value_in_gap k [] i gap = refl
value_in_gap k (p ∷ ps) zero gap =
    let more : k < p.0 = gap.after 0 (omega arith) (omega arith) in
    let later = value_in_gap k ps 0 (gap_at_front k p ps gap) in
    grind (arith, nat_tests)
value_in_gap k (p ∷ ps) (suc i) gap =
    let less : p.0 < k = gap.before 0 (omega arith) in
    let later = value_in_gap k ps i (gap_behind k p ps i gap) in
    grind (arith, nat_tests)

-- a new pair in the gap is putting the key's value
pub put_in_gap : (k v : ℕ) (ps : List (ℕ × ℕ)) (i : ℕ) → IsGap k ps i → put_pair k v ps ≡ insert ps i (k, v)
put_in_gap k v [] zero gap = refl
put_in_gap k v [] (suc i) gap = absurd (omega (arith, gap.within))
put_in_gap k v (p ∷ ps) zero gap =
    let more : k < p.0 = gap.after 0 (omega arith) (omega arith) in
    grind (arith, nat_tests)
put_in_gap k v (p ∷ ps) (suc i) gap =
    let less : p.0 < k = gap.before 0 (omega arith) in
    let later = put_in_gap k v ps i (gap_behind k p ps i gap) in
    grind (arith, nat_tests)

-- a key that has a gap can't be removed
pub remove_in_gap : (k : ℕ) (ps : List (ℕ × ℕ)) (i : ℕ) → IsGap k ps i → remove_pair k ps ≡ ps
remove_in_gap k [] i gap = refl
remove_in_gap k (p ∷ ps) zero gap =
    let more : k < p.0 = gap.after 0 (omega arith) (omega arith) in
    let later = remove_in_gap k ps 0 (gap_at_front k p ps gap) in
    grind (arith, nat_tests)
remove_in_gap k (p ∷ ps) (suc i) gap =
    let less : p.0 < k = gap.before 0 (omega arith) in
    let later = remove_in_gap k ps i (gap_behind k p ps i gap) in
    grind (arith, nat_tests)

-- putting a pair keeps other keys above a key
above_put : (low k v : ℕ) (ps : List (ℕ × ℕ)) → low < k → KeysAbove low ps → KeysAbove low (put_pair k v ps)
above_put low k v [] less above = (less, tt)
above_put low k v (p ∷ ps) less above = grind (arith, nat_tests, above_put low k v ps less above.1)

-- a key below a lower bound of the keys is one too
above_below : (low k : ℕ) (ps : List (ℕ × ℕ)) → low < k → KeysAbove k ps → KeysAbove low ps
above_below low k [] less above = tt
above_below low k (p ∷ ps) less above = (omega arith, above_below low k ps less above.1)

above_remove : (low k : ℕ) (ps : List (ℕ × ℕ)) → KeysAbove low ps → KeysAbove low (remove_pair k ps)
above_remove low k [] above = tt
above_remove low k (p ∷ ps) above = grind (arith, nat_tests, above_remove low k ps above.1)

-- putting a pair and removing a key keep the order
pub rise_put : (k v : ℕ) (ps : List (ℕ × ℕ)) → KeysRise ps → KeysRise (put_pair k v ps)
rise_put k v [] rise = (tt, tt)
rise_put k v (p ∷ ps) rise = grind (arith, nat_tests, rise_put k v ps rise.1, above_put p.0 k v ps, above_below k p.0 ps)

pub rise_remove : (k : ℕ) (ps : List (ℕ × ℕ)) → KeysRise ps → KeysRise (remove_pair k ps)
rise_remove k [] rise = tt
rise_remove k (p ∷ ps) rise = grind (arith, nat_tests, rise_remove k ps rise.1, above_remove p.0 k ps rise.0)

-- a key below all others has no value
absent_above : (k : ℕ) (ps : List (ℕ × ℕ)) → KeysAbove k ps → value_at k ps ≡ None
absent_above k [] above = refl
absent_above k (p ∷ ps) above = grind (arith, nat_tests, absent_above k ps above.1)

-- a pair takes one more place at most, and none where its key is there
length_put : (k v : ℕ) (ps : List (ℕ × ℕ)) → length (put_pair k v ps) ≤ length ps + 1
length_put k v [] = omega arith
length_put k v (p ∷ ps) = grind (arith, nat_tests, length_put k v ps)

length_put_there : (k v : ℕ) (ps : List (ℕ × ℕ)) → KeysRise ps → is_some (value_at k ps) ≡ true → length (put_pair k v ps) ≡ length ps
length_put_there k v [] rise there = absurd (cc)
length_put_there k v (p ∷ ps) rise there = grind (arith, nat_tests, length_put_there k v ps rise.1, absent_above k ps, above_below k p.0 ps)

length_remove : (k : ℕ) (ps : List (ℕ × ℕ)) → length (remove_pair k ps) ≤ length ps
length_remove k [] = omega arith
length_remove k (p ∷ ps) = grind (arith, nat_tests, length_remove k ps)

-- a table has room for what a put leaves, and its keys rise still
pub table_put : (k v : ℕ) (ps : List (ℕ × ℕ)) → length ps ≤ 16 → KeysRise ps → let after =
    if is_full_for k ps then ps else put_pair k v ps in (length after ≤ 16) × KeysRise after
table_put k v ps room rise = grind (arith, nat_tests, length_put k v ps, length_put_there k v ps rise, rise_put k v ps rise)

pub table_remove : (k : ℕ) (ps : List (ℕ × ℕ)) → length ps ≤ 16 → KeysRise ps →
    (length (remove_pair k ps) ≤ 16) × KeysRise (remove_pair k ps)
table_remove k ps room rise = (omega (arith, length_remove k ps), rise_remove k ps rise)

-- a key that has a gap among 16 pairs or more finds no room
pub full_in_gap : (k : ℕ) (ps : List (ℕ × ℕ)) (i : ℕ) → IsGap k ps i → 16 ≤ length ps → is_full_for k ps ≡ true
full_in_gap k ps i gap full = grind (arith, nat_tests, value_in_gap k ps i gap)

pub put_when_full : (k v : ℕ) (ps : List (ℕ × ℕ)) (i : ℕ) → IsGap k ps i → 16 ≤ length ps →
    ps ≡ (if is_full_for k ps then ps else put_pair k v ps)
put_when_full k v ps i gap full = rw (full_in_gap k ps i gap full) refl
