-- Segments that are read one after the other, in increasing order.
use Rattle.std.proofs.Common.{◌≡◌, ◌∙◌, ◌==◌, ◌||◌, true, false, Bool, ℕ, List, [], ◌∷◌, ◌++◌, ◌<◌, ◌≤◌, ◌+◌, arith, refl, sym, ap, subst}
use Rattle.std.proofs.Common.{⊎_elim, take, get_or, length, Option, Some, None}
use Rattle.std.specs.Prelude.{IsSome, is_some, Contains, MatchOption, option_map, if◌then◌else◌}
use Rattle.std.specs.List.{AllByRecursion}
use Rattle.std.specs.List.Sorted.{IsStrictlySortedBy}
use Rattle.std.specs.Ordering.{nat_cmp}
use Rattle.std.specs.declared.cmp.Ordering.TheVariants.{Less}
use Rattle.std.proofs.lemmas.Bool.{eq-eqb, eqb-true}
use Rattle.std.proofs.lemmas.List.{take_more, take_all}
use Rattle.std.proofs.lemmas.List.Elements.{Contains-append_cases, Contains-push_cases}
use Rattle.arj_base.specs.declared.state.ObjectState.{ObjectState}
use Rattle.arj_base.specs.declared.uid.Uid.{Uid}
use Rattle.arj_segment_file.proofs.Newest.{newest_same, newest_none}
use Rattle.arj_store.specs.Pair.{Packs, newer}
use Rattle.arj_store.proofs.Lists.{all_more}
use Rattle.arj_segment.proofs.Held.{IsAbove, SameBut, holds, held_put, place_put, place_after}
use Rattle.arj_segment.proofs.Numbers.{is_less}
use Rattle.arj_segment.proofs.Picked.{all_map, before_order}
use Rattle.arj_segment.specs.Says.{numbers, place, placed, state_at, state_in}
use Rattle.arj_segment.specs.Tables.{Gathers, Unpacks}

-- the number is in the list
abbrev pub has : List ℕ → ℕ → Bool
has [] k = false
has (j ∷ js) k = (j == k) || has js k

-- the segments with these numbers alone
abbrev pub sofar : List ℕ → (ℕ → Option (List ℕ)) → ℕ → Option (List ℕ)
sofar ks segment k = if has ks k then segment k else None

or_right : (a b : Bool) → b ≡ true → (a || b) ≡ true
or_right true b is = refl
or_right false b is = is

has_it : (ks : List ℕ) (k : ℕ) → Contains ks k → has ks k ≡ true
has_it [] k is = let never : ⊥ = omega (arith, is.1) in absurd never
has_it (j ∷ js) k is = ⊎_elim
    (λ (here : Contains (j ∷ []) k). ap (λ b. b || has js k) (eq-eqb j k (one here)))
    (λ (later : Contains js k). or_right (j == k) (has js k) (has_it js k later))
    (Contains-append_cases (j ∷ []) js k is)
  where
    one : Contains (j ∷ []) k → j ≡ k
    one is = ⊎_elim (λ (never : Contains [] k). let no : ⊥ =
        omega (arith, never.1) in absurd no) (λ (e : j ≡ k). e) (Contains-push_cases [] j k is)

has_push : (ks : List ℕ) (k j : ℕ) → has (ks ++ k ∷ []) j ≡ (has ks j || (k == j))
has_push [] k j = by (k == j)
  where
    by : (b : Bool) → (b || false) ≡ b
    by true = refl
    by false = refl
has_push (i ∷ is) k j = by (i == j) (has_push is k j)
  where
    by : (b : Bool) → has (is ++ k ∷ []) j ≡ (has is j || (k == j)) → (b || has (is ++ k ∷ []) j) ≡ ((b || has is j) || (k == j))
    by true rest = refl
    by false rest = rest

hasnt : (ks : List ℕ) (k j : ℕ) → AllByRecursion (λ i. i < k) ks → k ≤ j → has ks j ≡ false
hasnt [] k j below from = refl
hasnt (i ∷ is) k j below from = by (i == j) refl (hasnt is k j below.1 from)
  where
    by : (b : Bool) → (i == j) ≡ b → has is j ≡ false → (b || has is j) ≡ false
    by true same rest = let e = eqb-true i j same in let less = below.0 in absurd (omega (arith, e, less, from))
    by false other rest = rest

-- along numbers that increase, those before one are below it
pub before_below : (ks : List ℕ) (i d : ℕ) → IsStrictlySortedBy nat_cmp ks → i < length ks →
    AllByRecursion (λ j. j < get_or ks i d) (take i ks)
before_below ks i d rises within =
    all_map (λ j. nat_cmp j (get_or ks i d) ≡ Less) (λ j. j < get_or ks i d) (take i ks) (λ j. is_less j (get_or ks i d)) (before_order nat_cmp ks i d rises within)

-- numbers that increase are all below the one behind their last
pub all_below : (ks : List ℕ) (n next : ℕ) → IsStrictlySortedBy nat_cmp ks → length ks ≡ n + 1 → next ≡ get_or ks n 0 + 1 →
    AllByRecursion (λ j. j < next) ks
all_below ks n next rises long is =
    let within : n < length ks = omega (arith, long) in
    subst (AllByRecursion (λ j. j < next)) (sym (take_more ks n 0 within) ∙ take_all (n + 1) ks (omega (arith, long)))
    (all_more (λ j. j < next) (take n ks) (get_or ks n 0) (all_map (λ j. j < get_or ks n 0) (λ j. j < next) (take n ks) (λ j less. omega (arith, less, is)) (before_below ks n 0 rises within)) (omega (arith, is)))

module _ (ks : List ℕ) (segment : ℕ → Option (List ℕ)) (k : ℕ) (below : AllByRecursion (λ j. j < k) ks) where
  above : IsAbove (sofar ks segment) k
  above j from within = ap (λ b. if b then segment j else None) (hasnt ks k j below from)

  at_it : sofar (ks ++ k ∷ []) segment k ≡ segment k
  at_it = ap (λ b. if b then segment k else None) (has_push ks k k ∙ or_right (has ks k) (k == k) (eq-eqb k k refl))

  others : SameBut (sofar ks segment) (sofar (ks ++ k ∷ []) segment) k
  others j within other = ap (λ b. if b then segment j else None) (has_push ks k j ∙ by (k == j) refl)
    where
      or_false : (b : Bool) → (b || false) ≡ b
      or_false true = refl
      or_false false = refl

      by : (b : Bool) → (k == j) ≡ b → (has ks j || (k == j)) ≡ has ks j
      by true same = absurd (other (sym (eqb-true k j same)))
      by false apart = ap (λ b. has ks j || b) apart ∙ or_false (has ks j)

  module _ (within : k < numbers) where
    pub holds_next : (u : Uid) → holds (sofar (ks ++ k ∷ []) segment) u ≡ newer (state_in u (segment k)) (holds (sofar ks segment) u)
    holds_next u =
        held_put (sofar ks segment) (sofar (ks ++ k ∷ []) segment) k within above others u ∙ ap (λ o. newer (state_in u o) (holds (sofar ks segment) u)) at_it

    pub place_next : (u : Uid) →
        place (sofar (ks ++ k ∷ []) segment) u ≡ place_after (state_in u (segment k)) k (place (sofar ks segment) u)
    place_next u =
        place_put (sofar ks segment) (sofar (ks ++ k ∷ []) segment) k within above others u ∙ ap (λ o. place_after (state_in u o) k (place (sofar ks segment) u)) at_it

-- what is nothing is nothing where it is asked for
pub none_either : {X : Type 0} (b : Bool) (o : Option X) → o ≡ None → (if b then o else None) ≡ None
none_either true o is = is
none_either false o is = refl

-- when all are read, these are all
pub placed_all : (ks : List ℕ) (segment : ℕ → Option (List ℕ)) → ((j : ℕ) → j < numbers → IsSome (segment j) → Contains ks j) → (u : Uid) →
    placed (sofar ks segment) u ≡ placed segment u
placed_all ks segment there u =
    newest_same (state_at segment u) (state_at (sofar ks segment) u) numbers (λ j within. ap (state_in u) (by j within (segment j) refl))
  where
    by : (j : ℕ) → j < numbers → (o : Option (List ℕ)) → segment j ≡ o → sofar ks segment j ≡ segment j
    by j within None is = none_either (has ks j) (segment j) is ∙ sym is
    by j within (Some bytes) is = ap (λ b. if b then segment j else None) (has_it ks j (there j within (ap is_some is)))

pub placed_none : (segment : ℕ → Option (List ℕ)) (u : Uid) → placed (sofar [] segment) u ≡ None
placed_none segment u = newest_none (state_at (sofar [] segment) u) numbers (λ j within. refl)

-- ---- tables

-- what is kept of the segments so far
pub record HasGathered (segment : ℕ → Option (List ℕ)) (places : Uid → Option ℕ) (states : Uid → Option ObjectState) : Type 0 where
  pub places_are : (u : Uid) → places u ≡ place segment u
  pub states_are : (u : Uid) → Unpacks u (holds segment u) (states u)

pub gathered_next : (ks : List ℕ) (i d : ℕ) (segment : ℕ → Option (List ℕ)) → IsStrictlySortedBy nat_cmp ks → i < length ks →
    get_or ks i d < numbers
    → (places places' : Uid → Option ℕ) (states states' : Uid → Option ObjectState) →
    HasGathered (sofar (take i ks) segment) places states →
    Gathers (segment (get_or ks i d)) (get_or ks i d) places states places' states'
    → HasGathered (sofar (take (i + 1) ks) segment) places' states'
gathered_next ks i d segment rises within small places places' states states' has_all gathers =
    subst (λ ls. HasGathered (sofar ls segment) places' states') (sym (take_more ks i d within)) (record {
      places_are = λ u. by_place u (state_in u (segment (get_or ks i d))) refl (gathers u);
      states_are = λ u. subst (λ o. Unpacks u o (states' u)) (sym (holds_next (take i ks) segment (get_or ks i d) below small u)) (by_state u (state_in u (segment (get_or ks i d))) (gathers u));
    })
  where
    below : AllByRecursion (λ j. j < get_or ks i d) (take i ks)
    below = before_below ks i d rises within

    by_place : (u : Uid) (o : Option (List ℕ)) → state_in u (segment (get_or ks i d)) ≡ o
        → MatchOption o ((places' u ≡ places u) × (states' u ≡ states u)) (λ bytes. (places' u ≡ Some (get_or ks i d)) × Unpacks u (Some bytes) (states' u)) → places' u ≡ place (sofar (take i ks ++ get_or ks i d ∷ []) segment) u
    by_place u None is same =
        same.0 ∙ has_all.places_are u ∙ sym (place_next (take i ks) segment (get_or ks i d) below small u ∙ ap (λ o. place_after o (get_or ks i d) (place (sofar (take i ks) segment) u)) is)
    by_place u (Some bytes) is new =
        new.0 ∙ sym (place_next (take i ks) segment (get_or ks i d) below small u ∙ ap (λ o. place_after o (get_or ks i d) (place (sofar (take i ks) segment) u)) is)

    by_state : (u : Uid) (o : Option (List ℕ)) →
        MatchOption o ((places' u ≡ places u) × (states' u ≡ states u)) (λ bytes. (places' u ≡ Some (get_or ks i d)) × Unpacks u (Some bytes) (states' u))
        → Unpacks u (newer o (holds (sofar (take i ks) segment) u)) (states' u)
    by_state u None same = subst (Unpacks u (holds (sofar (take i ks) segment) u)) (sym same.1) (has_all.states_are u)
    by_state u (Some bytes) new = new.1

pub gathered_all : (ks : List ℕ) (i : ℕ) (segment : ℕ → Option (List ℕ)) → length ks ≤ i →
    ((j : ℕ) → j < numbers → IsSome (segment j) → Contains ks j) → (places : Uid → Option ℕ) (states : Uid → Option ObjectState)
    → HasGathered (sofar (take i ks) segment) places states → HasGathered segment places states
gathered_all ks i segment long there places states has_all = record {
  places_are = λ u. all.places_are u ∙ ap (option_map (λ p. p.0)) (placed_all ks segment there u);
  states_are = λ u. subst (λ o. Unpacks u o (states u)) (ap (option_map (λ p. p.1)) (placed_all ks segment there u)) (all.states_are u);
}
  where
    all : HasGathered (sofar ks segment) places states
    all = subst (λ ls. HasGathered (sofar ls segment) places states) (take_all i ks long) has_all

pub gathered_none : (segment : ℕ → Option (List ℕ)) (places : Uid → Option ℕ) (states : Uid → Option ObjectState) →
    ((u : Uid) → places u ≡ None) → ((u : Uid) → states u ≡ None) → HasGathered (sofar [] segment) places states
gathered_none segment places states no_place no_state = record {
  places_are = λ u. no_place u ∙ sym (ap (option_map (λ p. p.0)) (placed_none segment u));
  states_are = λ u. subst (λ o. Unpacks u o (states u)) (sym (ap (option_map (λ p. p.1)) (placed_none segment u))) (no_state u);
}

-- ---- one object alone

pub looked_next : (ks : List ℕ) (i d : ℕ) (segment : ℕ → Option (List ℕ)) → IsStrictlySortedBy nat_cmp ks → i < length ks →
    get_or ks i d < numbers → (u : Uid) (before after : Option ObjectState) → Packs (holds (sofar (take i ks) segment) u) before
    → MatchOption (state_in u (segment (get_or ks i d))) (after ≡ before) (λ bytes. Packs (Some bytes) after) →
    Packs (holds (sofar (take (i + 1) ks) segment) u) after
looked_next ks i d segment rises within small u before after packs looks =
    subst (λ ls. Packs (holds (sofar ls segment) u) after) (sym (take_more ks i d within))
    (subst (λ o. Packs o after) (sym (holds_next (take i ks) segment (get_or ks i d) (before_below ks i d rises within) small u)) (by (state_in u (segment (get_or ks i d))) looks))
  where
    by : (o : Option (List ℕ)) → MatchOption o (after ≡ before) (λ bytes. Packs (Some bytes) after) →
        Packs (newer o (holds (sofar (take i ks) segment) u)) after
    by None same = subst (Packs (holds (sofar (take i ks) segment) u)) (sym same) packs
    by (Some bytes) new = new

pub looked_all : (ks : List ℕ) (i : ℕ) (segment : ℕ → Option (List ℕ)) → length ks ≤ i →
    ((j : ℕ) → j < numbers → IsSome (segment j) → Contains ks j) → (u : Uid) (state : Option ObjectState) →
    Packs (holds (sofar (take i ks) segment) u) state → Packs (holds segment u) state
looked_all ks i segment long there u state packs =
    subst (λ o. Packs o state) (ap (option_map (λ p. p.1)) (placed_all ks segment there u)) (subst (λ ls. Packs (holds (sofar ls segment) u) state) (take_all i ks long) packs)

pub looked_none : (segment : ℕ → Option (List ℕ)) (u : Uid) → Packs (holds (sofar [] segment) u) None
looked_none segment u = subst (λ o. Packs o None) (sym (ap (option_map (λ p. p.1)) (placed_none segment u))) refl
