-- The values of a table of committed states, in the order of their Uids, are all that is committed.
use Rattle.std.proofs.Common.{◌≡◌, ◌∙◌, true, false, true≢false, Bool, ℕ, List, [], ◌∷◌, arith, refl, sym, ap, subst, map, Option, Some}
use Rattle.std.proofs.Common.{None}
use Rattle.std.specs.Prelude.{IsSome, is_some, Contains}
use Rattle.std.specs.List.{AllByRecursion, IsDistinct}
use Rattle.std.specs.List.Sorted.{IsStrictlySortedBy}
use Rattle.std.specs.Ordering.{nat_cmp, ordering_then}
use Rattle.std.specs.declared.cmp.Ordering.TheVariants.{Less, Equal}
use Rattle.std.proofs.lemmas.Bool.Decides.{nat_tests}
use Rattle.arj_base.specs.State.{state_bytes, StateInForm}
use Rattle.arj_base.specs.Uid.{uid_eq}
use Rattle.arj_base.specs.declared.state.ObjectState.{ObjectState}
use Rattle.arj_base.specs.declared.uid.Uid.{Uid}
use Rattle.arj_disk.specs.Says.{new_of}
use Rattle.arj_segment_file.proofs.Read.{found_in, objects_packed}
use Rattle.arj_store.proofs.Finding.{contained}
use Rattle.arj_store.proofs.Uids.{uid_is}
use Rattle.arj_store.specs.Pair.{packed, uid_of, uid_order}
use Rattle.arj_store.specs.Shadow.{is_in}
use Rattle.arj_store.specs.Table.{AreValuesOf}
use Rattle.arj_segment.proofs.Pend.{among_objects}
use Rattle.arj_segment.specs.Tables.{Unpacks}

-- ---- sorted Uids are distinct

cmp_itself : (n : ℕ) → nat_cmp n n ≡ Equal
cmp_itself n = grind (arith, nat_tests)

order_itself : (u : Uid) → uid_order u u ≡ Equal
order_itself u = λ i. ordering_then (cmp_itself u.node i) (ordering_then (cmp_itself u.inc i) (cmp_itself u.num i))

less_apart : (u w : Uid) → uid_order u w ≡ Less → uid_eq u w ≡ false
less_apart u w less = by (uid_eq u w) refl
  where
    by : (b : Bool) → uid_eq u w ≡ b → b ≡ false
    by false is = refl
    by true is = let never : Equal ≡ Less = sym (order_itself u) ∙ ap (uid_order u) (uid_is u w is) ∙ less in absurd cc

pub sorted_distinct : (us : List Uid) → IsStrictlySortedBy uid_order us → IsDistinct uid_eq us
unfolding IsStrictlySortedBy IsDistinct
sorted_distinct [] sorted = tt
sorted_distinct (u ∷ us) sorted = (each us sorted.0, sorted_distinct us sorted.1)
  where
    each : (ws : List Uid) → AllByRecursion (λ w. uid_order u w ≡ Less) ws → AllByRecursion (λ w. uid_eq u w ≡ false) ws
    each [] all = tt
    each (w ∷ ws) all = (less_apart u w all.0, each ws all.1)

-- ---- the values

module _ (held : Uid → Option (List ℕ)) (table : Uid → Option ObjectState) (unpacks : (u : Uid) → Unpacks u (held u) (table u)) where
  unpacked : (u : Uid) (s : ObjectState) → table u ≡ Some s → (held u ≡ Some (state_bytes s)) × StateInForm s × (s.uid ≡ u)
  unpacked u s is = by (held u) refl (subst (Unpacks u (held u)) is (unpacks u))
    where
      by : (o : Option (List ℕ)) → held u ≡ o → Unpacks u o (Some s) → (held u ≡ Some (state_bytes s)) × StateInForm s × (s.uid ≡ u)
      by None none never = let no : Some s ≡ None = never in absurd cc
      by (Some x) found is = (found ∙ ap Some is.2, is.0, is.1)

  in_table : (u : Uid) → IsSome (held u) → IsSome (table u)
  in_table u some = by (held u) (table u) some (unpacks u)
    where
      by : (o : Option (List ℕ)) (t : Option ObjectState) → IsSome o → Unpacks u o t → IsSome t
      by None t never is = absurd (true≢false (sym never))
      by (Some x) None some never = absurd never
      by (Some x) (Some s) some is = refl

  -- the states of Uids, one after the other
  along : (us : List Uid) (values : List ObjectState) → map table us ≡ map Some values →
      (us ≡ map uid_of values) × AllByRecursion (λ s. (held s.uid ≡ Some (state_bytes s)) × StateInForm s) values
  along [] [] same = (refl, tt)
  along [] (s ∷ ss) same = let never : [] ≡ Some s ∷ map Some ss = same in absurd cc
  along (u ∷ us) [] same = let never : table u ∷ map table us ≡ [] = same in absurd cc
  along (u ∷ us) (s ∷ ss) same =
      let here : table u ≡ Some s = cc in
      let later : map table us ≡ map Some ss = cc in
      let is = unpacked u s here in
      let rest = along us ss later in
      ((λ i. sym is.2 i ∷ rest.0 i), ((ap held is.2 ∙ is.0, is.1), rest.1))

  module _ (values : List ObjectState) (are : AreValuesOf table values) where
    uids_are : are.uids ≡ map uid_of values
    uids_are = (along are.uids values are.each).0

    pub each_held : AllByRecursion (λ s. (held s.uid ≡ Some (state_bytes s)) × StateInForm s) values
    each_held = (along are.uids values are.each).1

    pub every_held : (u : Uid) → IsSome (held u) → Contains (map uid_of values) u
    every_held u some = subst (λ us. Contains us u) uids_are ((are.there u).0 (in_table u some))

    pub values_sorted : IsStrictlySortedBy uid_order (map uid_of values)
    values_sorted = subst (IsStrictlySortedBy uid_order) uids_are are.increasing

    pub values_distinct : IsDistinct uid_eq (map uid_of values)
    values_distinct = sorted_distinct (map uid_of values) values_sorted

    each_packed : (ss : List ObjectState) → AllByRecursion (λ s. (held s.uid ≡ Some (state_bytes s)) × StateInForm s) ss →
        AllByRecursion (λ e. held e.0 ≡ Some e.1) (packed ss)
    each_packed [] all = tt
    each_packed (s ∷ ss) all = (all.0.0, each_packed ss all.1)

    -- what the values say of an object is what is held
    pub values_found : (u : Uid) → new_of (packed values) u ≡ held u
    values_found u = by (new_of (packed values) u) refl
      where
        by_held : (o : Option (List ℕ)) → new_of (packed values) u ≡ None → held u ≡ o → None ≡ o
        by_held None none is = refl
        by_held (Some x) none is =
            absurd (true≢false (sym (contained (map uid_of values) u (every_held u (ap is_some is))) ∙ ap (λ us. is_in us u) (sym (objects_packed values)) ∙ among_objects (packed values) u ∙ ap is_some none))

        by : (o : Option (List ℕ)) → new_of (packed values) u ≡ o → o ≡ held u
        by None none = by_held (held u) none refl
        by (Some x) found = sym (found_in (λ w y. held w ≡ Some y) (packed values) (each_packed values each_held) u x found)
