-- A merge changes nothing of the pair: the put of the merged segment, and the removal of the older ones.
use Rattle.std.proofs.Common.{◌≡◌, ◌≢◌, ◌⊎◌, ◌∙◌, true≢false, ℕ, List, [], ◌∷◌, ◌<◌, ◌≤◌, arith, refl, sym, ap, subst, inl, inr, ⊎_elim}
use Rattle.std.proofs.Common.{map, length, Option, Some, None}
use Rattle.std.specs.Prelude.{IsSome, is_some, IfSome, Contains, option_map}
use Rattle.std.specs.List.{AllByRecursion}
use Rattle.std.specs.List.Sorted.{IsStrictlySortedBy}
use Rattle.std.specs.Ordering.{nat_cmp}
use Rattle.std.proofs.lemmas.List.Elements.{Contains-push}
use Rattle.arj_base.specs.State.{state_bytes, StateInForm}
use Rattle.arj_base.specs.declared.limits.TheConstants.{MOST_BYTES}
use Rattle.arj_base.specs.declared.state.ObjectState.{ObjectState}
use Rattle.arj_base.specs.declared.uid.Uid.{Uid}
use Rattle.arj_disk.specs.Disk.{PutsOrNot}
use Rattle.arj_disk.specs.FileMap.{FileMap}
use Rattle.arj_disk.specs.Says.{names, new_of, role_of, slot_role, OnlyOfRole}
use Rattle.arj_disk.specs.declared.limits.TheConstants.{MOST_KNOWN}
use Rattle.arj_disk.specs.declared.slot.Role.{Role}
use Rattle.arj_disk.specs.declared.slot.Slot.{Slot}
use Rattle.arj_disk.specs.declared.slot.Slot.TheVariants as slot
use Rattle.arj_segment_file.proofs.Newest.{newest_is}
use Rattle.arj_segment_file.proofs.Read.{IsPacked, of_file, states_are}
use Rattle.arj_segment_file.specs.Format.{FitsRow, IsSegment, segment_bytes, states_in}
use Rattle.arj_store.proofs.Known.{same_known}
use Rattle.arj_store.specs.Pair.{AreDistinct, IsKnown, SamePair, uid_of}
use Rattle.arj_store.specs.Table.{AreValuesOf}
use Rattle.arj_segment.proofs.Begun.{not_put}
use Rattle.arj_segment.proofs.Changes.{above_all, formed_from, in_form, not_old, number_cases}
use Rattle.arj_segment.proofs.Held.{IsAbove, IsTop, SameBut, holds, merged_holds, merged_top, older_holds, older_place}
use Rattle.arj_segment.proofs.Numbers.{all_of}
use Rattle.arj_segment.proofs.Puts.{segment_others}
use Rattle.arj_segment.proofs.Valued.{each_held, values_distinct, values_found}
use Rattle.arj_segment.specs.Formed.{AreInPlace, IsFormed}
use Rattle.arj_segment.specs.Says.{held, numbers, pair_of, pend, place, placed, segments, state_at, state_in}
use Rattle.arj_segment.specs.Stays.{files_stay}
use Rattle.arj_segment.specs.Steps.{AreGone, IsMerged, RemovesSome}
use Rattle.arj_segment.specs.declared.limits.TheConstants.{MOST_NUMBER}
use Rattle.arj_segment.specs.Tables.{AllInOne, AreNumbers, KeepsPend, KeepsPlaces, Unpacks}

rises_one : (k : ℕ) → IsStrictlySortedBy nat_cmp (k ∷ [])
unfolding IsStrictlySortedBy
rises_one k = (tt, tt)

pub pair_then : (role : Role) (old mid new : FileMap) → SamePair (pair_of old role) (pair_of mid role) →
    SamePair (pair_of mid role) (pair_of new role) → SamePair (pair_of old role) (pair_of new role)
pair_then role old mid new first then =
    record { committed = λ u. then.committed u ∙ first.committed u; prepared = λ a. then.prepared a ∙ first.prepared a }

-- files in form with the pair of formed files are formed
formed_same : (role : Role) (old new : FileMap) → IsFormed old role → SamePair (pair_of old role) (pair_of new role) →
    ((k : ℕ) → k < numbers → IfSome (new (slot.Segment role k)) (IsSegment role))
    → ((a : Uid) → IfSome (new (slot.Pending role a)) (IsSegment role)) → AreInPlace new role → IsFormed new role
formed_same role old new formed same segs pends in_place =
    formed_from role old new formed segs pends (λ a u. subst (λ o. names o u) (same.prepared a)) (same_known (pair_of old role) (pair_of new role) same)
    in_place

-- where there is a segment something is committed
some_held : (role : Role) (file : FileMap) → AreInPlace file role → (ks : List ℕ) → AreNumbers (segments file role) ks → 0 < length ks →
    ((u : Uid) → held file role u ≡ None) → ⊥
some_held role file p [] are some nothing = omega (arith, some)
some_held role file p (k ∷ ks) are some nothing = true≢false (sym are.only.0 ∙ ap is_some (p.bare nothing k))

-- ---- the states of the merged segment

-- a committed state has room in a row
held_packed : (role : Role) (file : FileMap) → IsFormed file role → (u : Uid) (x : List ℕ) → held file role u ≡ Some x → IsPacked role u x
held_packed role file formed u x is = by (placed (segments file role) u) refl is
  where
    by : (o : Option (ℕ × List ℕ)) → placed (segments file role) u ≡ o → option_map (λ p. p.1) o ≡ Some x → IsPacked role u x
    by None none e = let never : None ≡ Some x = e in absurd cc
    by (Some p) found e =
        let at = newest_is (state_at (segments file role) u) numbers p found in
        let same : p.1 ≡ x = cc in
        subst (IsPacked role u) same (of_file role (file (slot.Segment role p.0)) (formed.segments p.0 at.0) u p.1 at.1)

module _ (role : Role) (old : FileMap) (formed : IsFormed old role) (table : Uid → Option ObjectState) (unpacks : (u : Uid) →
    Unpacks u (held old role u) (table u)) (values : List ObjectState) (are : AreValuesOf table values) where
  each_fits : (ss : List ObjectState) → AllByRecursion (λ s. (held old role s.uid ≡ Some (state_bytes s)) × StateInForm s) ss
      → AllByRecursion (λ s. length (state_bytes s) ≤ MOST_BYTES) ss × AllByRecursion (λ s. role_of s.uid ≡ role) ss
  each_fits [] all = (tt, tt)
  each_fits (s ∷ ss) all =
      let here = held_packed role old formed s.uid (state_bytes s) all.0.0 in
      let rest = each_fits ss all.1 in
      ((here.2, rest.0), (here.0, rest.1))

  pub merged_sizes : AllByRecursion (λ s. length (state_bytes s) ≤ MOST_BYTES) values
  merged_sizes = (each_fits values (each_held (held old role) table unpacks values are)).0

  pub merged_apart : AreDistinct role values
  merged_apart =
      record {
        distinct = values_distinct (held old role) table unpacks values are;
        own =
            (each_fits values (each_held (held old role) table unpacks values are)).1;
      }

  known_held : (ss : List ObjectState) → AllByRecursion (λ s. (held old role s.uid ≡ Some (state_bytes s)) × StateInForm s) ss →
      AllByRecursion (λ u. IsKnown (pair_of old role) u) (map uid_of ss)
  known_held [] all = tt
  known_held (s ∷ ss) all = (inl (ap is_some all.0.0), known_held ss all.1)

  pub merged_count : length values ≤ MOST_KNOWN
  merged_count =
      let few = formed.few (map uid_of values) (values_distinct (held old role) table unpacks values are)
      (λ u is. all_of (IsKnown (pair_of old role)) (map uid_of values) (known_held values (each_held (held old role) table unpacks values are)) u is) in
      omega (arith, few, length_map values)
    where
      length_map : (ss : List ObjectState) → length (map uid_of ss) ≡ length ss
      length_map [] = refl
      length_map (s ∷ ss) = let rest = length_map ss in omega (arith, rest)

  abbrev pub merged_is : AllByRecursion FitsRow values → (bytes : List ℕ) → bytes ≡ segment_bytes values → IsSegment role bytes
  merged_is fit bytes written = record { states = values; fit = fit; count = merged_count; distinct = merged_apart; written = written }

  pub is_merged : (ks : List ℕ) (k : ℕ) → k < numbers → k ≤ MOST_NUMBER → AllByRecursion (λ j. j < k) ks → AllByRecursion FitsRow values → (bytes : List ℕ) →
      bytes ≡ segment_bytes values → IsMerged role old ks k bytes
  is_merged ks k within low above fit bytes written = record {
    within = within;
    low = low;
    above = above;
    form = merged_is fit bytes written;
    all = λ u. ap (λ es. new_of es u) (states_are role bytes (merged_is fit bytes written)) ∙ values_found (held old role) table unpacks values are u;
  }

module _ (role : Role) (old : FileMap) (formed : IsFormed old role) (ks : List ℕ) (numbers_are : AreNumbers (segments old role) ks) (k : ℕ) (bytes : List ℕ) (m : IsMerged role old ks k bytes) where
  -- ---- the merged segment is put

  module _ (mid : FileMap) (others : (q : Slot) → q ≢ slot.Segment role k → q ≢ slot.Tmp → mid q ≡ old q) where
    mid_segments : SameBut (segments old role) (segments mid role) k
    mid_segments j less other = others (slot.Segment role j) (λ e. other cc) (λ e. cc)

    mid_pending : (a : Uid) → mid (slot.Pending role a) ≡ old (slot.Pending role a)
    mid_pending a = others (slot.Pending role a) (λ e. cc) (λ e. cc)

    module _ (here : mid (slot.Segment role k) ≡ Some bytes) where
      all_held : (u : Uid) → state_in u (mid (slot.Segment role k)) ≡ holds (segments old role) u
      all_held u = ap (state_in u) here ∙ m.all u

      above : IsAbove (segments old role) k
      above = above_all (segments old role) ks k numbers_are m.above

      pub put_pair : SamePair (pair_of old role) (pair_of mid role)
      put_pair = record {
        committed =
            merged_holds (segments old role) (segments mid role) k m.within above mid_segments all_held;
        prepared =
            λ a. ap (option_map states_in) (mid_pending a);
      }

      pub put_top : IsTop (segments mid role) k
      put_top = merged_top (segments old role) (segments mid role) k m.within above mid_segments all_held

      put_in_place : 0 < length ks → AreInPlace mid role
      put_in_place some = (let p = formed.in_place in record {
        old = λ q kind own. others q (not_old q (slot.Segment role k) kind refl) (not_old q slot.Tmp kind refl) ∙ p.old q kind own;
        low = λ j over. others (slot.Segment role j) (λ e. apart j over cc) (λ e. cc) ∙ p.low j over;
        bare = λ nothing j. absurd (some_held role old p ks numbers_are some (λ u. sym (put_pair.committed u) ∙ nothing u));
      })
        where
          apart : (j : ℕ) → MOST_NUMBER < j → j ≡ k → ⊥
          apart j over e = omega (arith, over, e, m.low)

      pub put_formed : 0 < length ks → IsFormed mid role
      put_formed some = formed_same role old mid formed put_pair
          (λ j less. ⊎_elim (λ (e : j ≡ k). in_form role (Some bytes) (mid (slot.Segment role j)) (ap (λ n. mid (slot.Segment role n)) e ∙ here) m.form)
          (λ (other : j ≢ k). in_form role (old (slot.Segment role j)) (mid (slot.Segment role j)) (mid_segments j less other) (formed.segments j less)) (number_cases j k))
          (λ a. in_form role (old (slot.Pending role a)) (mid (slot.Pending role a)) (mid_pending a) (formed.pendings a))
          (put_in_place some)

  -- whether it is put or not
  module _ (mid : FileMap) (puts : PutsOrNot old mid (slot.Segment role k) bytes) where
    pub put_or_not : 0 < length ks → IsFormed mid role × SamePair (pair_of old role) (pair_of mid role)
    put_or_not some = ⊎_elim (λ (same : mid (slot.Segment role k) ≡ old (slot.Segment role k)). files_stay role old mid (not_put role old mid (slot.Segment role k) puts.others same) formed)
        (λ (here : mid (slot.Segment role k) ≡ Some bytes). (put_formed mid puts.others here some, put_pair mid puts.others here)) puts.here

  -- ---- older segments go

  module _ (mid new : FileMap) (others : (q : Slot) → q ≢ slot.Segment role k → q ≢ slot.Tmp →
      mid q ≡ old q) (here : mid (slot.Segment role k) ≡ Some bytes) (removes : RemovesSome role ks mid new) where
    kept_top : new (slot.Segment role k) ≡ mid (slot.Segment role k)
    kept_top = ⊎_elim (λ (e : new (slot.Segment role k) ≡ mid (slot.Segment role k)). e)
        (λ (e : Contains ks k × (new (slot.Segment role k) ≡ None)). let less =
        all_of (λ j. j < k) ks m.above k e.0 in absurd (omega (arith, less))) (removes.each k)

    fewer : (j : ℕ) → j < numbers → (new (slot.Segment role j) ≡ mid (slot.Segment role j)) ⊎ (new (slot.Segment role j) ≡ None)
    fewer j less =
        ⊎_elim (λ (e : new (slot.Segment role j) ≡ mid (slot.Segment role j)). inl e) (λ (e : Contains ks j × (new (slot.Segment role j) ≡ None)). inr e.1) (removes.each j)

    new_pending : (a : Uid) → new (slot.Pending role a) ≡ mid (slot.Pending role a)
    new_pending a = removes.others (slot.Pending role a) (λ j e. cc)

    gone_pair : SamePair (pair_of mid role) (pair_of new role)
    gone_pair = record {
      committed =
          older_holds (segments mid role) (segments new role) k m.within (put_top mid others here) kept_top fewer;
      prepared =
          λ a. ap (option_map states_in) (new_pending a);
    }

    pub removed_pair : SamePair (pair_of old role) (pair_of new role)
    removed_pair = pair_then role old mid new (put_pair mid others here) gone_pair

    removed_in_place : 0 < length ks → AreInPlace new role
    removed_in_place some = (let p = put_in_place mid others here some in record {
      old = λ q kind own. removes.others q (λ j. not_old q (slot.Segment role j) kind refl) ∙ p.old q kind own;
      low = λ j over. ⊎_elim (λ (e : new (slot.Segment role j) ≡ mid (slot.Segment role j)). e ∙ p.low j over)
          (λ (e : Contains ks j × (new (slot.Segment role j) ≡ None)). e.1) (removes.each j);
      bare = λ nothing j. absurd (some_held role old formed.in_place ks numbers_are some (λ u. sym (removed_pair.committed u) ∙ nothing u));
    })

    pub removed_formed : 0 < length ks → IsFormed new role
    removed_formed some = formed_same role mid new (put_formed mid others here some) gone_pair
        (λ j less. ⊎_elim (λ (e : new (slot.Segment role j) ≡ mid (slot.Segment role j)). in_form role (mid (slot.Segment role j)) (new (slot.Segment role j)) e ((put_formed mid others here some).segments j less))
        (λ (e : new (slot.Segment role j) ≡ None). in_form role None (new (slot.Segment role j)) e tt) (fewer j less))
        (λ a. in_form role (mid (slot.Pending role a)) (new (slot.Pending role a)) (new_pending a) ((put_formed mid others here some).pendings a))
        (removed_in_place some)

    pub removed_others : OnlyOfRole role old new
    removed_others q other tmp = removes.others q (λ j e. other (ap slot_role e)) ∙ segment_others role k old mid others q other tmp

    pub removed_pend : (actions : Uid → Option (List Uid)) (holdings : Uid → Option Uid) → KeepsPend (pend old role) actions holdings →
        KeepsPend (pend new role) actions holdings
    removed_pend actions holdings keeps = subst (λ f. KeepsPend f actions holdings) (λ i a. sym (removed_pair.prepared a) i) keeps

    pub removed_places : AreGone role ks new → (places places' : Uid → Option ℕ) → ((u : Uid) → places u ≡ place (segments old role) u) →
        AllInOne k places places' → KeepsPlaces (segments new role) places' (k ∷ [])
    removed_places gone places places' keeps all = record {
      places_are = λ u. all u ∙ ap (option_map (λ j. k)) (keeps u) ∙ either (placed (segments old role) u) ∙ ap (option_map (λ x. k)) (sym ((put_pair mid others here).committed u))
          ∙ sym (older_place (segments mid role) (segments new role) k m.within (put_top mid others here) kept_top fewer u);
      numbers_are = one_left;
    }
      where
        either : (o : Option (ℕ × List ℕ)) → option_map (λ j. k) (option_map (λ p. p.0) o) ≡ option_map (λ x. k) (option_map (λ p. p.1) o)
        either None = refl
        either (Some p) = refl

        not_gone : (j : ℕ) → j < numbers → j ≢ k → IsSome (new (slot.Segment role j)) → ⊥
        not_gone j less other some = ⊎_elim
            (λ (e : new (slot.Segment role j) ≡ mid (slot.Segment role j)). true≢false (sym some ∙ ap is_some (all_of (λ i. new (slot.Segment role i) ≡ None) ks gone j
            (numbers_are.there j less (sym (ap is_some (e ∙ mid_segments mid others j less other)) ∙ some)))))
            (λ (e : new (slot.Segment role j) ≡ None). true≢false (sym some ∙ ap is_some e)) (fewer j less)

        one_left : AreNumbers (segments new role) (k ∷ [])
        one_left = record {
          there = λ j less some. ⊎_elim (λ (e : j ≡ k). subst (Contains (k ∷ [])) (sym e) (Contains-push [] k)) (λ (other : j ≢ k). absurd (not_gone j less other some)) (number_cases j k);
          only = (ap is_some (kept_top ∙ here), tt);
          below = (m.within, tt);
          rises = rises_one k;
        }
