-- The put of a Pending file, or of the first segment, done or not: from what is kept before the call to what is kept after it.
use Rattle.std.proofs.Common.{◌≡◌, ◌≢◌, ◌⊎◌, ◌∙◌, ℕ, List, [], ◌∷◌, ◌<◌, ◌≤◌, arith, refl, sym, ap, subst, inl, inr, ⊎_elim, map, length, Option}
use Rattle.std.proofs.Common.{Some, None}
use Rattle.std.specs.Prelude.{Contains, option_map}
use Rattle.std.specs.List.{AllByRecursion, IsDistinct}
use Rattle.arj_base.specs.Uid.{uid_eq}
use Rattle.arj_base.specs.declared.state.ObjectState.{ObjectState}
use Rattle.arj_base.specs.declared.uid.Uid.{Uid}
use Rattle.arj_disk.specs.Disk.{Puts, PutsOrNot}
use Rattle.arj_disk.specs.FileMap.{FileMap}
use Rattle.arj_disk.specs.Formed.{AtMost}
use Rattle.arj_disk.specs.Says.{names, slot_role, OnlyOfRole, SameOfRole}
use Rattle.arj_disk.specs.declared.limits.TheConstants.{MOST_KNOWN}
use Rattle.arj_disk.specs.declared.slot.Role.{Role}
use Rattle.arj_disk.specs.declared.slot.Slot.{Slot}
use Rattle.arj_disk.specs.declared.slot.Slot.TheVariants as slot
use Rattle.arj_segment_file.proofs.Read.{objects_packed, states_are}
use Rattle.arj_segment_file.specs.Format.{FitsRow, IsSegment, segment_bytes, states_in}
use Rattle.arj_store.proofs.Uids.{slot_cases}
use Rattle.arj_store.specs.Effects.{objects}
use Rattle.arj_store.specs.Pair.{Adds, AreDistinct, HasFirst, HasOnly, InDoubt, IsKnown, SamePair, packed, uid_of}
use Rattle.arj_store.specs.Table.{Sets}
use Rattle.arj_segment.proofs.Changes.{places_more}
use Rattle.arj_segment.proofs.Pend.{pend_added}
use Rattle.arj_segment.proofs.Puts.{but_tmp, first_formed, first_only, first_pending, first_segments, first_whole, put_adds, put_formed}
use Rattle.arj_segment.proofs.Puts.{put_segments, segment_others}
use Rattle.arj_segment.specs.Blank.{formed_of_none, only_none}
use Rattle.arj_segment.specs.Formed.{IsFormed}
use Rattle.arj_segment.specs.Says.{pair_of, pend, segments}
use Rattle.arj_segment.specs.Stays.{files_stay}
use Rattle.arj_segment.specs.Tables.{KeepsPend, KeepsPlaces, SetsEach}

-- a file that wasn't put
pub not_put : (role : Role) (old new : FileMap) (s : Slot) → ((q : Slot) → q ≢ s → q ≢ slot.Tmp → new q ≡ old q) → new s ≡ old s →
    SameOfRole role old new
not_put role old new s others same = but_tmp role old new (λ q tmp. by q tmp (slot_cases q s))
  where
    by : (q : Slot) → q ≢ slot.Tmp → (q ≡ s) ⊎ (q ≢ s) → new q ≡ old q
    by q tmp (inl e) = ap new e ∙ same ∙ ap old (sym e)
    by q tmp (inr other) = others q other tmp

abbrev pub segment_is : (role : Role) (states : List ObjectState) → AllByRecursion FitsRow states → length states ≤ MOST_KNOWN →
    AreDistinct role states → (bytes : List ℕ) → bytes ≡ segment_bytes states → IsSegment role bytes
segment_is role states fit count distinct bytes written =
    record { states = states; fit = fit; count = count; distinct = distinct; written = written }

pub no_states : (states : List ObjectState) → length states ≡ 0 → states ≡ []
no_states [] none = refl
no_states (s ∷ ss) none = let never : ⊥ = omega (arith, none) in absurd never

-- ---- a prepare

module _ (role : Role) (act : Uid) (states : List ObjectState) (old : FileMap) (formed : IsFormed old role) (first : pend old role act ≡ None) (free : AllByRecursion (λ s. InDoubt (pair_of old role) s.uid → ⊥) states)
    (few : AtMost MOST_KNOWN (λ u. IsKnown (pair_of old role) u ⊎ Contains (map uid_of states) u)) (bytes : List ℕ) (is : IsSegment role bytes) (whole : is.states ≡ states) (new : FileMap) where
  pub pending_fault : PutsOrNot old new (slot.Pending role act) bytes →
      SamePair (pair_of old role) (pair_of new role) ⊎ Adds (pair_of old role) (pair_of new role) act states
  pending_fault puts =
      ⊎_elim (λ (same : new (slot.Pending role act) ≡ old (slot.Pending role act)). inl (files_stay role old new (not_put role old new (slot.Pending role act) puts.others same) formed).1)
      (λ (here : new (slot.Pending role act) ≡ Some bytes). inr (put_adds role act states old new formed first free few bytes is whole puts.others here)) puts.here

  pub pending_end : PutsOrNot old new (slot.Pending role act) bytes → IsFormed new role
  pending_end puts =
      ⊎_elim (λ (same : new (slot.Pending role act) ≡ old (slot.Pending role act)). (files_stay role old new (not_put role old new (slot.Pending role act) puts.others same) formed).0)
      (λ (here : new (slot.Pending role act) ≡ Some bytes). put_formed role act states old new formed first free few bytes is whole puts.others here) puts.here

  module _ (puts : Puts old new (slot.Pending role act) bytes) where
    pub pending_adds : Adds (pair_of old role) (pair_of new role) act states
    pending_adds = put_adds role act states old new formed first free few bytes is whole puts.others puts.here

    pub pending_pend : (us : List Uid) → us ≡ map uid_of states →
        (actions actions' : Uid → Option (List Uid)) (holdings holdings' : Uid → Option Uid) → KeepsPend (pend old role) actions holdings
        → Sets actions actions' act (Some us) → SetsEach us (Some act) holdings holdings' → KeepsPend (pend new role) actions' holdings'
    pending_pend us theirs actions actions' holdings holdings' keeps sets each =
        let same : us ≡ objects (packed states) = theirs ∙ sym (objects_packed states) in
        pend_added (pend old role) (pend new role) act (packed states) pending_adds.others actions actions' holdings holdings' keeps
        (λ u named. absurd (subst (λ o. names o u) first named)) pending_adds.here (subst (λ ws. Sets actions actions' act (Some ws)) same sets) (subst (λ ws. SetsEach ws (Some act) holdings holdings') same each)

    pub pending_places : (places : Uid → Option ℕ) (ks : List ℕ) → KeepsPlaces (segments old role) places ks →
        KeepsPlaces (segments new role) places ks
    pending_places places ks kept =
        subst (λ segment. KeepsPlaces segment places ks) (λ i j. sym (put_segments role act states old new formed first free few bytes is whole puts.others puts.here j) i) kept

-- ---- the first segment

module _ (role : Role) (states : List ObjectState) (old : FileMap) (none : (q : Slot) → slot_role q ≡ Some role →
    old q ≡ None) (distinct : IsDistinct uid_eq (map uid_of states)) (count : length states ≤ MOST_KNOWN)
    (bytes : List ℕ) (is : IsSegment role bytes) (whole : is.states ≡ states) (new : FileMap) where
  still_none : ((q : Slot) → q ≢ slot.Segment role 1 → q ≢ slot.Tmp → new q ≡ old q) →
      new (slot.Segment role 1) ≡ old (slot.Segment role 1) → (q : Slot) → slot_role q ≡ Some role → new q ≡ None
  still_none others same q own = not_put role old new (slot.Segment role 1) others same q own ∙ none q own

  pub first_fault : PutsOrNot old new (slot.Segment role 1) bytes → HasFirst (pair_of new role) states
  first_fault puts =
      ⊎_elim (λ (same : new (slot.Segment role 1) ≡ old (slot.Segment role 1)). (0, only_none role new (still_none puts.others same)))
      (λ (here : new (slot.Segment role 1) ≡ Some bytes). first_whole role states old new none distinct count bytes is whole puts.others here) puts.here

  pub first_end : 0 < length states → PutsOrNot old new (slot.Segment role 1) bytes → IsFormed new role
  first_end some puts =
      ⊎_elim (λ (same : new (slot.Segment role 1) ≡ old (slot.Segment role 1)). formed_of_none role new (still_none puts.others same))
      (λ (here : new (slot.Segment role 1) ≡ Some bytes). first_formed role states old new none distinct count bytes is whole puts.others here some) puts.here

  module _ (puts : Puts old new (slot.Segment role 1) bytes) where
    pub first_pair : HasOnly (pair_of new role) states
    first_pair = first_only role states old new none distinct count bytes is whole puts.others puts.here

    pub first_places : (us : List Uid) → us ≡ map uid_of states → (places places' : Uid → Option ℕ) →
        KeepsPlaces (segments old role) places [] → SetsEach us (Some 1) places places' → KeepsPlaces (segments new role) places' (1 ∷ [])
    first_places us theirs places places' kept each =
        places_more (segments old role) (segments new role) [] 1 (omega arith) kept.numbers_are tt (first_segments role states old new none distinct count bytes is whole puts.others puts.here) bytes puts.here places places' kept.places_are
        (subst (λ ws. SetsEach ws (Some 1) places places') (theirs ∙ sym (objects_packed states) ∙ ap objects (sym (states_are role bytes is ∙ ap packed whole))) each)

    pub first_pend : (actions : Uid → Option (List Uid)) (holdings : Uid → Option Uid) → KeepsPend (pend old role) actions holdings →
        KeepsPend (pend new role) actions holdings
    first_pend actions holdings kept = subst (λ f. KeepsPend f actions holdings)
        (λ i a. ap (option_map states_in) (none (slot.Pending role a) refl ∙ sym (first_pending role states old new none distinct count bytes is whole puts.others puts.here a)) i) kept

pub first_rest : (role : Role) (old new : FileMap) → ((q : Slot) → q ≢ slot.Segment role 1 → q ≢ slot.Tmp → new q ≡ old q) →
    OnlyOfRole role old new
first_rest role old new others = segment_others role 1 old new others
