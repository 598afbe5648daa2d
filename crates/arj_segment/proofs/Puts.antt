-- What the put of a file leaves: of a Pending file, and of the first segment.
use Rattle.std.proofs.Common.{◌≡◌, ◌≢◌, ◌⊎◌, ◌∙◌, true, false, true≢false, Bool, cond, ℕ, List, [], ◌∷◌, ◌<◌, ◌≤◌, arith, refl, sym, ap, subst}
use Rattle.std.proofs.Common.{inl, ⊎_elim, map, length, Option, Some, None}
use Rattle.std.specs.Prelude.{IsSome, is_some, Contains, option_map}
use Rattle.std.specs.List.{AllByRecursion, IsDistinct}
use Rattle.std.proofs.lemmas.List.{take_all}
use Rattle.arj_base.specs.State.{state_bytes}
use Rattle.arj_base.specs.Uid.{uid_eq}
use Rattle.arj_base.specs.declared.state.ObjectState.{ObjectState}
use Rattle.arj_base.specs.declared.uid.Uid.{Uid}
use Rattle.arj_disk.proofs.Among.{at_most}
use Rattle.arj_disk.specs.FileMap.{FileMap}
use Rattle.arj_disk.specs.Formed.{AtMost}
use Rattle.arj_disk.specs.Says.{names, new_of, slot_role, OnlyOfRole, SameOfRole}
use Rattle.arj_disk.specs.declared.limits.TheConstants.{MOST_KNOWN}
use Rattle.arj_disk.specs.declared.slot.Role.{Role}
use Rattle.arj_disk.specs.declared.slot.Slot.{Slot}
use Rattle.arj_disk.specs.declared.slot.Slot.TheVariants as slot
use Rattle.arj_segment_file.proofs.Read.{objects_packed, states_are}
use Rattle.arj_segment_file.specs.Format.{IsSegment, states_in}
use Rattle.arj_store.proofs.Known.{known_prepared}
use Rattle.arj_store.proofs.Prepared.{all_in, among}
use Rattle.arj_store.proofs.Uids.{uid_cases, uid_same, uid_is}
use Rattle.arj_store.specs.Pair.{Adds, HasFirst, HasOnly, IsKnown, InDoubt, newer, packed, uid_of}
use Rattle.arj_store.specs.Shadow.{is_in}
use Rattle.arj_segment.proofs.Changes.{in_form, not_old, number_cases}
use Rattle.arj_segment.proofs.Held.{SameBut, holds, held_put}
use Rattle.arj_segment.proofs.Pend.{among_objects}
use Rattle.arj_segment.specs.Blank.{nothing_held}
use Rattle.arj_segment.specs.Formed.{AreInPlace, IsFormed}
use Rattle.arj_segment.specs.Says.{held, pair_of, pend, segments, state_in}
use Rattle.arj_segment.specs.declared.limits.TheConstants.{MOST_NUMBER}

-- what changes Tmp alone changes no file of a role
pub but_tmp : (role : Role) (old new : FileMap) → ((q : Slot) → q ≢ slot.Tmp → new q ≡ old q) → SameOfRole role old new
but_tmp role old new same q own = same q (λ e. let never : None ≡ Some role = sym (ap slot_role e) ∙ own in absurd cc)

-- an object that has a state among these is in the list of their objects
pub listed : (states : List ObjectState) (u : Uid) → IsSome (new_of (packed states) u) → is_in (map uid_of states) u ≡ true
listed states u some = ap (λ us. is_in us u) (sym (objects_packed states)) ∙ among_objects (packed states) u ∙ some

-- ---- a prepare

module _ (role : Role) (act : Uid) (states : List ObjectState) (old new : FileMap) (formed : IsFormed old role) (first : pend old role act ≡ None) (free : AllByRecursion (λ s. InDoubt (pair_of old role) s.uid → ⊥) states)
    (few : AtMost MOST_KNOWN (λ u. IsKnown (pair_of old role) u ⊎ Contains (map uid_of states) u)) (bytes : List ℕ) (is : IsSegment role bytes) (whole : is.states ≡ states)
    (others : (q : Slot) → q ≢ slot.Pending role act → q ≢ slot.Tmp → new q ≡ old q) (here : new (slot.Pending role act) ≡ Some bytes) where
  pub put_segments : (j : ℕ) → new (slot.Segment role j) ≡ old (slot.Segment role j)
  put_segments j = others (slot.Segment role j) (λ e. cc) (λ e. cc)

  put_pending : (a : Uid) → a ≢ act → new (slot.Pending role a) ≡ old (slot.Pending role a)
  put_pending a other = others (slot.Pending role a) (λ e. other cc) (λ e. cc)

  pub put_adds : Adds (pair_of old role) (pair_of new role) act states
  put_adds = record {
    committed = λ u. ap (λ segment. holds segment u) (λ i j. put_segments j i);
    here = ap (option_map states_in) here ∙ ap Some (states_are role bytes is ∙ ap packed whole);
    others = λ a other. ap (option_map states_in) (put_pending a other);
  }

  new_free : (u : Uid) → names (pend new role act) u → InDoubt (pair_of old role) u → ⊥
  new_free u named =
      all_in (λ w. InDoubt (pair_of old role) w → ⊥) states free u (listed states u (subst (λ o. names o u) put_adds.here named))

  put_once : (a b u : Uid) → names (pend new role a) u → names (pend new role b) u → a ≡ b
  put_once a b u na nb = ⊎_elim
      (λ (ea : a ≡ act). ⊎_elim (λ (eb : b ≡ act). ea ∙ sym eb) (λ (ob : b ≢ act). absurd (new_free u (subst (λ c. names (pend new role c) u) ea na) (b, subst (λ o. names o u) (put_adds.others b ob) nb))) (uid_cases b act))
      (λ (oa : a ≢ act). ⊎_elim (λ (eb : b ≡ act). absurd (new_free u (subst (λ c. names (pend new role c) u) eb nb) (a, subst (λ o. names o u) (put_adds.others a oa) na)))
      (λ (ob : b ≢ act). formed.once a b u (subst (λ o. names o u) (put_adds.others a oa) na) (subst (λ o. names o u) (put_adds.others b ob) nb)) (uid_cases b act))
      (uid_cases a act)

  pub put_formed : IsFormed new role
  put_formed = record {
    segments = λ j less. in_form role (old (slot.Segment role j)) (new (slot.Segment role j)) (put_segments j) (formed.segments j less);
    pendings = λ a. ⊎_elim (λ (e : a ≡ act). in_form role (Some bytes) (new (slot.Pending role a)) (ap (λ b. new (slot.Pending role b)) e ∙ here) is)
        (λ (other : a ≢ act). in_form role (old (slot.Pending role a)) (new (slot.Pending role a)) (put_pending a other) (formed.pendings a)) (uid_cases a act);
    once = put_once;
    few = λ us distinct each. few us distinct (λ u among. known_prepared (pair_of old role) (pair_of new role) act states put_adds u (each u among));
    in_place = (let p = formed.in_place in record {
      old = λ q kind own. others q (not_old q (slot.Pending role act) kind refl) (not_old q slot.Tmp kind refl) ∙ p.old q kind own;
      low = λ j above. put_segments j ∙ p.low j above;
      bare = λ nothing j. put_segments j ∙ p.bare (λ u. sym (put_adds.committed u) ∙ nothing u) j;
    });
  }

pub put_others : (role : Role) (act : Uid) (old new : FileMap) → ((q : Slot) → q ≢ slot.Pending role act → q ≢ slot.Tmp → new q ≡ old q) →
    OnlyOfRole role old new
put_others role act old new others q other tmp = others q (λ e. other (ap slot_role e)) tmp

pub segment_others : (role : Role) (k : ℕ) (old new : FileMap) → ((q : Slot) → q ≢ slot.Segment role k → q ≢ slot.Tmp → new q ≡ old q) →
    OnlyOfRole role old new
segment_others role k old new others q other tmp = others q (λ e. other (ap slot_role e)) tmp

-- ---- the first segment

-- each of distinct states is found under its Uid
pub each_found : (states : List ObjectState) → IsDistinct uid_eq (map uid_of states) →
    AllByRecursion (λ s. new_of (packed states) s.uid ≡ Some (state_bytes s)) states
unfolding IsDistinct
each_found [] distinct = tt
each_found (s ∷ ss) distinct =
    (ap (λ b. cond b (Some (state_bytes s)) (new_of (packed ss) s.uid)) (uid_same s.uid), later ss distinct.0 (each_found ss distinct.1))
  where
    other : (t : ObjectState) → uid_eq s.uid t.uid ≡ false → uid_eq t.uid s.uid ≡ false
    other t apart = by (uid_eq t.uid s.uid) refl
      where
        by : (b : Bool) → uid_eq t.uid s.uid ≡ b → b ≡ false
        by false is = refl
        by true is = absurd (true≢false (sym (uid_same t.uid) ∙ ap (λ w. uid_eq w t.uid) (uid_is t.uid s.uid is) ∙ apart))

    later : (ts : List ObjectState) → AllByRecursion (λ u. uid_eq s.uid u ≡ false) (map uid_of ts) →
        AllByRecursion (λ t. new_of (packed ss) t.uid ≡ Some (state_bytes t)) ts
        → AllByRecursion (λ t. cond (uid_eq t.uid s.uid) (Some (state_bytes s)) (new_of (packed ss) t.uid) ≡ Some (state_bytes t)) ts
    later [] apart all = tt
    later (t ∷ ts) apart all =
        (ap (λ b. cond b (Some (state_bytes s)) (new_of (packed ss) t.uid)) (other t apart.0) ∙ all.0, later ts apart.1 all.1)

module _ (role : Role) (states : List ObjectState) (old new : FileMap) (none : (q : Slot) → slot_role q ≡ Some role →
    old q ≡ None) (distinct : IsDistinct uid_eq (map uid_of states)) (count : length states ≤ MOST_KNOWN)
    (bytes : List ℕ) (is : IsSegment role bytes) (whole : is.states ≡ states)
    (others : (q : Slot) → q ≢ slot.Segment role 1 → q ≢ slot.Tmp → new q ≡ old q) (here : new (slot.Segment role 1) ≡ Some bytes) where
  pub first_segments : SameBut (segments old role) (segments new role) 1
  first_segments j less other = others (slot.Segment role j) (λ e. other cc) (λ e. cc)

  pub first_pending : (a : Uid) → new (slot.Pending role a) ≡ None
  first_pending a = others (slot.Pending role a) (λ e. cc) (λ e. cc) ∙ none (slot.Pending role a) refl

  file_is : states_in bytes ≡ packed states
  file_is = states_are role bytes is ∙ ap packed whole

  first_held : (u : Uid) → held new role u ≡ new_of (packed states) u
  first_held u =
      held_put (segments old role) (segments new role) 1 (omega arith) (λ j from below. none (slot.Segment role j) refl) first_segments u
      ∙ (λ i. newer (state_in u (here i)) (nothing_held role old none u i)) ∙ ap (λ es. newer (new_of es u) None) file_is ∙ by (new_of (packed states) u)
    where
      by : (o : Option (List ℕ)) → newer o None ≡ o
      by None = refl
      by (Some x) = refl

  first_known : (u : Uid) → IsKnown (pair_of new role) u → Contains (map uid_of states) u
  first_known u =
      ⊎_elim (λ (h : IsSome (held new role u)). among (map uid_of states) u (listed states u (sym (ap is_some (first_held u)) ∙ h)))
      (λ (h : InDoubt (pair_of new role) u). absurd (subst (λ o. names o u) (ap (option_map states_in) (first_pending h.0)) h.1))

  pub first_only : HasOnly (pair_of new role) states
  first_only = record {
    each = each states (each_found states distinct);
    others = λ u some. first_known u (inl some);
    none = λ a. ap (option_map states_in) (first_pending a);
  }
    where
      each : (ss : List ObjectState) → AllByRecursion (λ s. new_of (packed states) s.uid ≡ Some (state_bytes s)) ss →
          AllByRecursion (λ s. held new role s.uid ≡ Some (state_bytes s)) ss
      each [] all = tt
      each (s ∷ ss) all = (first_held s.uid ∙ all.0, each ss all.1)

  pub first_whole : HasFirst (pair_of new role) states
  first_whole = (length states, subst (HasOnly (pair_of new role)) (sym (take_all (length states) states (omega arith))) first_only)

  first_in_place : 0 < length states → AreInPlace new role
  first_in_place some = record {
    old = λ q kind own. others q (not_old q (slot.Segment role 1) kind refl) (not_old q slot.Tmp kind refl) ∙ none q own;
    low = λ j above. others (slot.Segment role j) (λ e. high j above cc) (λ e. cc) ∙ none (slot.Segment role j) refl;
    bare = λ nothing j. absurd (full states first_only.each some nothing);
  }
    where
      high : (j : ℕ) → MOST_NUMBER < j → j ≡ 1 → ⊥
      high j above e = omega (arith, above, e)

      full : (ss : List ObjectState) → AllByRecursion (λ s. held new role s.uid ≡ Some (state_bytes s)) ss → 0 < length ss →
          ((u : Uid) → held new role u ≡ None) → ⊥
      full [] all some nothing = omega (arith, some)
      full (s ∷ ss) all some nothing = let never : None ≡ Some (state_bytes s) = sym (nothing s.uid) ∙ all.0 in absurd cc

  pub first_formed : 0 < length states → IsFormed new role
  first_formed some = record {
    segments = λ j less. ⊎_elim (λ (e : j ≡ 1). in_form role (Some bytes) (new (slot.Segment role j)) (ap (λ n. new (slot.Segment role n)) e ∙ here) is)
        (λ (other : j ≢ 1). in_form role None (new (slot.Segment role j)) (first_segments j less other ∙ none (slot.Segment role j) refl) tt) (number_cases j 1);
    pendings = λ a. in_form role None (new (slot.Pending role a)) (first_pending a) tt;
    once = λ a b u na nb. absurd (subst (λ o. names o u) (ap (option_map states_in) (first_pending a)) na);
    few = λ us apart each. at_most MOST_KNOWN (map uid_of states) (omega (arith, count, length_map states)) us apart (λ u among. first_known u (each u among));
    in_place = first_in_place some;
  }
    where
      length_map : (ss : List ObjectState) → length (map uid_of ss) ≡ length ss
      length_map [] = refl
      length_map (s ∷ ss) = let rest = length_map ss in omega (arith, rest)
