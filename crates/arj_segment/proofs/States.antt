-- States of a file, put under their Uids.
use Rattle.std.proofs.Common.{◌≡◌, ◌∙◌, true, false, Bool, cond, ℕ, List, [], ◌∷◌, refl, sym, ap, subst, map, Option, Some, None}
use Rattle.std.specs.Prelude.{MatchOption, is_some, if◌then◌else◌}
use Rattle.std.specs.List.{AllByRecursion, IsDistinct}
use Rattle.arj_base.specs.State.{state_bytes, StateInForm}
use Rattle.arj_base.specs.Uid.{uid_eq}
use Rattle.arj_base.specs.declared.state.ObjectState.{ObjectState}
use Rattle.arj_base.specs.declared.uid.Uid.{Uid}
use Rattle.arj_disk.specs.Says.{new_of}
use Rattle.arj_disk.specs.declared.slot.Role.{Role}
use Rattle.arj_segment_file.proofs.Read.{distinct_is, objects_packed}
use Rattle.arj_segment_file.specs.Format.{IsSegment, states_in}
use Rattle.arj_store.proofs.Uids.{uid_is}
use Rattle.arj_store.specs.Effects.{objects}
use Rattle.arj_store.specs.Pair.{packed, uid_of}
use Rattle.arj_store.specs.Shadow.{is_in}
use Rattle.arj_segment.proofs.Pend.{among_objects}
use Rattle.arj_segment.specs.Tables.{Gathers, SetsEach, Unpacks, kept_state}

-- a Uid that no state has keeps what it had
absent : (u : Uid) (ss : List ObjectState) (before : Option ObjectState) → AllByRecursion (λ w. uid_eq u w ≡ false) (map uid_of ss) →
    kept_state u ss before ≡ before
absent u [] before none = refl
absent u (s ∷ ss) before none = ap (λ b. kept_state u ss (if b then Some s else before)) none.0 ∙ absent u ss before none.1

-- of distinct states each stands under its Uid
kept_is : (u : Uid) (ss : List ObjectState) (before : Option ObjectState) → AllByRecursion StateInForm ss →
    IsDistinct uid_eq (map uid_of ss)
    → MatchOption (new_of (packed ss) u) (kept_state u ss before ≡ before) (λ bytes. Unpacks u (Some bytes) (kept_state u ss before))
unfolding IsDistinct
kept_is u [] before form distinct = refl
kept_is u (s ∷ ss) before form distinct = by (uid_eq u s.uid) refl (kept_is u ss before form.1 distinct.1)
  where
    Found : Bool → Option ObjectState → Type 0
    Found b after =
        MatchOption (cond b (Some (state_bytes s)) (new_of (packed ss) u)) (after ≡ before) (λ bytes. Unpacks u (Some bytes) after)

    by : (b : Bool) → uid_eq u s.uid ≡ b →
        MatchOption (new_of (packed ss) u) (kept_state u ss before ≡ before) (λ bytes. Unpacks u (Some bytes) (kept_state u ss before))
        → MatchOption (cond (uid_eq u s.uid) (Some (state_bytes s)) (new_of (packed ss) u)) (kept_state u ss (if uid_eq u s.uid then Some s else before) ≡ before) (λ bytes. Unpacks u (Some bytes) (kept_state u ss (if uid_eq u s.uid then Some s else before)))
    by true same rest =
        rw same (subst (λ o. Unpacks u (Some (state_bytes s)) o) (sym (absent u ss (Some s) (subst (λ w. AllByRecursion (λ y. uid_eq w y ≡ false) (map uid_of ss)) (sym (uid_is u s.uid same)) distinct.0)))
        (form.0, sym (uid_is u s.uid same), refl))
    by false other rest = rw other rest

module _ (role : Role) (bytes : List ℕ) (is : IsSegment role bytes) (ss : List ObjectState) (same : packed ss ≡ states_in bytes) where
  objects_are : map uid_of ss ≡ objects (states_in bytes)
  objects_are = sym (objects_packed ss) ∙ ap objects same

  pub gathers_file : (k : ℕ) (places places' : Uid → Option ℕ) (states states' : Uid → Option ObjectState) → AllByRecursion StateInForm ss →
      SetsEach (map uid_of ss) (Some k) places places' → ((u : Uid) → states' u ≡ kept_state u ss (states u))
      → Gathers (Some bytes) k places states places' states'
  gathers_file k places places' states states' form each kept u = by (new_of (states_in bytes) u) refl
      (subst (λ es. MatchOption (new_of es u) (states' u ≡ states u) (λ bytes. Unpacks u (Some bytes) (states' u))) same
      (subst (λ o. MatchOption (new_of (packed ss) u) (o ≡ states u) (λ bytes. Unpacks u (Some bytes) o)) (sym (kept u)) (kept_is u ss (states u) form (subst (IsDistinct uid_eq) (sym objects_are) (distinct_is role bytes is)))))
    where
      place_is : places' u ≡ (if is_some (new_of (states_in bytes) u) then Some k else places u)
      place_is = each u ∙ ap (λ b. if b then Some k else places u) (ap (λ us. is_in us u) objects_are ∙ among_objects (states_in bytes) u)

      by : (o : Option (List ℕ)) → new_of (states_in bytes) u ≡ o →
          MatchOption o (states' u ≡ states u) (λ bytes. Unpacks u (Some bytes) (states' u))
          → MatchOption o ((places' u ≡ places u) × (states' u ≡ states u)) (λ bytes. (places' u ≡ Some k) × Unpacks u (Some bytes) (states' u))
      by None none rest = (place_is ∙ ap (λ o. if is_some o then Some k else places u) none, rest)
      by (Some x) found rest = (place_is ∙ ap (λ o. if is_some o then Some k else places u) found, rest)
