-- The ends of an action, from what is kept before the call to what is kept after it.
use Rattle.std.proofs.Common.{◌≡◌, ◌⊎◌, ◌∙◌, true≢false, cond, ℕ, List, [], ◌∷◌, ◌++◌, ◌<◌, ◌≤◌, refl, sym, ap, subst, inl, inr, ⊎_elim, Option, Some, None}
use Rattle.std.specs.Prelude.{IsSome, is_some, option_map}
use Rattle.std.specs.List.{AllByRecursion}
use Rattle.arj_base.specs.declared.uid.Uid.{Uid}
use Rattle.arj_disk.specs.Disk.{Removes, Renames, Same}
use Rattle.arj_disk.specs.FileMap.{FileMap}
use Rattle.arj_disk.specs.Says.{new_of}
use Rattle.arj_disk.specs.declared.slot.Role.{Role}
use Rattle.arj_disk.specs.declared.slot.Slot.TheVariants as slot
use Rattle.arj_segment_file.specs.Format.{states_in}
use Rattle.arj_store.proofs.Uids.{uid_same}
use Rattle.arj_store.specs.Effects.{objects}
use Rattle.arj_store.specs.Pair.{Drops, Moves, SamePair, held_after, newer}
use Rattle.arj_store.specs.Table.{Sets}
use Rattle.arj_segment.proofs.Changes.{abort_drops, abort_formed, abort_segments, commit_formed, commit_moves, commit_segments, pair_itself}
use Rattle.arj_segment.proofs.Changes.{places_more, same_files}
use Rattle.arj_segment.proofs.Pend.{pend_ended}
use Rattle.arj_segment.specs.Formed.{IsFormed}
use Rattle.arj_segment.specs.Says.{held, numbers, pair_of, pend, place, segments}
use Rattle.arj_segment.specs.Tables.{AreNumbers, IsBare, KeepsPend, KeepsPlaces, SetsEach}
use Rattle.arj_segment.specs.declared.limits.TheConstants.{MOST_NUMBER}

-- an action that isn't kept has prepared nothing
pub no_action : (file : FileMap) (role : Role) (actions : Uid → Option (List Uid)) (holdings : Uid → Option Uid) →
    KeepsPend (pend file role) actions holdings → (a : Uid) → actions a ≡ None → pend file role a ≡ None
no_action file role actions holdings keeps a none = by (pend file role a) (sym (keeps.actions_are a) ∙ none)
  where
    by : (o : Option (List (Uid × List ℕ))) → option_map objects o ≡ None → o ≡ None
    by None e = refl
    by (Some es) e = let never : Some (objects es) ≡ None = e in absurd cc

-- one that is kept has a Pending file, and is kept with its objects
pub record HasPending (file : FileMap) (role : Role) (a : Uid) (us : List Uid) : Type 0 where
  pub bytes : List ℕ
  pub there : file (slot.Pending role a) ≡ Some bytes
  pub theirs : us ≡ objects (states_in bytes)

pub an_action : (file : FileMap) (role : Role) (actions : Uid → Option (List Uid)) (holdings : Uid → Option Uid) →
    KeepsPend (pend file role) actions holdings → (a : Uid) (us : List Uid) → actions a ≡ Some us → HasPending file role a us
an_action file role actions holdings keeps a us is = by (file (slot.Pending role a)) refl (sym (keeps.actions_are a) ∙ is)
  where
    by : (o : Option (List ℕ)) → file (slot.Pending role a) ≡ o → option_map objects (option_map states_in o) ≡ Some us →
        HasPending file role a us
    by None none e = let never : None ≡ Some us = e in absurd cc
    by (Some bytes) there e = let same : objects (states_in bytes) ≡ us = cc in record { bytes = bytes; there = there; theirs = sym same }

-- states of which none is of any object are none
none_named : (es : List (Uid × List ℕ)) → ((u : Uid) → new_of es u ≡ None) → objects es ≡ []
none_named [] none = refl
none_named (e ∷ es) none =
    let never : None ≡ Some e.1 = sym (none e.0) ∙ ap (λ b. cond b (Some e.1) (new_of es e.0)) (uid_same e.0) in absurd cc

newer_none : (o p : Option (List ℕ)) → newer o p ≡ None → (o ≡ None) × (p ≡ None)
newer_none None p is = (refl, is)
newer_none (Some x) p is = let never : Some x ≡ None = is in absurd cc

module _ (role : Role) (act : Uid) (us : List Uid) (old : FileMap) (formed : IsFormed old role) (has : HasPending old role act us)
    (actions actions' : Uid → Option (List Uid)) (holdings holdings' : Uid →
    Option Uid) (keeps : KeepsPend (pend old role) actions holdings) where
  -- ---- a commit

  module _ (new : FileMap) (ks : List ℕ) (k : ℕ) (within : k < numbers) (are : AreNumbers (segments old role) ks) (below : AllByRecursion (λ j. j < k) ks) where
    pub commit_fault : Same old new ⊎ Renames old new (slot.Pending role act) (slot.Segment role k) →
        SamePair (pair_of old role) (pair_of new role) ⊎ Moves (pair_of old role) (pair_of new role) act
    commit_fault =
        ⊎_elim (λ (same : Same old new). inl (subst (λ file. SamePair (pair_of old role) (pair_of file role)) (sym (same_files old new same)) (pair_itself role old)))
        (λ (renames : Renames old new (slot.Pending role act) (slot.Segment role k)). inr (commit_moves role act old new formed ks k within are below renames))

    -- unless no object is there, and no segment was, something is committed then
    commit_full : (IsBare us ks → ⊥) → Renames old new (slot.Pending role act) (slot.Segment role k) → ((u : Uid) → held new role u ≡ None) → ⊥
    commit_full full renames nothing = full (has.theirs ∙ none_named (states_in has.bytes) (λ u. (each u).0), no_segment ks are.only)
      where
        each : (u : Uid) → (new_of (states_in has.bytes) u ≡ None) × (held old role u ≡ None)
        each u = newer_none (new_of (states_in has.bytes) u) (held old role u)
            (sym (ap (λ o. held_after (option_map states_in o) u (held old role u)) has.there)
            ∙ sym (let m = commit_moves role act old new formed ks k within are below renames in m.committed u) ∙ nothing u)

        no_segment : (js : List ℕ) → AllByRecursion (λ j. IsSome (segments old role j)) js → js ≡ []
        no_segment [] some = refl
        no_segment (j ∷ js) some =
            absurd (true≢false (sym some.0 ∙ ap is_some (let p = formed.in_place in p.bare (λ u. (each u).1) j)))

    pub commit_end : k ≤ MOST_NUMBER → (IsBare us ks → ⊥) → Same old new ⊎ Renames old new (slot.Pending role act) (slot.Segment role k) →
        IsFormed new role
    commit_end low full = ⊎_elim (λ (same : Same old new). subst (λ file. IsFormed file role) (sym (same_files old new same)) formed)
        (λ (renames : Renames old new (slot.Pending role act) (slot.Segment role k)).
        commit_formed role act old new formed ks k within are below renames low (commit_full full renames))

    module _ (renames : Renames old new (slot.Pending role act) (slot.Segment role k)) where
      pub commit_pend : Sets actions actions' act None → SetsEach us None holdings holdings' → KeepsPend (pend new role) actions' holdings'
      commit_pend sets each =
          pend_ended (pend old role) (pend new role) act (states_in has.bytes) moves.others actions actions' holdings holdings' keeps formed.once (ap (option_map states_in) has.there) moves.gone sets
          (subst (λ ws. SetsEach ws None holdings holdings') has.theirs each)
        where
          moves : Moves (pair_of old role) (pair_of new role) act
          moves = commit_moves role act old new formed ks k within are below renames

      pub commit_places : (places places' : Uid → Option ℕ) → ((u : Uid) → places u ≡ place (segments old role) u) →
          SetsEach us (Some k) places places' → KeepsPlaces (segments new role) places' (ks ++ k ∷ [])
      commit_places places places' kept each =
          places_more (segments old role) (segments new role) ks k within are below (commit_segments role act old new formed ks k within are below renames) has.bytes (renames.here ∙ has.there) places places' kept
          (subst (λ ws. SetsEach ws (Some k) places places') has.theirs each)

  -- ---- an abort

  module _ (new : FileMap) where
    pub abort_fault : Same old new ⊎ Removes old new (slot.Pending role act) →
        SamePair (pair_of old role) (pair_of new role) ⊎ Drops (pair_of old role) (pair_of new role) act
    abort_fault =
        ⊎_elim (λ (same : Same old new). inl (subst (λ file. SamePair (pair_of old role) (pair_of file role)) (sym (same_files old new same)) (pair_itself role old)))
        (λ (removes : Removes old new (slot.Pending role act)). inr (abort_drops role act old new formed removes))

    pub abort_end : Same old new ⊎ Removes old new (slot.Pending role act) → IsFormed new role
    abort_end = ⊎_elim (λ (same : Same old new). subst (λ file. IsFormed file role) (sym (same_files old new same)) formed)
        (λ (removes : Removes old new (slot.Pending role act)). abort_formed role act old new formed removes)

    -- where no object is there, this is a commit too
    pub bare_moves : us ≡ [] → Drops (pair_of old role) (pair_of new role) act → Moves (pair_of old role) (pair_of new role) act
    bare_moves none drops = record {
      committed = λ u. drops.committed u ∙ nothing (states_in has.bytes) (sym has.theirs ∙ none) u
          ∙ sym (ap (λ o. held_after (option_map states_in o) u (held old role u)) has.there);
      gone = drops.gone;
      others = drops.others;
    }
      where
        nothing : (es : List (Uid × List ℕ)) → objects es ≡ [] → (u : Uid) → held old role u ≡ newer (new_of es u) (held old role u)
        nothing [] is u = refl
        nothing (e ∷ es) is u = let never : objects (e ∷ es) ≡ [] = is in absurd cc

    pub bare_fault : us ≡ [] → Same old new ⊎ Removes old new (slot.Pending role act) →
        SamePair (pair_of old role) (pair_of new role) ⊎ Moves (pair_of old role) (pair_of new role) act
    bare_fault none left = ⊎_elim (λ (same : SamePair (pair_of old role) (pair_of new role)). inl same)
        (λ (drops : Drops (pair_of old role) (pair_of new role) act). inr (bare_moves none drops)) (abort_fault left)

    module _ (removes : Removes old new (slot.Pending role act)) where
      pub abort_pend : Sets actions actions' act None → SetsEach us None holdings holdings' → KeepsPend (pend new role) actions' holdings'
      abort_pend sets each =
          pend_ended (pend old role) (pend new role) act (states_in has.bytes) drops.others actions actions' holdings holdings' keeps formed.once (ap (option_map states_in) has.there) drops.gone sets
          (subst (λ ws. SetsEach ws None holdings holdings') has.theirs each)
        where
          drops : Drops (pair_of old role) (pair_of new role) act
          drops = abort_drops role act old new formed removes

      pub abort_places : (places : Uid → Option ℕ) (ks : List ℕ) → KeepsPlaces (segments old role) places ks →
          KeepsPlaces (segments new role) places ks
      abort_places places ks kept =
          subst (λ segment. KeepsPlaces segment places ks) (λ i j. sym (abort_segments role act old new formed removes j) i) kept
