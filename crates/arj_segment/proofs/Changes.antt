-- What the changes of files leave: the pair, the forms of the files, and what is kept in memory.
use Rattle.std.proofs.Common.{◌≡◌, ◌≢◌, ◌⊎◌, ◌∙◌, ◌==◌, true, false, true≢false, ℕ, List, [], ◌∷◌, ◌++◌, ◌<◌, ◌≤◌, arith, refl, sym, ap, subst}
use Rattle.std.proofs.Common.{inl, inr, ⊎_elim, Option, Some, None}
use Rattle.std.specs.Prelude.{is_some, IsSome, IfSome, Contains, option_map, if◌then◌else◌}
use Rattle.std.specs.List.{AllByRecursion}
use Rattle.std.specs.Ordering.{nat_cmp}
use Rattle.std.specs.declared.cmp.Ordering.TheVariants.{Less}
use Rattle.std.proofs.lemmas.Bool.{cases_Bool, eq-eqb, eqb-true}
use Rattle.std.proofs.lemmas.List.Elements.{Contains-append_left, Contains-push}
use Rattle.arj_base.specs.declared.uid.Uid.{Uid}
use Rattle.arj_disk.specs.Disk.{Removes, Renames, Same}
use Rattle.arj_disk.specs.FileMap.{FileMap}
use Rattle.arj_disk.specs.Says.{names, new_of}
use Rattle.arj_disk.specs.declared.slot.Role.{Role}
use Rattle.arj_disk.specs.declared.slot.Slot.{Slot}
use Rattle.arj_disk.specs.declared.slot.Slot.TheVariants as slot
use Rattle.arj_segment_file.specs.Format.{IsSegment, states_in}
use Rattle.arj_store.proofs.Known.{known_dropped, known_moved}
use Rattle.arj_store.proofs.Lists.{all_more}
use Rattle.arj_store.proofs.Uids.{uid_cases}
use Rattle.arj_store.specs.Effects.{objects}
use Rattle.arj_store.specs.Pair.{Drops, IsKnown, Moves, SamePair, held_after, newer}
use Rattle.arj_store.specs.Shadow.{is_in}
use Rattle.arj_segment.proofs.Held.{IsAbove, SameBut, holds, held_put, place_put, place_after}
use Rattle.arj_segment.proofs.Numbers.{all_of, less_is}
use Rattle.arj_segment.proofs.Picked.{all_map, sorted_push}
use Rattle.arj_segment.proofs.Pend.{among_objects}
use Rattle.arj_segment.specs.Formed.{AreInPlace, IsFormed, is_old}
use Rattle.arj_segment.specs.Says.{held, numbers, pair_of, pend, place, segments, state_in}
use Rattle.arj_segment.specs.Tables.{AreNumbers, KeepsPlaces, SetsEach}
use Rattle.arj_segment.specs.declared.limits.TheConstants.{MOST_NUMBER}

-- files that are the same everywhere are the same
pub same_files : (old new : FileMap) → Same old new → new ≡ old
same_files old new same = λ i q. same q i

pub pair_itself : (role : Role) (file : FileMap) → SamePair (pair_of file role) (pair_of file role)
pair_itself role file = record { committed = λ u. refl; prepared = λ a. refl }

-- ---- numbers and places

pub number_cases : (j k : ℕ) → (j ≡ k) ⊎ (j ≢ k)
number_cases j k =
    ⊎_elim (λ (yes : (j == k) ≡ true). inl (eqb-true j k yes)) (λ (no : (j == k) ≡ false). inr (λ e. true≢false (sym (eq-eqb j k e) ∙ no))) (cases_Bool (j == k))

-- above all numbers there is no segment
pub above_all : (segment : ℕ → Option (List ℕ)) (ks : List ℕ) (k : ℕ) → AreNumbers segment ks → AllByRecursion (λ j. j < k) ks →
    IsAbove segment k
above_all segment ks k are below j from within = by (segment j) refl
  where
    by : (o : Option (List ℕ)) → segment j ≡ o → o ≡ None
    by None is = refl
    by (Some bytes) is =
        let less = all_of (λ i. i < k) ks below j (are.there j within (ap is_some is)) in absurd (omega (arith, less, from))

module _ (old new : ℕ →
    Option (List ℕ)) (ks : List ℕ) (k : ℕ) (within : k < numbers) (are : AreNumbers old ks) (below : AllByRecursion (λ j. j < k) ks) (same : SameBut old new k) where
  stays : (js : List ℕ) → AllByRecursion (λ j. IsSome (old j)) js → AllByRecursion (λ j. j < numbers) js → AllByRecursion (λ j. j < k) js →
      AllByRecursion (λ j. IsSome (new j)) js
  stays [] some small under = tt
  stays (j ∷ js) some small under =
      (ap is_some (same j small.0 (λ e. omega (arith, e, under.0))) ∙ some.0, stays js some.1 small.1 under.1)

  -- one more segment above all others
  pub one_more : IsSome (new k) → AreNumbers new (ks ++ k ∷ [])
  one_more some = record {
    only = all_more (λ j. IsSome (new j)) ks k (stays ks are.only are.below below) some;
    there = λ j less is. ⊎_elim (λ (e : j ≡ k). subst (Contains (ks ++ k ∷ [])) (sym e) (Contains-push ks k))
        (λ (other : j ≢ k). Contains-append_left ks (k ∷ []) j (are.there j less (sym (ap is_some (same j less other)) ∙ is))) (number_cases j k);
    below = all_more (λ j. j < numbers) ks k are.below within;
    rises = sorted_push nat_cmp ks k are.rises (all_map (λ j. j < k) (λ j. nat_cmp j k ≡ Less) ks (λ j. less_is j k) below);
  }

  -- it has the states of its objects now
  pub places_more : (bytes : List ℕ) → new k ≡ Some bytes → (places places' : Uid → Option ℕ) → ((u : Uid) → places u ≡ place old u) →
      SetsEach (objects (states_in bytes)) (Some k) places places'
      → KeepsPlaces new places' (ks ++ k ∷ [])
  places_more bytes here places places' keeps each = record {
    places_are = λ u. each u ∙ by u (new_of (states_in bytes) u) refl ∙ sym (place_put old new k within (above_all old ks k are below) same u ∙ ap (λ o. place_after (state_in u o) k (place old u)) here);
    numbers_are = one_more (ap is_some here);
  }
    where
      by : (u : Uid) (o : Option (List ℕ)) → new_of (states_in bytes) u ≡ o →
          (if is_in (objects (states_in bytes)) u then Some k else places u) ≡ place_after (new_of (states_in bytes) u) k (place old u)
      by u None is = rw (among_objects (states_in bytes) u) (rw is (keeps u))
      by u (Some x) is = rw (among_objects (states_in bytes) u) (rw is refl)

-- ---- the forms of files

-- files in form, of whose pair no more is known and named than before, are formed
pub formed_from : (role : Role) (old new : FileMap) → IsFormed old role →
    ((k : ℕ) → k < numbers → IfSome (new (slot.Segment role k)) (IsSegment role)) →
    ((a : Uid) → IfSome (new (slot.Pending role a)) (IsSegment role))
    → ((a u : Uid) → names (pend new role a) u → names (pend old role a) u) →
    ((u : Uid) → IsKnown (pair_of new role) u → IsKnown (pair_of old role) u) → AreInPlace new role → IsFormed new role
formed_from role old new formed segments pendings named known in_place = record {
  segments = segments;
  pendings = pendings;
  once = λ a b u is is'. formed.once a b u (named a u is) (named b u is');
  few = λ us distinct each. formed.few us distinct (λ u is. known u (each u is));
  in_place = in_place;
}

-- a file of an old kind isn't one of another kind
pub not_old : (q s : Slot) → is_old q ≡ true → is_old s ≡ false → q ≢ s
not_old q s is other e = true≢false (sym is ∙ ap is_old e ∙ other)

pub in_form : (role : Role) (old new : Option (List ℕ)) → new ≡ old → IfSome old (IsSegment role) → IfSome new (IsSegment role)
in_form role old new same = subst (λ o. IfSome o (IsSegment role)) (sym same)

-- ---- a commit

after_file : (o : Option (List ℕ)) (u : Uid) (before : Option (List ℕ)) →
    newer (state_in u o) before ≡ held_after (option_map states_in o) u before
after_file None u before = refl
after_file (Some bytes) u before = refl

module _ (role : Role) (act : Uid) (old new : FileMap) (formed : IsFormed old role) (ks : List ℕ) (k : ℕ) (within : k < numbers) (are : AreNumbers (segments old role) ks) (below : AllByRecursion (λ j. j < k) ks)
    (renames : Renames old new (slot.Pending role act) (slot.Segment role k)) where
  pub commit_segments : SameBut (segments old role) (segments new role) k
  commit_segments j less other = renames.others (slot.Segment role j) (λ e. cc) (λ e. other cc)

  commit_pending : (a : Uid) → a ≢ act → new (slot.Pending role a) ≡ old (slot.Pending role a)
  commit_pending a other = renames.others (slot.Pending role a) (λ e. other cc) (λ e. cc)

  commit_gone : new (slot.Pending role act) ≡ None
  commit_gone = renames.gone (λ e. cc)

  pub commit_moves : Moves (pair_of old role) (pair_of new role) act
  commit_moves = record {
    committed = λ u. held_put (segments old role) (segments new role) k within (above_all (segments old role) ks k are below) commit_segments u
        ∙ ap (λ o. newer (state_in u o) (holds (segments old role) u)) renames.here ∙ after_file (old (slot.Pending role act)) u (holds (segments old role) u);
    gone = ap (option_map states_in) commit_gone;
    others = λ a other. ap (option_map states_in) (commit_pending a other);
  }

  -- where something is committed then
  commit_in_place : k ≤ MOST_NUMBER → (((u : Uid) → held new role u ≡ None) → ⊥) → AreInPlace new role
  commit_in_place low full = (let p = formed.in_place in record {
    old = λ q is own. renames.others q (not_old q (slot.Pending role act) is refl) (not_old q (slot.Segment role k) is refl) ∙ p.old q is own;
    low = λ j above. renames.others (slot.Segment role j) (λ e. cc) (λ e. apart j above cc) ∙ p.low j above;
    bare = λ nothing j. absurd (full nothing);
  })
    where
      apart : (j : ℕ) → MOST_NUMBER < j → j ≡ k → ⊥
      apart j above e = omega (arith, above, e, low)

  pub commit_formed : k ≤ MOST_NUMBER → (((u : Uid) → held new role u ≡ None) → ⊥) → IsFormed new role
  commit_formed low full = formed_from role old new formed
      (λ j less. ⊎_elim (λ (e : j ≡ k). in_form role (old (slot.Pending role act)) (new (slot.Segment role j)) (ap (λ n. new (slot.Segment role n)) e ∙ renames.here) (formed.pendings act))
      (λ (other : j ≢ k). in_form role (old (slot.Segment role j)) (new (slot.Segment role j)) (commit_segments j less other) (formed.segments j less)) (number_cases j k))
      (λ a. ⊎_elim (λ (e : a ≡ act). in_form role None (new (slot.Pending role a)) (ap (λ b. new (slot.Pending role b)) e ∙ commit_gone) tt)
      (λ (other : a ≢ act). in_form role (old (slot.Pending role a)) (new (slot.Pending role a)) (commit_pending a other) (formed.pendings a)) (uid_cases a act))
      (λ a u is. ⊎_elim (λ (e : a ≡ act). absurd (subst (λ o. names o u) (ap (pend new role) e ∙ commit_moves.gone) is)) (λ (other : a ≢ act). subst (λ o. names o u) (commit_moves.others a other) is) (uid_cases a act))
      (known_moved (pair_of old role) (pair_of new role) act commit_moves)
      (commit_in_place low full)

-- ---- an abort

module _ (role : Role) (act : Uid) (old new : FileMap) (formed : IsFormed old role) (removes : Removes old new (slot.Pending role act)) where
  pub abort_segments : (j : ℕ) → new (slot.Segment role j) ≡ old (slot.Segment role j)
  abort_segments j = removes.others (slot.Segment role j) (λ e. cc)

  abort_pending : (a : Uid) → a ≢ act → new (slot.Pending role a) ≡ old (slot.Pending role a)
  abort_pending a other = removes.others (slot.Pending role a) (λ e. other cc)

  same_holds : (u : Uid) → holds (segments new role) u ≡ holds (segments old role) u
  same_holds u = ap (λ segment. holds segment u) (λ i j. abort_segments j i)

  pub abort_drops : Drops (pair_of old role) (pair_of new role) act
  abort_drops =
      record {
        committed = same_holds;
        gone = ap (option_map states_in) removes.gone;
        others =
            λ a other. ap (option_map states_in) (abort_pending a other);
      }

  pub abort_formed : IsFormed new role
  abort_formed = formed_from role old new formed
      (λ j less. in_form role (old (slot.Segment role j)) (new (slot.Segment role j)) (abort_segments j) (formed.segments j less))
      (λ a. ⊎_elim (λ (e : a ≡ act). in_form role None (new (slot.Pending role a)) (ap (λ b. new (slot.Pending role b)) e ∙ removes.gone) tt)
      (λ (other : a ≢ act). in_form role (old (slot.Pending role a)) (new (slot.Pending role a)) (abort_pending a other) (formed.pendings a)) (uid_cases a act))
      (λ a u is. ⊎_elim (λ (e : a ≡ act). absurd (subst (λ o. names o u) (ap (pend new role) e ∙ abort_drops.gone) is)) (λ (other : a ≢ act). subst (λ o. names o u) (abort_drops.others a other) is) (uid_cases a act))
      (known_dropped (pair_of old role) (pair_of new role) act abort_drops)
      (let p = formed.in_place in record {
        old = λ q is own. removes.others q (not_old q (slot.Pending role act) is refl) ∙ p.old q is own;
        low = λ j above. abort_segments j ∙ p.low j above;
        bare = λ nothing j. abort_segments j ∙ p.bare (λ u. sym (same_holds u) ∙ nothing u) j;
      })
