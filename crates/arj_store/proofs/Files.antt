-- What moves and removals of files do with a pair, and that disks stay formed.
use Rattle.std.proofs.Common.{◌≡◌, ◌≢◌, ◌∙◌, true, false, List, ℕ, refl, sym, ap, subst, inl, inr, ⊎_elim, Option, Some, None}
use Rattle.std.specs.Prelude.{IsSome, is_some, IfSome, option_map, Contains, ◌≤◌, length}
use Rattle.std.proofs.lemmas.Bool.{cases_Bool}
use Rattle.arj_base.specs.declared.uid.Uid.{Uid}
use Rattle.arj_disk.specs.declared.slot.Role.{Role}
use Rattle.arj_disk.specs.declared.slot.Slot.TheVariants as slot
use Rattle.arj_disk.specs.Disk.{Removes}
use Rattle.arj_disk.specs.FileMap.{FileMap}
use Rattle.arj_disk.specs.Formed.{IsStateOf}
use Rattle.arj_store.specs.Formed.{FormedFor, IsPreparedOf, IsKnown}
use Rattle.arj_disk.specs.Says.{role_of, slot_role, names, OnlyOfRole}
use Rattle.arj_store.specs.Says.{held, pend, new_state, first_file}
use Rattle.arj_store.specs.OfFiles.{Drops, MovesSome}
use Rattle.arj_store.specs.Pair.{held_after, newer}
use Rattle.arj_store.specs.Shadow.{is_in, is_named, objects_of, MovesShadows, HaveNoShadow}
use Rattle.arj_store.specs.Named.{names_if, pend_of, same_pend, same_held, same_new, held_own, new_of_each, nothing_of_each, with_each}
use Rattle.arj_store.proofs.Uids.{uid_cases}

-- known objects of the new files were known before: then there are not too many
pub fewer : (role : Role) (old new : FileMap) → FormedFor old role → ((u : Uid) → IsKnown new role u → IsKnown old role u) →
    (us : List Uid) → Rattle.std.specs.List.IsDistinct Rattle.arj_base.specs.Uid.uid_eq us
    → ((u : Uid) → Contains us u → IsKnown new role u) → length us ≤ 65535
fewer role old new formed known us distinct each = formed.few us distinct (λ u among. known u (each u among))

-- ---- some shadows become the committed files

-- the new state of an object whose shadow was moved
moved_state : (shadow committed : Option (List ℕ)) → IsSome shadow → first_file None shadow ≡ first_file shadow committed
moved_state None committed there = let never : false ≡ true = there in cc
moved_state (Some bytes) committed there = refl

pub moved_new : (us : List Uid) (old new : FileMap) → MovesShadows us old new → (u : Uid) → new_state new u ≡ new_state old u
moved_new us old new moves u = ⊎_elim
    (λ (e : (new (slot.Shadow u) ≡ old (slot.Shadow u)) × (new (slot.Committed u) ≡ old (slot.Committed u))). same_new old new u e.0 e.1)
    (λ (e : (is_in us u ≡ true) × IsSome (old (slot.Shadow u)) × (new (slot.Shadow u) ≡ None) × (new (slot.Committed u) ≡ old (slot.Shadow u))).
    (λ i. first_file (e.2 i) (e.3 i)) ∙ moved_state (old (slot.Shadow u)) (old (slot.Committed u)) e.1)
    (moves.each u)

pub moved_file : (us : List Uid) (old new : FileMap) → MovesShadows us old new → (role : Role) (a : Uid) →
    new (slot.Prepared role a) ≡ old (slot.Prepared role a)
moved_file us old new moves role a = moves.others (slot.Prepared role a) (λ u. (λ e. cc, λ e. cc))

pub moved_pend : (us : List Uid) (old new : FileMap) → MovesShadows us old new → (role : Role) (a : Uid) → pend new role a ≡ pend old role a
moved_pend us old new moves role a = same_pend old new role a (moved_file us old new moves role a) (moved_new us old new moves)

-- the state that a commit gives an object among the action's
committed_state : (f : Uid → List ℕ) (us : List Uid) (u : Uid) (before : Option (List ℕ)) → is_in us u ≡ true →
    held_after (Some (with_each f us)) u before ≡ Some (f u)
committed_state f us u before is = ap (λ o. newer o before) (new_of_each f us u is)

kept_state : (f : Uid → List ℕ) (us : List Uid) (u : Uid) (before : Option (List ℕ)) → is_in us u ≡ false →
    held_after (Some (with_each f us)) u before ≡ before
kept_state f us u before isnt = ap (λ o. newer o before) (nothing_of_each f us u isnt)

some_first : (shadow committed : Option (List ℕ)) → IsSome shadow → shadow ≡ Some (first_file shadow committed)
some_first None committed there = let never : false ≡ true = there in cc
some_first (Some bytes) committed there = refl

none_first : (shadow committed : Option (List ℕ)) → shadow ≡ None → IsSome committed → committed ≡ Some (first_file shadow committed)
none_first None None none there = let never : false ≡ true = there in cc
none_first None (Some bytes) none there = refl
none_first (Some shadow) committed none there = cc

module _ (role : Role) (old new : FileMap) (act : Uid) (us : List Uid) (formed : FormedFor old role) (objects : objects_of old role act ≡ Some us) (moves : MovesShadows us old new) where
  -- each object of the list is of the role
  pub own : (u : Uid) → is_in us u ≡ true → role_of u ≡ role
  own u is = formed.own act u (names_if old role act u (subst (λ o. is_named o u ≡ true) (sym objects) is))

  named : (u : Uid) → is_in us u ≡ true → names (pend old role act) u
  named u is = names_if old role act u (subst (λ o. is_named o u ≡ true) (sym objects) is)

  -- the state after a commit, of an object of the list
  after : (u : Uid) → is_in us u ≡ true → held_after (pend old role act) u (held old role u) ≡ Some (new_state old u)
  after u is = ap (λ p. held_after p u (held old role u)) (pend_of old role act us objects) ∙ committed_state (new_state old) us u (held old role u) is

  after_others : (u : Uid) → is_in us u ≡ false → held_after (pend old role act) u (held old role u) ≡ held old role u
  after_others u isnt =
      ap (λ p. held_after p u (held old role u)) (pend_of old role act us objects) ∙ kept_state (new_state old) us u (held old role u) isnt

  pub moves_some : MovesSome role old new act
  moves_some = record {
    committed = λ u. ⊎_elim
        (λ (e : (new (slot.Shadow u) ≡ old (slot.Shadow u)) × (new (slot.Committed u) ≡ old (slot.Committed u))). inl (same_held old new role u e.1))
        (λ (e : (is_in us u ≡ true) × IsSome (old (slot.Shadow u)) × (new (slot.Shadow u) ≡ None) × (new (slot.Committed u) ≡ old (slot.Shadow u))).
        inr (held_own new role u (own u e.0) ∙ e.3 ∙ some_first (old (slot.Shadow u)) (old (slot.Committed u)) e.1 ∙ sym (after u e.0)))
        (moves.each u);
    prepared = moved_pend us old new moves role;
  }

  -- where no shadow is left, each object of the list has its new state
  pub moves_all : HaveNoShadow us new → (u : Uid) → held new role u ≡ held_after (pend old role act) u (held old role u)
  moves_all gone u = ⊎_elim
      (λ (e : (new (slot.Shadow u) ≡ old (slot.Shadow u)) × (new (slot.Committed u) ≡ old (slot.Committed u))).
      ⊎_elim (λ (is : is_in us u ≡ true). held_own new role u (own u is) ∙ e.1 ∙ there u is (sym e.0 ∙ gone u is) ∙ sym (after u is))
      (λ (isnt : is_in us u ≡ false). same_held old new role u e.1 ∙ sym (after_others u isnt)) (cases_Bool (is_in us u)))
      (λ (e : (is_in us u ≡ true) × IsSome (old (slot.Shadow u)) × (new (slot.Shadow u) ≡ None) × (new (slot.Committed u) ≡ old (slot.Shadow u))).
      held_own new role u (own u e.0) ∙ e.3 ∙ some_first (old (slot.Shadow u)) (old (slot.Committed u)) e.1 ∙ sym (after u e.0))
      (moves.each u)
    where
      there : (u : Uid) → is_in us u ≡ true → old (slot.Shadow u) ≡ None → old (slot.Committed u) ≡ Some (new_state old u)
      there u is none = none_first (old (slot.Shadow u)) (old (slot.Committed u)) none
          (⊎_elim (λ (h : IsSome (old (slot.Shadow u))). let never : false ≡ true =
          ap is_some (sym none) ∙ h in cc) (λ (h : IsSome (old (slot.Committed u))). h) (formed.there act u (named u is)))

  moved_names : (a u : Uid) → names (pend new role a) u → names (pend old role a) u
  moved_names a u is = subst (λ p. names p u) (moved_pend us old new moves role a) is

  pub moved_formed : FormedFor new role
  moved_formed = record {
    committed = λ u is. ⊎_elim
        (λ (e : (new (slot.Shadow u) ≡ old (slot.Shadow u)) × (new (slot.Committed u) ≡ old (slot.Committed u))). subst (λ o. IfSome o (IsStateOf u)) (sym e.1) (formed.committed u is))
        (λ (e : (is_in us u ≡ true) × IsSome (old (slot.Shadow u)) × (new (slot.Shadow u) ≡ None) × (new (slot.Committed u) ≡ old (slot.Shadow u))).
        subst (λ o. IfSome o (IsStateOf u)) (sym e.3) (formed.shadows u is))
        (moves.each u);
    shadows = λ u is. ⊎_elim
        (λ (e : (new (slot.Shadow u) ≡ old (slot.Shadow u)) × (new (slot.Committed u) ≡ old (slot.Committed u))). subst (λ o. IfSome o (IsStateOf u)) (sym e.0) (formed.shadows u is))
        (λ (e : (is_in us u ≡ true) × IsSome (old (slot.Shadow u)) × (new (slot.Shadow u) ≡ None) × (new (slot.Committed u) ≡ old (slot.Shadow u))).
        subst (λ o. IfSome o (IsStateOf u)) (sym e.2) tt)
        (moves.each u);
    prepared = λ a. subst (λ o. IfSome o (IsPreparedOf a)) (sym (moved_file us old new moves role a)) (formed.prepared a);
    own = λ a u is. formed.own a u (moved_names a u is);
    there = λ a u is. ⊎_elim
        (λ (e : (new (slot.Shadow u) ≡ old (slot.Shadow u)) × (new (slot.Committed u) ≡ old (slot.Committed u))).
        ⊎_elim (λ (h : IsSome (old (slot.Shadow u))). inl (ap is_some e.0 ∙ h)) (λ (h : IsSome (old (slot.Committed u))). inr (ap is_some e.1 ∙ h)) (formed.there a u (moved_names a u is)))
        (λ (e : (is_in us u ≡ true) × IsSome (old (slot.Shadow u)) × (new (slot.Shadow u) ≡ None) × (new (slot.Committed u) ≡ old (slot.Shadow u))).
        inr (ap is_some e.3 ∙ e.1))
        (moves.each u);
    once = λ a b u is is'. formed.once a b u (moved_names a u is) (moved_names b u is');
    few = fewer role old new formed (λ u. ⊎_elim
        (λ (h : IsSome (held new role u)). known u h) (λ (h : (a : Uid) × names (pend new role a) u). inr (h.0, moved_names h.0 u h.1)));
  }
    where
      known : (u : Uid) → IsSome (held new role u) → IsKnown old role u
      known u h = ⊎_elim (λ (e : held new role u ≡ held old role u). inl (ap is_some (sym e) ∙ h))
          (λ (e : held new role u ≡ held_after (pend old role act) u (held old role u)).
          ⊎_elim (λ (is : is_in us u ≡ true). inr (act, named u is)) (λ (isnt : is_in us u ≡ false). inl (ap is_some (sym (e ∙ after_others u isnt)) ∙ h)) (cases_Bool (is_in us u)))
          (moves_some.committed u)

  pub moved_of_role : OnlyOfRole role old new
  moved_of_role (slot.Committed u) other tmp = ⊎_elim
      (λ (e : (new (slot.Shadow u) ≡ old (slot.Shadow u)) × (new (slot.Committed u) ≡ old (slot.Committed u))). e.1)
      (λ (e : (is_in us u ≡ true) × IsSome (old (slot.Shadow u)) × (new (slot.Shadow u) ≡ None) × (new (slot.Committed u) ≡ old (slot.Shadow u))). absurd (other (ap Some (own u e.0))))
      (moves.each u)
  moved_of_role (slot.Shadow u) other tmp = ⊎_elim
      (λ (e : (new (slot.Shadow u) ≡ old (slot.Shadow u)) × (new (slot.Committed u) ≡ old (slot.Committed u))). e.0)
      (λ (e : (is_in us u ≡ true) × IsSome (old (slot.Shadow u)) × (new (slot.Shadow u) ≡ None) × (new (slot.Committed u) ≡ old (slot.Shadow u))). absurd (other (ap Some (own u e.0))))
      (moves.each u)
  moved_of_role (slot.Prepared r a) other tmp = moved_file us old new moves r a
  moved_of_role slot.Incarnation other tmp = moves.others slot.Incarnation (λ u. (λ e. cc, λ e. cc))
  moved_of_role slot.Tmp other tmp = moves.others slot.Tmp (λ u. (λ e. cc, λ e. cc))
  moved_of_role (slot.Intent a) other tmp = moves.others (slot.Intent a) (λ u. (λ e. cc, λ e. cc))
  moved_of_role (slot.Pending r a) other tmp = moves.others (slot.Pending r a) (λ u. (λ e. cc, λ e. cc))
  moved_of_role (slot.Segment r k) other tmp = moves.others (slot.Segment r k) (λ u. (λ e. cc, λ e. cc))

-- ---- the file of an action goes

module _ (role : Role) (old new : FileMap) (act : Uid) (removes : Removes old new (slot.Prepared role act)) where
  same_shadow : (u : Uid) → new (slot.Shadow u) ≡ old (slot.Shadow u)
  same_shadow u = removes.others (slot.Shadow u) (λ e. cc)

  same_committed : (u : Uid) → new (slot.Committed u) ≡ old (slot.Committed u)
  same_committed u = removes.others (slot.Committed u) (λ e. cc)

  pub removed_drops : Drops role old new act
  removed_drops = record {
    committed = λ u. same_held old new role u (same_committed u);
    gone = ap (option_map _) removes.gone;
    others = λ a other. same_pend old new role a (removes.others (slot.Prepared role a) (λ e. other cc)) (λ u. same_new old new u (same_shadow u) (same_committed u));
  }

  pub removed_names : (a u : Uid) → names (pend new role a) u → names (pend old role a) u
  removed_names a u is = ⊎_elim
      (λ (e : a ≡ act). absurd (subst (λ p. names p u) (subst (λ b. pend new role b ≡ None) (sym e) removed_drops.gone) is))
      (λ (other : a ≢ act). subst (λ p. names p u) (removed_drops.others a other) is) (uid_cases a act)

  pub removed_formed : FormedFor old role → FormedFor new role
  removed_formed formed = record {
    committed = λ u is. subst (λ o. IfSome o (IsStateOf u)) (sym (same_committed u)) (formed.committed u is);
    shadows = λ u is. subst (λ o. IfSome o (IsStateOf u)) (sym (same_shadow u)) (formed.shadows u is);
    prepared = λ a. ⊎_elim
        (λ (e : a ≡ act). subst (λ o. IfSome o (IsPreparedOf a)) (sym (subst (λ b. new (slot.Prepared role b) ≡ None) (sym e) removes.gone)) tt)
        (λ (other : a ≢ act). subst (λ o. IfSome o (IsPreparedOf a)) (sym (removes.others (slot.Prepared role a) (λ e. other cc))) (formed.prepared a)) (uid_cases a act);
    own = λ a u is. formed.own a u (removed_names a u is);
    there = λ a u is. ⊎_elim (λ (h : IsSome (old (slot.Shadow u))). inl (ap is_some (same_shadow u) ∙ h)) (λ (h : IsSome (old (slot.Committed u))). inr (ap is_some (same_committed u) ∙ h))
        (formed.there a u (removed_names a u is));
    once = λ a b u is is'. formed.once a b u (removed_names a u is) (removed_names b u is');
    few = fewer role old new formed (λ u. ⊎_elim
        (λ (h : IsSome (held new role u)). inl (ap is_some (sym (removed_drops.committed u)) ∙ h)) (λ (h : (a : Uid) × names (pend new role a) u). inr (h.0, removed_names h.0 u h.1)));
  }

  pub removed_of_role : OnlyOfRole role old new
  removed_of_role q other tmp = removes.others q (λ e. other (ap slot_role e))
