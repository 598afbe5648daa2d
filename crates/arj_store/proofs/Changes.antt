-- Shadows of objects that no action names change neither map of the pair, and disks stay formed.
use Rattle.std.proofs.Common.{◌≡◌, ◌⊎◌, ◌∙◌, true, List, refl, sym, ap, subst, inl, inr, ⊎_elim, Option, Some, None}
use Rattle.std.specs.Prelude.{IsSome, is_some, IfSome, option_map}
use Rattle.arj_base.specs.declared.uid.Uid.{Uid}
use Rattle.arj_disk.specs.declared.slot.Role.{Role}
use Rattle.arj_disk.specs.declared.slot.Slot.TheVariants as slot
use Rattle.arj_disk.specs.FileMap.{FileMap}
use Rattle.arj_disk.specs.Formed.{IsStateOf}
use Rattle.arj_store.specs.Formed.{FormedFor, IsPreparedOf}
use Rattle.arj_disk.specs.Says.{role_of, slot_role, names, OnlyOfRole}
use Rattle.arj_store.specs.Says.{held, named_in, pend, new_state, InDoubt}
use Rattle.arj_store.specs.OfFiles.{SamePair}
use Rattle.arj_store.specs.Shadow.{is_named, objects_of, ChangesStates}
use Rattle.arj_store.specs.declared.prepare.Place.TheVariants as place
use Rattle.arj_store.specs.Named.{each_same, names_if, pend_is, same_held, same_new, with_each}
use Rattle.arj_store.proofs.Files.{fewer}

-- where an action's file is the same, and so are the new states of what it names, so is what it has prepared
pub same_named : (old new : FileMap) (role : Role) (a : Uid) → new (slot.Prepared role a) ≡ old (slot.Prepared role a)
    → ((u : Uid) → names (pend old role a) u → new_state new u ≡ new_state old u) → pend new role a ≡ pend old role a
same_named old new role a file same =
    pend_is new role a ∙ ap (λ o. option_map (with_each (new_state new)) (option_map named_in o)) file
    ∙ by (objects_of old role a) (λ u is. same u (names_if old role a u is)) ∙ sym (pend_is old role a)
  where
    by : (o : Option (List Uid)) → ((u : Uid) → is_named o u ≡ true → new_state new u ≡ new_state old u) →
        option_map (with_each (new_state new)) o ≡ option_map (with_each (new_state old)) o
    by None each = refl
    by (Some us) each = ap Some (each_same (new_state new) (new_state old) us each)

module _ (role : Role) (P : Uid → Type 0) (old new : FileMap) (formed : FormedFor old role) (own : (u : Uid) → P u →
    role_of u ≡ role) (free : (u : Uid) → P u → InDoubt old role u → ⊥)
    (changes : ChangesStates place.Shadow P old new) where
  pub same_committed : (u : Uid) → new (slot.Committed u) ≡ old (slot.Committed u)
  same_committed u = ⊎_elim (λ (e : new (slot.Committed u) ≡ old (slot.Committed u)). e)
      (λ (e : (w : Uid) × P w × (slot.Committed u ≡ slot.Shadow w) × IfSome (new (slot.Committed u)) (IsStateOf w)). let never : slot.Committed u ≡ slot.Shadow e.0 = e.2 in cc)
      (changes (slot.Committed u) (λ e. cc))

  pub same_prepared : (r : Role) (a : Uid) → new (slot.Prepared r a) ≡ old (slot.Prepared r a)
  same_prepared r a = ⊎_elim (λ (e : new (slot.Prepared r a) ≡ old (slot.Prepared r a)). e)
      (λ (e : (w : Uid) × P w × (slot.Prepared r a ≡ slot.Shadow w) × IfSome (new (slot.Prepared r a)) (IsStateOf w)). let never : slot.Prepared r a ≡ slot.Shadow e.0 = e.2 in cc)
      (changes (slot.Prepared r a) (λ e. cc))

  -- the shadow of an object is as before, or it is one of such an object
  pub shadow_cases : (u : Uid) → (new (slot.Shadow u) ≡ old (slot.Shadow u)) ⊎ (P u × IfSome (new (slot.Shadow u)) (IsStateOf u))
  shadow_cases u = ⊎_elim (λ (e : new (slot.Shadow u) ≡ old (slot.Shadow u)). inl e)
      (λ (e : (w : Uid) × P w × (slot.Shadow u ≡ slot.Shadow w) × IfSome (new (slot.Shadow u)) (IsStateOf w)).
      let same : e.0 ≡ u = cc in inr (subst P same e.1, subst (λ w. IfSome (new (slot.Shadow u)) (IsStateOf w)) same e.3))
      (changes (slot.Shadow u) (λ e. cc))

  pub named_shadow : (a u : Uid) → names (pend old role a) u → new (slot.Shadow u) ≡ old (slot.Shadow u)
  named_shadow a u is =
      ⊎_elim (λ (e : new (slot.Shadow u) ≡ old (slot.Shadow u)). e) (λ (e : P u × IfSome (new (slot.Shadow u)) (IsStateOf u)). absurd (free u e.0 (a, is))) (shadow_cases u)

  pub changed_pair : SamePair role old new
  changed_pair = record {
    committed = λ u. same_held old new role u (same_committed u);
    prepared = λ a. same_named old new role a (same_prepared role a) (λ u is. same_new old new u (named_shadow a u is) (same_committed u));
  }

  changed_names : (a u : Uid) → names (pend new role a) u → names (pend old role a) u
  changed_names a u is = subst (λ p. names p u) (changed_pair.prepared a) is

  pub changed_formed : FormedFor new role
  changed_formed = record {
    committed = λ u is. subst (λ o. IfSome o (IsStateOf u)) (sym (same_committed u)) (formed.committed u is);
    shadows = λ u is. ⊎_elim (λ (e : new (slot.Shadow u) ≡ old (slot.Shadow u)). subst (λ o. IfSome o (IsStateOf u)) (sym e) (formed.shadows u is))
        (λ (e : P u × IfSome (new (slot.Shadow u)) (IsStateOf u)). e.1) (shadow_cases u);
    prepared = λ a. subst (λ o. IfSome o (IsPreparedOf a)) (sym (same_prepared role a)) (formed.prepared a);
    own = λ a u is. formed.own a u (changed_names a u is);
    there = λ a u is. ⊎_elim (λ (h : IsSome (old (slot.Shadow u))). inl (ap is_some (named_shadow a u (changed_names a u is)) ∙ h))
        (λ (h : IsSome (old (slot.Committed u))). inr (ap is_some (same_committed u) ∙ h)) (formed.there a u (changed_names a u is));
    once = λ a b u is is'. formed.once a b u (changed_names a u is) (changed_names b u is');
    few = fewer role old new formed (λ u. ⊎_elim
        (λ (h : IsSome (held new role u)). inl (ap is_some (sym (changed_pair.committed u)) ∙ h)) (λ (h : (a : Uid) × names (pend new role a) u). inr (h.0, changed_names h.0 u h.1)));
  }

  pub changed_of_role : OnlyOfRole role old new
  changed_of_role q other tmp = ⊎_elim (λ (e : new q ≡ old q). e)
      (λ (e : (w : Uid) × P w × (q ≡ slot.Shadow w) × IfSome (new q) (IsStateOf w)). absurd (other (ap slot_role e.2 ∙ ap Some (own e.0 e.1))))
      (changes q tmp)
