-- What changes no file of a role leaves its files formed, and its pair; and where they are formed, the pair is sound.
use Rattle.std.proofs.Common.{◌≡◌, ◌⊎◌, ◌∙◌, Bool, true, false, true≢false, List, ℕ, refl, sym, ap, subst, inl, inr, ⊎_elim, Option, Some}
use Rattle.std.proofs.Common.{None}
use Rattle.std.specs.Prelude.{IsSome, is_some, IfSome, option_map, if◌then◌else◌}
use Rattle.arj_base.specs.declared.uid.Uid.{Uid}
use Rattle.arj_disk.specs.declared.slot.Role.{Role}
use Rattle.arj_disk.specs.declared.slot.Slot.TheVariants as slot
use Rattle.arj_disk.specs.FileMap.{FileMap}
use Rattle.arj_disk.specs.Formed.{IsStateOf}
use Rattle.arj_store.specs.Formed.{FormedFor, IsPreparedOf}
use Rattle.arj_disk.specs.Says.{SameOfRole, role_of, role_eq, names, new_of}
use Rattle.arj_store.specs.Says.{held, pend, named_in, new_state, first_file}
use Rattle.arj_store.specs.OfFiles.{SamePair, pair_of}
use Rattle.arj_store.specs.Pair.{IsSound}
use Rattle.arj_store.specs.Shadow.{is_in, objects_of}
use Rattle.arj_store.specs.Named.{each_same, with_each, new_of_each, nothing_of_each, pend_is, names_if, same_new, role_is}

module _ (role : Role) (old new : FileMap) (same : SameOfRole role old new) (formed : FormedFor old role) where
  -- each action's file is as before
  prepared_file : (a : Uid) → new (slot.Prepared role a) ≡ old (slot.Prepared role a)
  prepared_file a = same (slot.Prepared role a) refl

  -- so are the objects that it names
  objects : (a : Uid) → objects_of new role a ≡ objects_of old role a
  objects a = ap (option_map named_in) (prepared_file a)

  -- the new state of an object of the role is as before
  states : (u : Uid) → role_of u ≡ role → new_state new u ≡ new_state old u
  states u own = same_new old new u (same (slot.Shadow u) (ap Some own)) (same (slot.Committed u) (ap Some own))

  -- the objects that an action named have the same new states as before
  each : (a : Uid) (o : Option (List Uid)) → objects_of old role a ≡ o →
      option_map (with_each (new_state new)) o ≡ option_map (with_each (new_state old)) o
  each a None is = refl
  each a (Some us) is =
      ap Some (each_same (new_state new) (new_state old) us (λ u among. states u (formed.own a u (names_if old role a u (rw is among)))))

  -- what each action has prepared is as before
  prepared : (a : Uid) → pend new role a ≡ pend old role a
  prepared a = pend_is new role a ∙ ap (option_map (with_each (new_state new))) (objects a) ∙ each a (objects_of old role a) refl ∙ sym (pend_is old role a)

  -- each committed state is as before
  committed : (u : Uid) → held new role u ≡ held old role u
  committed u = by (role_eq (role_of u) role) refl
    where
      by : (b : Bool) → role_eq (role_of u) role ≡ b →
          (if b then new (slot.Committed u) else None) ≡ (if b then old (slot.Committed u) else None)
      by true e = same (slot.Committed u) (ap Some (role_is (role_of u) role e))
      by false e = refl

  -- so the files give the same pair as before
  pub same_pair_of : SamePair role old new
  same_pair_of = record { committed = committed; prepared = prepared }

  -- an object that an action names now was named by it before
  named : (a u : Uid) → names (pend new role a) u → names (pend old role a) u
  named a u = subst (λ o. names o u) (prepared a)

  -- the files of the role are formed as before
  pub formed_of : FormedFor new role
  formed_of = record {
    committed = λ u own. subst (λ o. IfSome o (IsStateOf u)) (sym (same (slot.Committed u) (ap Some own))) (formed.committed u own);
    shadows = λ u own. subst (λ o. IfSome o (IsStateOf u)) (sym (same (slot.Shadow u) (ap Some own))) (formed.shadows u own);
    prepared = λ a. subst (λ o. IfSome o (IsPreparedOf a)) (sym (prepared_file a)) (formed.prepared a);
    own = λ a u is. formed.own a u (named a u is);
    there = λ a u is. there u (formed.own a u (named a u is)) (formed.there a u (named a u is));
    once = λ a b u is is'. formed.once a b u (named a u is) (named b u is');
    few = λ us distinct known. formed.few us distinct (λ u is. before u (known u is));
  }
    where
      there : (u : Uid) → role_of u ≡ role → IsSome (old (slot.Shadow u)) ⊎ IsSome (old (slot.Committed u)) →
          IsSome (new (slot.Shadow u)) ⊎ IsSome (new (slot.Committed u))
      there u own =
          ⊎_elim (λ (h : IsSome (old (slot.Shadow u))). inl (ap is_some (same (slot.Shadow u) (ap Some own)) ∙ h)) (λ (h : IsSome (old (slot.Committed u))). inr (ap is_some (same (slot.Committed u) (ap Some own)) ∙ h))

      before : (u : Uid) → IsSome (held new role u) ⊎ ((a : Uid) × names (pend new role a) u) →
          IsSome (held old role u) ⊎ ((a : Uid) × names (pend old role a) u)
      before u = ⊎_elim (λ (h : IsSome (held new role u)). inl (ap is_some (sym (committed u)) ∙ h)) (λ (h : (a : Uid) × names (pend new role a) u). inr (h.0, named h.0 u h.1))

-- the same, as the store's law
pub files_stay : (role : Role) (old new : FileMap) → SameOfRole role old new → FormedFor old role →
    FormedFor new role × SamePair role old new
files_stay role old new same formed = (formed_of role old new same formed, same_pair_of role old new same formed)

module _ (role : Role) (file : FileMap) (formed : FormedFor file role) where
  -- the new state of an object that an action names
  new_in_form : (u : Uid) (shadow committed : Option (List ℕ)) → IfSome shadow (IsStateOf u) → IfSome committed (IsStateOf u) →
      IsSome shadow ⊎ IsSome committed → IsStateOf u (first_file shadow committed)
  new_in_form u (Some bytes) committed s c there = s
  new_in_form u None (Some bytes) s c there = c
  new_in_form u None None s c there = absurd (true≢false (sym (⊎_elim (λ (h : false ≡ true). h) (λ (h : false ≡ true). h) there)))

  -- each committed state is of an object of the role, and packs a state of it
  committed_sound : (u : Uid) → IfSome (held file role u) (λ bytes. (role_of u ≡ role) × IsStateOf u bytes)
  committed_sound u = by (role_eq (role_of u) role) refl
    where
      with_own : (o : Option (List ℕ)) → role_of u ≡ role → IfSome o (IsStateOf u) →
          IfSome o (λ bytes. (role_of u ≡ role) × IsStateOf u bytes)
      with_own None own is = tt
      with_own (Some bytes) own is = (own, is)

      by : (b : Bool) → role_eq (role_of u) role ≡ b →
          IfSome (if b then file (slot.Committed u) else None) (λ bytes. (role_of u ≡ role) × IsStateOf u bytes)
      by true e = let own = role_is (role_of u) role e in with_own (file (slot.Committed u)) own (formed.committed u own)
      by false e = tt

  -- each new state that an action has prepared is of an object of the role, and packs a state of it
  prepared_sound : (a u : Uid) →
      IfSome (pend file role a) (λ states. IfSome (new_of states u) (λ bytes. (role_of u ≡ role) × IsStateOf u bytes))
  prepared_sound a u =
      subst (λ o. IfSome o (λ states. IfSome (new_of states u) (λ bytes. (role_of u ≡ role) × IsStateOf u bytes))) (sym (pend_is file role a)) (by (objects_of file role a) refl)
    where
      in_list : (us : List Uid) (b : Bool) → objects_of file role a ≡ Some us → is_in us u ≡ b →
          IfSome (new_of (with_each (new_state file) us) u) (λ bytes. (role_of u ≡ role) × IsStateOf u bytes)
      in_list us true is among =
          let is_named = names_if file role a u (rw is among) in
          let own = formed.own a u is_named in
          subst (λ o. IfSome o (λ bytes. (role_of u ≡ role) × IsStateOf u bytes)) (sym (new_of_each (new_state file) us u among))
          (own, new_in_form u (file (slot.Shadow u)) (file (slot.Committed u)) (formed.shadows u own) (formed.committed u own) (formed.there a u is_named))
      in_list us false is among =
          subst (λ o. IfSome o (λ bytes. (role_of u ≡ role) × IsStateOf u bytes)) (sym (nothing_of_each (new_state file) us u among)) tt

      by : (o : Option (List Uid)) → objects_of file role a ≡ o →
          IfSome (option_map (with_each (new_state file)) o) (λ states. IfSome (new_of states u) (λ bytes. (role_of u ≡ role) × IsStateOf u bytes))
      by None is = tt
      by (Some us) is = in_list us (is_in us u) is refl

  -- the pair that formed files give is sound
  pub sound_of : IsSound role (pair_of file role)
  sound_of = record { committed = committed_sound; prepared = prepared_sound; once = formed.once }

-- the same, as the store's law
pub files_sound : (role : Role) (file : FileMap) → FormedFor file role → IsSound role (pair_of file role)
files_sound role file formed = sound_of role file formed
