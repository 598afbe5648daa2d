-- The shadows of states and then the file of the action add it to what is prepared.
use Rattle.std.proofs.Common.{◌≡◌, ◌≢◌, ◌⊎◌, ◌∙◌, Bool, true, false, ◌||◌, List, [], ◌∷◌, refl, sym, ap, subst, inl, inr, ⊎_elim, map, Some}
use Rattle.std.specs.Prelude.{IsSome, is_some, IfSome, option_map, Contains}
use Rattle.std.specs.List.{AllByRecursion}
use Rattle.std.proofs.lemmas.Map.Views.{Contains-from_any}
use Rattle.arj_base.specs.Uid.{uid_eq}
use Rattle.arj_base.specs.declared.state.ObjectState.{ObjectState}
use Rattle.arj_base.specs.declared.uid.Uid.{Uid}
use Rattle.arj_disk.specs.declared.slot.Role.{Role}
use Rattle.arj_disk.specs.declared.slot.Slot.TheVariants as slot
use Rattle.arj_disk.specs.FileMap.{FileMap}
use Rattle.arj_disk.specs.Formed.{IsStateOf, AtMost}
use Rattle.arj_store.specs.Formed.{FormedFor, IsPreparedOf, IsKnown}
use Rattle.arj_disk.specs.Says.{role_of, slot_role, names, OnlyOfRole}
use Rattle.arj_store.specs.Says.{held, pend, new_state, named_in, first_file, InDoubt}
use Rattle.arj_store.specs.OfFiles.{SamePair, Adds, IsClear}
use Rattle.arj_store.specs.Pair.{uid_of, packed}
use Rattle.arj_store.specs.Shadow.{is_in, is_named, objects_of, PutsStates, PutsAll, HasStates}
use Rattle.arj_store.specs.declared.prepare.Place.TheVariants as place
use Rattle.arj_store.specs.Named.{named_if, pend_of, same_pend, same_held, same_new, with_each}
use Rattle.arj_store.proofs.Bytes.{named_back}
use Rattle.arj_store.proofs.Changes.{changed_pair, changed_formed, changed_of_role}
use Rattle.arj_store.proofs.Uids.{uid_is, uid_cases}

-- what holds of each state's object holds of each object of the list
pub all_in : (P : Uid → Type 0) (states : List ObjectState) → AllByRecursion (λ s. P s.uid) states → (u : Uid) →
    is_in (map uid_of states) u ≡ true → P u
all_in P [] all u is = let never : false ≡ true = is in cc
all_in P (s ∷ ss) all u is = by (uid_eq u s.uid) refl (all_in P ss all.1 u)
  where
    by : (b : Bool) → uid_eq u s.uid ≡ b → (is_in (map uid_of ss) u ≡ true → P u) → P u
    by true e rest = subst P (sym (uid_is u s.uid e)) all.0
    by false e rest = rest (subst (λ (b : Bool). (b || is_in (map uid_of ss) u) ≡ true) e is)

-- where each state has its shadow, the new states are these
states_there : (file : FileMap) (states : List ObjectState) → HasStates place.Shadow states file →
    with_each (new_state file) (map uid_of states) ≡ packed states
states_there file [] there = refl
states_there file (s ∷ ss) there = λ i. (s.uid, first_file (there.0 i) (file (slot.Committed s.uid))) ∷ states_there file ss there.1 i

-- the list has an object where the test finds it
pub among : (us : List Uid) (u : Uid) → is_in us u ≡ true → Contains us u
among us u is = Contains-from_any uid_is u us is

clear_free : (file : FileMap) (role : Role) (act : Uid) (states : List ObjectState) → AllByRecursion (IsClear file role act) states →
    AllByRecursion (λ s. InDoubt file role s.uid → ⊥) states
clear_free file role act [] clear = tt
clear_free file role act (s ∷ ss) clear = (clear.0.free, clear_free file role act ss clear.1)

module _ (role : Role) (act : Uid) (states : List ObjectState) (old new : FileMap) (formed : FormedFor old role) (clear : AllByRecursion (IsClear old role act) states) (owns : AllByRecursion (λ s. role_of s.uid ≡ role) states) where
  pub own : (u : Uid) → is_in (map uid_of states) u ≡ true → role_of u ≡ role
  own = all_in (λ u. role_of u ≡ role) states owns

  pub free : (u : Uid) → is_in (map uid_of states) u ≡ true → InDoubt old role u → ⊥
  free = all_in (λ u. InDoubt old role u → ⊥) states (clear_free old role act states clear)

  -- the shadows alone change nothing
  pub shadows_pair : PutsStates place.Shadow (map uid_of states) old new → SamePair role old new
  shadows_pair puts = changed_pair role (λ u. is_in (map uid_of states) u ≡ true) old new formed own free puts

  pub shadows_formed : PutsStates place.Shadow (map uid_of states) old new → FormedFor new role
  shadows_formed puts = changed_formed role (λ u. is_in (map uid_of states) u ≡ true) old new formed own free puts

  pub shadows_of_role : PutsStates place.Shadow (map uid_of states) old new → OnlyOfRole role old new
  shadows_of_role puts = changed_of_role role (λ u. is_in (map uid_of states) u ≡ true) old new formed own free puts

  module _ (puts : PutsAll role act states old new) where
    mid_pair : SamePair role old puts.between
    mid_pair = changed_pair role (λ u. is_in (map uid_of states) u ≡ true) old puts.between formed own free puts.shadows

    mid_formed : FormedFor puts.between role
    mid_formed = changed_formed role (λ u. is_in (map uid_of states) u ≡ true) old puts.between formed own free puts.shadows

    same_shadow : (u : Uid) → new (slot.Shadow u) ≡ puts.between (slot.Shadow u)
    same_shadow u = puts.file.others (slot.Shadow u) (λ e. cc) (λ e. cc)

    same_committed : (u : Uid) → new (slot.Committed u) ≡ puts.between (slot.Committed u)
    same_committed u = puts.file.others (slot.Committed u) (λ e. cc) (λ e. cc)

    same_state : (u : Uid) → new_state new u ≡ new_state puts.between u
    same_state u = same_new puts.between new u (same_shadow u) (same_committed u)

    pub put_objects : objects_of new role act ≡ Some (map uid_of states)
    put_objects = ap (option_map named_in) puts.file.here ∙ ap Some (named_back act (map uid_of states) puts.file.fit)

    has_states : HasStates place.Shadow states new
    has_states = moved states puts.there
      where
        moved : (ss : List ObjectState) → HasStates place.Shadow ss puts.between → HasStates place.Shadow ss new
        moved [] there = tt
        moved (s ∷ ss) there = (same_shadow s.uid ∙ there.0, moved ss there.1)

    pub put_others : (a : Uid) → a ≢ act → pend new role a ≡ pend old role a
    put_others a other =
        same_pend puts.between new role a (puts.file.others (slot.Prepared role a) (λ e. other cc) (λ e. cc)) same_state ∙ mid_pair.prepared a

    pub put_adds : Adds role old new act states
    put_adds = record {
      committed = λ u. same_held puts.between new role u (same_committed u) ∙ mid_pair.committed u;
      here = pend_of new role act (map uid_of states) put_objects ∙ ap Some (states_there new states has_states);
      others = put_others;
    }

    -- what an action names now, it named before, or it is the action that is put
    pub put_names : (a u : Uid) → names (pend new role a) u →
        ((a ≡ act) × (is_in (map uid_of states) u ≡ true)) ⊎ ((a ≢ act) × names (pend old role a) u)
    put_names a u is = ⊎_elim
        (λ (e : a ≡ act). inl (e, subst (λ o. is_named o u ≡ true) (ap (objects_of new role) e ∙ put_objects) (named_if new role a u is)))
        (λ (other : a ≢ act). inr (other, subst (λ p. names p u) (put_others a other) is)) (uid_cases a act)

    shadow_there : (u : Uid) → is_in (map uid_of states) u ≡ true → IsSome (new (slot.Shadow u))
    shadow_there = all_in (λ u. IsSome (new (slot.Shadow u))) states (each states has_states)
      where
        each : (ss : List ObjectState) → HasStates place.Shadow ss new → AllByRecursion (λ s. IsSome (new (slot.Shadow s.uid))) ss
        each [] there = tt
        each (s ∷ ss) there = (ap is_some there.0, each ss there.1)

    pub put_formed : AtMost 65535 (λ u. IsKnown old role u ⊎ Contains (map uid_of states) u) → FormedFor new role
    put_formed few = record {
      committed = λ u is. subst (λ o. IfSome o (IsStateOf u)) (sym (same_committed u)) (mid_formed.committed u is);
      shadows = λ u is. subst (λ o. IfSome o (IsStateOf u)) (sym (same_shadow u)) (mid_formed.shadows u is);
      prepared = λ a. ⊎_elim (λ (e : a ≡ act). subst (λ b. IfSome (new (slot.Prepared role b)) (IsPreparedOf b)) (sym e) (subst (λ o. IfSome o (IsPreparedOf act)) (sym puts.file.here) puts.file.form))
          (λ (other : a ≢ act). subst (λ o. IfSome o (IsPreparedOf a)) (sym (puts.file.others (slot.Prepared role a) (λ e. other cc) (λ e. cc))) (mid_formed.prepared a)) (uid_cases a act);
      own = λ a u is. ⊎_elim (λ (e : (a ≡ act) × (is_in (map uid_of states) u ≡ true)). own u e.1) (λ (e : (a ≢ act) × names (pend old role a) u). formed.own a u e.1) (put_names a u is);
      there = λ a u is. ⊎_elim (λ (e : (a ≡ act) × (is_in (map uid_of states) u ≡ true)). inl (shadow_there u e.1))
          (λ (e : (a ≢ act) × names (pend old role a) u).
          ⊎_elim (λ (h : IsSome (puts.between (slot.Shadow u))). inl (ap is_some (same_shadow u) ∙ h)) (λ (h : IsSome (puts.between (slot.Committed u))). inr (ap is_some (same_committed u) ∙ h))
          (mid_formed.there a u (subst (λ p. names p u) (sym (mid_pair.prepared a)) e.1)))
          (put_names a u is);
      once = λ a b u is is'. ⊎_elim
          (λ (e : (a ≡ act) × (is_in (map uid_of states) u ≡ true)).
          ⊎_elim (λ (f : (b ≡ act) × (is_in (map uid_of states) u ≡ true)). e.0 ∙ sym f.0) (λ (f : (b ≢ act) × names (pend old role b) u). absurd (free u e.1 (b, f.1))) (put_names b u is'))
          (λ (e : (a ≢ act) × names (pend old role a) u).
          ⊎_elim (λ (f : (b ≡ act) × (is_in (map uid_of states) u ≡ true)). absurd (free u f.1 (a, e.1))) (λ (f : (b ≢ act) × names (pend old role b) u). formed.once a b u e.1 f.1) (put_names b u is'))
          (put_names a u is);
      few = λ ws distinct each. few ws distinct (λ u is. known u (each u is));
    }
      where
        known : (u : Uid) → IsKnown new role u → IsKnown old role u ⊎ Contains (map uid_of states) u
        known u = ⊎_elim (λ (h : IsSome (held new role u)). inl (inl (ap is_some (sym (put_adds.committed u)) ∙ h)))
            (λ (h : (a : Uid) × names (pend new role a) u). ⊎_elim (λ (e : (h.0 ≡ act) × (is_in (map uid_of states) u ≡ true)). inr (among (map uid_of states) u e.1))
            (λ (e : (h.0 ≢ act) × names (pend old role h.0) u). inl (inr (h.0, e.1))) (put_names h.0 u h.1))

    pub put_of_role : OnlyOfRole role old new
    put_of_role q other tmp =
        puts.file.others q (λ e. other (ap slot_role e)) tmp ∙ changed_of_role role (λ u. is_in (map uid_of states) u ≡ true) old puts.between formed own free puts.shadows q other tmp
