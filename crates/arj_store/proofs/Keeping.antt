-- What is kept in memory goes on being what the files say.
use Rattle.std.proofs.Common.{◌≡◌, ◌≢◌, ◌⊎◌, ◌∙◌, true, false, List, [], ◌∷◌, sym, ap, subst, ⊎_elim, map, Option, Some, None}
use Rattle.std.specs.Prelude.{is_some, IfSome, option_map, MatchOption}
use Rattle.std.specs.List.{AllByRecursion}
use Rattle.std.proofs.lemmas.Bool.{cases_Bool}
use Rattle.arj_base.specs.declared.uid.Uid.{Uid}
use Rattle.arj_base.specs.declared.state.ObjectState.{ObjectState}
use Rattle.arj_disk.specs.declared.slot.Role.{Role}
use Rattle.arj_disk.specs.declared.slot.Slot.TheVariants as slot
use Rattle.arj_disk.specs.FileMap.{FileMap}
use Rattle.arj_disk.specs.Formed.{IsStateOf}
use Rattle.arj_store.specs.Formed.{FormedFor}
use Rattle.arj_disk.specs.Says.{role_of, names}
use Rattle.arj_store.specs.Says.{pend, named_in, InDoubt}
use Rattle.arj_store.specs.declared.memory.Holding.{Holding}
use Rattle.arj_store.specs.declared.prepare.Place.TheVariants as place
use Rattle.arj_store.specs.OfFiles.{IsClear}
use Rattle.arj_store.specs.Pair.{uid_of}
use Rattle.arj_store.specs.Shadow.{is_in, is_named, objects_of, has_shadow, Keeps, Releases, HoldsAll, MovesShadows, HaveNoShadow}
use Rattle.arj_store.specs.Shadow.{PutsStates, PutsAll}
use Rattle.arj_store.specs.Table.{Sets}
use Rattle.arj_store.specs.Named.{names_if, named_if}
use Rattle.arj_store.proofs.Changes.{shadow_cases, same_prepared}
use Rattle.arj_store.proofs.Prepared.{put_objects, own, free}
use Rattle.arj_store.proofs.Uids.{uid_cases}

-- the action is one of those that name the object
named_by : (file : FileMap) (role : Role) (a b u : Uid) → FormedFor file role → is_named (objects_of file role a) u ≡ true →
    is_named (objects_of file role b) u ≡ true → a ≡ b
named_by file role a b u formed is is' = formed.once a b u (names_if file role a u is) (names_if file role b u is')

named_cases : (o : Option (List Uid)) (u : Uid) → (is_named o u ≡ true) ⊎ (is_named o u ≡ false)
named_cases o u = cases_Bool (is_named o u)

module _ (role : Role) (act : Uid) (us : List Uid) (old new : FileMap) (formed : FormedFor old role) (objects : objects_of old role act ≡ Some us)
    (actions actions' : Uid → Option (List Uid)) (holdings holdings' : Uid → Option Holding) (keeps : Keeps role actions holdings old)
    (taken : Sets actions actions' act None) (released : Releases us holdings holdings')
    (gone : new (slot.Prepared role act) ≡ None) (others : (a : Uid) → a ≢ act → new (slot.Prepared role a) ≡ old (slot.Prepared role a))
    (no_shadow : (u : Uid) → is_in us u ≡ true → new (slot.Shadow u) ≡ None) (shadows : (u : Uid) → is_in us u ≡ false →
    new (slot.Shadow u) ≡ old (slot.Shadow u)) where
  ended_objects : (a : Uid) → a ≢ act → objects_of new role a ≡ objects_of old role a
  ended_objects a other = ap (option_map named_in) (others a other)

  acts_objects : objects_of new role act ≡ None
  acts_objects = ap (option_map named_in) gone

  -- after the end of an action
  pub ended_keeps : Keeps role actions' holdings' new
  ended_keeps = record {
    actions_are = λ a. ⊎_elim (λ (e : a ≡ act). subst (λ b. actions' b ≡ objects_of new role b) (sym e) (taken.here ∙ sym acts_objects))
        (λ (other : a ≢ act). taken.others a other ∙ keeps.actions_are a ∙ sym (ended_objects a other)) (uid_cases a act);
    holders_are = λ u. ⊎_elim
        (λ (is : is_in us u ≡ true). subst (λ h. MatchOption h ((a : Uid) →
        is_named (objects_of new role a) u ≡ false) (λ h. is_named (objects_of new role h.act) u ≡ true)) (sym (released.gone u is)) (nobody u is))
        (λ (isnt : is_in us u ≡ false). subst (λ h. MatchOption h ((a : Uid) →
        is_named (objects_of new role a) u ≡ false) (λ h. is_named (objects_of new role h.act) u ≡ true)) (sym (released.others u isnt))
        (others_hold u isnt (holdings u) (keeps.holders_are u))) (cases_Bool (is_in us u));
    shadows_are = λ u is. ⊎_elim
        (λ (among : is_in us u ≡ true). ap is_some (no_shadow u among) ∙ sym (ap has_shadow (released.gone u among)))
        (λ (isnt : is_in us u ≡ false). ap is_some (shadows u isnt) ∙ keeps.shadows_are u is ∙ sym (ap has_shadow (released.others u isnt))) (cases_Bool (is_in us u));
  }
    where
      none_named : (u a : Uid) → a ≡ act → is_named (objects_of new role a) u ≡ false
      none_named u a e = ap (λ o. is_named o u) (ap (objects_of new role) e ∙ acts_objects)

      nobody : (u : Uid) → is_in us u ≡ true → (a : Uid) → is_named (objects_of new role a) u ≡ false
      nobody u is a = ⊎_elim (λ (e : a ≡ act). none_named u a e)
          (λ (other : a ≢ act). ap (λ o. is_named o u) (ended_objects a other)
          ∙ ⊎_elim (λ (named : is_named (objects_of old role a) u ≡ true). absurd (other (named_by old role a act u formed named (ap (λ o. is_named o u) objects ∙ is))))
          (λ (not_named : is_named (objects_of old role a) u ≡ false). not_named) (named_cases (objects_of old role a) u)) (uid_cases a act)

      others_hold : (u : Uid) → is_in us u ≡ false → (h : Option Holding) →
          MatchOption h ((a : Uid) → is_named (objects_of old role a) u ≡ false) (λ h. is_named (objects_of old role h.act) u ≡ true)
          → MatchOption h ((a : Uid) → is_named (objects_of new role a) u ≡ false) (λ h. is_named (objects_of new role h.act) u ≡ true)
      others_hold u isnt None none =
          λ a. ⊎_elim (λ (e : a ≡ act). none_named u a e) (λ (other : a ≢ act). ap (λ o. is_named o u) (ended_objects a other) ∙ none a) (uid_cases a act)
      others_hold u isnt (Some h) named = ap (λ o. is_named o u) (ended_objects h.act apart) ∙ named
        where
          apart : h.act ≢ act
          apart e = let never : false ≡ true = sym isnt ∙ sym (ap (λ o. is_named o u) (ap (objects_of old role) e ∙ objects)) ∙ named in cc

-- after a prepare
module _ (role : Role) (act : Uid) (states : List ObjectState) (old new : FileMap) (formed : FormedFor old role) (clear : AllByRecursion (IsClear old role act) states) (owns : AllByRecursion (λ s. role_of s.uid ≡ role) states)
    (puts : PutsAll role act states old new) (first : objects_of old role act ≡ None)
    (actions actions' : Uid → Option (List Uid)) (holdings holdings' : Uid → Option Holding) (keeps : Keeps role actions holdings old)
    (set : Sets actions actions' act (Some (map uid_of states))) (holds : HoldsAll (map uid_of states) act true holdings holdings') where
  put_file : (a : Uid) → a ≢ act → new (slot.Prepared role a) ≡ old (slot.Prepared role a)
  put_file a other = puts.file.others (slot.Prepared role a) (λ e. other cc) (λ e. cc)
      ∙ same_prepared role (λ u. is_in (map uid_of states) u ≡ true) old puts.between formed (own role act states old new formed clear owns) (free role act states old new formed clear owns) puts.shadows role a

  other_objects : (a : Uid) → a ≢ act → objects_of new role a ≡ objects_of old role a
  other_objects a other = ap (option_map named_in) (put_file a other)

  acts : objects_of new role act ≡ Some (map uid_of states)
  acts = put_objects role act states old new formed clear owns puts

  kept_shadow : (u : Uid) → is_in (map uid_of states) u ≡ false → new (slot.Shadow u) ≡ old (slot.Shadow u)
  kept_shadow u isnt = puts.file.others (slot.Shadow u) (λ e. cc) (λ e. cc)
      ∙ ⊎_elim (λ (e : puts.between (slot.Shadow u) ≡ old (slot.Shadow u)). e)
      (λ (e : (is_in (map uid_of states) u ≡ true) × IfSome (puts.between (slot.Shadow u)) (IsStateOf u)). let never : true ≡ false =
      sym e.0 ∙ isnt in cc)
      (shadow_cases role (λ u. is_in (map uid_of states) u ≡ true) old puts.between formed (own role act states old new formed clear owns) (free role act states old new formed clear owns) puts.shadows u)

  shadow_there : (u : Uid) → is_in (map uid_of states) u ≡ true → is_some (new (slot.Shadow u)) ≡ true
  shadow_there u is =
      ap is_some (puts.file.others (slot.Shadow u) (λ e. cc) (λ e. cc)) ∙ Rattle.arj_store.proofs.Prepared.all_in (λ u. is_some (puts.between (slot.Shadow u)) ≡ true) states (each states puts.there) u is
    where
      each : (ss : List ObjectState) → Rattle.arj_store.specs.Shadow.HasStates place.Shadow ss puts.between →
          AllByRecursion (λ s. is_some (puts.between (slot.Shadow s.uid)) ≡ true) ss
      each [] there = tt
      each (s ∷ ss) there = (ap is_some there.0, each ss there.1)

  pub put_keeps : Keeps role actions' holdings' new
  put_keeps = record {
    actions_are = λ a. ⊎_elim (λ (e : a ≡ act). subst (λ b. actions' b ≡ objects_of new role b) (sym e) (set.here ∙ sym acts))
        (λ (other : a ≢ act). set.others a other ∙ keeps.actions_are a ∙ sym (other_objects a other)) (uid_cases a act);
    holders_are = λ u. ⊎_elim
        (λ (is : is_in (map uid_of states) u ≡ true).
        subst (λ h. MatchOption h ((a : Uid) →
        is_named (objects_of new role a) u ≡ false) (λ h. is_named (objects_of new role h.act) u ≡ true)) (sym (holds.here u is)) (ap (λ o. is_named o u) acts ∙ is))
        (λ (isnt : is_in (map uid_of states) u ≡ false).
        subst (λ h. MatchOption h ((a : Uid) →
        is_named (objects_of new role a) u ≡ false) (λ h. is_named (objects_of new role h.act) u ≡ true)) (sym (holds.others u isnt)) (others_hold u isnt (holdings u) (keeps.holders_are u)))
        (cases_Bool (is_in (map uid_of states) u));
    shadows_are = λ u is. ⊎_elim
        (λ (among : is_in (map uid_of states) u ≡ true). shadow_there u among ∙ sym (ap has_shadow (holds.here u among)))
        (λ (isnt : is_in (map uid_of states) u ≡ false). ap is_some (kept_shadow u isnt) ∙ keeps.shadows_are u is ∙ sym (ap has_shadow (holds.others u isnt))) (cases_Bool (is_in (map uid_of states) u));
  }
    where
      others_hold : (u : Uid) → is_in (map uid_of states) u ≡ false → (h : Option Holding) →
          MatchOption h ((a : Uid) → is_named (objects_of old role a) u ≡ false) (λ h. is_named (objects_of old role h.act) u ≡ true)
          → MatchOption h ((a : Uid) → is_named (objects_of new role a) u ≡ false) (λ h. is_named (objects_of new role h.act) u ≡ true)
      others_hold u isnt None none = λ a. ⊎_elim (λ (e : a ≡ act). ap (λ o. is_named o u) (ap (objects_of new role) e ∙ acts) ∙ isnt)
          (λ (other : a ≢ act). ap (λ o. is_named o u) (other_objects a other) ∙ none a) (uid_cases a act)
      others_hold u isnt (Some h) named = ap (λ o. is_named o u) (other_objects h.act apart) ∙ named
        where
          apart : h.act ≢ act
          apart e = let never : false ≡ true = sym (ap (λ o. is_named o u) (ap (objects_of old role) e ∙ first)) ∙ named in cc

-- the holder of an object is the action that names it
pub holder_named : (role : Role) (actions : Uid → Option (List Uid)) (holdings : Uid → Option Holding) (file : FileMap) →
    Keeps role actions holdings file → (u : Uid)
    → MatchOption (holdings u) (InDoubt file role u → ⊥) (λ h. names (pend file role h.act) u)
holder_named role actions holdings file keeps u = by (holdings u) (keeps.holders_are u)
  where
    by : (h : Option Holding) →
        MatchOption h ((a : Uid) → is_named (objects_of file role a) u ≡ false) (λ h. is_named (objects_of file role h.act) u ≡ true)
        → MatchOption h (InDoubt file role u → ⊥) (λ h. names (pend file role h.act) u)
    by None none = λ doubt. let never : false ≡ true = sym (none doubt.0) ∙ named_if file role doubt.0 u doubt.1 in cc
    by (Some h) named = names_if file role h.act u named
