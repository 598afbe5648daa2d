-- The ends of a prepared action, from the files before the call to those after it.
use Rattle.std.proofs.Common.{◌≡◌, ◌⊎◌, ◌∙◌, true, false, List, refl, sym, ap, subst, inl, inr, ⊎_elim, Option, Some, None}
use Rattle.std.specs.Prelude.{IsSome, is_some, IfSome, Result, Ok, Err, OnErr}
use Rattle.arj_base.specs.declared.uid.Uid.{Uid}
use Rattle.arj_disk.specs.declared.slot.Role.{Role}
use Rattle.arj_disk.specs.declared.slot.Slot.TheVariants as slot
use Rattle.arj_disk.specs.Disk.{Removes, Same}
use Rattle.arj_disk.specs.FileMap.{FileMap}
use Rattle.arj_disk.specs.Formed.{IsStateOf}
use Rattle.arj_store.specs.Formed.{FormedFor}
use Rattle.arj_disk.specs.Says.{role_of, names, OnlyOfRole}
use Rattle.arj_store.specs.Says.{pend, InDoubt}
use Rattle.arj_store.specs.declared.memory.Holding.{Holding}
use Rattle.arj_store.specs.declared.prepare.Place.TheVariants as place
use Rattle.arj_store.specs.OfFiles.{SamePair, Drops, Moves, MovesSome}
use Rattle.arj_store.specs.Shadow.{is_in, is_named, objects_of, has_shadow, Keeps, Releases, MovesShadows, HaveNoShadow, PutsStates}
use Rattle.arj_store.specs.Table.{Sets}
use Rattle.arj_store.proofs.Changes.{changed_pair, changed_formed, changed_of_role, shadow_cases, same_prepared}
use Rattle.arj_store.proofs.Files.{moves_some, moves_all, moved_formed, moved_of_role, moved_pend, moved_file, removed_drops, removed_names}
use Rattle.arj_store.proofs.Files.{removed_formed, removed_of_role}
use Rattle.arj_store.proofs.Keeping.{ended_keeps}
use Rattle.arj_store.specs.Named.{names_if}

-- files that are the same everywhere are the same
pub same_files : (old new : FileMap) → Same old new → old ≡ new
same_files old new same = λ i q. sym (same q) i

pub same_pair : (role : Role) (file : FileMap) → SamePair role file file
same_pair role file = record { committed = λ u. refl; prepared = λ a. refl }

-- the objects that are kept for an action are those of its file
pub kept_objects : (role : Role) (act : Uid) (file : FileMap) (actions : Uid → Option (List Uid)) (holdings : Uid →
    Option Holding) (found : Option (List Uid)) (us : List Uid) → Keeps role actions holdings file
    → found ≡ actions act → found ≡ Some us → objects_of file role act ≡ Some us
kept_objects role act file actions holdings found us keeps value is = sym (keeps.actions_are act) ∙ sym value ∙ is

module _ (role : Role) (act : Uid) (us : List Uid) (old : FileMap) (formed : FormedFor old role) (objects : objects_of old role act ≡ Some us) where
  pub acts_names : (u : Uid) → is_in us u ≡ true → names (pend old role act) u
  acts_names u is = names_if old role act u (subst (λ o. is_named o u ≡ true) (sym objects) is)

  pub acts_own : (u : Uid) → is_in us u ≡ true → role_of u ≡ role
  acts_own u is = formed.own act u (acts_names u is)

  pub flags : (actions : Uid → Option (List Uid)) (holdings : Uid → Option Holding) → Keeps role actions holdings old → (u : Uid) →
      is_in us u ≡ true → is_some (old (slot.Shadow u)) ≡ has_shadow (holdings u)
  flags actions holdings keeps u is = keeps.shadows_are u (acts_own u is)

  -- ---- a commit

  module _ (mid new : FileMap) (moved : MovesShadows us old mid) (no_shadow : HaveNoShadow us mid) where
    pub commit_moves : Removes mid new (slot.Prepared role act) → Moves role old new act
    commit_moves removes = record {
      committed = λ u. (removed_drops role mid new act removes).committed u ∙ moves_all role old mid act us formed objects moved no_shadow u;
      gone = (removed_drops role mid new act removes).gone;
      others = λ a other. (removed_drops role mid new act removes).others a other ∙ moved_pend us old mid moved role a;
    }

    pub commit_fault : Same mid new ⊎ Removes mid new (slot.Prepared role act) → MovesSome role old new act ⊎ Moves role old new act
    commit_fault =
        ⊎_elim (λ (same : Same mid new). inl (subst (λ file. MovesSome role old file act) (same_files mid new same) (moves_some role old mid act us formed objects moved)))
        (λ (removes : Removes mid new (slot.Prepared role act)). inr (commit_moves removes))

    pub commit_formed : Same mid new ⊎ Removes mid new (slot.Prepared role act) → FormedFor new role
    commit_formed =
        ⊎_elim (λ (same : Same mid new). subst (λ file. FormedFor file role) (same_files mid new same) (moved_formed role old mid act us formed objects moved))
        (λ (removes : Removes mid new (slot.Prepared role act)). removed_formed role mid new act removes (moved_formed role old mid act us formed objects moved))

    pub commit_others : Same mid new ⊎ Removes mid new (slot.Prepared role act) → OnlyOfRole role old new
    commit_others step q other tmp =
        ⊎_elim (λ (same : Same mid new). same q) (λ (removes : Removes mid new (slot.Prepared role act)). removed_of_role role mid new act removes q other tmp) step
        ∙ moved_of_role role old mid act us formed objects moved q other tmp

    pub commit_keeps : (actions actions' : Uid → Option (List Uid)) (holdings holdings' : Uid → Option Holding) →
        Keeps role actions holdings old → Sets actions actions' act None → Releases us holdings holdings'
        → Removes mid new (slot.Prepared role act) → Keeps role actions' holdings' new
    commit_keeps actions actions' holdings holdings' keeps taken released removes =
        ended_keeps role act us old new formed objects actions actions' holdings holdings' keeps taken released removes.gone
        (λ a other. removes.others (slot.Prepared role a) (λ e. other cc) ∙ moved_file us old mid moved role a)
        (λ u is. removes.others (slot.Shadow u) (λ e. cc) ∙ no_shadow u is)
        (λ u isnt. removes.others (slot.Shadow u) (λ e. cc) ∙ kept u isnt)
      where
        kept : (u : Uid) → is_in us u ≡ false → mid (slot.Shadow u) ≡ old (slot.Shadow u)
        kept u isnt = ⊎_elim (λ (e : (mid (slot.Shadow u) ≡ old (slot.Shadow u)) × (mid (slot.Committed u) ≡ old (slot.Committed u))). e.0)
            (λ (e : (is_in us u ≡ true) × IsSome (old (slot.Shadow u)) × (mid (slot.Shadow u) ≡ None) × (mid (slot.Committed u) ≡ old (slot.Shadow u))). let never : true ≡ false = sym e.0 ∙ isnt in cc)
            (moved.each u)

  -- ---- an abort

  pub abort_fault : (new : FileMap) → Same old new ⊎ Removes old new (slot.Prepared role act) →
      SamePair role old new ⊎ Drops role old new act
  abort_fault new =
      ⊎_elim (λ (same : Same old new). inl (subst (λ file. SamePair role old file) (same_files old new same) (same_pair role old)))
      (λ (removes : Removes old new (slot.Prepared role act)). inr (removed_drops role old new act removes))

  pub abort_formed : (new : FileMap) → Same old new ⊎ Removes old new (slot.Prepared role act) → FormedFor new role
  abort_formed new =
      ⊎_elim (λ (same : Same old new). subst (λ file. FormedFor file role) (same_files old new same) formed) (λ (removes : Removes old new (slot.Prepared role act)). removed_formed role old new act removes formed)

  module _ (mid new : FileMap) (removes : Removes old mid (slot.Prepared role act)) (puts : PutsStates place.Shadow us mid new) where
    mid_free : (u : Uid) → is_in us u ≡ true → InDoubt mid role u → ⊥
    mid_free u is doubt =
        absurd (subst (λ p. names p u) (subst (λ b. pend mid role b ≡ None) (sym same) (removed_drops role old mid act removes).gone) doubt.1)
      where
        same : doubt.0 ≡ act
        same = formed.once doubt.0 act u (removed_names role old mid act removes doubt.0 u doubt.1) (acts_names u is)

    mid_pair : SamePair role mid new
    mid_pair = changed_pair role (λ u. is_in us u ≡ true) mid new (removed_formed role old mid act removes formed) acts_own mid_free puts

    pub abort_drops : Drops role old new act
    abort_drops = record {
      committed = λ u. mid_pair.committed u ∙ (removed_drops role old mid act removes).committed u;
      gone = mid_pair.prepared act ∙ (removed_drops role old mid act removes).gone;
      others = λ a other. mid_pair.prepared a ∙ (removed_drops role old mid act removes).others a other;
    }

    pub abort_end_formed : FormedFor new role
    abort_end_formed =
        changed_formed role (λ u. is_in us u ≡ true) mid new (removed_formed role old mid act removes formed) acts_own mid_free puts

    pub abort_others : OnlyOfRole role old new
    abort_others q other tmp =
        changed_of_role role (λ u. is_in us u ≡ true) mid new (removed_formed role old mid act removes formed) acts_own mid_free puts q other tmp ∙ removed_of_role role old mid act removes q other tmp

    pub abort_keeps : (actions actions' : Uid → Option (List Uid)) (holdings holdings' : Uid → Option Holding) →
        Keeps role actions holdings old → Sets actions actions' act None → Releases us holdings holdings'
        → HaveNoShadow us new → Keeps role actions' holdings' new
    abort_keeps actions actions' holdings holdings' keeps taken released no_shadow =
        ended_keeps role act us old new formed objects actions actions' holdings holdings' keeps taken released
        (prepared act ∙ removes.gone) (λ a other. prepared a ∙ removes.others (slot.Prepared role a) (λ e. other cc)) no_shadow (λ u isnt. kept u isnt ∙ removes.others (slot.Shadow u) (λ e. cc))
      where
        prepared : (a : Uid) → new (slot.Prepared role a) ≡ mid (slot.Prepared role a)
        prepared a = same_prepared role (λ u. is_in us u ≡ true) mid new (removed_formed role old mid act removes formed) acts_own mid_free puts role a

        kept : (u : Uid) → is_in us u ≡ false → new (slot.Shadow u) ≡ mid (slot.Shadow u)
        kept u isnt =
            ⊎_elim (λ (e : new (slot.Shadow u) ≡ mid (slot.Shadow u)). e) (λ (e : (is_in us u ≡ true) × IfSome (new (slot.Shadow u)) (IsStateOf u)). let never : true ≡ false = sym e.0 ∙ isnt in cc)
            (shadow_cases role (λ u. is_in us u ≡ true) mid new (removed_formed role old mid act removes formed) acts_own mid_free puts u)

    pub abort_flags : (holdings : Uid → Option Holding) →
        ((u : Uid) → is_in us u ≡ true → is_some (old (slot.Shadow u)) ≡ has_shadow (holdings u)) → (u : Uid) → is_in us u ≡ true →
        is_some (mid (slot.Shadow u)) ≡ has_shadow (holdings u)
    abort_flags holdings each u is = ap is_some (removes.others (slot.Shadow u) (λ e. cc)) ∙ each u is

-- a clause on an answer that is an error, where it holds of each answer
pub on_err : {T E P : Type 0} (r : Result T E) → P → OnErr r P
on_err (Ok x) p = tt
on_err (Err e) p = p
