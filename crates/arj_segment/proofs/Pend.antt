-- What is kept of what is prepared, as an action is added and as one ends.
use Rattle.std.proofs.Common.{◌≡◌, ◌≢◌, ◌∙◌, true, false, true≢false, Bool, cond, ◌||◌, ℕ, List, [], ◌∷◌, refl, sym, ap, subst, ⊎_elim}
use Rattle.std.proofs.Common.{Option, Some, None}
use Rattle.std.specs.Prelude.{is_some, option_map, MatchOption, if◌then◌else◌}
use Rattle.arj_base.specs.Uid.{uid_eq}
use Rattle.arj_base.specs.declared.uid.Uid.{Uid}
use Rattle.arj_disk.specs.Says.{names, new_of}
use Rattle.arj_store.specs.Effects.{objects}
use Rattle.arj_store.specs.Shadow.{is_in}
use Rattle.arj_store.specs.Table.{Sets}
use Rattle.arj_store.proofs.Uids.{uid_cases}
use Rattle.arj_segment.specs.Tables.{KeepsPend, SetsEach}

-- an object is among states where a state is found for it
pub among_objects : (es : List (Uid × List ℕ)) (u : Uid) → is_in (objects es) u ≡ is_some (new_of es u)
among_objects [] u = refl
among_objects (e ∷ es) u = by (uid_eq u e.0) (among_objects es u)
  where
    by : (b : Bool) → is_in (objects es) u ≡ is_some (new_of es u) → (b || is_in (objects es) u) ≡ is_some (cond b (Some e.1) (new_of es u))
    by true rest = refl
    by false rest = rest

-- what each object's entry says of who has prepared it
abbrev pub Holder : (Uid → Option (List (Uid × List ℕ))) → Uid → Option Uid → Type 0
Holder pend u holder = MatchOption holder ((a : Uid) → names (pend a) u → ⊥) (λ a. names (pend a) u)

module _ (old new : Uid → Option (List (Uid × List ℕ))) (act : Uid) (es : List (Uid × List ℕ)) (others : (a : Uid) → a ≢ act →
    new a ≡ old a)
    (actions actions' : Uid → Option (List Uid)) (holdings holdings' : Uid → Option Uid) (keeps : KeepsPend old actions holdings) where
  -- the action is prepared now, with these states: it wasn't before, or with the same
  pub pend_added : ((u : Uid) → names (old act) u → names (Some es) u) → new act ≡ Some es → Sets actions actions' act (Some (objects es)) →
      SetsEach (objects es) (Some act) holdings holdings' → KeepsPend new actions' holdings'
  pend_added grows here sets each = record {
    actions_are =
        λ a. ⊎_elim (λ (e : a ≡ act). ap actions' e ∙ sets.here ∙ ap (option_map objects) (sym here) ∙ ap (λ b. option_map objects (new b)) (sym e))
        (λ (other : a ≢ act). sets.others a other ∙ keeps.actions_are a ∙ ap (option_map objects) (sym (others a other))) (uid_cases a act);
    holders_are = λ u. subst (Holder new u) (sym (each u)) (by_new u (is_in (objects es) u) refl);
  }
    where
      still : (u a : Uid) → names (old a) u → names (new a) u
      still u a named =
          ⊎_elim (λ (e : a ≡ act). subst (λ o. names o u) (sym (ap new e ∙ here)) (grows u (subst (λ o. names o u) (ap old e) named))) (λ (other : a ≢ act). subst (λ o. names o u) (sym (others a other)) named) (uid_cases a act)

      unnamed : (u : Uid) → is_in (objects es) u ≡ false → ((a : Uid) → names (old a) u → ⊥) → (a : Uid) → names (new a) u → ⊥
      unnamed u isnt free a named =
          ⊎_elim (λ (e : a ≡ act). true≢false (sym (subst (λ o. names o u) (ap new e ∙ here) named) ∙ sym (among_objects es u) ∙ isnt))
          (λ (other : a ≢ act). free a (subst (λ o. names o u) (others a other) named)) (uid_cases a act)

      by_old : (u : Uid) (h : Option Uid) → is_in (objects es) u ≡ false → Holder old u h → Holder new u h
      by_old u None isnt free = unnamed u isnt free
      by_old u (Some a) isnt named = still u a named

      by_new : (u : Uid) (b : Bool) → is_in (objects es) u ≡ b → Holder new u (if b then Some act else holdings u)
      by_new u true is = subst (λ o. names o u) (sym here) (sym (among_objects es u) ∙ is)
      by_new u false isnt = by_old u (holdings u) isnt (keeps.holders_are u)

  -- the action has ended
  pub pend_ended : ((a b u : Uid) → names (old a) u → names (old b) u → a ≡ b) → old act ≡ Some es → new act ≡ None →
      Sets actions actions' act None → SetsEach (objects es) None holdings holdings' → KeepsPend new actions' holdings'
  pend_ended once there gone sets each = record {
    actions_are =
        λ a. ⊎_elim (λ (e : a ≡ act). ap actions' e ∙ sets.here ∙ ap (option_map objects) (sym gone) ∙ ap (λ b. option_map objects (new b)) (sym e))
        (λ (other : a ≢ act). sets.others a other ∙ keeps.actions_are a ∙ ap (option_map objects) (sym (others a other))) (uid_cases a act);
    holders_are = λ u. subst (Holder new u) (sym (each u)) (by_new u (is_in (objects es) u) refl);
  }
    where
      was : (u : Uid) → is_in (objects es) u ≡ true → names (old act) u
      was u is = subst (λ o. names o u) (sym there) (sym (among_objects es u) ∙ is)

      before : (u a : Uid) → names (new a) u → (a ≢ act) × names (old a) u
      before u a named =
          ⊎_elim (λ (e : a ≡ act). absurd (subst (λ o. names o u) (ap new e ∙ gone) named)) (λ (other : a ≢ act). (other, subst (λ o. names o u) (others a other) named)) (uid_cases a act)

      by_old : (u : Uid) (h : Option Uid) → is_in (objects es) u ≡ false → Holder old u h → Holder new u h
      by_old u None isnt free = λ a named. free a (before u a named).1
      by_old u (Some a) isnt named =
          ⊎_elim (λ (e : a ≡ act). absurd (true≢false (sym (subst (λ o. names o u) (ap old e ∙ there) named) ∙ sym (among_objects es u) ∙ isnt)))
          (λ (other : a ≢ act). subst (λ o. names o u) (sym (others a other)) named) (uid_cases a act)

      by_new : (u : Uid) (b : Bool) → is_in (objects es) u ≡ b → Holder new u (if b then None else holdings u)
      by_new u true is = λ a named. let old_named = before u a named in old_named.0 (once a act u old_named.1 (was u is))
      by_new u false isnt = by_old u (holdings u) isnt (keeps.holders_are u)
