-- Steps of a recovery, and what it leaves.
use Rattle.std.proofs.Common.{◌≡◌, ◌≢◌, ◌⊎◌, ◌∙◌, Bool, true, false, List, [], ◌∷◌, ℕ, zero, suc, ◌+◌, ◌<◌, take, get_or, length, arith}
use Rattle.std.proofs.Common.{refl, sym, ap, subst, inl, inr, ⊎_elim, Option, Some, None}
use Rattle.std.specs.Prelude.{IsSome, is_some, IfSome, option_map, MatchOption, Contains}
use Rattle.std.proofs.lemmas.Bool.{cases_Bool}
use Rattle.std.proofs.lemmas.List.{take_more}
use Rattle.std.proofs.lemmas.List.Elements.{Contains-append_cases}
use Rattle.arj_base.specs.declared.uid.Uid.{Uid}
use Rattle.arj_disk.specs.declared.slot.Role.{Role}
use Rattle.arj_disk.specs.declared.slot.Slot.{Slot}
use Rattle.arj_disk.specs.declared.slot.Slot.TheVariants as slot
use Rattle.arj_disk.specs.Disk.{Removes, Lists}
use Rattle.arj_disk.specs.FileMap.{FileMap}
use Rattle.arj_disk.specs.Formed.{IsStateOf}
use Rattle.arj_store.specs.Formed.{FormedFor}
use Rattle.arj_disk.specs.Says.{role_of, OnlyOfRole}
use Rattle.arj_store.specs.Says.{named_in, InDoubt}
use Rattle.arj_store.specs.declared.memory.Holding.{Holding}
use Rattle.arj_store.specs.OfFiles.{SamePair}
use Rattle.arj_store.specs.Recovery.{ReadsAction, ReadsSlot, ReadsActions, SortsShadow, SortsSlot, SortsShadows, DropsShadow, DropsShadows}
use Rattle.arj_store.specs.Recovery.{IsUnheld, act_of}
use Rattle.arj_store.specs.Shadow.{is_in, is_named, objects_of, has_shadow, Keeps, HoldsAll}
use Rattle.arj_store.specs.Table.{Sets, SameTable}
use Rattle.arj_store.proofs.Changes.{changed_pair, changed_formed, changed_of_role, same_prepared}
use Rattle.arj_store.specs.Named.{named_if}
use Rattle.arj_store.proofs.Uids.{uid_cases, slot_cases}

-- a list of one
only_one : (x q : Slot) (k : ℕ) → k < length (x ∷ []) → get_or (x ∷ []) k q ≡ q → q ≡ x
only_one x q zero within is = sym is
only_one x q (suc k) within is = let never : ⊥ = omega arith in absurd never

-- a name that was seen, or the one at this place
pub seen_more : (xs : List Slot) (i : ℕ) (d q : Slot) → i < length xs → Contains (take (i + 1) xs) q →
    Contains (take i xs) q ⊎ (q ≡ get_or xs i d)
seen_more xs i d q within is =
    ⊎_elim (λ (h : Contains (take i xs) q). inl h) (λ (h : Contains (get_or xs i d ∷ []) q). inr (only_one (get_or xs i d) q h.0 h.1 h.2))
    (Contains-append_cases (take i xs) (get_or xs i d ∷ []) q (subst (λ ys. Contains ys q) (take_more xs i d within) is))

nothing_seen : (q : Slot) → Contains (take 0 []) q → ⊥
nothing_seen q h = let never : ⊥ = omega (arith, h.1) in never

some_or_none : (o : Option (List Uid)) → ((us : List Uid) → o ≡ Some us → ⊥) → o ≡ None
some_or_none None never = refl
some_or_none (Some us) never = absurd (never us refl)

-- ---- the prepared actions

module _ (xs : List Slot) (i : ℕ) (d : Slot) (role : Role) (file : FileMap) (a a' : Uid → Option (List Uid)) (h h' : Uid →
    Option Holding) (within : i < length xs) (so_far : ReadsActions (take i xs) role file a h) where
  -- nothing was added
  read_same : SameTable a a' → SameTable h h' → ((act : Uid) → get_or xs i d ≡ slot.Prepared role act → objects_of file role act ≡ None) →
      ReadsActions (take (i + 1) xs) role file a' h'
  read_same sa sh none = record {
    sound = λ act us is. so_far.sound act us (sym (sa act) ∙ is);
    complete = λ act is. ⊎_elim (λ (seen : Contains (take i xs) (slot.Prepared role act)). sa act ∙ so_far.complete act seen)
        (λ (here : slot.Prepared role act ≡ get_or xs i d).
        sa act ∙ some_or_none (a act) (λ us some. let never : Some us ≡ None =
        sym (so_far.sound act us some) ∙ none act (sym here) in cc) ∙ sym (none act (sym here)))
        (seen_more xs i d (slot.Prepared role act) within is);
    held = λ u. subst (λ o. MatchOption o ((act : Uid) →
        is_named (a' act) u ≡ false) (λ x. (is_named (a' x.act) u ≡ true) × (x.shadow ≡ false))) (sym (sh u)) (kept u (h u) (so_far.held u));
  }
    where
      kept : (u : Uid) (o : Option Holding) →
          MatchOption o ((act : Uid) → is_named (a act) u ≡ false) (λ x. (is_named (a x.act) u ≡ true) × (x.shadow ≡ false))
          → MatchOption o ((act : Uid) → is_named (a' act) u ≡ false) (λ x. (is_named (a' x.act) u ≡ true) × (x.shadow ≡ false))
      kept u None none = λ act. ap (λ o. is_named o u) (sa act) ∙ none act
      kept u (Some x) named = (ap (λ o. is_named o u) (sa x.act) ∙ named.0, named.1)

  -- an action with its objects was added
  read_one : (act : Uid) (us : List Uid) → get_or xs i d ≡ slot.Prepared role act → objects_of file role act ≡ Some us →
      Sets a a' act (Some us) → HoldsAll us act false h h' → ReadsActions (take (i + 1) xs) role file a' h'
  read_one act us is objects sets holds = record {
    sound = λ b ws some. ⊎_elim (λ (e : b ≡ act). ap (objects_of file role) e ∙ objects ∙ sym sets.here ∙ ap a' (sym e) ∙ some) (λ (other : b ≢ act). so_far.sound b ws (sym (sets.others b other) ∙ some)) (uid_cases b act);
    complete = λ b seen. ⊎_elim (λ (e : b ≡ act). ap a' e ∙ sets.here ∙ sym objects ∙ ap (objects_of file role) (sym e))
        (λ (other : b ≢ act). sets.others b other ∙ ⊎_elim (λ (s : Contains (take i xs) (slot.Prepared role b)). so_far.complete b s)
        (λ (here : slot.Prepared role b ≡ get_or xs i d). absurd (other (same b act (here ∙ is)))) (seen_more xs i d (slot.Prepared role b) within seen))
        (uid_cases b act);
    held = λ u. ⊎_elim
        (λ (among : is_in us u ≡ true). subst (λ o. MatchOption o ((b : Uid) →
        is_named (a' b) u ≡ false) (λ x. (is_named (a' x.act) u ≡ true) × (x.shadow ≡ false))) (sym (holds.here u among))
        (ap (λ o. is_named o u) sets.here ∙ among, refl))
        (λ (apart : is_in us u ≡ false). subst (λ o. MatchOption o ((b : Uid) →
        is_named (a' b) u ≡ false) (λ x. (is_named (a' x.act) u ≡ true) × (x.shadow ≡ false))) (sym (holds.others u apart))
        (kept u apart (h u) (so_far.held u))) (cases_Bool (is_in us u));
  }
    where
      same : (b c : Uid) → slot.Prepared role b ≡ slot.Prepared role c → b ≡ c
      same b c e = cc

      kept : (u : Uid) → is_in us u ≡ false → (o : Option Holding) →
          MatchOption o ((b : Uid) → is_named (a b) u ≡ false) (λ x. (is_named (a x.act) u ≡ true) × (x.shadow ≡ false))
          → MatchOption o ((b : Uid) → is_named (a' b) u ≡ false) (λ x. (is_named (a' x.act) u ≡ true) × (x.shadow ≡ false))
      kept u apart None none =
          λ b. ⊎_elim (λ (e : b ≡ act). ap (λ o. is_named o u) (ap a' e ∙ sets.here) ∙ apart) (λ (other : b ≢ act). ap (λ o. is_named o u) (sets.others b other) ∙ none b) (uid_cases b act)
      kept u apart (Some x) named = (ap (λ o. is_named o u) (sets.others x.act different) ∙ named.0, named.1)
        where
          -- what the action had before is what its file names
          before : (o : Option (List Uid)) → a act ≡ o → is_named o u ≡ true → ⊥
          before None is never = let no : false ≡ true = never in cc
          before (Some ws) is found =
              let never : true ≡ false = sym found ∙ ap (λ o. is_named o u) (sym (so_far.sound act ws is) ∙ objects) ∙ apart in cc

          different : x.act ≢ act
          different e = before (a act) refl (subst (λ b. is_named (a b) u ≡ true) e named.0)

  pub read_step : (s : Slot) → s ≡ get_or xs i d → ReadsSlot role file s a h a' h' → ReadsActions (take (i + 1) xs) role file a' h'
  read_step s here = ⊎_elim
      (λ (e : (act : Uid) × (s ≡ slot.Prepared role act) × ReadsAction role file act a h a' h'). by e.0 (sym here ∙ e.1) (objects_of file role e.0) refl e.2)
      (λ (e : ((act : Uid) →
      s ≢ slot.Prepared role act) × SameTable a a' × SameTable h h'). read_same e.1 e.2 (λ act is. absurd (e.0 act (here ∙ is))))
    where
      none_here : (act : Uid) → get_or xs i d ≡ slot.Prepared role act → objects_of file role act ≡ None → (b : Uid) →
          get_or xs i d ≡ slot.Prepared role b → objects_of file role b ≡ None
      none_here act is none b is' =
          let same : slot.Prepared role act ≡ slot.Prepared role b =
          sym is ∙ is' in let e : act ≡ b = cc in ap (objects_of file role) (sym e) ∙ none

      by : (act : Uid) → get_or xs i d ≡ slot.Prepared role act → (o : Option (List Uid)) → objects_of file role act ≡ o
          → MatchOption (objects_of file role act) (SameTable a a' × SameTable h h') (λ us. Sets a a' act (Some us) × HoldsAll us act false h h') → ReadsActions (take (i + 1) xs) role file a' h'
      by act is None none reads =
          let r = subst (λ o. MatchOption o (SameTable a a' × SameTable h h') (λ us. Sets a a' act (Some us) × HoldsAll us act false h h')) none reads in read_same r.0 r.1 (none_here act is none)
      by act is (Some us) some reads =
          let r = subst (λ o. MatchOption o (SameTable a a' × SameTable h h') (λ us. Sets a a' act (Some us) × HoldsAll us act false h h')) some reads in read_one act us is some r.0 r.1

-- the same, of the files as they are now
pub read_step_now : (xs : List Slot) (i : ℕ) (d : Slot) (role : Role) (file now : FileMap) (a a' : Uid → Option (List Uid)) (h h' : Uid →
    Option Holding) → i < length xs → ReadsActions (take i xs) role file a h → now ≡ file
    → ReadsSlot role now (get_or xs i d) a h a' h' → ReadsActions (take (i + 1) xs) role file a' h'
read_step_now xs i d role file now a a' h h' within so_far same reads =
    read_step xs i d role file a a' h h' within so_far (get_or xs i d) refl (subst (λ f. ReadsSlot role f (get_or xs i d) a h a' h') same reads)

pub read_none : (xs : List Slot) (role : Role) (file : FileMap) (a : Uid → Option (List Uid)) (h : Uid → Option Holding) →
    ((u : Uid) → a u ≡ None) → ((u : Uid) → h u ≡ None) → ReadsActions (take 0 xs) role file a h
read_none xs role file a h no_action none = record {
  sound = λ act us is. let never : None ≡ Some us = sym (no_action act) ∙ is in cc;
  complete = λ act is. absurd (empty xs (slot.Prepared role act) is);
  held = λ u. subst (λ o. MatchOption o ((act : Uid) →
      is_named (a act) u ≡ false) (λ x. (is_named (a x.act) u ≡ true) × (x.shadow ≡ false))) (sym (none u)) (λ act. ap (λ o. is_named o u) (no_action act));
}
  where
    empty : (xs : List Slot) (q : Slot) → Contains (take 0 xs) q → ⊥
    empty [] q c = omega (arith, c.1)
    empty (x ∷ xs) q c = omega (arith, c.1)

-- ---- the shadows

-- what may go of the shadows, after one more step
pub drops_step : (role : Role) (before after : Uid → Option Holding) (old mid new : FileMap) →
    ((u : Uid) → act_of (after u) ≡ act_of (before u)) → DropsShadows role before old mid → DropsShadow role after mid new →
    DropsShadows role before old new
drops_step role before after old mid new acts drops step q tmp = ⊎_elim (λ (same : new ≡ mid). kept (λ i. same i q))
    (λ (e : (u : Uid) × (role_of u ≡ role) × (after u ≡ None) × Removes mid new (slot.Shadow u)).
    ⊎_elim (λ (here : q ≡ slot.Shadow e.0). inr (e.0, (e.1, unheld e.0 e.2), here, subst (λ o. IfSome o (IsStateOf e.0)) (sym (ap new here ∙ e.3.gone)) tt))
    (λ (other : q ≢ slot.Shadow e.0). kept (e.3.others q other)) (slot_cases q (slot.Shadow e.0))) step
  where
    kept : new q ≡ mid q → (new q ≡ old q) ⊎ ((w : Uid) × IsUnheld role before w × (q ≡ slot.Shadow w) × IfSome (new q) (IsStateOf w))
    kept same = subst (λ o. (o ≡ old q) ⊎ ((w : Uid) × IsUnheld role before w × (q ≡ slot.Shadow w) × IfSome o (IsStateOf w))) (sym same) (drops q tmp)

    none_of : (o p : Option Holding) → act_of o ≡ act_of p → o ≡ None → p ≡ None
    none_of o None same is = refl
    none_of o (Some h) same is = let never : None ≡ Some h.act = sym (ap act_of is) ∙ same in cc

    unheld : (u : Uid) → after u ≡ None → before u ≡ None
    unheld u is = none_of (after u) (before u) (acts u) is

contains_at : (xs : List Slot) (i : ℕ) (d : Slot) → i < length xs → Contains xs (get_or xs i d)
contains_at xs i d within = (i, within, any_default xs i (get_or xs i d) d within)
  where
    any_default : (xs : List Slot) (i : ℕ) (d e : Slot) → i < length xs → get_or xs i d ≡ get_or xs i e
    any_default [] i d e within = let never : ⊥ = omega arith in absurd never
    any_default (x ∷ xs) zero d e within = refl
    any_default (x ∷ xs) (suc i) d e within = any_default xs i d e (omega arith)

module _ (xs : List Slot) (i : ℕ) (d : Slot) (role : Role) (old mid new : FileMap) (before h h' : Uid →
    Option Holding) (within : i < length xs) (there : (q : Slot) → Contains xs q → IsSome (old q))
    (sorted : SortsShadows (take i xs) role old before mid h) where
  same_shadow : (u w : Uid) → slot.Shadow u ≡ slot.Shadow w → u ≡ w
  same_shadow u w e = cc

  -- another name
  sort_other : SameTable h h' → new ≡ mid → ((u : Uid) → get_or xs i d ≡ slot.Shadow u → role_of u ≢ role) →
      SortsShadows (take (i + 1) xs) role old before new h'
  sort_other sh same not_own = record {
    files = subst (DropsShadows role before old) (sym same) sorted.files;
    fewer = λ u is. sorted.fewer u (subst (λ f. IsSome (f (slot.Shadow u))) same is);
    acts = λ u. ap act_of (sh u) ∙ sorted.acts u;
    flags = λ u own seen. ⊎_elim
        (λ (s : Contains (take i xs) (slot.Shadow u)). ap (λ f. is_some (f (slot.Shadow u))) same ∙ sorted.flags u own s ∙ sym (ap has_shadow (sh u)))
        (λ (here : slot.Shadow u ≡ get_or xs i d). absurd (not_own u (sym here) own)) (seen_more xs i d (slot.Shadow u) within seen);
    only = λ u own has. subst (λ f. IsSome (f (slot.Shadow u))) (sym same) (sorted.only u own (ap has_shadow (sym (sh u)) ∙ has));
  }

  -- a shadow that no action holds
  sort_none : (u : Uid) → get_or xs i d ≡ slot.Shadow u → role_of u ≡ role → h u ≡ None → Sets h h' u None →
      Removes mid new (slot.Shadow u) → SortsShadows (take (i + 1) xs) role old before new h'
  sort_none w is mine free sets removes = record {
    files = drops_step role before h old mid new sorted.acts sorted.files (inr (w, mine, free, removes));
    fewer = λ u some. ⊎_elim (λ (e : u ≡ w). let never : false ≡ true =
        ap is_some (sym (ap (λ v. new (slot.Shadow v)) e ∙ removes.gone)) ∙ some in cc)
        (λ (other : u ≢ w). sorted.fewer u (ap is_some (sym (stays u other)) ∙ some)) (uid_cases u w);
    acts = λ u. ⊎_elim (λ (e : u ≡ w). ap act_of (ap h' e ∙ sets.here ∙ sym free ∙ ap h (sym e)) ∙ sorted.acts u) (λ (other : u ≢ w). ap act_of (sets.others u other) ∙ sorted.acts u) (uid_cases u w);
    flags = λ u own seen. ⊎_elim (λ (e : u ≡ w). ap is_some (ap (λ v. new (slot.Shadow v)) e ∙ removes.gone) ∙ sym (ap has_shadow (ap h' e ∙ sets.here)))
        (λ (other : u ≢ w). ap is_some (stays u other) ∙ ⊎_elim (λ (s : Contains (take i xs) (slot.Shadow u)). sorted.flags u own s)
        (λ (here : slot.Shadow u ≡ get_or xs i d). absurd (other (same_shadow u w (here ∙ is)))) (seen_more xs i d (slot.Shadow u) within seen) ∙ sym (ap has_shadow (sets.others u other))) (uid_cases u w);
    only = λ u own has. ⊎_elim (λ (e : u ≡ w). let never : false ≡ true = sym (ap has_shadow (ap h' e ∙ sets.here)) ∙ has in cc)
        (λ (other : u ≢ w). ap is_some (stays u other) ∙ sorted.only u own (sym (ap has_shadow (sets.others u other)) ∙ has)) (uid_cases u w);
  }
    where
      stays : (u : Uid) → u ≢ w → new (slot.Shadow u) ≡ mid (slot.Shadow u)
      stays u other = removes.others (slot.Shadow u) (λ e. other (same_shadow u w e))

  -- a shadow that an action holds
  sort_held : (u : Uid) (x : Holding) → get_or xs i d ≡ slot.Shadow u → role_of u ≡ role → h u ≡ Some x →
      Sets h h' u (Some (record { act = x.act; shadow = true })) → new ≡ mid → SortsShadows (take (i + 1) xs) role old before new h'
  sort_held w x is mine holds sets same = record {
    files = subst (DropsShadows role before old) (sym same) sorted.files;
    fewer = λ u some. sorted.fewer u (subst (λ f. IsSome (f (slot.Shadow u))) same some);
    acts = λ u. ⊎_elim (λ (e : u ≡ w). ap act_of (ap h' e ∙ sets.here) ∙ sym (ap act_of (ap h e ∙ holds)) ∙ sorted.acts u) (λ (other : u ≢ w). ap act_of (sets.others u other) ∙ sorted.acts u) (uid_cases u w);
    flags = λ u own seen. ⊎_elim (λ (e : u ≡ w). subst (λ v. is_some (new (slot.Shadow v)) ≡ true) (sym e) here_now ∙ sym (ap has_shadow (ap h' e ∙ sets.here)))
        (λ (other : u ≢ w). ap (λ f. is_some (f (slot.Shadow u))) same ∙ ⊎_elim (λ (s : Contains (take i xs) (slot.Shadow u)). sorted.flags u own s)
        (λ (here : slot.Shadow u ≡ get_or xs i d). absurd (other (same_shadow u w (here ∙ is)))) (seen_more xs i d (slot.Shadow u) within seen) ∙ sym (ap has_shadow (sets.others u other))) (uid_cases u w);
    only = λ u own has. ⊎_elim (λ (e : u ≡ w). subst (λ v. is_some (new (slot.Shadow v)) ≡ true) (sym e) here_now)
        (λ (other : u ≢ w). ap (λ f. is_some (f (slot.Shadow u))) same ∙ sorted.only u own (sym (ap has_shadow (sets.others u other)) ∙ has)) (uid_cases u w);
  }
    where
      was : IsSome (old (slot.Shadow w))
      was = there (slot.Shadow w) (subst (Contains xs) is (contains_at xs i d within))

      held_before : (o : Option Holding) → before w ≡ o → o ≡ None → ⊥
      held_before o e none = let never : Some x.act ≡ None = sym (ap act_of holds) ∙ sorted.acts w ∙ ap act_of (e ∙ none) in cc

      stayed : mid (slot.Shadow w) ≡ old (slot.Shadow w)
      stayed = ⊎_elim (λ (e : mid (slot.Shadow w) ≡ old (slot.Shadow w)). e)
          (λ (e : (v : Uid) × IsUnheld role before v × (slot.Shadow w ≡ slot.Shadow v) × IfSome (mid (slot.Shadow w)) (IsStateOf v)).
          absurd (held_before (before w) refl (ap before (same_shadow w e.0 e.2) ∙ e.1.1)))
          (sorted.files (slot.Shadow w) (λ e. cc))

      here_now : is_some (new (slot.Shadow w)) ≡ true
      here_now = ap (λ f. is_some (f (slot.Shadow w))) same ∙ ap is_some stayed ∙ was

  pub sort_step : (s : Slot) → s ≡ get_or xs i d → SortsSlot role s mid h new h' → SortsShadows (take (i + 1) xs) role old before new h'
  sort_step s here = ⊎_elim
      (λ (e : (u : Uid) × (s ≡ slot.Shadow u) × (role_of u ≡ role) × SortsShadow u mid h new h'). by e.0 (sym here ∙ e.1) e.2 (h e.0) refl e.3)
      (λ (e : ((u : Uid) → s ≡ slot.Shadow u →
      role_of u ≢ role) × SameTable h h' × (new ≡ mid)). sort_other e.1 e.2 (λ u is. e.0 u (here ∙ is)))
    where
      by : (u : Uid) → get_or xs i d ≡ slot.Shadow u → role_of u ≡ role → (o : Option Holding) → h u ≡ o
          → MatchOption (h u) (Sets h h' u None × Removes mid new (slot.Shadow u)) (λ x. Sets h h' u (Some (record {
            act = x.act;
            shadow =
                true;
          })) × (new ≡ mid)) → SortsShadows (take (i + 1) xs) role old before new h'
      by u is own None none sorts =
          let r = subst (λ o. MatchOption o (Sets h h' u None × Removes mid new (slot.Shadow u)) (λ x. Sets h h' u (Some (record {
            act =
                x.act;
            shadow = true;
          })) × (new ≡ mid))) none sorts in sort_none u is own none r.0 r.1
      by u is own (Some x) some sorts =
          let r = subst (λ o. MatchOption o (Sets h h' u None × Removes mid new (slot.Shadow u)) (λ x. Sets h h' u (Some (record {
            act =
                x.act;
            shadow = true;
          })) × (new ≡ mid))) some sorts in sort_held u x is own some r.0 r.1

-- ---- what is recovered

module _ (role : Role) (xs : List Slot) (old new : FileMap) (formed : FormedFor old role) (lists : Lists old xs) (a : Uid →
    Option (List Uid)) (h h' : Uid → Option Holding) (read : ReadsActions xs role old a h) where
  pub kept_actions : (act : Uid) → a act ≡ objects_of old role act
  kept_actions act = by (old (slot.Prepared role act)) refl
    where
      by : (o : Option (List ℕ)) → old (slot.Prepared role act) ≡ o → a act ≡ objects_of old role act
      by None none =
          some_or_none (a act) (λ us some. let never : Some us ≡ None =
          sym (read.sound act us some) ∙ ap (option_map named_in) none in cc) ∙ sym (ap (option_map named_in) none)
      by (Some bytes) some = read.complete act ((lists.there (slot.Prepared role act)).0 (ap is_some some))

  holder : (u : Uid) →
      MatchOption (h u) ((act : Uid) → is_named (objects_of old role act) u ≡ false) (λ x. is_named (objects_of old role x.act) u ≡ true)
  holder u = by (h u) (read.held u)
    where
      by : (o : Option Holding) →
          MatchOption o ((act : Uid) → is_named (a act) u ≡ false) (λ x. (is_named (a x.act) u ≡ true) × (x.shadow ≡ false))
          → MatchOption o ((act : Uid) → is_named (objects_of old role act) u ≡ false) (λ x. is_named (objects_of old role x.act) u ≡ true)
      by None none = λ act. ap (λ o. is_named o u) (sym (kept_actions act)) ∙ none act
      by (Some x) named = ap (λ o. is_named o u) (sym (kept_actions x.act)) ∙ named.0

  pub no_flags : (u : Uid) → has_shadow (h u) ≡ false
  no_flags u = by (h u) (read.held u)
    where
      by : (o : Option Holding) →
          MatchOption o ((act : Uid) → is_named (a act) u ≡ false) (λ x. (is_named (a x.act) u ≡ true) × (x.shadow ≡ false)) →
          has_shadow o ≡ false
      by None none = refl
      by (Some x) named = named.1

  unheld_own : (u : Uid) → IsUnheld role h u → role_of u ≡ role
  unheld_own u is = is.0

  unheld_free : (u : Uid) → IsUnheld role h u → InDoubt old role u → ⊥
  unheld_free u is doubt =
      let never : false ≡ true =
      sym (subst (λ o. MatchOption o ((act : Uid) →
      is_named (objects_of old role act) u ≡ false) (λ x. is_named (objects_of old role x.act) u ≡ true)) is.1 (holder u) doubt.0)
      ∙ named_if old role doubt.0 u doubt.1 in cc

  pub recovered_pair : DropsShadows role h old new → SamePair role old new
  recovered_pair drops = changed_pair role (IsUnheld role h) old new formed unheld_own unheld_free drops

  pub recovered_formed : DropsShadows role h old new → FormedFor new role
  recovered_formed drops = changed_formed role (IsUnheld role h) old new formed unheld_own unheld_free drops

  pub recovered_others : DropsShadows role h old new → OnlyOfRole role old new
  recovered_others drops = changed_of_role role (IsUnheld role h) old new formed unheld_own unheld_free drops

  pub recovered_keeps : SortsShadows xs role old h new h' → Keeps role a h' new
  recovered_keeps sorts = record {
    actions_are = λ act. kept_actions act ∙ sym (objects act);
    holders_are = λ u. by u (h u) (h' u) (sorts.acts u) (holder u);
    shadows_are = λ u own. flag u own (new (slot.Shadow u)) refl (has_shadow (h' u)) refl;
  }
    where
      objects : (act : Uid) → objects_of new role act ≡ objects_of old role act
      objects act =
          ap (option_map named_in) (same_prepared role (IsUnheld role h) old new formed unheld_own unheld_free sorts.files role act)

      by : (u : Uid) (o p : Option Holding) → act_of p ≡ act_of o →
          MatchOption o ((act : Uid) → is_named (objects_of old role act) u ≡ false) (λ x. is_named (objects_of old role x.act) u ≡ true)
          → MatchOption p ((act : Uid) → is_named (objects_of new role act) u ≡ false) (λ x. is_named (objects_of new role x.act) u ≡ true)
      by u None None same none = λ act. ap (λ o. is_named o u) (objects act) ∙ none act
      by u None (Some y) same none = let never : Some y.act ≡ None = same in cc
      by u (Some x) None same named = let never : None ≡ Some x.act = same in cc
      by u (Some x) (Some y) same named =
          let e : y.act ≡ x.act = cc in ap (λ b. is_named (objects_of new role b) u) e ∙ ap (λ o. is_named o u) (objects x.act) ∙ named

      flag : (u : Uid) → role_of u ≡ role → (o : Option (List ℕ)) → new (slot.Shadow u) ≡ o → (b : Bool) → has_shadow (h' u) ≡ b →
          is_some (new (slot.Shadow u)) ≡ has_shadow (h' u)
      flag u own (Some bytes) some b e = sorts.flags u own ((lists.there (slot.Shadow u)).0 (sorts.fewer u (ap is_some some)))
      flag u own None none true e = let never : false ≡ true = ap is_some (sym none) ∙ sorts.only u own e in cc
      flag u own None none false e = ap is_some none ∙ sym e
