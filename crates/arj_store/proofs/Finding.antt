-- What a recovery finds for the naming service: the entries of the names, and the states that were read.
use Rattle.std.proofs.Common.{◌≡◌, ◌≢◌, ◌⊎◌, ◌∙◌, ◌↔◌, Bool, true, false, ◌||◌, ◌&&◌, List, [], ◌∷◌, ◌++◌, ℕ, ◌+◌, ◌<◌, take, get_or}
use Rattle.std.proofs.Common.{length, arith, cond, refl, sym, ap, subst, ⊎_elim, map, Option, Some, None}
use Rattle.std.specs.Prelude.{IsSome, is_some, IfSome, option_map, MatchOption, Contains, if◌then◌else◌}
use Rattle.std.specs.List.{AllByRecursion, filter}
use Rattle.std.specs.List.Sorted.{IsStrictlySortedBy}
use Rattle.std.proofs.lemmas.Bool.{cases_Bool, or_cases, or_left, or_right, or_from}
use Rattle.std.proofs.lemmas.List.Elements.{Contains-append_left, Contains-append_right, Contains-append_cases, Contains-push}
use Rattle.std.proofs.lemmas.List.Elements.{Contains-push_cases, Contains-get_or, filter_more}
use Rattle.std.proofs.lemmas.List.{take_more, map-append, append-nil}
use Rattle.std.proofs.lemmas.List.Folds.{list_any-append}
use Rattle.arj_base.specs.State.{state_bytes, StateInForm}
use Rattle.arj_base.specs.Uid.{uid_eq}
use Rattle.arj_base.specs.declared.state.ObjectState.{ObjectState}
use Rattle.arj_base.specs.declared.uid.Uid.{Uid}
use Rattle.arj_disk.specs.declared.slot.Role.{Role}
use Rattle.arj_disk.specs.declared.slot.Role.TheVariants.{Names}
use Rattle.arj_disk.specs.declared.slot.Slot.{Slot}
use Rattle.arj_disk.specs.declared.slot.Slot.TheVariants as slot
use Rattle.arj_disk.specs.Disk.{Lists}
use Rattle.arj_disk.specs.FileMap.{FileMap}
use Rattle.arj_store.specs.Formed.{FormedFor}
use Rattle.arj_disk.specs.Says.{role_of, role_eq}
use Rattle.arj_store.specs.Says.{held, pend, new_state, first_file}
use Rattle.arj_store.specs.declared.memory.Holding.{Holding}
use Rattle.arj_store.specs.declared.answer.Found.{Found}
use Rattle.arj_store.specs.declared.prepare.Place.{Place}
use Rattle.arj_store.specs.declared.prepare.Place.TheVariants as place
use Rattle.arj_store.specs.OfFiles.{SamePair, IsHeld, FindsPair}
use Rattle.arj_store.specs.Pair.{uid_order, packed, uid_of}
use Rattle.arj_store.specs.Recovery.{IsStateAt, ListsHeld, entry_at, entries_in, HasEntry, HasRead, HasReadOf, first_state, newest}
use Rattle.arj_store.specs.Recovery.{HasStatesOf, ListsPrepared}
use Rattle.arj_store.specs.Shadow.{is_in, is_named, objects_of, has_shadow, Keeps}
use Rattle.arj_store.specs.Table.{Sets, AreValuesOf}
use Rattle.arj_store.proofs.Lists.{all_more}
use Rattle.arj_store.specs.Named.{names_if, pend_of, pend_none, with_each, held_own, held_of_role, role_is}
use Rattle.arj_store.proofs.Readings.{is_held}
use Rattle.arj_store.proofs.Uids.{uid_is, uid_same, uid_other, uid_cases, in_more}

-- ---- the entries of the names

one_entry : (q : Slot) (u : Uid) → is_in (entry_at q) u ≡ true → (role_of u ≡ Names) × (q ≡ slot.Committed u)
one_entry (slot.Committed w) u is = by (role_eq (role_of w) Names) refl is
  where
    by : (b : Bool) → role_eq (role_of w) Names ≡ b → is_in (if b then w ∷ [] else []) u ≡ true →
        (role_of u ≡ Names) × (slot.Committed w ≡ slot.Committed u)
    by true e is =
        ⊎_elim (λ (same : uid_eq u w ≡ true). (ap role_of (uid_is u w same) ∙ role_is (role_of w) Names e, ap slot.Committed (sym (uid_is u w same))))
        (λ (never : false ≡ true). cc) (or_cases (uid_eq u w) false is)
    by false e is = let never : false ≡ true = is in cc
one_entry slot.Incarnation u is = let never : false ≡ true = is in cc
one_entry slot.Tmp u is = let never : false ≡ true = is in cc
one_entry (slot.Shadow w) u is = let never : false ≡ true = is in cc
one_entry (slot.Prepared role a) u is = let never : false ≡ true = is in cc
one_entry (slot.Intent a) u is = let never : false ≡ true = is in cc
one_entry (slot.Pending role a) u is = let never : false ≡ true = is in cc
one_entry (slot.Segment role k) u is = let never : false ≡ true = is in cc

entry_here : (u : Uid) → role_of u ≡ Names → is_in (entry_at (slot.Committed u)) u ≡ true
entry_here u own = subst (λ r. is_in (if role_eq r Names then u ∷ [] else []) u ≡ true) (sym own) (or_left (uid_eq u u) false (uid_same u))

only_one : {X : Type 0} (q p : X) → Contains (q ∷ []) p → q ≡ p
only_one q p is =
    ⊎_elim (λ (never : Contains [] p). let no : ⊥ = omega (arith, never.1) in absurd no) (λ (e : q ≡ p). e) (Contains-push_cases [] q p is)

pub contained : (us : List Uid) (u : Uid) → Contains us u → is_in us u ≡ true
contained [] u is = let never : ⊥ = omega (arith, is.1) in absurd never
contained (w ∷ ws) u is =
    ⊎_elim (λ (here : Contains (w ∷ []) u). or_left (uid_eq u w) (is_in ws u) (ap (uid_eq u) (only_one w u here) ∙ uid_same u))
    (λ (later : Contains ws u). or_right (uid_eq u w) (is_in ws u) (contained ws u later)) (Contains-append_cases (w ∷ []) ws u is)

pub in_entries : (names : List Slot) (u : Uid) → is_in (entries_in names) u ≡ true → (role_of u ≡ Names) × Contains names (slot.Committed u)
in_entries [] u is = let never : false ≡ true = is in cc
in_entries (q ∷ qs) u is = ⊎_elim
    (λ (here : is_in (entry_at q) u ≡ true). let e =
    one_entry q u here in (e.0, subst (λ s. Contains (s ∷ qs) (slot.Committed u)) (sym e.1) (Contains-append_left (slot.Committed u ∷ []) qs (slot.Committed u) (Contains-push [] (slot.Committed u)))))
    (λ (later : is_in (entries_in qs) u ≡ true). let e =
    in_entries qs u later in (e.0, Contains-append_right (q ∷ []) qs (slot.Committed u) e.1))
    (or_cases (is_in (entry_at q) u) (is_in (entries_in qs) u) (sym (list_any-append (uid_eq u) (entry_at q) (entries_in qs)) ∙ is))

pub entries_have : (names : List Slot) (u : Uid) → role_of u ≡ Names → Contains names (slot.Committed u) → is_in (entries_in names) u ≡ true
entries_have [] u own is = let never : ⊥ = omega (arith, is.1) in absurd never
entries_have (q ∷ qs) u own is = list_any-append (uid_eq u) (entry_at q) (entries_in qs) ∙ ⊎_elim
    (λ (here : Contains (q ∷ []) (slot.Committed u)). or_left (is_in (entry_at q) u) (is_in (entries_in qs) u) (subst (λ s. is_in (entry_at s) u ≡ true) (sym (only_one q (slot.Committed u) here)) (entry_here u own)))
    (λ (later : Contains qs (slot.Committed u)). or_right (is_in (entry_at q) u) (is_in (entries_in qs) u) (entries_have qs u own later))
    (Contains-append_cases (q ∷ []) qs (slot.Committed u) is)

-- ---- steps of the loops

-- one more state
pub states_more : (f : Uid → Option ObjectState) (us : List Uid) (i : ℕ) (d : Uid) (ss : List ObjectState) (s : ObjectState) →
    i < length us → map f (take i us) ≡ map Some ss → f (get_or us i d) ≡ Some s → map f (take (i + 1) us) ≡ map Some (ss ++ s ∷ [])
states_more f us i d ss s within so_far here =
    ap (map f) (take_more us i d within) ∙ map-append f (take i us) (get_or us i d ∷ []) ∙ (λ j. so_far j ++ here j ∷ []) ∙ sym (map-append Some ss (s ∷ []))

-- a Uid of the table's list has a value
pub has_value : {V : Type 0} (f : Uid → Option V) (us items : List Uid) (i : ℕ) (d : Uid) → items ≡ us → i < length items →
    ((q : Uid) → IsSome (f q) ↔ Contains us q) → f (get_or items i d) ≡ None → ⊥
has_value f us items i d same within there none =
    let never : false ≡ true =
    sym (ap is_some none) ∙ (there (get_or items i d)).1 (subst (λ ws. Contains ws (get_or items i d)) same (Contains-get_or items i d within)) in cc

-- one more action with its states
pub action_more : (actions : Uid → Option (List Uid)) (state : Uid →
    Option ObjectState) (acts : List Uid) (i : ℕ) (d : Uid) (ps : List (Uid × List ObjectState)) (us : List Uid) (ss : List ObjectState) →
    i < length acts
    → map (λ p. p.0) ps ≡ take i acts → AllByRecursion (HasStatesOf actions state) ps → actions (get_or acts i d) ≡ Some us →
    map state us ≡ map Some ss
    → (map (λ p. p.0) (ps ++ (get_or acts i d, ss) ∷ []) ≡ take (i + 1) acts) × AllByRecursion (HasStatesOf actions state) (ps ++ (get_or acts i d, ss) ∷ [])
action_more actions state acts i d ps us ss within so_far all is states = (
  map-append (λ (p : Uid × List ObjectState). p.0) ps ((get_or acts i d, ss) ∷ []) ∙ (λ j. so_far j ++ get_or acts i d ∷ []) ∙ sym (take_more acts i d within),
  all_more (HasStatesOf actions state) ps (get_or acts i d, ss) all (ap (option_map (map state)) is ∙ ap Some states),
)

-- one more file
one_read : (kind : Place) (file : FileMap) (us : List Uid) (w : Uid) (t : ObjectState) (states states' : Uid → Option ObjectState) →
    HasReadOf kind file us states → IsStateAt kind file w t → Sets states states' w (Some t) → HasReadOf kind file (us ++ w ∷ []) states'
one_read kind file us w t states states' so_far at sets u =
    ⊎_elim (λ (e : u ≡ w). subst (Fits u) (sym (ap states' e ∙ sets.here)) (here u e))
    (λ (other : u ≢ w). subst (Fits u) (sym (sets.others u other)) (kept u other (states u) (so_far u))) (uid_cases u w)
  where
    Fits : Uid → Option ObjectState → Type 0
    Fits u o = MatchOption o (is_in (us ++ w ∷ []) u ≡ false) (λ s. (is_in (us ++ w ∷ []) u ≡ true) × IsStateAt kind file u s)

    here : (u : Uid) → u ≡ w → (is_in (us ++ w ∷ []) u ≡ true) × IsStateAt kind file u t
    here u e = (in_more us w u ∙ or_right (is_in us u) (uid_eq u w || false) (or_left (uid_eq u w) false (ap (uid_eq u) (sym e) ∙ uid_same u)), subst (λ v. IsStateAt kind file v t) (sym e) at)

    kept : (u : Uid) → u ≢ w → (o : Option ObjectState) →
        MatchOption o (is_in us u ≡ false) (λ s. (is_in us u ≡ true) × IsStateAt kind file u s) → Fits u o
    kept u other None isnt =
        in_more us w u ∙ or_from (is_in us u) (uid_eq u w || false) isnt (or_from (uid_eq u w) false (uid_other u w other) refl)
    kept u other (Some s) is = (in_more us w u ∙ or_left (is_in us u) (uid_eq u w || false) is.0, is.1)

pub read_more : (kind : Place) (file now : FileMap) (us : List Uid) (i : ℕ) (d : Uid) (t : ObjectState) (states states' : Uid →
    Option ObjectState) → i < length us → now ≡ file → HasReadOf kind file (take i us) states
    → IsStateAt kind now (get_or us i d) t → Sets states states' (get_or us i d) (Some t) → HasReadOf kind file (take (i + 1) us) states'
read_more kind file now us i d t states states' within same so_far at sets =
    subst (λ ws. HasReadOf kind file ws states') (sym (take_more us i d within)) (one_read kind file (take i us) (get_or us i d) t states states' so_far (subst (λ f. IsStateAt kind f (get_or us i d) t) same at) sets)

pub read_all : (kind : Place) (file : FileMap) (us : List Uid) (states : Uid → Option ObjectState) →
    ((u : Uid) → (is_in us u ≡ true) ↔ HasEntry kind file u) → HasReadOf kind file us states → HasRead kind file states
read_all kind file us states there reads u = by (states u) (reads u)
  where
    by : (o : Option ObjectState) → MatchOption o (is_in us u ≡ false) (λ s. (is_in us u ≡ true) × IsStateAt kind file u s) →
        MatchOption o (HasEntry kind file u → ⊥) (λ s. (role_of u ≡ Names) × IsStateAt kind file u s)
    by None isnt = λ has. let never : false ≡ true = sym isnt ∙ (there u).1 has in cc
    by (Some s) is = (((there u).0 is.0).0, is.1)

false_right : (b : Bool) → (b && false) ≡ false
false_right true = refl
false_right false = refl

-- the objects with a shadow, among all that are held
is_in_kept : (p : Uid → Bool) (us : List Uid) (u : Uid) → is_in (filter p us) u ≡ (is_in us u && p u)
is_in_kept p [] u = refl
is_in_kept p (w ∷ ws) u = by (p w) refl (is_in_kept p ws u)
  where
    by : (b : Bool) → p w ≡ b → is_in (filter p ws) u ≡ (is_in ws u && p u) →
        is_in (cond (p w) (w ∷ filter p ws) (filter p ws)) u ≡ ((uid_eq u w || is_in ws u) && p u)
    by true e rest =
        rw e (⊎_elim (λ (same : uid_eq u w ≡ true). rw same (sym (ap p (uid_is u w same) ∙ e))) (λ (no : uid_eq u w ≡ false). rw no rest) (cases_Bool (uid_eq u w)))
    by false e rest =
        rw e (⊎_elim (λ (same : uid_eq u w ≡ true). rw same (rest ∙ rw (ap p (uid_is u w same) ∙ e) (false_right (is_in ws u)))) (λ (no : uid_eq u w ≡ false). rw no rest) (cases_Bool (uid_eq u w)))

pub left_more : (p : Uid → Bool) (us : List Uid) (i : ℕ) (d : Uid) (left : List Uid) → i < length us → left ≡ filter p (take i us) →
    p (get_or us i d) ≡ true → left ++ get_or us i d ∷ [] ≡ filter p (take (i + 1) us)
left_more p us i d left within so_far is =
    ap (λ ws. ws ++ get_or us i d ∷ []) so_far ∙ sym (filter_more p us i d within ∙ ap (λ b. filter p (take i us) ++ cond b (get_or us i d ∷ []) []) is)

pub left_same : (p : Uid → Bool) (us : List Uid) (i : ℕ) (d : Uid) (left : List Uid) → i < length us → left ≡ filter p (take i us) →
    p (get_or us i d) ≡ false → left ≡ filter p (take (i + 1) us)
left_same p us i d left within so_far isnt =
    so_far ∙ sym (append-nil (filter p (take i us))) ∙ sym (filter_more p us i d within ∙ ap (λ b. filter p (take i us) ++ cond b (get_or us i d ∷ []) []) isnt)

pub left_are : (holdings : Uid → Option Holding) (us : List Uid) → ((q : Uid) → IsSome (holdings q) ↔ Contains us q) → (u : Uid) →
    is_in (filter (λ w. has_shadow (holdings w)) us) u ≡ has_shadow (holdings u)
left_are holdings us there u = is_in_kept (λ w. has_shadow (holdings w)) us u ∙ by (holdings u) refl
  where
    by : (o : Option Holding) → holdings u ≡ o → (is_in us u && has_shadow o) ≡ has_shadow o
    by None e = false_right (is_in us u)
    by (Some h) e = rw (contained us u ((there u).0 (ap is_some e))) refl

-- ---- which files are read

pub lists_held : (role : Role) (old new : FileMap) (names : List Slot) → Lists old names → SamePair role old new → ListsHeld role new names
lists_held role old new names lists same u = (
  λ is. let e = held_of_role old role u (subst IsSome (same.committed u) is) in (e.0, (lists.there (slot.Committed u)).0 e.1),
  λ is. subst IsSome (sym (same.committed u)) (subst IsSome (sym (held_own old role u is.0)) ((lists.there (slot.Committed u)).1 is.1)),
)

pub committed_there : (file : FileMap) (names : List Slot) → ListsHeld Names file names → (u : Uid) →
    (is_in (entries_in names) u ≡ true) ↔ HasEntry place.Committed file u
committed_there file names lists u = (
  λ is. let e = in_entries names u is in (e.0, subst IsSome (held_own file Names u e.0) ((lists u).1 e)),
  λ is. let e = (lists u).0 (subst IsSome (sym (held_own file Names u is.0)) is.1) in entries_have names u e.0 e.1,
)

module _ (file : FileMap) (actions : Uid → Option (List Uid)) (holdings : Uid →
    Option Holding) (formed : FormedFor file Names) (keeps : Keeps Names actions holdings file) where
  -- an object that an action's file names is an entry
  named_own : (a u : Uid) → is_named (objects_of file Names a) u ≡ true → role_of u ≡ Names
  named_own a u is = formed.own a u (names_if file Names a u is)

  held_is_own : (u : Uid) → has_shadow (holdings u) ≡ true → role_of u ≡ Names
  held_is_own u is = by (holdings u) (keeps.holders_are u) is
    where
      by : (o : Option Holding) →
          MatchOption o ((a : Uid) → is_named (objects_of file Names a) u ≡ false) (λ h. is_named (objects_of file Names h.act) u ≡ true) →
          has_shadow o ≡ true → role_of u ≡ Names
      by None none is = let never : false ≡ true = is in cc
      by (Some h) named is = named_own h.act u named

  pub shadows_there : (left : List Uid) → ((u : Uid) → is_in left u ≡ has_shadow (holdings u)) → (u : Uid) →
      (is_in left u ≡ true) ↔ HasEntry place.Shadow file u
  shadows_there left is_left u = (
    λ is. let own = held_is_own u (sym (is_left u) ∙ is) in (own, keeps.shadows_are u own ∙ sym (is_left u) ∙ is),
    λ is. is_left u ∙ sym (keeps.shadows_are u is.0) ∙ is.1,
  )

  -- ---- the new states

  module _ (shadows committed : Uid →
      Option ObjectState) (has_shadows : HasRead place.Shadow file shadows) (has_committed : HasRead place.Committed file committed) where
    -- a state that has its file was read
    some_newest : (u : Uid) → role_of u ≡ Names → IsSome (file (slot.Shadow u)) ⊎ IsSome (file (slot.Committed u)) →
        IsSome (newest shadows committed u)
    some_newest u own there = by (shadows u) (has_shadows u) (committed u) (has_committed u)
      where
        by : (o : Option ObjectState) →
            MatchOption o (HasEntry place.Shadow file u → ⊥) (λ s. (role_of u ≡ Names) × IsStateAt place.Shadow file u s)
            → (p : Option ObjectState) →
            MatchOption p (HasEntry place.Committed file u → ⊥) (λ s. (role_of u ≡ Names) × IsStateAt place.Committed file u s)
            → IsSome (first_state o p)
        by (Some s) is p _ = refl
        by None none (Some t) _ = refl
        by None none None none' =
            ⊎_elim (λ (is : IsSome (file (slot.Shadow u))). absurd (none (own, is))) (λ (is : IsSome (file (slot.Committed u))). absurd (none' (own, is))) there

    all_newest : (a : Uid) (us : List Uid) → ((u : Uid) → is_in us u ≡ true → is_named (objects_of file Names a) u ≡ true) →
        AllByRecursion (λ u. IsSome (newest shadows committed u)) us
    all_newest a [] named = tt
    all_newest a (u ∷ us) named =
        let is = named u (or_left (uid_eq u u) (is_in us u) (uid_same u)) in
        (some_newest u (named_own a u is) (formed.there a u (names_if file Names a u is)), all_newest a us (λ w among. named w (or_right (uid_eq w u) (is_in us w) among)))

    pub each_newest : (a : Uid) → IfSome (actions a) (AllByRecursion (λ u. IsSome (newest shadows committed u)))
    each_newest a = by (actions a) (keeps.actions_are a)
      where
        by : (o : Option (List Uid)) → o ≡ objects_of file Names a → IfSome o (AllByRecursion (λ u. IsSome (newest shadows committed u)))
        by None is = tt
        by (Some us) is = all_newest a us (λ u among. ap (λ o. is_named o u) (sym is) ∙ among)

    -- and it is the state that the disk says
    newest_is : (u : Uid) (s : ObjectState) → role_of u ≡ Names → newest shadows committed u ≡ Some s →
        (s.uid ≡ u) × (new_state file u ≡ state_bytes s) × StateInForm s
    newest_is u s own is = by (shadows u) (has_shadows u) (committed u) (has_committed u) is
      where
        none_there : (o : Option (List ℕ)) → (IsSome o → ⊥) → o ≡ None
        none_there None never = refl
        none_there (Some bytes) never = absurd (never refl)

        by : (o : Option ObjectState) →
            MatchOption o (HasEntry place.Shadow file u → ⊥) (λ s. (role_of u ≡ Names) × IsStateAt place.Shadow file u s)
            → (p : Option ObjectState) →
            MatchOption p (HasEntry place.Committed file u → ⊥) (λ s. (role_of u ≡ Names) × IsStateAt place.Committed file u s)
            → first_state o p ≡ Some s → (s.uid ≡ u) × (new_state file u ≡ state_bytes s) × StateInForm s
        by (Some t) at p _ is =
            let e : t ≡ s =
            cc in subst (λ r. (r.uid ≡ u) × (new_state file u ≡ state_bytes r) × StateInForm r) e (at.1.own, ap (λ o. first_file o (file (slot.Committed u))) at.1.bytes, at.1.in_form)
        by None none (Some t) at is = let e : t ≡ s = cc in subst (λ r. (r.uid ≡ u) × (new_state file u ≡ state_bytes r) × StateInForm r) e
            (at.1.own, (λ i. first_file (none_there (file (slot.Shadow u)) (λ there. none (own, there)) i) (at.1.bytes i)), at.1.in_form)
        by None none None none' is = let never : None ≡ Some s = is in cc

    new_states_are : (us : List Uid) (ss : List ObjectState) → ((u : Uid) → is_in us u ≡ true → role_of u ≡ Names) →
        map (newest shadows committed) us ≡ map Some ss → (with_each (new_state file) us ≡ packed ss) × AllByRecursion StateInForm ss
    new_states_are [] [] own is = (refl, tt)
    new_states_are [] (s ∷ ss) own is = let never : [] ≡ Some s ∷ map Some ss = is in cc
    new_states_are (u ∷ us) [] own is = let never : newest shadows committed u ∷ map (newest shadows committed) us ≡ [] = is in cc
    new_states_are (u ∷ us) (s ∷ ss) own is =
        let here : newest shadows committed u ≡ Some s = cc in
        let later : map (newest shadows committed) us ≡ map Some ss = cc in
        let one = newest_is u s (own u (or_left (uid_eq u u) (is_in us u) (uid_same u))) here in
        let rest = new_states_are us ss (λ w among. own w (or_right (uid_eq w u) (is_in us w) among)) later in
        ((λ i. (sym one.0 i, one.1 i) ∷ rest.0 i), (one.2, rest.1))

    action_is : (a : Uid) (ss : List ObjectState) → option_map (map (newest shadows committed)) (actions a) ≡ Some (map Some ss) →
        (pend file Names a ≡ Some (packed ss)) × AllByRecursion StateInForm ss
    action_is a ss is = by (actions a) (keeps.actions_are a) is
      where
        by : (o : Option (List Uid)) → o ≡ objects_of file Names a → option_map (map (newest shadows committed)) o ≡ Some (map Some ss) →
            (pend file Names a ≡ Some (packed ss)) × AllByRecursion StateInForm ss
        by None same is = let never : None ≡ Some (map Some ss) = is in cc
        by (Some us) same is =
            let states : map (newest shadows committed) us ≡ map Some ss = cc in
            let e = new_states_are us ss (λ u among. named_own a u (ap (λ o. is_named o u) (sym same) ∙ among)) states in
            (pend_of file Names a us (sym same) ∙ ap Some e.0, e.1)

    prepared_are : (ps : List (Uid × List ObjectState)) → AllByRecursion (HasStatesOf actions (newest shadows committed)) ps
        → AllByRecursion (λ p. (pend file Names p.0 ≡ Some (packed p.1)) × AllByRecursion StateInForm p.1) ps
    prepared_are [] all = tt
    prepared_are (p ∷ ps) all = (action_is p.0 p.1 all.0, prepared_are ps all.1)

    -- an action that is prepared is kept
    is_kept : (a : Uid) → IsSome (pend file Names a) → IsSome (actions a)
    is_kept a is = by (actions a) (keeps.actions_are a)
      where
        by : (o : Option (List Uid)) → o ≡ objects_of file Names a → IsSome o
        by None none = let never : false ≡ true = sym (ap is_some (pend_none file Names a (sym none))) ∙ is in cc
        by (Some us) some = refl

    -- ---- the committed states

    committed_are : (us : List Uid) (ss : List ObjectState) → map committed us ≡ map Some ss →
        (map uid_of ss ≡ us) × AllByRecursion (λ s. IsHeld file Names s.uid s) ss
    committed_are [] [] is = (refl, tt)
    committed_are [] (s ∷ ss) is = let never : [] ≡ Some s ∷ map Some ss = is in cc
    committed_are (u ∷ us) [] is = let never : committed u ∷ map committed us ≡ [] = is in cc
    committed_are (u ∷ us) (s ∷ ss) is =
        let here : committed u ≡ Some s = cc in
        let later : map committed us ≡ map Some ss = cc in
        let at = subst (λ o. MatchOption o (HasEntry place.Committed file u →
        ⊥) (λ s. (role_of u ≡ Names) × IsStateAt place.Committed file u s)) here (has_committed u) in
        let rest = committed_are us ss later in
        ((λ i. at.1.own i ∷ rest.0 i), (subst (λ w. IsHeld file Names w s) (sym at.1.own) (is_held file Names u s at.0 at.1), rest.1))

    was_read : (u : Uid) → IsSome (held file Names u) → IsSome (committed u)
    was_read u is = let e = held_of_role file Names u is in by e (committed u) (has_committed u)
      where
        by : HasEntry place.Committed file u → (o : Option ObjectState) →
            MatchOption o (HasEntry place.Committed file u → ⊥) (λ s. (role_of u ≡ Names) × IsStateAt place.Committed file u s) → IsSome o
        by e None never = absurd (never e)
        by e (Some s) _ = refl

    pub finds : (found : Found) → AreValuesOf committed found.committed → ListsPrepared actions (newest shadows committed) found.prepared →
        FindsPair Names file found
    finds found values prepared =
        let all = committed_are values.uids found.committed values.each in
        record {
          committed = all.1;
          every_committed = λ u is. subst (λ us. Contains us u) (sym all.0) ((values.there u).0 (was_read u is));
          by_uid = subst (IsStrictlySortedBy uid_order) (sym all.0) values.increasing;
          prepared = prepared_are found.prepared prepared.each;
          every_prepared = λ a is. prepared.every a (is_kept a is);
          by_action = prepared.increasing;
        }
