-- Under each entry stands exactly who has prepared it: it stays so where an action prepares and ends, and a look at these
-- finds what a look at all that is prepared finds.
use Rattle.std.proofs.Common.{◌≡◌, ◌∙◌, ◌&&◌, ◌||◌, ◌+◌, ◌<◌, ℕ, Bool, true, false, cond, not, List, [], ◌∷◌, drop, get_or, length, refl}
use Rattle.std.proofs.Common.{sym, ap, subst, Option, Some, None}
use Rattle.std.specs.BTreeMap.{is_at}
use Rattle.std.specs.BTreeSet.{BTreeSet}
use Rattle.std.specs.Cmp.{both_ways, eq_by_cmp_equiv}
use Rattle.std.specs.List.{Any, list_any}
use Rattle.std.specs.Map.{keys_of, set_value}
use Rattle.std.proofs.lemmas.Bool.{and_parts}
use Rattle.std.proofs.lemmas.List.{drop_more}
use Rattle.std.proofs.lemmas.List.Folds.{Any-from_list_any, list_any-from_Any, list_any_at}
use Rattle.std.proofs.lemmas.Option.{slice_get_read}
use Rattle.std.proofs.lemmas.Map.Entries.{place_from_lookup, lookup_from_place}
use Rattle.std.proofs.lemmas.Map.Keys.{IsDistinct-from_sorted, any_passes_from_place}
use Rattle.arj_base.specs.Order.{uid_order}
use Rattle.arj_base.specs.Rows.{is_on}
use Rattle.arj_base.specs.Uid.{entry, uid_eq}
use Rattle.arj_base.specs.declared.state.ObjectState.{ObjectState}
use Rattle.arj_base.specs.declared.uid.Uid.{Uid}
use Rattle.arj_base.proofs.Uids.{uid_is, uid_sym}
use Rattle.arj_naming.proofs.Among.{on_filter}
use Rattle.arj_naming.proofs.Listed.{or_nothing}
use Rattle.arj_naming.proofs.Written.{put_uid_at, tests_are, written_uid}
use Rattle.arj_naming.specs.ByEntry.{AreByEntry, any_lists, has_state, has_state_in, is_of, is_on_set, lists_store, lists_store_in}
use Rattle.arj_naming.specs.ByEntry.{stands_under}
use Rattle.arj_entry.specs.Entry.{is_listed}
use Rattle.arj_protocol.specs.Values.{state_entry}
use Rattle.arj_protocol.specs.Order.{at_uid, drop_uid, put_uid, with_uid, without_uid}
use Rattle.arj_store.proofs.Entries.{same_entries}
use Rattle.arj_law_store.proofs.store.Keys.{Rises, put_rises, tied_is, total, with_on, tied, without_here, without_other, without_rises}

-- ---- one entry

-- what stands under one entry is changed, and nothing elsewhere
module _ (F : Bool → Bool → Bool) (idle : (a : Bool) →
    F a false ≡ a) (uid action : Uid) (old new : List (Uid × BTreeSet Uid)) (more : BTreeSet Uid)
    (found : (u : Uid) → at_uid u new ≡ cond (uid_eq uid u) (Some more) (at_uid u old)) (keys : (act : Uid) →
    is_on more.keys act ≡ F (is_on_set act (at_uid uid old)) (uid_eq action act)) where
  changed : (u act : Uid) → stands_under new u act ≡ F (stands_under old u act) (uid_eq uid u && uid_eq action act)
  changed u act = ap (is_on_set act) (found u) ∙ by (uid_eq uid u) refl
    where
      by : (b : Bool) → uid_eq uid u ≡ b →
          is_on_set act (cond b (Some more) (at_uid u old)) ≡ F (is_on_set act (at_uid u old)) (b && uid_eq action act)
      by true is = keys act ∙ (λ i. F (is_on_set act (at_uid (uid_is uid u is i) old)) (uid_eq action act))
      by false isnt = sym (idle (is_on_set act (at_uid u old)))

module _ (uid action : Uid) (xs more : BTreeSet Uid) (old new : List (Uid × BTreeSet Uid)) (at : at_uid uid old ≡ Some xs) (written : new ≡ set_value (is_at (uid_order uid)) old more) where
  found : (u : Uid) → at_uid u new ≡ cond (uid_eq uid u) (Some more) (at_uid u old)
  found u = written_uid uid xs more old new at written u ∙ (λ i. cond (tests_are uid u i) (Some more) (at_uid u old))

  before : (act : Uid) → is_on xs.keys act ≡ is_on_set act (at_uid uid old)
  before act = ap (is_on_set act) (sym at)

  pub put_under : more.keys ≡ with_uid action xs.keys → (u act : Uid) →
      stands_under new u act ≡ (stands_under old u act || (uid_eq uid u && uid_eq action act))
  put_under keys =
      changed (λ a b. a || b) or_nothing uid action old new more found (λ act. ap (λ ks. is_on ks act) keys ∙ (with_on xs.keys action act ∙ (λ i. before act i || uid_eq action act)))

  pub same_under : more.keys ≡ xs.keys → (u act : Uid) → stands_under new u act ≡ stands_under old u act
  same_under keys = changed (λ a b. a) (λ a. refl) uid action old new more found (λ act. ap (λ ks. is_on ks act) keys ∙ before act)

  pub take_under : more.keys ≡ drop_uid action xs.keys → (u act : Uid) →
      stands_under new u act ≡ (stands_under old u act && not (uid_eq uid u && uid_eq action act))
  take_under keys = changed (λ a b. a && not b) and_nothing uid action old new more found (λ act. ap (λ ks. is_on ks act) keys
      ∙ (on_filter (λ w. not (uid_eq w action)) xs.keys act ∙ (turned (not (uid_eq act action)) (is_on xs.keys act) ∙ (λ i. before act i && not (uid_sym act action i)))))
    where
      and_nothing : (a : Bool) → (a && true) ≡ a
      and_nothing true = refl
      and_nothing false = refl

      turned : (a b : Bool) → (a && b) ≡ (b && a)
      turned true true = refl
      turned true false = refl
      turned false true = refl
      turned false false = refl

-- the first action under an entry
pub first_put : (uid action : Uid) (xs none : BTreeSet Uid) (old new : List (Uid × BTreeSet Uid)) → at_uid uid old ≡ None → none.keys ≡ [] →
    xs.keys ≡ with_uid action none.keys → new ≡ put_uid uid xs old
    → (u act : Uid) → stands_under new u act ≡ (stands_under old u act || (uid_eq uid u && uid_eq action act))
first_put uid action xs none old new at empty keys put =
    changed (λ a b. a || b) or_nothing uid action old new xs (λ u. ap (at_uid u) put ∙ put_uid_at uid xs old u)
    (λ act. ap (λ ks. is_on ks act) (keys ∙ ap (with_uid action) empty) ∙ (or_nothing (uid_eq action act) ∙ (λ i. is_on_set act (sym at i) || uid_eq action act)))

-- ---- the entries of some states

or_one : (a e h f : Bool) → ((a || (e && f)) || (h && f)) ≡ (a || ((e || h) && f))
or_one true e h f = refl
or_one false true h true = refl
or_one false true true false = refl
or_one false true false false = refl
or_one false false h f = refl

and_one : (a e h f : Bool) → ((a && not (e && f)) && not (h && f)) ≡ (a && not ((e || h) && f))
and_one false e h f = refl
and_one true true h true = refl
and_one true true true false = refl
and_one true true false false = refl
and_one true false h f = refl

-- a state more is done
module _ (action : Uid) (states : List ObjectState) (i : ℕ) (s : ObjectState) (within : i < length states) (is : s ≡ get_or states i s) where
  left : drop i states ≡ s ∷ drop (i + 1) states
  left = drop_more states i s within ∙ ap (λ t. t ∷ drop (i + 1) states) (sym is)

  pub next_put : (old new : List (Uid × BTreeSet Uid)) (u act : Uid) (whole : Bool) →
      stands_under new u act ≡ (stands_under old u act || (uid_eq s.uid u && uid_eq action act))
      → (stands_under old u act || is_of action (drop i states) u act) ≡ whole →
      (stands_under new u act || is_of action (drop (i + 1) states) u act) ≡ whole
  next_put old new u act whole put are = (λ j. put j || is_of action (drop (i + 1) states) u act)
      ∙ (or_one (stands_under old u act) (uid_eq s.uid u) (has_state u (drop (i + 1) states)) (uid_eq action act) ∙ ((λ j. stands_under old u act || is_of action (sym left j) u act) ∙ are))

  pub next_taken : (old new : List (Uid × BTreeSet Uid)) (u act : Uid) (whole : Bool) →
      stands_under new u act ≡ (stands_under old u act && not (uid_eq s.uid u && uid_eq action act))
      → (stands_under old u act && not (is_of action (drop i states) u act)) ≡ whole →
      (stands_under new u act && not (is_of action (drop (i + 1) states) u act)) ≡ whole
  next_taken old new u act whole taken are = (λ j. taken j && not (is_of action (drop (i + 1) states) u act))
      ∙ (and_one (stands_under old u act) (uid_eq s.uid u) (has_state u (drop (i + 1) states)) (uid_eq action act) ∙ ((λ j. stands_under old u act && not (is_of action (sym left j) u act)) ∙ are))

  -- where it isn't one of these, it isn't this one
  not_one : (u act : Uid) → is_of action states u act ≡ false → (uid_eq s.uid u && uid_eq action act) ≡ false
  not_one u act none = by (uid_eq s.uid u) refl
    where
      by : (b : Bool) → uid_eq s.uid u ≡ b → (b && uid_eq action act) ≡ false
      by true own =
          let here : has_state u states ≡ true =
          list_any_at (λ (t : ObjectState). uid_eq t.uid u) states i s within (ap (λ (t : ObjectState). uid_eq t.uid u) (sym is) ∙ own) in
          (λ j. sym here j && uid_eq action act) ∙ none
      by false own = refl

  pub next_other : (old new first : List (Uid × BTreeSet Uid)) (u act : Uid) →
      stands_under new u act ≡ (stands_under old u act || (uid_eq s.uid u && uid_eq action act))
      → (is_of action states u act ≡ false → stands_under old u act ≡ stands_under first u act) → is_of action states u act ≡ false →
      stands_under new u act ≡ stands_under first u act
  next_other old new first u act put are none =
      put ∙ ((λ j. stands_under old u act || not_one u act none j) ∙ (or_nothing (stands_under old u act) ∙ are none))

-- ---- what an action has prepared

module _ (action : Uid) (states : List ObjectState) (pend : List (Uid × List ObjectState)) (by_entry new : List (Uid × BTreeSet Uid)) where
  -- it is taken out
  pub taken_out : Rises pend → at_uid action pend ≡ Some states →
      ((u act : Uid) → stands_under new u act ≡ (stands_under by_entry u act && not (is_of action states u act)))
      → AreByEntry pend by_entry → AreByEntry (without_uid action pend) new
  taken_out rises at taken are u act = taken u act ∙ ((λ i. are u act i && not (is_of action states u act)) ∙ by (uid_eq action act) refl)
    where
      gone : (h : Bool) → (h && not (h && true)) ≡ false
      gone true = refl
      gone false = refl

      stays : (a h : Bool) → (a && not (h && false)) ≡ a
      stays true true = refl
      stays true false = refl
      stays false h = refl

      by : (b : Bool) → uid_eq action act ≡ b →
          (has_state_in u (at_uid act pend) && not (has_state u states && b)) ≡ has_state_in u (at_uid act (without_uid action pend))
      by true own =
          let same : act ≡ action = sym (uid_is action act own) in
          (λ i. has_state_in u (at_uid (same i) pend) && not (has_state u states && true)) ∙ ((λ i. has_state_in u (at i) && not (has_state u states && true))
          ∙ (gone (has_state u states) ∙ (λ i. has_state_in u (sym (ap (λ w. at_uid w (without_uid action pend)) same ∙ without_here action pend rises) i))))
      by false other =
          stays (has_state_in u (at_uid act pend)) (has_state u states) ∙ (λ i. has_state_in u (sym (without_other action act pend (tied_is act action ∙ other)) i))

  module _ (none : at_uid action pend ≡ None) (are : AreByEntry pend by_entry) where
    -- it is put where nothing was
    pub put_in : ((u act : Uid) → stands_under new u act ≡ (stands_under by_entry u act || is_of action states u act)) →
        AreByEntry (put_uid action states pend) new
    put_in put u act =
        put u act ∙ ((λ i. are u act i || is_of action states u act) ∙ (by (uid_eq action act) refl ∙ (λ i. has_state_in u (sym (put_uid_at action states pend act) i))))
      where
        comes : (h : Bool) → (h && true) ≡ h
        comes true = refl
        comes false = refl

        stays : (a h : Bool) → (a || (h && false)) ≡ a
        stays true h = refl
        stays false true = refl
        stays false false = refl

        by : (b : Bool) → uid_eq action act ≡ b →
            (has_state_in u (at_uid act pend) || (has_state u states && b)) ≡ has_state_in u (cond b (Some states) (at_uid act pend))
        by true own =
            (λ i. has_state_in u ((ap (λ w. at_uid w pend) (sym (uid_is action act own)) ∙ none) i) || (has_state u states && true)) ∙ comes (has_state u states)
        by false other = stays (has_state_in u (at_uid act pend)) (has_state u states)

    -- it was put under some of its entries, and is taken away from under all
    pub put_back : (some : List (Uid × BTreeSet Uid)) →
        ((u act : Uid) → is_of action states u act ≡ false → stands_under some u act ≡ stands_under by_entry u act)
        → ((u act : Uid) → stands_under new u act ≡ (stands_under some u act && not (is_of action states u act))) → AreByEntry pend new
    put_back some others taken u act = taken u act ∙ by (is_of action states u act) refl
      where
        nothing : (a : Bool) → (a && false) ≡ false
        nothing true = refl
        nothing false = refl

        stays : (a : Bool) → (a && true) ≡ a
        stays true = refl
        stays false = refl

        by : (b : Bool) → is_of action states u act ≡ b → (stands_under some u act && not b) ≡ has_state_in u (at_uid act pend)
        by true own =
            nothing (stands_under some u act) ∙ (λ i. has_state_in u (sym (ap (λ w. at_uid w pend) (sym (uid_is action act (and_parts (has_state u states) (uid_eq action act) own).1)) ∙ none) i))
        by false other = stays (stands_under some u act) ∙ (others u act other ∙ are u act)

-- what is taken out before it is put makes no difference
pub put_again : {X : Type 0} (k : Uid) (v : X) (m : List (Uid × X)) → Rises m → put_uid k v (without_uid k m) ≡ put_uid k v m
put_again k v m rises =
    same_entries (put_uid k v (without_uid k m)) (put_uid k v m) (put_rises k v (without_uid k m) (without_rises k m rises)) (put_rises k v m rises)
    (λ u. put_uid_at k v (without_uid k m) u ∙ (by u (uid_eq k u) refl ∙ sym (put_uid_at k v m u)))
  where
    by : (u : Uid) (b : Bool) → uid_eq k u ≡ b → cond b (Some v) (at_uid u (without_uid k m)) ≡ cond b (Some v) (at_uid u m)
    by u true own = refl
    by u false other = without_other k u m (tied_is u k ∙ other)

-- ---- a look at those that have prepared an entry

module _ (x : ℕ) (top : Uid) (store : ℕ) (pend : List (Uid × List ObjectState)) where
  abbrev passes : Uid × List ObjectState → Bool
  passes e = not (uid_eq e.0 top) && lists_store x store e.1

  listed_has : (states : List ObjectState) → lists_store x store states ≡ true → has_state (entry x) states ≡ true
  listed_has states on =
      let w = Any-from_list_any (λ (st : ObjectState). uid_eq st.uid (entry x) && is_listed store (state_entry st).stores) states on in
      list_any-from_Any (λ (st : ObjectState). uid_eq st.uid (entry x)) states (w.0, w.1, w.2, w.3, (and_parts (uid_eq w.1.uid (entry x)) (is_listed store (state_entry w.1).stores) w.4).0)

  pub looked : (acts : List Uid) → Rises pend → ((act : Uid) → is_on acts act ≡ has_state_in (entry x) (at_uid act pend)) →
      any_lists x top store pend acts ≡ list_any passes pend
  looked acts rises are =
      both_ways (any_lists x top store pend acts) (list_any passes pend) (λ on. there (Any-from_list_any test acts on)) (λ on. back (Any-from_list_any passes pend on))
    where
      test : Uid → Bool
      test act = not (uid_eq act top) && lists_store_in x store (at_uid act pend)

      there : Any (λ act. test act ≡ true) acts → list_any passes pend ≡ true
      there w = by (at_uid w.1 pend) refl (and_parts (not (uid_eq w.1 top)) (lists_store_in x store (at_uid w.1 pend)) w.4)
        where
          by : (o : Option (List ObjectState)) → at_uid w.1 pend ≡ o →
              (not (uid_eq w.1 top) ≡ true) × (lists_store_in x store (at_uid w.1 pend) ≡ true) → list_any passes pend ≡ true
          by None at on = absurd (cc (sym (ap (lists_store_in x store) at) ∙ on.1))
          by (Some states) at on =
              let p = place_from_lookup (is_at (uid_order w.1)) pend states at in
              let same : w.1 ≡ p.1 = tied w.1 p.1 p.3 in
              any_passes_from_place passes pend p.0 (p.1, states) p.2
              ((λ i. not (uid_eq (sym same i) top) && lists_store x store states) ∙ ((λ i. on.0 i && lists_store x store states) ∙ (ap (lists_store_in x store) (sym at) ∙ on.1)))

      back : Any (λ (e : Uid × List ObjectState). passes e ≡ true) pend → any_lists x top store pend acts ≡ true
      back w =
          let on = and_parts (not (uid_eq w.1.0 top)) (lists_store x store w.1.1) w.4 in
          let at : at_uid w.1.0 pend ≡ Some w.1.1 =
          lookup_from_place (eq_by_cmp_equiv total) pend w.0 w.1.0 w.1.1 (IsDistinct-from_sorted uid_order (keys_of pend) rises) (slice_get_read pend (length pend) w.0 w.1 refl w.2 (sym w.3)) in
          let among : is_on acts w.1.0 ≡ true = are w.1.0 ∙ (ap (has_state_in (entry x)) at ∙ listed_has w.1.1 on.1) in
          let v = Any-from_list_any (λ u. uid_eq u w.1.0) acts among in
          list_any-from_Any test acts (v.0, v.1, v.2, v.3, subst (λ u. test u ≡ true) (sym (uid_is v.1 w.1.0 v.4)) ((λ i. on.0 i && lists_store_in x store (at_uid w.1.0 pend)) ∙ (ap (lists_store_in x store) at ∙ on.1)))
