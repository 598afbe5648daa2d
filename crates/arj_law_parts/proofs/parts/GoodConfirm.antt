-- Confirm keeps naming good, and its prepare is never refused.
use Rattle.arj_law_parts.proofs.Words
use Words.{◌≡◌, ◌⊎◌, ◌≤◌, ◌+◌, ◌==◌, ℕ, List, [], ◌∷◌, Bool, true, false, cond, not, ◌&&◌, ◌||◌, nat_lt, Option, Some, None, refl, sym, ◌∙◌}
use Words.{ap, subst, inl, inr, ⊎_elim, Contains, arith, map, find, is_some, option_map, unwrap_or, list_all, or_parts, and_parts}
use Words.{false_from_ne_true, uid_is, In, in_from, in_to, in_filter_map, in_find, none_in, Uid, Path, Row, last_uid, Entry, ObjectState}
use Words.{ConfirmedReply, uid_eq, entry, is_on, is_listed, mode_code, top_of, Grants, Marks, marked, with_stores, without_stores}
use Words.{stores_after, same_nodes, entry_state, entry_after, entries_after, is_wanted, wants_lock, wanted, conflict_in, refused_exclude}
use Words.{other_grant, is_there, is_bare, first_of_each, checked, lock_all, confirms, prepared_by, confirm_entries, confirm_new, has_all}
use Words.{confirm, adds_store, Say, Do, Look, Prepare, Served, Did, Pair, Ready, Already, Old, held_at, holder_of, names_object}
use Words.{is_prepared, reply, void, either, is_old, state_eq, refusal_of, refusal_in, first_refusal, prepare_answer, pair_prepared, Named}
use Words.{Naming, is_over, listed_entry, entry_of, at_number, at_uid, state_entry, entry_back}
use Words.mode
use Words.body
use Words.role
use Words.confirmed
use Rattle.arj_law_parts.proofs.Terms
use Terms.{HasLock, Owners, IsTop, Fits, Untold, names_after, HasPrepared, HasLockOn, Past, IsGoodNaming, guard_of}
use Rattle.arj_law_parts.proofs.parts
use parts.{GoodCalls.untold_path, GoodCalls.IsGoodServed, Locked.AreLocked, Locked.all_locked, Pairs.names_both, Stands.weaker}
use parts.{Stands.one_top}
use parts.GoodObjects.{own_untold, owner_untold}
use parts.Keys.{put_cases, sorted_put, on_with, with_on, in_at}
use parts.Stores.{one_of, kept_in, added_mark, mark_of, without_none, same_nodes_self, either_none, each_passes, not_old}
use Rattle.arj_law_parts.specs.parts.Entries.{IsConfirmed, confirm_answer}

never : {P : Type 0} (b : Bool) → b ≡ true → b ≡ false → P
never b holds fails = let no_way : true ≡ false = sym holds ∙ fails in cc

-- every guard is exclude at least
guarded_one : (x : ℕ) (s : ObjectState) (d : Pair) → 1 ≤ guard_of x s d
guarded_one x s d = let l = listed_entry x d in by (adds_store (state_entry s).stores l.stores)
  where
    by : (b : Bool) → 1 ≤ mode_code (cond b mode.Write mode.Exclude)
    by true = omega arith
    by false = omega arith

-- two tops with guards on one object are one
pub two_guards : (owner : Owners) (past : Past) (n : Naming) (d : Pair) (a b : Uid) (x k l : ℕ) → IsGoodNaming owner past n d →
    IsTop owner a → IsTop owner b → 2 ≤ k + l → HasLockOn a k x n → HasLockOn b l x n → a ≡ b
two_guards owner past n d a b x k l good top also strong h g =
    let object = good.objects x h.named h.there in
    let e : ◌≡◌ {A = Option Named} (Some g.named) (Some h.named) = sym g.there ∙ h.there in
    let same : g.named ≡ h.named = cc in
    one_top owner (is_on n.told) x a b k l h.named.rows object.rows top also strong h.lock
    (subst (λ (q : Named). HasLock b l q.rows) same g.lock)

confirms_good : (owner : Owners) (past : Past) (p : Path) (m : Naming) (d : Pair) → Fits owner p → IsGoodNaming owner past m d →
    IsGoodNaming owner past (confirms (top_of p) m) d
confirms_good owner past p m d fits g = record {
  objects = g.objects;
  pair = g.pair;
  confirmed =
      λ a on. ⊎_elim (λ same. subst (IsTop owner) (sym same) fits.top) (λ old. g.confirmed a old) (on_with a (top_of p) m.confirmed on);
  prepared = λ a ss is. let h = g.prepared a ss is in (with_on a (top_of p) m.confirmed (inr h.0), h.1);
  guarded = λ a x s has. let h = g.guarded a x s has in record { named = h.named; there = h.there; lock = h.lock };
  writers = g.writers;
}

module _ (owner : Owners) (past : Past) (p : Path) (grants : Grants) (excluded included : Marks) (n : Naming) (d : Pair)
    (fits : Fits owner p) (asks : IsConfirmed past p included n d) (good : IsGoodNaming owner past n d) (fresh : is_over p n ≡ false)
    (all : has_all grants n ≡ true) (unprepared : is_prepared (top_of p) d ≡ false)
    (passes : checked p grants excluded included d n ≡ None) where
  abbrev top : Uid
  top = top_of p

  abbrev xs : List ℕ
  xs = wanted top grants excluded d

  abbrev t : Did Naming
  t = lock_all xs p n

  untold : Untold (is_on n.told) p
  untold = untold_path p n fresh

  free : (x : ℕ) → In x xs → conflict_in x p (at_number x n.objects) ≡ None
  free x i =
      let first = either_none (first_of_each (other_grant n) grants) (either (first_of_each (refused_exclude p n) xs)
      (either (first_of_each (is_there d) included) (first_of_each is_bare (entries_after top grants excluded included d)))) passes in
      let second = either_none (first_of_each (refused_exclude p n) xs)
      (either (first_of_each (is_there d) included) (first_of_each is_bare (entries_after top grants excluded included d))) first.1 in
      by (conflict_in x p (at_number x n.objects)) (each_passes (refused_exclude p n) xs x second.0 i)
    where
      by : (o : Option Row) → option_map (λ (r : Row). confirmed.Conflict (last_uid r.holder) r.mode) o ≡ None → o ≡ None
      by None e = refl
      by (Some r) e = cc

  locked_all : AreLocked owner past p d fits xs n t
  locked_all = all_locked owner past p d fits xs n free untold good

  -- a new entry: of a granted object that is held, and it differs
  record IsNewEntry (s : ObjectState) : Type 0 where
    x : ℕ
    granted : In x (map (λ (g : ℕ × ℕ). g.0) grants)
    held : ObjectState
    there : held_at (entry x) d ≡ Some held
    differs : same_nodes (stores_after x excluded included (state_entry held)) (state_entry held).stores ≡ false
    is : s ≡ entry_state x top held (stores_after x excluded included (state_entry held))

  new_entry : (s : ObjectState) → In s (entries_after top grants excluded included d) → IsNewEntry s
  new_entry s i =
      let f = in_filter_map (λ (g : ℕ × ℕ). entry_after top excluded included g.0 (held_at (entry g.0) d)) s grants i in
      by f.0 (first f.0 grants f.1) (held_at (entry f.0.0) d) refl f.2
    where
      first : (g : ℕ × ℕ) (gs : Grants) → In g gs → In g.0 (map (λ (h : ℕ × ℕ). h.0) gs)
      first g [] j = absurd j
      first g (h ∷ hs) (inl same) = inl (ap (λ (k : ℕ × ℕ). k.0) same)
      first g (h ∷ hs) (inr j) = inr (first g hs j)

      by : (g : ℕ × ℕ) → In g.0 (map (λ (h : ℕ × ℕ). h.0) grants) → (o : Option ObjectState) → held_at (entry g.0) d ≡ o →
          entry_after top excluded included g.0 o ≡ Some s → IsNewEntry s
      by g there None held e = cc
      by g there (Some h) held e = more (same_nodes stores (state_entry h).stores) refl e
        where
          stores : List ℕ
          stores = stores_after g.0 excluded included (state_entry h)

          more : (b : Bool) → same_nodes stores (state_entry h).stores ≡ b → cond b None (Some (entry_state g.0 top h stores)) ≡ Some s →
              IsNewEntry s
          more true same f = cc
          more false same f = let it : entry_state g.0 top h stores ≡ s = cc in
              record { x = g.0; granted = there; held = h; there = held; differs = same; is = sym it }

  granted_object : (x : ℕ) → In x (map (λ (g : ℕ × ℕ). g.0) grants) → (o : Named) × (at_number x n.objects ≡ Some o)
  granted_object x i = each grants all i
    where
      found : (o : Option Named) → at_number x n.objects ≡ o → is_some o ≡ true → (q : Named) × (at_number x n.objects ≡ Some q)
      found None is e = cc
      found (Some q) is e = (q, is)

      each : (gs : Grants) → list_all (λ (g : ℕ × ℕ). is_some (at_number g.0 n.objects)) gs ≡ true → In x (map (λ (g : ℕ × ℕ). g.0) gs) →
          (o : Named) × (at_number x n.objects ≡ Some o)
      each [] e j = absurd j
      each (g ∷ gs) e (inl same) = found (at_number x n.objects) refl (ap (λ k. is_some (at_number k n.objects)) (sym same)
          ∙ (and_parts (is_some (at_number g.0 n.objects)) (list_all (λ (h : ℕ × ℕ). is_some (at_number h.0 n.objects)) gs) e).0)
      each (g ∷ gs) e (inr j) =
          each gs (and_parts (is_some (at_number g.0 n.objects)) (list_all (λ (h : ℕ × ℕ). is_some (at_number h.0 n.objects)) gs) e).1 j

  -- an inclusion was asked for, under the write lock
  by_mark : (x : ℕ) (o : Named) → at_number x n.objects ≡ Some o → (s : ℕ) → In s (marked x included) → HasLockOn top 2 x t.part
  by_mark x o found s i =
      let m = mark_of x s included i in
      let g = good.objects x o found in
      locked_all.locks top 2 x (record {
        named = o;
        there = found;
        lock = g.asked top (asks.asked x m.0 o (in_to (x, m.0) included m.1) found) (owner_untold owner (is_on n.told) x p fits untold);
      })

  guard : (s : ObjectState) (e : IsNewEntry s) → HasLockOn top (guard_of e.x s d) e.x t.part
  guard s e = by (adds_store (state_entry s).stores (listed_entry e.x d).stores) refl
    where
      stores : List ℕ
      stores = stores_after e.x excluded included (state_entry e.held)

      listed : listed_entry e.x d ≡ state_entry e.held
      listed = ap entry_of e.there

      spelled : state_entry s ≡ record { servers = (state_entry e.held).servers; stores = stores }
      spelled = ap state_entry e.is ∙ entry_back (record { servers = (state_entry e.held).servers; stores = stores })

      object : (o : Named) × (at_number e.x n.objects ≡ Some o)
      object = granted_object e.x e.granted

      excluded_lock : marked e.x included ≡ [] → (b : Bool) → wants_lock top excluded d e.x ≡ b → HasLockOn top 1 e.x t.part
      excluded_lock none true wants =
          locked_all.have e.x (kept_in (wants_lock top excluded d) e.x (map (λ (g : ℕ × ℕ). g.0) grants) e.granted wants) object.0 object.1
      excluded_lock none false wants = never (same_nodes stores (state_entry e.held).stores)
          (ap (λ ss. same_nodes ss (state_entry e.held).stores) same ∙ same_nodes_self (state_entry e.held).stores) e.differs
        where
          unlisted : (m : ℕ) → In m (marked e.x excluded) → is_listed m (state_entry e.held).stores ≡ false
          unlisted m i = ap (λ (l : Entry). is_listed m l.stores) (sym listed)
              ∙ (or_parts (is_listed m (listed_entry e.x d).stores) _ (none_in (is_wanted e.x top d) m (marked e.x excluded) wants i)).0

          same : stores ≡ (state_entry e.held).stores
          same = ap (λ ms. with_stores ms (without_stores (marked e.x excluded) (state_entry e.held).stores)) none
              ∙ without_none (marked e.x excluded) (state_entry e.held).stores unlisted

      one : (ms : List ℕ) → marked e.x included ≡ ms → HasLockOn top 1 e.x t.part
      one [] is = excluded_lock is (wants_lock top excluded d e.x) refl
      one (m ∷ ms) is = let h = by_mark e.x object.0 object.1 m (subst (In m) (sym is) (inl refl)) in
          record { named = h.named; there = h.there; lock = weaker top 1 2 h.named.rows (omega arith) h.lock }

      by : (b : Bool) → adds_store (state_entry s).stores (listed_entry e.x d).stores ≡ b →
          HasLockOn top (mode_code (cond b mode.Write mode.Exclude)) e.x t.part
      by true adds =
          let a = added_mark (marked e.x included) (marked e.x excluded) (state_entry e.held).stores
          ((λ i. adds_store (sym (ap (λ (l : Entry). l.stores) spelled) i) (sym (ap (λ (l : Entry). l.stores) listed) i)) ∙ adds) in
          by_mark e.x object.0 object.1 a.0 a.1
      by false adds = one (marked e.x included) refl

  -- nobody else has the entry prepared
  nobody_else : (s : ObjectState) (e : IsNewEntry s) (b : Uid) (r : ObjectState) → HasPrepared b e.x r d → b ≡ top
  nobody_else s e b r has =
      two_guards owner past t.part d b top e.x (guard_of e.x r d) (guard_of e.x s d) locked_all.good
      (good.pair.tops b has.states has.prepared) fits.top (omega (arith, guarded_one e.x r d, guarded_one e.x s d))
      (locked_all.locks b (guard_of e.x r d) e.x (good.guarded b e.x r has)) (guard s e)

  no_own : (states : List ObjectState) → at_uid top d.pend ≡ Some states → ⊥
  no_own states is = never (is_some (at_uid top d.pend)) (ap is_some is) unprepared

  not_named : (s : ObjectState) (e : IsNewEntry s) → holder_of s.uid d ≡ None
  not_named s e = by (find (λ (q : Uid × List ObjectState). names_object s.uid q.1) d.pend) refl
    where
      by : (o : Option (Uid × List ObjectState)) → find (λ (q : Uid × List ObjectState). names_object s.uid q.1) d.pend ≡ o →
          option_map (λ (q : Uid × List ObjectState). q.0) o ≡ None
      by None is = refl
      by (Some q) is =
          let f = in_find (λ (r : Uid × List ObjectState). names_object s.uid r.1) q d.pend is in
          let w = one_of (λ (st : ObjectState). uid_eq st.uid s.uid) q.1 f.1 in
          let found = in_at q d.pend good.pair.sorted f.0 in
          let same = nobody_else s e q.0 w.0 (record {
            states = q.1;
            prepared = found;
            there = in_to w.0 q.1 w.1;
            of = uid_is w.0.uid s.uid w.2 ∙ ap (λ (st : ObjectState). st.uid) e.is;
          }) in
          absurd (no_own q.1 (ap (λ u. at_uid u d.pend) (sym same) ∙ found))

  unrefused : (s : ObjectState) → In s (entries_after top grants excluded included d) → refusal_in top d s ≡ None
  unrefused s i = (λ j. refusal_of top s (held j) (not_named s e j))
      ∙ (λ j. cond (writer j) (Some (Already s.uid)) (cond (version j) (Some (Old s.uid e.held.version)) None))
    where
      e : IsNewEntry s
      e = new_entry s i

      held : held_at s.uid d ≡ Some e.held
      held = ap (λ (st : ObjectState). held_at st.uid d) e.is ∙ e.there

      writer : uid_eq e.held.writer top ≡ false
      writer = false_from_ne_true (uid_eq e.held.writer top) (λ same.
          ⊎_elim (λ before. never (past top) (ap past (sym (uid_is e.held.writer top same)) ∙ before) asks.new)
          (λ over. never (is_on n.told top) (ap (is_on n.told) (sym (uid_is e.held.writer top same)) ∙ over)
          (own_untold owner (is_on n.told) e.x p fits untold)) (good.writers (entry e.x) e.held e.there))

      version : is_old s e.held ≡ false
      version = ap (λ (st : ObjectState). nat_lt st.version e.held.version || ((st.version == e.held.version) && not (state_eq s e.held)))
          e.is ∙ not_old e.held.version (not (state_eq s e.held)) (asks.versions (entry e.x) e.held e.there)

  -- the store is ready for the new entries
  pub ready : prepare_answer top (entries_after top grants excluded included d) d ≡ Ready
  ready = ap (λ o. unwrap_or o Ready) (each (entries_after top grants excluded included d) unrefused)
    where
      each : (ss : List ObjectState) → ((s : ObjectState) → In s ss → refusal_in top d s ≡ None) → first_refusal top d ss ≡ None
      each [] h = refl
      each (s ∷ ss) h = (λ i. either (h s (inl refl) i) (first_refusal top d ss)) ∙ each ss (λ r j. h r (inr j))

  -- ---- after the prepare

  abbrev states : List ObjectState
  states = entries_after top grants excluded included d

  old_or_new : (a : Uid) (x : ℕ) (s : ObjectState) → HasPrepared a x s (pair_prepared top states d) →
      ((a ≡ top) × (e : IsNewEntry s) × (e.x ≡ x)) ⊎ HasPrepared a x s d
  old_or_new a x s has = ⊎_elim (λ f. let e = new_entry s (in_from s states (subst (λ ss. Contains ss s) (sym f.1) has.there)) in
      inl (f.0, e, number e.x x (ap (λ (st : ObjectState). st.uid) (sym e.is) ∙ has.of)))
      (λ f. inr (record { states = has.states; prepared = f.1; there = has.there; of = has.of }))
      (put_cases a top states has.states d.pend has.prepared)
    where
      number : (j k : ℕ) → entry j ≡ entry k → j ≡ k
      number j k same = ap (λ (u : Uid). u.num) same

  good_confirms : (m : Naming) → IsGoodNaming owner past m d → IsGoodNaming owner past (confirms top m) d
  good_confirms m g = confirms_good owner past p m d fits g

  good_prepared : IsGoodNaming owner past (confirms top t.part) (pair_prepared top states d)
  good_prepared = record {
    objects = g.objects;
    pair = record {
      sorted = sorted_put top states d.pend good.pair.sorted;
      names = good.pair.names;
      tops = λ a ss is.
          ⊎_elim (λ f. subst (IsTop owner) (sym f.0) fits.top) (λ f. good.pair.tops a ss f.1) (put_cases a top states ss d.pend is);
      own = λ a ss s is c. ⊎_elim (λ f. let e = new_entry s (in_from s states (subst (λ rs. Contains rs s) (sym f.1) c)) in
          record {
            writer = ap (λ (st : ObjectState). st.writer) e.is ∙ sym f.0;
            x = e.x;
            of = ap (λ (st : ObjectState). st.uid) e.is;
            held = e.held;
            there = ap (λ (st : ObjectState). held_at st.uid d) e.is ∙ e.there;
          })
          (λ f. let o = good.pair.own a ss s f.1 c in
          record { writer = o.writer; x = o.x; of = o.of; held = o.held; there = o.there }) (put_cases a top states ss d.pend is);
      alone = λ a b x s r has other. both a b x s r (old_or_new a x s has) (old_or_new b x r other);
    };
    confirmed = g.confirmed;
    prepared = λ a ss is. ⊎_elim (λ f. (
      with_on a top t.part.confirmed (inl f.0),
      ap (λ us. is_on us a) locked_all.told ∙ ap (is_on n.told) f.0 ∙ own_untold owner (is_on n.told) 0 p fits untold,
    )) (λ f. g.prepared a ss f.1) (put_cases a top states ss d.pend is);
    guarded = λ a x s has. ⊎_elim (λ f. let e = f.1 in let h = guard s e in let k : HasLockOn a (guard_of x s d) x t.part = subst
        (λ j. HasLockOn a (guard_of j s d) j t.part) f.2 (subst (λ u. HasLockOn u (guard_of e.x s d) e.x t.part) (sym f.0) h) in
        record { named = k.named; there = k.there; lock = k.lock })
        (λ old. let h = g.guarded a x s old in record { named = h.named; there = h.there; lock = h.lock }) (old_or_new a x s has);
    writers = g.writers;
  }
    where
      g : IsGoodNaming owner past (confirms top t.part) d
      g = good_confirms t.part locked_all.good

      again : (s r : ObjectState) (e : IsNewEntry s) (f : IsNewEntry r) → e.x ≡ f.x → s ≡ r
      again s r e f same =
          e.is ∙ (λ i. entry_state (same i) top (held i) (stores_after (same i) excluded included (state_entry (held i)))) ∙ sym f.is
        where
          held : e.held ≡ f.held
          held = let k : ◌≡◌ {A = Option ObjectState} (Some e.held) (Some f.held) = sym e.there ∙ ap (λ j. held_at (entry j) d) same
              ∙ f.there in cc

      mine : (s : ObjectState) (b : Uid) (x : ℕ) (r : ObjectState) (e : IsNewEntry s) → e.x ≡ x → HasPrepared b x r d → ⊥
      mine s b x r e same has = no_own has.states
          (ap (λ u. at_uid u d.pend) (sym (nobody_else s e b r (subst (λ j. HasPrepared b j r d) (sym same) has))) ∙ has.prepared)

      both : (a b : Uid) (x : ℕ) (s r : ObjectState) → ((a ≡ top) × (e : IsNewEntry s) × (e.x ≡ x)) ⊎ HasPrepared a x s d →
          ((b ≡ top) × (e : IsNewEntry r) × (e.x ≡ x)) ⊎ HasPrepared b x r d → (a ≡ b) × (s ≡ r)
      both a b x s r (inl f) (inl h) = (f.0 ∙ sym h.0, again s r f.1 h.1 (f.2 ∙ sym h.2))
      both a b x s r (inl f) (inr h) = absurd (mine s b x r f.1 f.2 h)
      both a b x s r (inr f) (inl h) = absurd (mine r a x s h.1 h.2 f)
      both a b x s r (inr f) (inr h) = good.pair.alone a b x s r f h

  -- the confirm, where the checks pass
  pub new_good : IsGoodServed owner past d (confirm_entries top states d t)
  new_good = by states refl
    where
      ready_good : (ss : List ObjectState) → states ≡ ss → IsGoodServed owner past d (prepared_by top ss t Ready)
      ready_good ss is = subst (IsGoodNaming owner past (confirms top t.part))
          (sym (names_both t.outs (Do Look ∷ Do (Prepare role.Names top ss) ∷ Say (body.Prepared 1 top role.Names) ∷ []) d
          ∙ ap (names_after (Do Look ∷ Do (Prepare role.Names top ss) ∷ Say (body.Prepared 1 top role.Names) ∷ [])) locked_all.quiet))
          (subst (λ rs. IsGoodNaming owner past (confirms top t.part) (pair_prepared top rs d)) is good_prepared)

      by : (ss : List ObjectState) → states ≡ ss → IsGoodServed owner past d (confirm_entries top ss d t)
      by [] is = subst (IsGoodNaming owner past (confirms top t.part)) (sym locked_all.quiet) (good_confirms t.part locked_all.good)
      by (s ∷ ss) is = subst (λ a. IsGoodServed owner past d (prepared_by top (s ∷ ss) t a))
          (sym (sym (ap (λ rs. prepare_answer top rs d) is) ∙ ready)) (ready_good (s ∷ ss) is)

  pub new_reply : (confirm_entries top states d t).reply ≡ Some confirmed.Yes
  new_reply = by states refl
    where
      by : (ss : List ObjectState) → states ≡ ss → (confirm_entries top ss d t).reply ≡ Some confirmed.Yes
      by [] is = refl
      by (s ∷ ss) is = ap (λ a. (prepared_by top (s ∷ ss) t a).reply) (sym (ap (λ rs. prepare_answer top rs d) is) ∙ ready)

-- ---- any Confirm

-- The answer: nothing where the path is over or naming lacks an object; Yes again to a repeat; else what the checks say, and
-- Yes where they pass.
pub confirm_all : (owner : Owners) (past : Past) (p : Path) (grants : Grants) (excluded included : Marks) (n : Naming) (d : Pair) →
    Fits owner p → IsConfirmed past p included n d → IsGoodNaming owner past n d
    → IsGoodServed owner past d (confirm p grants excluded included d n)
    × ((confirm p grants excluded included d n).reply ≡ confirm_answer p grants excluded included d n)
confirm_all owner past p grants excluded included n d fits asks good =
    by (is_over p n) (has_all grants n) (is_on n.confirmed top) (is_prepared top d) refl refl refl
  where
    top : Uid
    top = top_of p

    checks : Option ConfirmedReply
    checks = checked p grants excluded included d n

    served : Bool → Bool → Served Naming ConfirmedReply
    served over again =
        cond over (void n) (cond again (reply (confirms top n) confirmed.Yes) (confirm_new p grants excluded included d n checks))

    new : is_over p n ≡ false → has_all grants n ≡ true → is_prepared top d ≡ false → (c : Option ConfirmedReply) → checks ≡ c
        → IsGoodServed owner past d (confirm_new p grants excluded included d n c)
        × ((confirm_new p grants excluded included d n c).reply ≡ Some (unwrap_or c confirmed.Yes))
    new fresh all unprepared (Some r) is = (good, refl)
    new fresh all unprepared None is = (
      new_good owner past p grants excluded included n d fits asks good fresh all unprepared is,
      new_reply owner past p grants excluded included n d fits asks good fresh all unprepared is,
    )

    by : (over all known prepared : Bool) → is_over p n ≡ over → has_all grants n ≡ all → is_prepared top d ≡ prepared
        → IsGoodServed owner past d (served (over || not all) (known || prepared)) × ((served (over || not all) (known || prepared)).reply
        ≡ cond (over || not all) None (Some (cond (known || prepared) confirmed.Yes (unwrap_or checks confirmed.Yes))))
    by true all known prepared o a q = (good, refl)
    by false false known prepared o a q = (good, refl)
    by false true true prepared o a q = (confirms_good owner past p n d fits good, refl)
    by false true false true o a q = (confirms_good owner past p n d fits good, refl)
    by false true false false o a q = new o a q checks refl
