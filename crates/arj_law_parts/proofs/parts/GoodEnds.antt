-- The end of an action keeps naming good, and what was granted to others.
use Rattle.arj_law_parts.proofs.Words
use Words.{◌≡◌, ◌≢◌, ◌⊎◌, ℕ, List, [], ◌∷◌, ◌++◌, Bool, true, false, cond, not, ◌&&◌, Option, Some, None, refl, sym, ◌∙◌, ap, subst, inl}
use Words.{inr, ⊎_elim, map, filter, is_some, unwrap_or, list_any, false_from_ne_true, uid_same, uid_other, In, in_from, in_to, none_in}
use Words.{kept_from, Uid, ObjectState, End, entry, is_on, is_held_by, uid_eq, drop_rows, mode_code, mode_back, Effect, Pair, Did}
use Words.{did_nothing, is_prepared, new_states, pair_committed, pair_aborted, Named, end_named, Naming, told_new, taken_end, end_locks}
use Words.{end_entries, own_entries, orphans, end_lines, loses, loses_row, has_locks, entry_of, listed_entry, at_number, at_uid, with_uid}
use Words.{state_entry}
use Words.ending
use Rattle.arj_law_parts.proofs.Terms
use Terms.{moved, told, HasLock, Owners, IsTop, AreSorted, IsGoodObject, IsToldOf, names_after, HasPrepared, IsOwnState, IsGoodPair}
use Terms.{HasLockOn, Past, IsGoodNaming, guard_of}
use Rattle.arj_law_parts.proofs.parts
use parts.{GoodObjects.good_ended, Stands.stands_pass}
use parts.Keys.{on_with, with_on, on_drop, drop_on, at_in, without_cases, sorted_without}
use parts.Pairs.{names_both, names_line, aborts, aborts_held, aborts_sorted, aborts_left, moved_cases, moved_other, committed_good}
use parts.Pairs.{fewer_good, at_each, each_at, number_in}

never : {P : Type 0} (b : Bool) → b ≡ true → b ≡ false → P
never b holds fails = let no_way : true ≡ false = sym holds ∙ fails in cc

told_of : (u : Uid) (n : Naming) → IsToldOf (is_on n.told) (is_on (with_uid u n.told)) u
told_of u n = record {
  itself = with_on u u n.told (inl refl);
  before = λ w t. with_on w u n.told (inr t);
  only = λ w e. ⊎_elim (λ same. inr same) (λ old. inl old) (on_with w u n.told e);
}

-- what an end leaves of the pair
record IsLeft (u : Uid) (n : Naming) (d e : Pair) (end : End) : Type 0 where
  fewer : (a : Uid) (states : List ObjectState) → at_uid a e.pend ≡ Some states → (at_uid a d.pend ≡ Some states) × (a ≢ u)
  dropped : end ≡ ending.Abort → (a : Uid) (states : List ObjectState) → at_uid a e.pend ≡ Some states → loses_row u a n ≡ false
  listed : (a : Uid) (x : ℕ) (s : ObjectState) → HasPrepared a x s e → listed_entry x e ≡ listed_entry x d
  held : (w : Uid) (h : ObjectState) → at_uid w e.held ≡ Some h →
      (at_uid w d.held ≡ Some h) ⊎ ((h.writer ≡ u) × ((x : ℕ) → w ≡ entry x → HasPrepared u x h d))

module _ (owner : Owners) (past : Past) (u : Uid) (n : Naming) (d : Pair) (good : IsGoodNaming owner past n d) where
  -- a lock that the end leaves
  lock_ended : (e : End) (a : Uid) (k x : ℕ) → ((o : Named) → at_number x n.objects ≡ Some o → HasLock a k o.rows →
      HasLock a k (end_named u e o).rows) → HasLockOn a k x n → HasLockOn a k x (end_locks u e n)
  lock_ended e a k x stands h = record {
    named = end_named u e h.named;
    there = each_at (λ y. end_named u e) x n.objects h.named h.there;
    lock = stands h.named h.there h.lock;
  }

  -- a holder that doesn't lose a row by an abort keeps it
  not_lost : (a : Uid) (k x : ℕ) (o : Named) → at_number x n.objects ≡ Some o → loses_row u a n ≡ false → HasLock a k o.rows →
      HasLock a k (end_named u ending.Abort o).rows
  not_lost a k x o is none h = (
    h.0,
    in_to h.0 (drop_rows u o.rows) (kept_from (λ r. not (is_on r.holder u)) h.0 o.rows (in_from h.0 o.rows h.1) (ap not off)),
    h.2,
    h.3,
  )
    where
      in_object : list_any (loses u a) o.rows ≡ false
      in_object = none_in (λ (e : ℕ × Named). list_any (loses u a) e.1.rows) (x, o) n.objects none (number_in x n.objects o is)

      own : is_held_by a h.0 ≡ true
      own = ap (λ w. uid_eq w a) h.2 ∙ uid_same a

      off : is_on h.0.holder u ≡ false
      off = false_from_ne_true (is_on h.0.holder u)
          (λ on. never (loses u a h.0) (λ i. own i && on i) (none_in (loses u a) h.0 o.rows in_object (in_from h.0 o.rows h.1)))

  ended_good : (e : End) (f : Pair) → (e ≡ ending.Commit → IsTop owner u) → IsLeft u n d f e → IsGoodPair owner f →
      IsGoodNaming owner past (end_locks u e n) f
  ended_good e f top left pair = record {
    objects = λ x o is. let g = at_each (λ y. end_named u e) x n.objects o is in
        subst (IsGoodObject owner (is_on (with_uid u n.told)) n.inc n.count x) (sym g.2) (good_ended owner (is_on n.told)
        (is_on (with_uid u n.told)) n.inc n.count x u g.0 (told_of u n) (good.objects x g.0 g.1) e top);
    pair = pair;
    confirmed = λ a on. good.confirmed a (on_drop a u n.confirmed on).1;
    prepared = λ a states is. let l = left.fewer a states is in let p = good.prepared a states l.0 in (
      drop_on a u n.confirmed l.1 p.0,
      false_from_ne_true (is_on (with_uid u n.told) a)
          (λ t. ⊎_elim (λ same. l.1 same) (λ old. never (is_on n.told a) old p.1) (on_with a u n.told t)),
    );
    guarded = guarded;
    writers = λ w h is. ⊎_elim (λ old. ⊎_elim (λ before. inl before) (λ t. inr (with_on h.writer u n.told (inr t))) (good.writers w h old))
        (λ g. inr (with_on h.writer u n.told (inl g.0))) (left.held w h is);
  }
    where
      stands : (b : End) → e ≡ b → (a : Uid) (k x : ℕ) (states : List ObjectState) → at_uid a f.pend ≡ Some states → (o : Named) →
          at_number x n.objects ≡ Some o → HasLock a k o.rows → HasLock a k (end_named u b o).rows
      stands ending.Abort same a k x states is o found = not_lost a k x o found (left.dropped same a states is)
      stands ending.Commit same a k x states is o found = stands_pass u a k o.rows (left.fewer a states is).1

      guarded : (a : Uid) (x : ℕ) (s : ObjectState) → HasPrepared a x s f → HasLockOn a (guard_of x s f) x (end_locks u e n)
      guarded a x s p =
          let before : HasPrepared a x s d =
          record { states = p.states; prepared = (left.fewer a p.states p.prepared).0; there = p.there; of = p.of } in
          let same : guard_of x s f ≡ guard_of x s d = (λ i. let l = left.listed a x s p i in
          mode_code (mode_back (state_entry s).stores l.stores)) in
          subst (λ k. HasLockOn a k x (end_locks u e n)) (sym same)
          (lock_ended e a (guard_of x s d) x (stands e refl a (guard_of x s d) x p.states p.prepared) (good.guarded a x s before))

  -- ---- the pair after an end

  unprepared : is_prepared u d ≡ false → (states : List ObjectState) → at_uid u d.pend ≡ Some states → ⊥
  unprepared none states is = never (is_some (at_uid u d.pend)) (ap is_some is) none

  same_left : is_prepared u d ≡ false → (e : End) → (e ≡ ending.Abort → (a : Uid) (states : List ObjectState) →
      at_uid a d.pend ≡ Some states → loses_row u a n ≡ false) → IsLeft u n d d e
  same_left none e dropped = record {
    fewer = λ a states is. (is, λ same. unprepared none states (ap (λ w. at_uid w d.pend) (sym same) ∙ is));
    dropped = dropped;
    listed = λ a x s p. refl;
    held = λ w h is. inl is;
  }

  -- an abort, after the action's own entries ended as they may
  orphans_left : (f : Pair) → f.held ≡ d.held → AreSorted f.pend →
      ((a : Uid) (states : List ObjectState) → at_uid a f.pend ≡ Some states → (at_uid a d.pend ≡ Some states) × (a ≢ u))
      → IsLeft u n d (names_after (aborts (orphans u d n)) f) ending.Abort × IsGoodPair owner (names_after (aborts (orphans u d n)) f)
  orphans_left f same sorted fewer = (
    record {
      fewer = λ a states is. fewer a states (left a states is).0;
      dropped = λ e a states is. let l = left a states is in let g = fewer a states l.0 in
          false_from_ne_true (loses_row u a n) (λ loses_it. l.1 (orphan a states g.0 g.1 loses_it));
      listed = λ a x s p. ap (λ m. entry_of (at_uid (entry x) m)) (aborts_held us f ∙ same);
      held = λ w h is. inl (ap (at_uid w) (sym (aborts_held us f ∙ same)) ∙ is);
    },
    fewer_good owner d (names_after (aborts us) f) (aborts_held us f ∙ same) (aborts_sorted us f sorted)
        (λ a states is. (fewer a states (left a states is).0).0) good.pair,
  )
    where
      us : List Uid
      us = orphans u d n

      left : (a : Uid) (states : List ObjectState) → at_uid a (names_after (aborts us) f).pend ≡ Some states →
          (at_uid a f.pend ≡ Some states) × (In a us → ⊥)
      left a states is = aborts_left us f a states sorted is

      is_orphan : Uid → Bool
      is_orphan act = not (uid_eq act u) && loses_row u act n

      kept : (a : Uid) (ws : List Uid) → In a ws → is_orphan a ≡ true → In a (filter is_orphan ws)
      kept a [] i e = absurd i
      kept a (w ∷ ws) (inl is) e = by (is_orphan w) (ap is_orphan is ∙ e)
        where
          by : (b : Bool) → b ≡ true → In a (cond b (w ∷ filter is_orphan ws) (filter is_orphan ws))
          by true t = inl is
          by false t = absurd (never true refl (sym t))
      kept a (w ∷ ws) (inr i) e = by (is_orphan w) (kept a ws i e)
        where
          by : (b : Bool) → In a (filter is_orphan ws) → In a (cond b (w ∷ filter is_orphan ws) (filter is_orphan ws))
          by true ih = inr ih
          by false ih = ih

      mapped : (a : Uid) (states : List ObjectState) (m : List (Uid × List ObjectState)) → In (a, states) m →
          In a (map (λ (q : Uid × List ObjectState). q.0) m)
      mapped a states [] i = absurd i
      mapped a states (q ∷ qs) (inl is) = inl (ap (λ (r : Uid × List ObjectState). r.0) is)
      mapped a states (q ∷ qs) (inr i) = inr (mapped a states qs i)

      orphan : (a : Uid) (states : List ObjectState) → at_uid a d.pend ≡ Some states → a ≢ u → loses_row u a n ≡ true → In a us
      orphan a states is other loses_it = kept a (map (λ (q : Uid × List ObjectState). q.0) d.pend)
          (mapped a states d.pend (at_in a states d.pend is)) (λ i. not (uid_other a u other i) && loses_it i)

  -- ---- a commit of what is prepared

  module _ (states : List ObjectState) (found : at_uid u d.pend ≡ Some states) where
    its : new_states u d ≡ states
    its = ap (λ o. unwrap_or o []) found

    prepared_of : (s : ObjectState) → In s (new_states u d) → (x : ℕ) → s.uid ≡ entry x → HasPrepared u x s d
    prepared_of s i x of = record { states = states; prepared = found; there = in_to s states (subst (In s) its i); of = of }

    own : (s : ObjectState) → In s (new_states u d) → IsOwnState u s d
    own s i = good.pair.own u states s found (in_to s states (subst (In s) its i))

    listed_other : (a : Uid) (x : ℕ) (s : ObjectState) → HasPrepared a x s d → a ≢ u →
        at_uid (entry x) (moved (new_states u d) d.held) ≡ at_uid (entry x) d.held
    listed_other a x s p other =
        moved_other (new_states u d) d.held (entry x) (λ t i same. other (good.pair.alone a u x s t p (prepared_of t i x (sym same))).0)

    committed_left : IsLeft u n d (pair_committed u d) ending.Commit × IsGoodPair owner (pair_committed u d)
    committed_left = (
      record {
        fewer = fewer;
        dropped = λ e. let no_way : ending.Commit ≡ ending.Abort = e in cc;
        listed = λ a x s p. let f = fewer a p.states p.prepared in ap entry_of (listed_other a x s (back a x s p) f.1);
        held = λ w h is. ⊎_elim (λ old. inl old) (λ f. inr ((own h f.0).writer, λ x same. prepared_of h f.0 x (sym f.1 ∙ same)))
            (moved_cases (new_states u d) d.held w h is);
      },
      committed_good owner d good.pair u,
    )
      where
        fewer : (a : Uid) (ss : List ObjectState) → at_uid a (pair_committed u d).pend ≡ Some ss → (at_uid a d.pend ≡ Some ss) × (a ≢ u)
        fewer a ss is = let f = without_cases a u ss d.pend good.pair.sorted is in (f.1, f.0)

        back : (a : Uid) (x : ℕ) (s : ObjectState) → HasPrepared a x s (pair_committed u d) → HasPrepared a x s d
        back a x s p = record { states = p.states; prepared = (fewer a p.states p.prepared).0; there = p.there; of = p.of }

  -- ---- told

  -- The pair after an end, with what it leaves. The end that naming takes is the one that the disk gets.
  record Ends (e : End) : Type 0 where
    left : IsLeft u n d (names_after (own_entries u e d ++ (told_new u (taken_end u e n) d n).outs) d) (taken_end u e n)
    pair : IsGoodPair owner (names_after (own_entries u e d ++ (told_new u (taken_end u e n) d n).outs) d)
    top : taken_end u e n ≡ ending.Commit → IsTop owner u

  quiet : (end : End) (f : Pair) → names_after (end_lines u end n) f ≡ f
  quiet end f = names_line (has_locks u n) _ f

  -- an abort is taken, and these entries of the action's own ended before
  taken_abort : (es : List Effect) (f : Pair) → names_after es d ≡ f → f.held ≡ d.held → AreSorted f.pend →
      ((a : Uid) (states : List ObjectState) → at_uid a f.pend ≡ Some states → (at_uid a d.pend ≡ Some states) × (a ≢ u))
      → IsLeft u n d (names_after (es ++ (told_new u ending.Abort d n).outs) d) ending.Abort
      × IsGoodPair owner (names_after (es ++ (told_new u ending.Abort d n).outs) d)
  taken_abort es f is same sorted fewer =
      subst (λ g. IsLeft u n d g ending.Abort × IsGoodPair owner g) (sym whole) (orphans_left f same sorted fewer)
    where
      whole : names_after (es ++ (told_new u ending.Abort d n).outs) d ≡ names_after (aborts (orphans u d n)) f
      whole = names_both es (told_new u ending.Abort d n).outs d ∙ ap (names_after (told_new u ending.Abort d n).outs) is
          ∙ names_both (aborts (orphans u d n)) (end_lines u ending.Abort n) f ∙ quiet ending.Abort (names_after (aborts (orphans u d n)) f)

  taken_commit : (es : List Effect) (f : Pair) → names_after es d ≡ f → IsLeft u n d f ending.Commit × IsGoodPair owner f
      → IsLeft u n d (names_after (es ++ (told_new u ending.Commit d n).outs) d) ending.Commit
      × IsGoodPair owner (names_after (es ++ (told_new u ending.Commit d n).outs) d)
  taken_commit es f is left = subst (λ g. IsLeft u n d g ending.Commit × IsGoodPair owner g) (sym whole) left
    where
      whole : names_after (es ++ (told_new u ending.Commit d n).outs) d ≡ f
      whole = names_both es (told_new u ending.Commit d n).outs d ∙ ap (names_after (told_new u ending.Commit d n).outs) is
          ∙ quiet ending.Commit f

  ends_abort : (b : Bool) → is_prepared u d ≡ b → (o : Option (List ObjectState)) → at_uid u d.pend ≡ o →
      IsLeft u n d (names_after (cond b (end_entries u ending.Abort) [] ++ (told_new u ending.Abort d n).outs) d) ending.Abort
      × IsGoodPair owner (names_after (cond b (end_entries u ending.Abort) [] ++ (told_new u ending.Abort d n).outs) d)
  ends_abort true is o found = taken_abort (end_entries u ending.Abort) (pair_aborted u d) refl refl
      (sorted_without u d.pend good.pair.sorted) (λ a states at. let f = without_cases a u states d.pend good.pair.sorted at in (f.1, f.0))
  ends_abort false is o found = taken_abort [] d refl refl good.pair.sorted
      (λ a states at. (at, λ same. unprepared is states (ap (λ w. at_uid w d.pend) (sym same) ∙ at)))

  ends_commit : (b : Bool) → is_prepared u d ≡ b → (o : Option (List ObjectState)) → at_uid u d.pend ≡ o →
      IsLeft u n d (names_after (cond b (end_entries u ending.Commit) [] ++ (told_new u ending.Commit d n).outs) d) ending.Commit
      × IsGoodPair owner (names_after (cond b (end_entries u ending.Commit) [] ++ (told_new u ending.Commit d n).outs) d)
  ends_commit true is None found = absurd (never (is_some (at_uid u d.pend)) is (ap is_some found))
  ends_commit true is (Some states) found =
      taken_commit (end_entries u ending.Commit) (pair_committed u d) refl (committed_left states found)
  ends_commit false is o found =
      taken_commit [] d refl (same_left is ending.Commit (λ e. let no_way : ending.Commit ≡ ending.Abort = e in cc), good.pair)

  -- a commit that isn't taken finds nothing prepared
  not_confirmed : is_on n.confirmed u ≡ false → is_prepared u d ≡ false
  not_confirmed other = by (at_uid u d.pend) refl
    where
      by : (o : Option (List ObjectState)) → at_uid u d.pend ≡ o → is_some (at_uid u d.pend) ≡ false
      by None is = ap is_some is
      by (Some states) is = absurd (never (is_on n.confirmed u) (good.prepared u states is).0 other)

  ends : (e : End) → Ends e
  ends ending.Abort = let r = ends_abort (is_prepared u d) refl (at_uid u d.pend) refl in
      record { left = r.0; pair = r.1; top = λ same. let no_way : ending.Abort ≡ ending.Commit = same in cc }
  ends ending.Commit = let r = by (is_on n.confirmed u) refl in
      record { left = r.0; pair = r.1; top = λ same. top same (is_on n.confirmed u) refl }
    where
      after : End → Pair
      after taken = names_after (own_entries u ending.Commit d ++ (told_new u taken d n).outs) d

      by : (b : Bool) → is_on n.confirmed u ≡ b → IsLeft u n d (after (cond b ending.Commit ending.Abort))
          (cond b ending.Commit ending.Abort) × IsGoodPair owner (after (cond b ending.Commit ending.Abort))
      by true is = ends_commit (is_prepared u d) refl (at_uid u d.pend) refl
      by false is =
          let none = not_confirmed is in
          subst (λ b.
          IsLeft u n d (names_after (cond b (end_entries u ending.Commit) [] ++ (told_new u ending.Abort d n).outs) d) ending.Abort
          × IsGoodPair owner (names_after (cond b (end_entries u ending.Commit) [] ++ (told_new u ending.Abort d n).outs) d)) (sym none)
          (taken_abort [] d refl refl good.pair.sorted
          (λ a states at. (at, λ same. unprepared none states (ap (λ w. at_uid w d.pend) (sym same) ∙ at))))

      top : cond (is_on n.confirmed u) ending.Commit ending.Abort ≡ ending.Commit → (b : Bool) → is_on n.confirmed u ≡ b → IsTop owner u
      top same true is = good.confirmed u is
      top same false is = let no_way : ending.Abort ≡ ending.Commit = ap (λ b. cond b ending.Commit ending.Abort) (sym is) ∙ same in cc

  -- an action that was told has nothing prepared
  told_before : is_on n.told u ≡ true → is_prepared u d ≡ false
  told_before over = by (at_uid u d.pend) refl
    where
      by : (o : Option (List ObjectState)) → at_uid u d.pend ≡ o → is_some (at_uid u d.pend) ≡ false
      by None is = ap is_some is
      by (Some states) is = absurd (never (is_on n.told u) over (good.prepared u states is).1)

  pub told_good : (e : End) → IsGoodNaming owner past (told u e d n).part (names_after (told u e d n).outs d)
  told_good e = by (is_on n.told u) refl
    where
      by : (b : Bool) → is_on n.told u ≡ b →
          IsGoodNaming owner past (cond {A = Did Naming} b (did_nothing n) (told_new u (taken_end u e n) d n)).part
          (names_after (own_entries u e d ++ (cond {A = Did Naming} b (did_nothing n) (told_new u (taken_end u e n) d n)).outs) d)
      by true is = subst (λ b. IsGoodNaming owner past n (names_after (cond b (end_entries u e) [] ++ []) d)) (sym (told_before is)) good
      by false is = let r = ends e in
          ended_good (taken_end u e n) (names_after (own_entries u e d ++ (told_new u (taken_end u e n) d n).outs) d) r.top r.left r.pair
