-- What naming finds at a restart is good.
use Rattle.arj_law_parts.proofs.Words
use Words.{◌≡◌, ◌≢◌, ◌⊎◌, ℕ, List, [], ◌∷◌, true, false, cond, Option, Some, None, refl, sym, ◌∙◌, ap, subst, inl, inr, arith, map, find}
use Words.{option_map, list_any, nat_cmp, is_eq, nat_cmp-IsAntisymmetric, Ordering, Less, Equal, Greater, or_left, or_right, or_cases}
use Words.{uid_is, uid_same, In, in_from, in_to, in_find, in_find_none, Uid, ObjectState, Row, uid_eq, entry, is_on, mode_code, mode_back}
use Words.{pending_of, rows_back, named_back, recovered_naming, row_for, Pair, either, Named, unnamed, entry_of, at_number, at_uid}
use Words.{state_entry}
use Rattle.arj_law_parts.proofs.Terms
use Terms.{HasLock, AreGoodRows, Owners, IsTop, IsGoodObject, HasPrepared, IsOwnState, IsGoodPair, HasLockOn, IsGoodNaming, guard_of}
use Rattle.arj_law_parts.proofs.parts
use parts.{GoodObjects.good_fresh}
use parts.EntryLocks.{good_none, good_grant}
use parts.Keys.{at_here, at_there, at_in, in_at}
use Rattle.arj_law_parts.specs.parts.Entries.{wrote_of}

number_itself : (n : ℕ) → is_eq (nat_cmp n n) ≡ true
number_itself n = grind arith

-- ---- what is prepared of an entry

record IsPending (u : Uid) (m : List (Uid × List ObjectState)) (q : Uid × ObjectState) : Type 0 where
  states : List ObjectState
  listed : In (q.0, states) m
  there : In q.1 states
  of : q.1.uid ≡ u

pending_some : (u : Uid) (m : List (Uid × List ObjectState)) (q : Uid × ObjectState) → pending_of u m ≡ Some q → IsPending u m q
pending_some u [] q e = cc
pending_some u (p ∷ ps) q e = by (find (λ (s : ObjectState). uid_eq s.uid u) p.1) refl e (pending_some u ps q)
  where
    by : (o : Option ObjectState) → find (λ (s : ObjectState). uid_eq s.uid u) p.1 ≡ o → either (option_map (λ s. (p.0, s)) o)
        (pending_of u ps) ≡ Some q → (pending_of u ps ≡ Some q → IsPending u ps q) → IsPending u (p ∷ ps) q
    by None is h ih = let r = ih h in record { states = r.states; listed = inr r.listed; there = r.there; of = r.of }
    by (Some s) is h ih =
        let same : (p.0, s) ≡ q = cc in
        let f = in_find (λ (t : ObjectState). uid_eq t.uid u) s p.1 is in
        record {
          states = p.1;
          listed = inl (λ i. (let k = same i in k.0, p.1));
          there = subst (λ (k : Uid × ObjectState). In k.1 p.1) same f.0;
          of = subst (λ (k : Uid × ObjectState). k.1.uid ≡ u) same (uid_is s.uid u f.1);
        }

pending_none : (u : Uid) (m : List (Uid × List ObjectState)) (a : Uid) (states : List ObjectState) (s : ObjectState) →
    pending_of u m ≡ None → In (a, states) m → In s states → s.uid ≡ u → ⊥
pending_none u [] a states s e i j of = i
pending_none u (p ∷ ps) a states s e i j of =
    by (find (λ (t : ObjectState). uid_eq t.uid u) p.1) refl e i (λ h k. pending_none u ps a states s h k j of)
  where
    by : (o : Option ObjectState) → find (λ (t : ObjectState). uid_eq t.uid u) p.1 ≡ o → either (option_map (λ t. (p.0, t)) o)
        (pending_of u ps) ≡ None → In (a, states) (p ∷ ps) → (pending_of u ps ≡ None → In (a, states) ps → ⊥) → ⊥
    by (Some t) is h k ih = let no_way : ◌≡◌ {A = Option (Uid × ObjectState)} (Some (p.0, t)) None = h in cc
    by None is h (inl same) ih =
        let off = in_find_none (λ (t : ObjectState). uid_eq t.uid u) s p.1 is
        (subst (In s) (ap (λ (k : Uid × List ObjectState). k.1) (sym same)) j) in
        let no_way : true ≡ false = sym (uid_same u) ∙ ap (λ w. uid_eq w u) (sym of) ∙ off in cc
    by None is h (inr k) ih = ih h k

-- ---- objects and held entries

module _ (d : Pair) where
  abbrev back : ℕ → ObjectState → Named
  back x s = unnamed (rows_back (entry x) s (pending_of (entry x) d.pend))

  back_found : (m : List (Uid × ObjectState)) → ((e : Uid × ObjectState) → In e m → e.0 ≡ entry e.0.num) → (x : ℕ) (s : ObjectState) →
      at_uid (entry x) m ≡ Some s → at_number x (map (named_back d) m) ≡ Some (back x s)
  back_found [] names x s is = cc
  back_found (e ∷ es) names x s is = by (nat_cmp x e.0.num) refl (back_found es (λ f i. names f (inr i)) x s)
    where
      by : (r : Ordering) → nat_cmp x e.0.num ≡ r → (at_uid (entry x) es ≡ Some s → at_number x (map (named_back d) es) ≡ Some (back x s))
          → cond (is_eq r) (Some (named_back d e).1) (at_number x (map (named_back d) es)) ≡ Some (back x s)
      by Equal h ih =
          let key : e.0 ≡ entry x = names e (inl refl) ∙ ap entry (sym (nat_cmp-IsAntisymmetric x e.0.num h)) in
          let found : ◌≡◌ {A = Option ObjectState} (Some e.1) (Some s) = sym (at_here e.0 e.1 es) ∙ ap (λ w. at_uid w (e ∷ es)) key ∙ is in
          let value : e.1 ≡ s = cc in
          λ i. Some (unnamed (rows_back (key i) (value i) (pending_of (key i) d.pend)))
      by Less h ih = ih (sym (at_there (entry x) e.0 e.1 es (apart h refl)) ∙ is)
        where
          apart : nat_cmp x e.0.num ≡ Less → is_eq Less ≡ false → entry x ≢ e.0
          apart g no_eq same =
              let no_way : true ≡ false = sym (number_itself x) ∙ ap (λ (w : Uid). is_eq (nat_cmp x w.num)) same ∙ ap is_eq g in cc
      by Greater h ih = ih (sym (at_there (entry x) e.0 e.1 es (apart h refl)) ∙ is)
        where
          apart : nat_cmp x e.0.num ≡ Greater → is_eq Greater ≡ false → entry x ≢ e.0
          apart g no_eq same =
              let no_way : true ≡ false = sym (number_itself x) ∙ ap (λ (w : Uid). is_eq (nat_cmp x w.num)) same ∙ ap is_eq g in cc

  found_back : (m : List (Uid × ObjectState)) → ((e : Uid × ObjectState) → In e m → e.0 ≡ entry e.0.num) → (x : ℕ) (o : Named) →
      at_number x (map (named_back d) m) ≡ Some o → (s : ObjectState) × (o ≡ back x s)
  found_back [] names x o is = cc
  found_back (e ∷ es) names x o is = by (nat_cmp x e.0.num) refl is (found_back es (λ f i. names f (inr i)) x o)
    where
      by : (r : Ordering) → nat_cmp x e.0.num ≡ r → cond (is_eq r) (Some (named_back d e).1) (at_number x (map (named_back d) es)) ≡ Some o
          → (at_number x (map (named_back d) es) ≡ Some o → (s : ObjectState) × (o ≡ back x s)) → (s : ObjectState) × (o ≡ back x s)
      by Less h found ih = ih found
      by Equal h found ih =
          let key : e.0 ≡ entry x = names e (inl refl) ∙ ap entry (sym (nat_cmp-IsAntisymmetric x e.0.num h)) in
          let it : (named_back d e).1 ≡ o = cc in
          (e.1, sym it ∙ (λ i. unnamed (rows_back (key i) e.1 (pending_of (key i) d.pend))))
      by Greater h found ih = ih found

  back_rows : (owner : Owners) (x : ℕ) (s : ObjectState) (q : Option (Uid × ObjectState)) →
      AreGoodRows owner (is_on []) x (rows_back (entry x) s q)
  back_rows owner x s None = good_none owner (is_on []) x
  back_rows owner x s (Some q) = good_grant owner (is_on []) x (row_for (entry x) (q.0 ∷ []) 1 (mode_back (state_entry q.1).stores
      (state_entry s).stores)) [] (good_none owner (is_on []) x) refl (inl refl) refl (λ u e. let no_way : false ≡ true = e in cc)

-- ---- restart

on_pending : (a : Uid) (states : List ObjectState) (m : List (Uid × List ObjectState)) → In (a, states) m →
    is_on (map (λ (q : Uid × List ObjectState). q.0) m) a ≡ true
on_pending a states [] i = absurd i
on_pending a states (q ∷ qs) (inl same) = or_left (uid_eq q.0 a) (is_on (map (λ (r : Uid × List ObjectState). r.0) qs) a)
    (ap (λ (r : Uid × List ObjectState). uid_eq r.0 a) same ∙ uid_same a)
on_pending a states (q ∷ qs) (inr i) =
    or_right (uid_eq q.0 a) (is_on (map (λ (r : Uid × List ObjectState). r.0) qs) a) (on_pending a states qs i)

pending_on : (a : Uid) (m : List (Uid × List ObjectState)) → is_on (map (λ (q : Uid × List ObjectState). q.0) m) a ≡ true →
    (q : Uid × List ObjectState) × In q m × (q.0 ≡ a)
pending_on a [] on = cc
pending_on a (q ∷ qs) on = one (pending_on a qs) (or_cases (uid_eq q.0 a) (is_on (map (λ (r : Uid × List ObjectState). r.0) qs) a) on)
  where
    one : (is_on (map (λ (r : Uid × List ObjectState). r.0) qs) a ≡ true → (r : Uid × List ObjectState) × In r qs × (r.0 ≡ a)) →
        (uid_eq q.0 a ≡ true) ⊎ (is_on (map (λ (r : Uid × List ObjectState). r.0) qs) a ≡ true) →
        (r : Uid × List ObjectState) × In r (q ∷ qs) × (r.0 ≡ a)
    one ih (inl same) = (q, inl refl, uid_is q.0 a same)
    one ih (inr rest) = let r = ih rest in (r.0, inr r.1, r.2)

wrote_in : (u : Uid) (s : ObjectState) (m : List (Uid × ObjectState)) → In (u, s) m →
    list_any (λ (e : Uid × ObjectState). uid_eq e.1.writer s.writer) m ≡ true
wrote_in u s [] i = absurd i
wrote_in u s (e ∷ es) (inl same) = or_left (uid_eq e.1.writer s.writer) (list_any (λ (f : Uid × ObjectState). uid_eq f.1.writer s.writer)
    es) (ap (λ (f : Uid × ObjectState). uid_eq f.1.writer s.writer) same ∙ uid_same s.writer)
wrote_in u s (e ∷ es) (inr i) =
    or_right (uid_eq e.1.writer s.writer) (list_any (λ (f : Uid × ObjectState). uid_eq f.1.writer s.writer) es) (wrote_in u s es i)

module _ (owner : Owners) (inc : ℕ) (d : Pair) (pair : IsGoodPair owner d) where
  names : (e : Uid × ObjectState) → In e d.held → e.0 ≡ entry e.0.num
  names e i = pair.names e (in_to e d.held i)

  guarded : (a : Uid) (x : ℕ) (s : ObjectState) → HasPrepared a x s d → HasLockOn a (guard_of x s d) x (recovered_naming inc d)
  guarded a x s has = by (pair.own a has.states s has.prepared has.there)
    where
      held : (h : ObjectState) → at_uid (entry x) d.held ≡ Some h → HasLockOn a (guard_of x s d) x (recovered_naming inc d)
      held h there = one (pending_of (entry x) d.pend) refl
        where
          guard : guard_of x s d ≡ mode_code (mode_back (state_entry s).stores (state_entry h).stores)
          guard = ap (λ o. let e = entry_of o in mode_code (mode_back (state_entry s).stores e.stores)) there

          lock : (q : Uid × ObjectState) → (a ≡ q.0) × (s ≡ q.1) → HasLock a (guard_of x s d) (rows_back (entry x) h (Some q))
          lock q same =
              let r : Row = row_for (entry x) (q.0 ∷ []) 1 (mode_back (state_entry q.1).stores (state_entry h).stores) in (
                r,
                in_to r (r ∷ []) (inl refl),
                sym same.0,
                omega (arith, guard, ap (λ (t : ObjectState). mode_code (mode_back (state_entry t).stores (state_entry h).stores)) same.1),
              )

          one : (o : Option (Uid × ObjectState)) → pending_of (entry x) d.pend ≡ o → HasLockOn a (guard_of x s d) x (recovered_naming inc d)
          one None is = absurd (pending_none (entry x) d.pend a has.states s is (at_in a has.states d.pend has.prepared)
              (in_from s has.states has.there) has.of)
          one (Some q) is =
              let f = pending_some (entry x) d.pend q is in
              let same = pair.alone a q.0 x s q.1 has (record {
                states = f.states;
                prepared = in_at (q.0, f.states) d.pend pair.sorted f.listed;
                there = in_to q.1 f.states f.there;
                of = f.of;
              }) in
              record {
                named = back d x h;
                there = back_found d d.held names x h there;
                lock = subst (λ o. HasLock a (guard_of x s d) (rows_back (entry x) h o)) (sym is) (lock q same);
              }

      by : IsOwnState a s d → HasLockOn a (guard_of x s d) x (recovered_naming inc d)
      by own = held own.held (ap (λ u. at_uid u d.held) (sym has.of) ∙ own.there)

  pub restart_good : IsGoodNaming owner (wrote_of d) (recovered_naming inc d) d
  restart_good = record {
    objects = λ x o is. let f = found_back d d.held names x o is in
        subst (IsGoodObject owner (is_on []) inc 0 x) (sym f.1) (good_fresh owner (is_on []) inc 0 x
        (rows_back (entry x) f.0 (pending_of (entry x) d.pend)) (back_rows d owner x f.0 (pending_of (entry x) d.pend)));
    pair = pair;
    confirmed = λ a on. let f = pending_on a d.pend on in
        subst (IsTop owner) f.2 (pair.tops f.0.0 f.0.1 (in_at f.0 d.pend pair.sorted f.1));
    prepared = λ a states is. (on_pending a states d.pend (at_in a states d.pend is), refl);
    guarded = guarded;
    writers = λ u s is. inl (wrote_in u s d.held (at_in u s d.held is));
  }
