-- What a coordinator's roots keep stays in order through all that it does.
use Rattle.arj_law_parts.proofs.Words
use Words.{◌≡◌, ◌⊎◌, ◌∙◌, ◌≤◌, ◌==◌, ◌&&◌, ◌+◌, ◌++◌, ℕ, Bool, true, false, cond, List, [], ◌∷◌, Option, Some, None, nat_lt, refl, sym, ap}
use Words.{subst, inl, inr, ⊎_elim, arith, eqb-true, unwrap_or, list_any, is_eq, nat_cmp, and_parts, uid_cases, Answer, ObjectState, Uid}
use Words.{last_uid, uid_eq, uids_of, Reply, actor, top_of, call, doomed_by, give_up_call, goes_on, granted_by, heard_call, is_ended}
use Words.{keeps_after, kept_at, notes_grant, root_heard, step_call, store_of, At, AtActivate, AtBind, AtInvoke, AtLoad, AtNote, CallEnd}
use Words.{CallStep, Ended, Goal, Include, Known, On, Run, Steps, answered, ask_at, given_up, has_changed, load_from, next_ask, next_node}
use Words.{or_lost, spoils, write_known, Calling, Coord, Doing, Grant, Idle, Joined, Keeping, Root, Said, doing_of, is_call, is_free}
use Words.{joined_with, keeping_of, kept_of, later_state, no_keeping, no_root, on_doing, on_root, root_at, same_join, same_said}
use Words.{with_keeping, at_number, binding_number, doomed_at, ends_of, root_of, put_same as put_number_same, put_other as put_number_other}
use Words.{one_or_two, Post}
use Words.list
use Words.bound
use Words.loaded
use Words.calls
use Rattle.arj_law_lock_view.proofs.Terms
use Terms.{on_roots, paths_of, IsAsking, IsTree, begun_tree, doomed_same, IsSpent, heard_keeping, step_is, loose_of, AnswersAt, some_is}
use Terms.{is_bind, SaysReply, CallStands, IncludeStands, IsIncluded, IsJoin, IsOrdered, IsRecorded, KnowsKept, StepStands, height, Tests}
use Rattle.arj_law_lock_view.proofs.facts.{GrantAnswers.noted_more, GrantAnswers.noted_new, Kept.Place}
use Rattle.arj_law_lock_view.proofs.records
use records.Kept.{Goes, GrantsStay, RootGoes, asks_goes, goes_same, goes_with, idle_goes, included_on, join_on, root_goes, root_kept}
use records.Kept.{step_on, work_goes}
use records.Moves.{IsMoved, StaysKept, call_moved, keeps_all, lost_moved, recorded_stays}

not_on : {n : At} {e : CallEnd} → On n ≡ Ended e → ⊥
not_on is = cc is

end_is : {e f : CallEnd} → Ended e ≡ Ended f → e ≡ f
end_is is = cc is

at_is : {n m : At} → On n ≡ On m → n ≡ m
at_is is = cc is

pub put_here : (x : ℕ) (k : Keeping) (r : Root) → keeping_of x (with_keeping x k r) ≡ k
put_here x k r = ap (λ o. unwrap_or o no_keeping) (put_number_same x k r.keeping)

pub put_apart : (x y : ℕ) (k : Keeping) (r : Root) → is_eq (nat_cmp y x) ≡ false → keeping_of y (with_keeping x k r) ≡ keeping_of y r
put_apart x y k r apart = ap (λ o. unwrap_or o no_keeping) (put_number_other x y k r.keeping apart)

noted_keeping : (g : Option Grant) (y : ℕ) (r : Root) → keeping_of y (notes_grant g r) ≡ keeping_of y r
noted_keeping None y r = refl
noted_keeping (Some g) y r = refl

noted_same : (g : Option Grant) (r : Root) →
    ((notes_grant g r).said ≡ r.said) × ((notes_grant g r).joined ≡ r.joined) × ((notes_grant g r).states ≡ r.states)
noted_same None r = (refl, refl, refl)
noted_same (Some g) r = (refl, refl, refl)

pub at_root : (root : Uid) (q : Root) (e : Coord) → root_at root (on_root root (λ r. q) e) ≡ q
at_root root q e = ap (λ o. unwrap_or o no_root) (put_number_same root.num q e.roots)

-- what is loaded is of the object
abbrev pub IsOf : ℕ → Reply → Type 0
IsOf x (Reply.Loaded (loaded.State st)) = (let u = st.uid in u.num) ≡ x
IsOf x _ = Unit {0}

module _ (T : Tests) (zero_made : T.made 0 ≡ true) (sent : List Post) (k : ℕ) (c : Coord) (place : Place sent k c)
    (knows : KnowsKept c T sent c) where
  abbrev Good : Coord → Type 0
  Good e = Goes c T sent e

  abbrev its_tree : IsTree (paths_of place.actions)
  its_tree = begun_tree place.actions place.begun

  pub start : Goes c T sent c
  start = record { stays = λ w b is. (b, is, refl); own = λ w. refl; knows = knows }

  -- ---- requests, and ends of calls

  -- an action goes on with a request
  pub steps_on : (s : Steps) (e : Coord) → StepStands T s.goal s.x (top_of s.path) (root_at (root_of s.path) e) s.at → Good e →
      Good (goes_on s e).part
  steps_on s e stands g =
      let f = on_doing (actor s.path) (λ (d : Doing). record d { req = s.req; now = Calling s }) e in
      asks_goes c T sent s.path s.req (next_node s, next_ask (ends_of (root_of s.path) f.tree) s) f
      (work_goes c T sent (actor s.path) (λ (d : Doing). record d { req = s.req; now = Calling s }) e (λ d z found now. let same : s ≡ z =
      step_is now in subst (λ (y : Steps). StepStands T y.goal y.x (top_of y.path) (root_at (root_of y.path) e) y.at) same stands) g)

  -- what is noted of an end
  heard_said : (s : Steps) (h : CallEnd) (r : Root) (z : Said) → list.In z (root_heard s h r).said →
      list.In z r.said ⊎ ((z.x ≡ s.x) × ((a : Answer) × (h ≡ calls.Answered a)))
  heard_said s (calls.Answered a) r z i = by (list_any (same_said (record { path = uids_of s.path; x = s.x })) r.said) i
    where
      in_either : (b : Said) (xs : List Said) → list.In z (xs ++ b ∷ []) → list.In z xs ⊎ (b ≡ z)
      in_either b [] (inl same) = inr same
      in_either b [] (inr j) = absurd j
      in_either b (y ∷ ys) (inl same) = inl (inl same)
      in_either b (y ∷ ys) (inr j) = ⊎_elim (λ old. inl (inr old)) (λ new. inr new) (in_either b ys j)

      by : (b : Bool) → list.In z (cond b r (record r { said = r.said ++ record { path = uids_of s.path; x = s.x } ∷ [] })).said →
          list.In z r.said ⊎ ((z.x ≡ s.x) × ((n : Answer) × (calls.Answered a ≡ calls.Answered n)))
      by true j = inl j
      by false j = ⊎_elim (λ old. inl old) (λ is. inr (ap (λ (v : Said). v.x) (sym is), (a, refl)))
          (in_either (record { path = uids_of s.path; x = s.x }) r.said j)
  heard_said s (calls.Included st) r z i = inl i
  heard_said s (calls.Conflict h m n) r z i = inl i
  heard_said s (calls.Changed n w) r z i = inl i
  heard_said s (calls.Lost n b) r z i = inl i

  heard_joined : (s : Steps) (h : CallEnd) (r : Root) →
      ((root_heard s h r).joined ≡ r.joined) ⊎ ((st : ObjectState) × (h ≡ calls.Included st) ×
      ((root_heard s h r).joined ≡ joined_with (record { path = uids_of s.path; x = s.x; store = store_of s.goal; loaded = st }) r.joined))
  heard_joined s (calls.Answered a) r = inl (by (list_any (same_said (record { path = uids_of s.path; x = s.x })) r.said))
    where
      by : (b : Bool) → (cond b r (record r { said = r.said ++ record { path = uids_of s.path; x = s.x } ∷ [] })).joined ≡ r.joined
      by true = refl
      by false = refl
  heard_joined s (calls.Included st) r = inr (st, refl, refl)
  heard_joined s (calls.Conflict h m n) r = inl refl
  heard_joined s (calls.Changed n w) r = inl refl
  heard_joined s (calls.Lost n b) r = inl refl

  heard_rest : (s : Steps) (h : CallEnd) (r : Root) → ((root_heard s h r).grants ≡ r.grants) × ((root_heard s h r).states ≡ r.states)
  heard_rest s (calls.Answered a) r = by (list_any (same_said (record { path = uids_of s.path; x = s.x })) r.said)
    where
      by : (b : Bool) → ((cond b r (record r { said = r.said ++ record { path = uids_of s.path; x = s.x } ∷ [] })).grants ≡ r.grants)
          × ((cond b r (record r { said = r.said ++ record { path = uids_of s.path; x = s.x } ∷ [] })).states ≡ r.states)
      by true = (refl, refl)
      by false = (refl, refl)
  heard_rest s (calls.Included st) r = (refl, refl)
  heard_rest s (calls.Conflict h m n) r = (refl, refl)
  heard_rest s (calls.Changed n w) r = (refl, refl)
  heard_rest s (calls.Lost n b) r = (refl, refl)

  -- an include that is noted again is one still
  join_in : (r : Root) (j : Joined) (js : List Joined) → IsJoin c T r j → ((i : Joined) → list.In i js → IsJoin c T r i) → (i : Joined) →
      list.In i (joined_with j js) → IsJoin c T r i
  join_in r j [] new all i (inl same) = subst (IsJoin c T r) same new
  join_in r j [] new all i (inr none) = absurd none
  join_in r j (h ∷ hs) new all i there = by (same_join j h) refl there (join_in r j hs new (λ z q. all z (inr q)))
    where
      num : (w : Bool) → h.x ≡ j.x → (cond w j.loaded h.loaded).uid.num ≡ h.x
      num true same = let n = new.loaded in n ∙ sym same
      num false same = let n = all h (inl refl) in n.loaded

      merged : h.x ≡ j.x → IsJoin c T r (record h { loaded = later_state h.loaded j.loaded })
      merged same = let n = all h (inl refl) in record {
        branch = n.branch;
        found = n.found;
        path = n.path;
        grant = n.grant;
        included = n.included;
        loaded = num (nat_lt h.loaded.version j.loaded.version) same;
      }

      by : (b : Bool) → same_join j h ≡ b → list.In i (cond b (record h { loaded = later_state h.loaded j.loaded } ∷ hs)
          (h ∷ joined_with j hs)) → ((z : Joined) → list.In z (joined_with j hs) → IsJoin c T r z) → IsJoin c T r i
      by true is (inl same) ih = subst (IsJoin c T r) same (merged (sym (eqb-true j.x h.x (and_parts (j.x == h.x) (j.store == h.store)
          (and_parts (uid_eq (last_uid j.path) (last_uid h.path)) ((j.x == h.x) && (j.store == h.store)) is).1).0)))
      by true is (inr q) ih = all i (inr q)
      by false is (inl same) ih = subst (IsJoin c T r) same (all h (inl refl))
      by false is (inr q) ih = ih i q

  -- a call or an include ends
  over_goes : (s : Steps) (h : CallEnd) (e : Coord) → IsAsking c.tree (actor s.path) s.path → ((a : Answer) → h ≡ calls.Answered a →
      IsRecorded (kept_of s.x (root_at (root_of s.path) e))) → ((st : ObjectState) → h ≡ calls.Included st → ((g : ℕ) ×
      IsIncluded T s.x (top_of s.path) g (root_at (root_of s.path) e)) × (st.uid.num ≡ s.x)) → Good e → Good (step_call s (Ended h) e).part
  over_goes s h e asking said joined g =
      doomed h (goes_with c T sent mid told refl (root_kept c T sent (root_of s.path) (root_heard s h) mid goes its.knows) its)
    where
      mid : Coord
      mid = on_doing (actor s.path) (λ (d : Doing). record d { now = Idle }) e

      its : Good (on_doing (actor s.path) (λ (d : Doing). record d { now = Idle }) e)
      its = idle_goes c T sent (actor s.path) e g

      told : Coord
      told = on_root (root_of s.path) (root_heard s h) mid

      same : root_at (root_of s.path) mid ≡ root_at (root_of s.path) e
      same = ap (λ rs. unwrap_or (at_number (root_of s.path).num rs) no_root)
          (on_roots (actor s.path) (λ (d : Doing). record d { now = Idle }) e)

      keeps_same : (y : ℕ) → keeping_of y (root_heard s h (root_at (root_of s.path) mid)) ≡ keeping_of y (root_at (root_of s.path) mid)
      keeps_same y = ap (λ m. unwrap_or (at_number y m) no_keeping) (heard_keeping s h (root_at (root_of s.path) mid))

      stay : GrantsStay (root_at (root_of s.path) mid) (root_heard s h (root_at (root_of s.path) mid))
      stay n i = (n, subst (λ gs. list.In n gs) (sym (heard_rest s h (root_at (root_of s.path) mid)).0) i, refl, refl, omega arith)

      at_most : (a b : ℕ) → a ≡ b → a ≤ b
      at_most a b is = omega (arith, is)

      goes : RootGoes c T sent mid (root_of s.path) (root_heard s h (root_at (root_of s.path) mid))
      goes = record {
        keeps = λ y. subst (IsOrdered T y) (sym (keeps_same y)) (its.knows.keeps (root_of s.path) y);
        heights = λ y. at_most _ _ (ap height (sym (keeps_same y)));
        said = λ z i. ⊎_elim
            (λ old. inl (old, λ rec. inr (subst (λ (l : Keeping). IsRecorded l.kept) (sym (keeps_same z.x)) rec)))
            (λ new. inr (subst (λ (l : Keeping). IsRecorded l.kept) (sym (keeps_same z.x)) (subst (λ n. IsRecorded (kept_of n (root_at
            (root_of s.path) mid))) (sym new.0) (subst (λ (r : Root). IsRecorded (kept_of s.x r)) (sym same) (said new.1.0 new.1.1)))))
            (heard_said s h (root_at (root_of s.path) mid) z i);
        joined = λ j i. join_on c T sent (root_at (root_of s.path) mid) (root_heard s h (root_at (root_of s.path) mid)) stay j
            (join_new j i (heard_joined s h (root_at (root_of s.path) mid)));
        states =
            λ y z is. its.knows.states (root_of s.path) y z (sym (ap (at_number y) (heard_rest s h (root_at (root_of s.path) mid)).1) ∙ is);
        steps = λ u d z found now num old. step_on T (root_at (root_of s.path) mid) (root_heard s h (root_at (root_of s.path) mid)) stay
            z.goal z.x (top_of z.path) z.at (subst (λ (l : Keeping). (let q = keeping_of z.x (root_at (root_of s.path) mid) in
            StaysKept q.kept l.kept × (binding_number l.avoid ≡ binding_number q.avoid))) (sym (keeps_same z.x))
            (keeps_all (keeping_of z.x (root_at (root_of s.path) mid)).kept, refl)) old;
      }
        where
          join_new : (j : Joined) → list.In j (root_heard s h (root_at (root_of s.path) mid)).joined →
              ((root_heard s h (root_at (root_of s.path) mid)).joined ≡ (root_at (root_of s.path) mid).joined)
              ⊎ ((st : ObjectState) × (h ≡ calls.Included st) × ((root_heard s h (root_at (root_of s.path) mid)).joined ≡ joined_with
              (record { path = uids_of s.path; x = s.x; store = store_of s.goal; loaded = st }) (root_at (root_of s.path) mid).joined)) →
              IsJoin c T (root_at (root_of s.path) mid) j
          join_new j i (inl is) = its.knows.joined (root_of s.path) j (subst (λ js. list.In j js) is i)
          join_new j i (inr (st, is, all)) = join_in (root_at (root_of s.path) mid)
              (record { path = uids_of s.path; x = s.x; store = store_of s.goal; loaded = st }) (root_at (root_of s.path) mid).joined
              (let w = joined st is in record {
                branch = asking.branch;
                found = asking.found;
                path = ap uids_of asking.path;
                grant = (w.0).0;
                included = subst (λ p. IsIncluded T s.x (top_of p) (w.0).0 (root_at (root_of s.path) mid)) (sym asking.path)
                    (subst (IsIncluded T s.x (top_of s.path) (w.0).0) (sym same) (w.0).1);
                loaded = w.1;
              })
              (λ y q. its.knows.joined (root_of s.path) y q) j (subst (λ js. list.In j js) all i)

      doomed : (f : CallEnd) → Good told → Good (doomed_by (actor s.path) f told)
      doomed (calls.Answered a) q = q
      doomed (calls.Included st) q = q
      doomed (calls.Conflict o m n) q = q
      doomed (calls.Changed n w) q = q
      doomed (calls.Lost n false) q = q
      doomed (calls.Lost n true) q = goes_same c T sent told (doomed_at (actor s.path) told.tree) (doomed_same (actor s.path) told.tree) q

  step_goes : (s : Steps) (n : CallStep) (e : Coord) → IsAsking c.tree (actor s.path) s.path →
      ((at : At) → n ≡ On at → StepStands T s.goal s.x (top_of s.path) (root_at (root_of s.path) e) at) →
      ((a : Answer) → n ≡ Ended (calls.Answered a) → IsRecorded (kept_of s.x (root_at (root_of s.path) e)))
      → ((st : ObjectState) → n ≡ Ended (calls.Included st) → ((g : ℕ) × IsIncluded T s.x (top_of s.path) g (root_at (root_of s.path) e))
      × (st.uid.num ≡ s.x)) → Good e → Good (step_call s n e).part
  step_goes s (On at) e asking on said joined g = steps_on (record s { req = s.req + 1; at = at }) e (on at refl) g
  step_goes s (Ended h) e asking on said joined g =
      over_goes s h e asking (λ a is. said a (ap Ended is)) (λ st is. joined st (ap Ended is)) g

  -- ---- a step of a call or an include

  module _ (s : Steps) (d : Doing) (found : doing_of (actor s.path) c ≡ Some d) (now : d.now ≡ Calling s)
      (asking : IsAsking c.tree (actor s.path) s.path) where
    abbrev R : Root
    R = root_at (root_of s.path) c

    abbrev K : Keeping
    K = keeping_of s.x R

    its_stand : StepStands T s.goal s.x (top_of s.path) R s.at
    its_stand = knows.steps (actor s.path) d s found now

    spent_free : is_free (root_of s.path) (actor s.path) s.x c ≡ true → (z : Said) → list.In z R.said → z.x ≡ s.x → IsSpent c.tree z.path
    spent_free free z i same = let l = loose_of place.actions (paths_of place.actions) its_tree c place.good c.tree (λ w e. e)
        (actor s.path) asking.branch asking.found s.x (ap (λ p. is_free (root_of p) (actor s.path) s.x c) asking.path ∙ free) in
        l.spent z (subst (λ p. list.In z (root_at (root_of p) c).said) (sym asking.path) i) same

    alone_free : is_free (root_of s.path) (actor s.path) s.x c ≡ true → (u : Uid) (e : Doing) (z : Steps) → doing_of u c ≡ Some e →
        e.now ≡ Calling z → z.x ≡ s.x → is_call z.goal ≡ true → (root_of s.path).num ≡ (root_of z.path).num → s ≡ z
    alone_free free u e z at is same call num = ⊎_elim
        (λ own. step_is (sym now ∙ ap (λ (y : Doing). y.now) (some_is (sym found ∙ ap (λ v. doing_of v c) (sym own) ∙ at)) ∙ is))
        (λ other. let l = loose_of place.actions (paths_of place.actions) its_tree c place.good c.tree (λ w e. e) (actor s.path)
        asking.branch asking.found s.x (ap (λ p. is_free (root_of p) (actor s.path) s.x c) asking.path ∙ free) in
        absurd (l.alone u e z other at is same call (sym num ∙ ap (λ p. let w = root_of p in w.num) (sym asking.path))))
        (uid_cases u (actor s.path))

    -- what is put for the object, with what was granted
    module _ (g : Option Grant) (q : Keeping) (ordered : IsOrdered T s.x q) (up : height K ≤ height q)
        (avoids : binding_number q.avoid ≡ binding_number K.avoid)
        (goes_so : StaysKept K.kept q.kept ⊎ ((is_bind s.at ≡ true) × (is_free (root_of s.path) (actor s.path) s.x c ≡ true))) where
      abbrev Q : Root
      Q = with_keeping s.x q (notes_grant g R)

      abbrev t : Coord
      t = on_root (root_of s.path) (λ r. Q) c

      stay : GrantsStay R Q
      stay h i = noted_more g R h i

      here : (y : ℕ) → (s.x ≡ y) ⊎ (keeping_of y Q ≡ keeping_of y R)
      here y =
          ⊎_elim (λ same. inl same) (λ apart. inr (put_apart s.x y q (notes_grant g R) apart.0 ∙ noted_keeping g y R)) (one_or_two s.x y)

      at_x : keeping_of s.x Q ≡ q
      at_x = put_here s.x q (notes_grant g R)

      at_most : (a b : ℕ) → a ≡ b → a ≤ b
      at_most a b is = omega (arith, is)

      steps : (u : Uid) (e : Doing) (z : Steps) → doing_of u c ≡ Some e → e.now ≡ Calling z → (root_of s.path).num ≡ (root_of z.path).num →
          StepStands T z.goal z.x (top_of z.path) R z.at → StepStands T z.goal z.x (top_of z.path) Q z.at
      steps u e z at is num old = ⊎_elim (λ same. by same) (λ apart.
          step_on T R Q stay z.goal z.x (top_of z.path) z.at (subst (λ (l : Keeping). (let o = keeping_of z.x R in StaysKept o.kept l.kept
          × (binding_number l.avoid ≡ binding_number o.avoid))) (sym apart) (keeps_all (keeping_of z.x R).kept, refl)) old) (here z.x)
        where
          kept_on : s.x ≡ z.x → StaysKept K.kept q.kept → StepStands T z.goal z.x (top_of z.path) Q z.at
          kept_on same k = step_on T R Q stay z.goal z.x (top_of z.path) z.at (subst (λ y. (let o = keeping_of y R in
              let l = keeping_of y Q in StaysKept o.kept l.kept × (binding_number l.avoid ≡ binding_number o.avoid))) same (subst
              (λ (l : Keeping). StaysKept K.kept l.kept × (binding_number l.avoid ≡ binding_number K.avoid)) (sym at_x) (k, avoids))) old

          -- at its Bind a call stands on what is avoided alone
          bind_on : (w : At) → is_bind w ≡ true → CallStands T s.x K.kept K.avoid w → CallStands T s.x q.kept q.avoid w
          bind_on (AtBind b) bind stands = stands ∙ sym avoids
          bind_on (AtLoad y n rest) bind stands = absurd (cc bind)
          bind_on (AtActivate y st) bind stands = absurd (cc bind)
          bind_on (AtNote y i) bind stands = absurd (cc bind)
          bind_on (AtInvoke y i) bind stands = absurd (cc bind)

          free_on : s.x ≡ z.x → (is_bind s.at ≡ true) × (is_free (root_of s.path) (actor s.path) s.x c ≡ true) → (o : Goal) → z.goal ≡ o →
              StepStands T o z.x (top_of z.path) R z.at → StepStands T o z.x (top_of z.path) Q z.at
          free_on same free (Run o) goal stands =
              let its : s ≡ z = alone_free free.1 u e z at is (sym same) (ap is_call goal) num in
              let bind : is_bind z.at ≡ true = ap (λ (y : Steps). is_bind y.at) (sym its) ∙ free.0 in
              subst (λ y. (let l = keeping_of y Q in CallStands T y l.kept l.avoid z.at)) same
              (subst (λ (l : Keeping). CallStands T s.x l.kept l.avoid z.at) (sym at_x)
              (bind_on z.at bind (subst (λ y. (let l = keeping_of y R in CallStands T y l.kept l.avoid z.at)) (sym same) stands)))
          free_on same free (Include n) goal stands = include_only z.at stands
            where
              include_only : (w : At) → IncludeStands T z.x (top_of z.path) R w → IncludeStands T z.x (top_of z.path) Q w
              include_only (AtBind b) i = i
              include_only (AtLoad y m rest) i = included_on T R Q stay z.x (top_of z.path) y.grant i
              include_only (AtActivate y st) i = i
              include_only (AtNote y j) i = i
              include_only (AtInvoke y j) i = i

          by : s.x ≡ z.x → StepStands T z.goal z.x (top_of z.path) Q z.at
          by same = ⊎_elim (λ k. kept_on same k) (λ free. free_on same free z.goal refl old) goes_so

      root_so : RootGoes c T sent c (root_of s.path) Q
      root_so = record {
        keeps = λ y. ⊎_elim (λ same. subst (λ n. IsOrdered T n (keeping_of n Q)) same (subst (IsOrdered T s.x) (sym at_x) ordered))
            (λ apart. subst (IsOrdered T y) (sym apart) (knows.keeps (root_of s.path) y)) (here y);
        heights = λ y. ⊎_elim (λ same. subst (λ n. height (keeping_of n R) ≤ height (keeping_of n Q)) same
            (subst (λ (l : Keeping). height K ≤ height l) (sym at_x) up)) (λ apart. at_most _ _ (ap height (sym apart))) (here y);
        said = λ z i. let old = subst (λ ss. list.In z ss) (noted_same g R).0 i in inl (
          old,
          λ rec. ⊎_elim
              (λ same. ⊎_elim
              (λ k. inr (subst (λ n. IsRecorded (kept_of n Q)) same (subst (λ (l : Keeping). IsRecorded l.kept) (sym at_x)
              (recorded_stays K.kept q.kept k (subst (λ n. IsRecorded (kept_of n R)) (sym same) rec)))))
              (λ free. inl (spent_free free.1 z old (sym same))) goes_so)
              (λ apart. inr (subst (λ (l : Keeping). IsRecorded l.kept) (sym apart) rec)) (here z.x),
        );
        joined = λ j i. join_on c T sent R Q stay j (knows.joined (root_of s.path) j (subst (λ js. list.In j js) (noted_same g R).1 i));
        states = λ y z is. knows.states (root_of s.path) y z (sym (ap (at_number y) (noted_same g R).2) ∙ is);
        steps = steps;
      }

      its : root_at (root_of s.path) t ≡ Q
      its = at_root (root_of s.path) Q c

      pub put_goes : (n : CallStep) → ((at : At) → n ≡ On at → StepStands T s.goal s.x (top_of s.path) Q at) →
          ((a : Answer) → n ≡ Ended (calls.Answered a) → IsRecorded q.kept) →
          ((st : ObjectState) → n ≡ Ended (calls.Included st) → ((i : ℕ) × IsIncluded T s.x (top_of s.path) i Q) × (st.uid.num ≡ s.x)) →
          Good (step_call s n (on_root (root_of s.path) (λ r. with_keeping s.x q (notes_grant g (root_at (root_of s.path) c))) c)).part
      put_goes n on said joined =
          step_goes s n t asking (λ at is. subst (λ (r : Root). StepStands T s.goal s.x (top_of s.path) r at) (sym its) (on at is)) (λ a is.
          subst (λ (r : Root). IsRecorded (kept_of s.x r)) (sym its) (subst (λ (l : Keeping). IsRecorded l.kept) (sym at_x) (said a is)))
          (λ st is. subst (λ (r : Root). ((i : ℕ) × IsIncluded T s.x (top_of s.path) i r) × (st.uid.num ≡ s.x)) (sym its) (joined st is))
          (root_goes c T sent (root_of s.path) (λ r. Q) c root_so start)

    -- ---- an answer

    module _ (r : Reply) (fits : AnswersAt s.goal s.at r) (says : SaysReply T (top_of s.path) (next_ask [] s) r) (of : IsOf s.x r) where
      abbrev free : Bool
      free = is_free (root_of s.path) (actor s.path) s.x c

      -- to an include: what naming grants, and what a store loads
      include_step : (n : ℕ) (at : At) (r : Reply) → AnswersAt (Include n) at r → SaysReply T (top_of s.path) (ask_at s.x (Include n) [] at)
          r → IsOf s.x r → (kept : Option Known) → IncludeStands T s.x (top_of s.path) R at
          → ((m : At) → (answered free kept (Include n) at r).step ≡ On m →
          IncludeStands T s.x (top_of s.path) (notes_grant (granted_by (top_of s.path) s.x r) R) m)
          × ((a : Answer) → (answered free kept (Include n) at r).step ≡ Ended (calls.Answered a) → ⊥)
          × ((st : ObjectState) → (answered free kept (Include n) at r).step ≡ Ended (calls.Included st) →
          ((i : ℕ) × IsIncluded T s.x (top_of s.path) i R) × (st.uid.num ≡ s.x))
      include_step n (AtBind b) (Reply.Bound (bound.Live e server i g stores)) fits says of kept stands = absurd fits
      include_step n (AtBind b) (Reply.Bound (bound.Make e server g stores)) fits says of kept stands = absurd fits
      include_step n (AtBind b) (Reply.Bound (bound.Write g stores)) fits says of kept stands = by stores
        where
          new : (h : Grant) × list.In h (notes_grant (Some (record { top = top_of s.path; x = s.x; least = g; named = None })) R).grants
              × (h.x ≡ s.x) × (h.top ≡ top_of s.path) × (h.least ≤ g)
          new = noted_new (Some (record { top = top_of s.path; x = s.x; least = g; named = None }))
              (record { top = top_of s.path; x = s.x; least = g; named = None }) R refl

          by : (ss : List ℕ) → ((m : At) → (or_lost kept (load_from (write_known g stores) ss)).step ≡ On m →
              IncludeStands T s.x (top_of s.path) (notes_grant (granted_by (top_of s.path) s.x (Reply.Bound (bound.Write g stores))) R) m)
              × ((a : Answer) → (or_lost kept (load_from (write_known g stores) ss)).step ≡ Ended (calls.Answered a) → ⊥)
              × ((st : ObjectState) → (or_lost kept (load_from (write_known g stores) ss)).step ≡ Ended (calls.Included st) →
              ((i : ℕ) × IsIncluded T s.x (top_of s.path) i R) × (st.uid.num ≡ s.x))
          by [] = (
            λ m is. absurd (cc is),
            λ a is. (let no_way : calls.Lost 1 false ≡ calls.Answered a = end_is is in cc no_way),
            λ st is. absurd (let no_way : calls.Lost 1 false ≡ calls.Included st = end_is is in cc no_way),
          )
          by (x ∷ xs) = (
            λ m is. subst (IncludeStands T s.x (top_of s.path) (notes_grant (granted_by (top_of s.path) s.x (Reply.Bound (bound.Write g
                stores))) R)) (at_is is) (record { asked = says.0; grant = new.0; there = new.1; object = new.2; of = new.3; low = new.4 }),
            λ a is. not_on is,
            λ st is. absurd (not_on is),
          )
      include_step n (AtBind b) (Reply.Bound (bound.Conflict h m)) fits says of kept stands = (
        λ q is. absurd (cc is),
        λ a is. (let no_way : calls.Conflict h m 1 ≡ calls.Answered a = end_is is in cc no_way),
        λ st is. absurd (let no_way : calls.Conflict h m 1 ≡ calls.Included st = end_is is in cc no_way),
      )
      include_step n (AtLoad z m rest) (Reply.Loaded (loaded.State st)) fits says of kept stands = (
        λ q is. absurd (cc is),
        λ a is. (let no_way : calls.Included st ≡ calls.Answered a = end_is is in cc no_way),
        λ su is. (
          (z.grant, stands),
          (let e : st ≡ su = (let w : calls.Included st ≡ calls.Included su = end_is is in cc) in
              ap (λ (v : ObjectState). v.uid.num) (sym e) ∙ of),
        ),
      )
      include_step n (AtLoad z m rest) (Reply.Loaded (loaded.InDoubt h)) fits says of kept stands =
          (λ q is. absurd (cc is), λ a is. absurd (cc (end_is is)), λ st is. absurd (cc (end_is is)))
      include_step n (AtLoad z m rest) (Reply.Bound q) fits says of kept stands = (
        λ w is. subst (IncludeStands T s.x (top_of s.path) (notes_grant (granted_by (top_of s.path) s.x (Reply.Bound q)) R)) (at_is is)
            (included_on T R (notes_grant (granted_by (top_of s.path) s.x (Reply.Bound q)) R)
            (λ h i. noted_more (granted_by (top_of s.path) s.x (Reply.Bound q)) R h i) s.x (top_of s.path) z.grant stands),
        λ a is. not_on is,
        λ st is. absurd (not_on is),
      )
      include_step n (AtLoad z m rest) (Reply.Activated q) fits says of kept stands =
          (λ w is. subst (IncludeStands T s.x (top_of s.path) R) (at_is is) stands, λ a is. not_on is, λ st is. absurd (not_on is))
      include_step n (AtLoad z m rest) (Reply.Noted q) fits says of kept stands =
          (λ w is. subst (IncludeStands T s.x (top_of s.path) R) (at_is is) stands, λ a is. not_on is, λ st is. absurd (not_on is))
      include_step n (AtLoad z m rest) (Reply.Invoked q) fits says of kept stands =
          (λ w is. subst (IncludeStands T s.x (top_of s.path) R) (at_is is) stands, λ a is. not_on is, λ st is. absurd (not_on is))
      include_step n (AtLoad z m rest) (Reply.Voted q) fits says of kept stands =
          (λ w is. subst (IncludeStands T s.x (top_of s.path) R) (at_is is) stands, λ a is. not_on is, λ st is. absurd (not_on is))
      include_step n (AtLoad z m rest) (Reply.Prepared q) fits says of kept stands =
          (λ w is. subst (IncludeStands T s.x (top_of s.path) R) (at_is is) stands, λ a is. not_on is, λ st is. absurd (not_on is))
      include_step n (AtLoad z m rest) (Reply.Confirmed q) fits says of kept stands =
          (λ w is. subst (IncludeStands T s.x (top_of s.path) R) (at_is is) stands, λ a is. not_on is, λ st is. absurd (not_on is))
      include_step n (AtBind b) (Reply.Loaded q) fits says of kept stands =
          (λ w is. subst (IncludeStands T s.x (top_of s.path) R) (at_is is) stands, λ a is. not_on is, λ st is. absurd (not_on is))
      include_step n (AtBind b) (Reply.Activated q) fits says of kept stands =
          (λ w is. subst (IncludeStands T s.x (top_of s.path) R) (at_is is) stands, λ a is. not_on is, λ st is. absurd (not_on is))
      include_step n (AtBind b) (Reply.Noted q) fits says of kept stands =
          (λ w is. subst (IncludeStands T s.x (top_of s.path) R) (at_is is) stands, λ a is. not_on is, λ st is. absurd (not_on is))
      include_step n (AtBind b) (Reply.Invoked q) fits says of kept stands =
          (λ w is. subst (IncludeStands T s.x (top_of s.path) R) (at_is is) stands, λ a is. not_on is, λ st is. absurd (not_on is))
      include_step n (AtBind b) (Reply.Voted q) fits says of kept stands =
          (λ w is. subst (IncludeStands T s.x (top_of s.path) R) (at_is is) stands, λ a is. not_on is, λ st is. absurd (not_on is))
      include_step n (AtBind b) (Reply.Prepared q) fits says of kept stands =
          (λ w is. subst (IncludeStands T s.x (top_of s.path) R) (at_is is) stands, λ a is. not_on is, λ st is. absurd (not_on is))
      include_step n (AtBind b) (Reply.Confirmed q) fits says of kept stands =
          (λ w is. subst (IncludeStands T s.x (top_of s.path) R) (at_is is) stands, λ a is. not_on is, λ st is. absurd (not_on is))
      include_step n (AtActivate z st) r fits says of kept stands = absurd stands
      include_step n (AtNote z i) r fits says of kept stands = absurd stands
      include_step n (AtInvoke z i) r fits says of kept stands = absurd stands

      pub heard_goes : Good (heard_call s r c).part
      heard_goes = by s.goal refl
        where
          g : Option Grant
          g = granted_by (top_of s.path) s.x r

          by : (o : Goal) → s.goal ≡ o → Good (heard_call s r c).part
          by (Run o) goal = subst (λ z. Good (step_call s (answered free (kept_at s c) z s.at r).step (on_root (root_of s.path)
              (λ q. with_keeping s.x (keeps_after z (has_changed (answered free (kept_at s c) z s.at r).step) (answered free (kept_at s c) z
              s.at r).kept (keeping_of s.x q)) (notes_grant (granted_by (top_of s.path) s.x r) q)) c)).part) (sym goal) call
            where
              stands : CallStands T s.x K.kept K.avoid s.at
              stands = subst (λ z. StepStands T z s.x (top_of s.path) R s.at) goal its_stand

              w : IsMoved T s.x (top_of s.path) o K.kept K.avoid (knows.keeps (root_of s.path) s.x).kept free s.at
                  (answered free (kept_at s c) (Run o) s.at r)
              w = call_moved T s.x (top_of s.path) o K.kept K.avoid (knows.keeps (root_of s.path) s.x).kept free s.at r (subst
                  (λ z. AnswersAt z s.at r) goal fits) (subst (λ z. SaysReply T (top_of s.path) (ask_at s.x z [] s.at) r) goal says) stands

              q : Keeping
              q = keeps_after (Run o) (has_changed (answered free (kept_at s c) (Run o) s.at r).step)
                  (answered free (kept_at s c) (Run o) s.at r).kept K

              call : Good (step_call s (answered free (kept_at s c) (Run o) s.at r).step (on_root (root_of s.path)
                  (λ z. with_keeping s.x (keeps_after (Run o) (has_changed (answered free (kept_at s c) (Run o) s.at r).step) (answered free
                  (kept_at s c) (Run o) s.at r).kept (keeping_of s.x z)) (notes_grant (granted_by (top_of s.path) s.x r) z)) c)).part
              call = put_goes g q (record { avoid = (knows.keeps (root_of s.path) s.x).avoid; kept = w.kept_so }) w.height refl w.stays
                  (answered free (kept_at s c) (Run o) s.at r).step
                  (λ at is. subst (λ z. StepStands T z s.x (top_of s.path) (with_keeping s.x q (notes_grant g R)) at) (sym goal)
                  (subst (λ (l : Keeping). CallStands T s.x l.kept l.avoid at) (sym (put_here s.x q (notes_grant g R))) (w.next at is)))
                  (λ a is. w.ends (calls.Answered a) is)
                  (λ st is. absurd (w.ends (calls.Included st) is))
          by (Include n) goal = subst (λ z. Good (step_call s (answered free (kept_at s c) z s.at r).step (on_root (root_of s.path)
              (λ q. with_keeping s.x (keeps_after z (has_changed (answered free (kept_at s c) z s.at r).step) (answered free (kept_at s c) z
              s.at r).kept (keeping_of s.x q)) (notes_grant (granted_by (top_of s.path) s.x r) q)) c)).part) (sym goal)
              (put_goes g K (knows.keeps (root_of s.path) s.x) (omega arith) refl (inl (keeps_all K.kept))
              (answered free (kept_at s c) (Include n) s.at r).step
              (λ at is. subst (λ z. StepStands T z s.x (top_of s.path) (with_keeping s.x K (notes_grant g R)) at) (sym goal)
              (put_include at (w.0 at is)))
              (λ a is. absurd (w.1 a is))
              (λ st is. let f = w.2 st is in (
                (
                  (f.0).0,
                  included_on T R (with_keeping s.x K (notes_grant g R)) (λ h i. noted_more g R h i) s.x (top_of s.path) (f.0).0 (f.0).1,
                ),
                f.1,
              )))
            where
              w : ((m : At) → (answered free (kept_at s c) (Include n) s.at r).step ≡ On m →
                  IncludeStands T s.x (top_of s.path) (notes_grant (granted_by (top_of s.path) s.x r) R) m)
                  × ((a : Answer) → (answered free (kept_at s c) (Include n) s.at r).step ≡ Ended (calls.Answered a) → ⊥)
                  × ((st : ObjectState) → (answered free (kept_at s c) (Include n) s.at r).step ≡ Ended (calls.Included st) →
                  ((i : ℕ) × IsIncluded T s.x (top_of s.path) i R) × (st.uid.num ≡ s.x))
              w = include_step n s.at r (subst (λ z. AnswersAt z s.at r) goal fits) (subst (λ z. SaysReply T (top_of s.path) (ask_at s.x z
                  [] s.at) r) goal says) of (kept_at s c) (subst (λ z. StepStands T z s.x (top_of s.path) R s.at) goal its_stand)

              put_include : (at : At) → IncludeStands T s.x (top_of s.path) (notes_grant g R) at →
                  IncludeStands T s.x (top_of s.path) (with_keeping s.x K (notes_grant g R)) at
              put_include (AtBind b) i = i
              put_include (AtLoad z m rest) i = included_on T (notes_grant g R) (with_keeping s.x K (notes_grant g R))
                  (λ h j. (h, j, refl, refl, omega arith)) s.x (top_of s.path) z.grant i
              put_include (AtActivate z st) i = i
              put_include (AtNote z j) i = i
              put_include (AtInvoke z j) i = i

    -- a call or an include is given up
    pub lost_goes : Good (give_up_call s c).part
    lost_goes = by s.goal refl
      where
        lost_on : (at : At) (m : At) → given_up at ≡ On m → IncludeStands T s.x (top_of s.path) R at →
            IncludeStands T s.x (top_of s.path) R m
        lost_on (AtBind b) m is i = absurd (cc is)
        lost_on (AtLoad z n []) m is i = absurd (cc is)
        lost_on (AtLoad z n (y ∷ ys)) m is i = subst (IncludeStands T s.x (top_of s.path) R) (at_is is) i
        lost_on (AtActivate z st) m is i = absurd (cc is)
        lost_on (AtNote z j) m is i = absurd (cc is)
        lost_on (AtInvoke z j) m is i = absurd (cc is)

        unanswered : (at : At) (a : Answer) → given_up at ≡ Ended (calls.Answered a) → ⊥
        unanswered (AtBind b) a is = let no_way : calls.Lost 1 false ≡ calls.Answered a = end_is is in cc no_way
        unanswered (AtLoad z n []) a is = let no_way : calls.Lost n false ≡ calls.Answered a = end_is is in cc no_way
        unanswered (AtLoad z n (y ∷ ys)) a is = not_on is
        unanswered (AtActivate z st) a is = let no_way : calls.Lost z.server false ≡ calls.Answered a = end_is is in cc no_way
        unanswered (AtNote z j) a is = let no_way : calls.Lost 1 false ≡ calls.Answered a = end_is is in cc no_way
        unanswered (AtInvoke z j) a is = let no_way : calls.Lost z.server true ≡ calls.Answered a = end_is is in cc no_way

        unincluded : (at : At) (st : ObjectState) → given_up at ≡ Ended (calls.Included st) → ⊥
        unincluded (AtBind b) a is = let no_way : calls.Lost 1 false ≡ calls.Included a = end_is is in cc no_way
        unincluded (AtLoad z n []) a is = let no_way : calls.Lost n false ≡ calls.Included a = end_is is in cc no_way
        unincluded (AtLoad z n (y ∷ ys)) a is = not_on is
        unincluded (AtActivate z st) a is = let no_way : calls.Lost z.server false ≡ calls.Included a = end_is is in cc no_way
        unincluded (AtNote z j) a is = let no_way : calls.Lost 1 false ≡ calls.Included a = end_is is in cc no_way
        unincluded (AtInvoke z j) a is = let no_way : calls.Lost z.server true ≡ calls.Included a = end_is is in cc no_way

        by : (o : Goal) → s.goal ≡ o → Good (give_up_call s c).part
        by (Run o) goal = subst (λ z. Good (step_call s (given_up s.at) (on_root (root_of s.path) (λ q. let k = keeping_of s.x q in
            with_keeping s.x (keeps_after z (is_ended (given_up s.at) && spoils s.at) k.kept k) q) c)).part) (sym goal)
            (put_goes None (keeps_after (Run o) (is_ended (given_up s.at) && spoils s.at) K.kept K)
            (record { avoid = (knows.keeps (root_of s.path) s.x).avoid; kept = (knows.keeps (root_of s.path) s.x).kept }) (omega arith)
            refl (inl (keeps_all K.kept)) (given_up s.at)
            (λ at is. subst (λ z. StepStands T z s.x (top_of s.path) (with_keeping s.x (keeps_after (Run o) (is_ended (given_up s.at)
            && spoils s.at) K.kept K) R) at) (sym goal) (subst (λ (l : Keeping). CallStands T s.x l.kept l.avoid at)
            (sym (put_here s.x (keeps_after (Run o) (is_ended (given_up s.at) && spoils s.at) K.kept K) R))
            (lost_moved T s.x K.kept K.avoid s.at at is (subst (λ z. StepStands T z s.x (top_of s.path) R s.at) goal its_stand))))
            (λ a is. absurd (unanswered s.at a is)) (λ st is. absurd (unincluded s.at st is)))
        by (Include n) goal = subst (λ z. Good (step_call s (given_up s.at) (on_root (root_of s.path) (λ q. let k = keeping_of s.x q in
            with_keeping s.x (keeps_after z (is_ended (given_up s.at) && spoils s.at) k.kept k) q) c)).part) (sym goal)
            (put_goes None K (knows.keeps (root_of s.path) s.x) (omega arith) refl (inl (keeps_all K.kept)) (given_up s.at)
            (λ at is. subst (λ z. StepStands T z s.x (top_of s.path) (with_keeping s.x K R) at) (sym goal)
            (put_include at (lost_on s.at at is (subst (λ z. StepStands T z s.x (top_of s.path) R s.at) goal its_stand))))
            (λ a is. absurd (unanswered s.at a is)) (λ st is. absurd (unincluded s.at st is)))
          where
            put_include : (at : At) → IncludeStands T s.x (top_of s.path) R at →
                IncludeStands T s.x (top_of s.path) (with_keeping s.x K R) at
            put_include (AtBind b) i = i
            put_include (AtLoad z m rest) i =
                included_on T R (with_keeping s.x K R) (λ h j. (h, j, refl, refl, omega arith)) s.x (top_of s.path) z.grant i
            put_include (AtActivate z st) i = i
            put_include (AtNote z j) i = i
            put_include (AtInvoke z j) i = i
