-- The lock of a call stands at a server until the call's action, or one above it, ends.
use Rattle.arj_law_parts.proofs.Words
use Words.{◌≡◌, ◌≢◌, ◌⊎◌, ◌≤◌, ◌+◌, zero, suc, ℕ, List, [], ◌∷◌, length, Bool, true, false, cond, ◌||◌, ◌==◌, nat_lt, Option, Some, None}
use Words.{refl, sym, ◌∙◌, ap, subst, inl, inr, ⊎_elim, arith, is_some, false_from_ne_true, before_last, first_uid, Row, last_uid, front}
use Words.{is_on, first_conflict, uid_eq, object, uid_is, uid_same, uid_cases, on_parts, on_front, Uid, Binding, Path, Head, End, Op}
use Words.{Answer, ObjectState, What, InvokedReply, VotedReply, uids_of, op_mode, mode_code, actor, Copy, taken_copy, end_copy, run_copy}
use Words.{ask_copy, invoke_copy, Served, Did, either, reply, void, did_nothing, at_number, put_number, at_uid, put_uid, binding_number}
use Words.{binding_less, binding_eq, Server, Kept, is_told, has_ended, binding_of, active_binding, took_copy, activate, other_inc}
use Words.{changed_copy, changed_by, end_new, end_one, apply_ends, told, keeps, on_copy, invoke_new, invoke_kept, invoke_now, is_below}
use Words.{invoke, first_unbound, vote_now, vote, put_same as put_number_same, put_other as put_number_other, one_or_two}
use Words.ending
use Words.invoked
use Words.what
use Rattle.arj_law_parts.proofs.Terms.{taken_end, Paths, IsTree, IsLowest, HasLock, Follows, IsGoodServer, IsInTurn, AreInTurn}
use Rattle.arj_law_parts.proofs.parts
use parts.{Begun.on_own, Begun.before_on, Keys.put_same, Pairs.at_each}
use parts.CallLocks.{call_lock, lock_request, lock_abort, lock_commit, lock_passes}
use parts.GoodServers.{good_end_one, heirs_by_tops}
use parts.ServerRuns.{end_binding, one_follows, invoke_follows}
use Rattle.arj_law_parts.specs.parts.Servers.{IsKeptCall}

never : {P : Type 0} (b : Bool) → b ≡ true → b ≡ false → P
never b holds fails = let no_way : true ≡ false = sym holds ∙ fails in cc

-- ---- paths in a tree

pub before_is : (us : List Uid) (a : Uid) → is_on (front us) a ≡ true → before_last us ≡ Some (last_uid (front us))
before_is [] a on = let no_way : false ≡ true = on in cc
before_is (u ∷ []) a on = let no_way : false ≡ true = on in cc
before_is (u ∷ w ∷ []) a on = refl
before_is (u ∷ w ∷ v ∷ us) a on = before_is (w ∷ v ∷ us) w (λ i. uid_same w i || is_on (front (v ∷ us)) w)

module _ (paths : Paths) (tree : IsTree paths) where
  -- who is on a path has the same root, and its own path is part of this one
  pub record IsAbove (us : List Uid) (h : Uid) : Type 0 where
    pub root : first_uid (paths h) ≡ first_uid us
    pub part : (w : Uid) → is_on (paths h) w ≡ true → is_on us w ≡ true

  pub above : (k : ℕ) (us : List Uid) → length us ≤ k → us ≡ paths (last_uid us) → (h : Uid) → is_on us h ≡ true → IsAbove us h
  above zero [] short own h on = let no_way : false ≡ true = on in cc
  above zero (u ∷ us) short own h on = absurd (omega (arith, short))
  above (suc k) us short own h on = ⊎_elim last (deeper (λ le mine up. above k (front us) le mine h up)) (on_parts us h on)
    where
      last : uid_eq (last_uid us) h ≡ true → IsAbove us h
      last same = let is : paths h ≡ us = ap paths (sym (uid_is (last_uid us) h same)) ∙ sym own in
          record { root = ap first_uid is; part = λ w o. ap (λ vs. is_on vs w) (sym is) ∙ o }

      deeper : (length (front us) ≤ k → front us ≡ paths (last_uid (front us)) → is_on (front us) h ≡ true → IsAbove (front us) h) →
          is_on (front us) h ≡ true → IsAbove us h
      deeper rest up =
          let parent = before_is us h up in
          let t = tree.heir (last_uid us) (last_uid (front us)) (ap before_last (sym own) ∙ parent) in
          let mine : front us ≡ paths (last_uid (front us)) = ap front own ∙ t.0 in
          let ih = rest (shorter us h up short) mine up in
          record { root = ih.root ∙ front_first us h up; part = λ w o. on_front us w (ih.part w o) }
        where
          shorter : (vs : List Uid) (a : Uid) → is_on (front vs) a ≡ true → length vs ≤ suc k → length (front vs) ≤ k
          shorter vs a o le = omega (arith, front_length vs a o, le)
            where
              front_length : (xs : List Uid) (b : Uid) → is_on (front xs) b ≡ true → length (front xs) + 1 ≡ length xs
              front_length [] b p = let no_way : false ≡ true = p in cc
              front_length (x ∷ []) b p = let no_way : false ≡ true = p in cc
              front_length (x ∷ y ∷ []) b p = refl
              front_length (x ∷ y ∷ z ∷ xs) b p = omega (arith, front_length (y ∷ z ∷ xs) y (here y xs z))
                where
                  here : (c : Uid) (ds : List Uid) (e : Uid) → is_on (front (c ∷ e ∷ ds)) c ≡ true
                  here c ds e = λ i. uid_same c i || is_on (front (e ∷ ds)) c

          front_first : (vs : List Uid) (a : Uid) → is_on (front vs) a ≡ true → first_uid (front vs) ≡ first_uid vs
          front_first [] a o = refl
          front_first (x ∷ []) a o = let no_way : false ≡ true = o in cc
          front_first (x ∷ y ∷ vs) a o = refl

  -- an action without a parent is its own root
  own_root : (us : List Uid) → before_last us ≡ None → first_uid us ≡ last_uid us
  own_root [] none = refl
  own_root (u ∷ []) none = refl
  own_root (u ∷ w ∷ []) none = let no_way : ◌≡◌ {A = Option Uid} (Some u) None = none in cc
  own_root (u ∷ w ∷ v ∷ us) none = let no_way : ◌≡◌ {A = Option Uid} (Some (last_uid (front (u ∷ w ∷ v ∷ us)))) None = sym
      (before_is (u ∷ w ∷ v ∷ us) u (λ i. uid_same u i || is_on (front (w ∷ v ∷ us)) u)) ∙ none in cc

-- ---- bindings

not_below : (b c d : Binding) → binding_less d c ≡ false → binding_less c b ≡ false → binding_less d b ≡ false
not_below b c d up also = number (binding_number b) (binding_number c) (binding_number d) also up
  where
    number : (i j k : ℕ) → nat_lt j i ≡ false → nat_lt k j ≡ false → nat_lt k i ≡ false
    number i j k p q = grind (arith, p, q)

module _ (path : List Uid) (x : ℕ) (b : Binding) (k : ℕ) where
  abbrev pub Is : Server → Type 0
  Is s = IsKeptCall path x b k s

  -- the binding is reached still
  still : (s t : Server) → Follows s t → Is s → binding_less (active_binding x t) b ≡ false
  still s t f call = not_below b (active_binding x s) (active_binding x t) (f.bindings x) call.reached

  -- ---- activate

  pub call_activate : (n : ℕ) (p : Path) (a : Binding) (st : ObjectState) (s : Server) → Is s → Is (activate n p a st s).part
  call_activate n p a st s call =
      by (has_ended p s) (binding_less a (active_binding st.uid.num s)) (binding_eq a (active_binding st.uid.num s)) refl refl
    where
      new : binding_less a (active_binding st.uid.num s) ≡ false → binding_eq a (active_binding st.uid.num s) ≡ false →
          Is (took_copy n st.uid.num a st s).part
      new up other = record {
        reached = ⊎_elim (λ one. ap (λ o. binding_less (binding_of o) b) (at_new one) ∙ (above_b one).1) (λ apart. ap (λ o. binding_less
            (binding_of o) b) (put_number_other st.uid.num x (taken_copy a st) s.objects apart.0) ∙ call.reached) (one_or_two st.uid.num x);
        holds = λ c there same unaborted open_is. ⊎_elim (λ one. never (binding_eq b c.binding) same (risen c one there))
            (λ apart. call.holds c (sym (put_number_other st.uid.num x (taken_copy a st) s.objects apart.0) ∙ there) same unaborted open_is)
            (one_or_two st.uid.num x);
      }
        where
          higher : (i j l : ℕ) → nat_lt i j ≡ false → (i == j) ≡ false → nat_lt j l ≡ false → ((l == i) ≡ false) × (nat_lt i l ≡ false)
          higher i j l p q r = (grind (arith, p, q, r), grind (arith, p, q, r))

          above_b : st.uid.num ≡ x → (binding_eq b a ≡ false) × (binding_less a b ≡ false)
          above_b one = higher (binding_number a) (binding_number (active_binding x s)) (binding_number b) (ap (λ j. binding_less a
              (active_binding j s)) (sym one) ∙ up) (ap (λ j. binding_eq a (active_binding j s)) (sym one) ∙ other) call.reached

          at_new : st.uid.num ≡ x → at_number x (put_number st.uid.num (taken_copy a st) s.objects) ≡ Some (taken_copy a st)
          at_new one = ap (λ j. at_number j (put_number st.uid.num (taken_copy a st) s.objects)) (sym one)
              ∙ put_number_same st.uid.num (taken_copy a st) s.objects

          risen : (c : Copy) → st.uid.num ≡ x → at_number x (put_number st.uid.num (taken_copy a st) s.objects) ≡ Some c →
              binding_eq b c.binding ≡ false
          risen c one there =
              let e : ◌≡◌ {A = Option Copy} (Some (taken_copy a st)) (Some c) = sym (at_new one) ∙ there in
              let is : taken_copy a st ≡ c = cc in
              ap (λ (d : Copy). binding_eq b d.binding) (sym is) ∙ (above_b one).0

      by : (over lower equal : Bool) → binding_less a (active_binding st.uid.num s) ≡ lower → binding_eq a (active_binding st.uid.num s) ≡
          equal → Is (cond {A = Served Server ℕ} (over || lower) (void s) (cond equal (reply s s.inc) (took_copy n st.uid.num a st s))).part
      by true lower equal up other = call
      by false true equal up other = call
      by false false true up other = call
      by false false false up other = new up other

module _ (paths : Paths) (tree : IsTree paths) (path : List Uid) (own : path ≡ paths (last_uid path)) (x : ℕ) (b : Binding) (k : ℕ) where
  abbrev Kept_call : Server → Type 0
  Kept_call s = IsKeptCall path x b k s

  -- ---- ends

  call_end_new : (n : ℕ) (w : Uid) (e : End) (s : Server) → is_told w s ≡ false →
      (e ≡ ending.Commit → (y : ℕ) (c : Copy) → at_number y s.objects ≡ Some c → IsLowest w c.rows) → IsGoodServer paths s →
      Follows s (end_new n w e s).part → Kept_call s → Kept_call (end_new n w e s).part
  call_end_new n w e s fresh lowest good f call = record {
    reached = still path x b k s (end_new n w e s).part f call;
    holds = λ d there same unaborted open_is.
        let g = at_each (λ y. end_copy w e) x s.objects d there in
        let before = call.holds g.0 g.1 (ap (binding_eq b) (sym (end_binding w e g.0)) ∙ ap (λ (c : Copy). binding_eq b c.binding) (sym g.2)
        ∙ same) (λ u on was. unaborted u on (f.ends u ending.Abort was)) (false_from_ne_true (is_told (first_uid path) s)
        (λ was. never (is_told (first_uid path) (end_new n w e s).part) (told_after (first_uid path) was) open_is)) in
        let after = on_end e refl g.0 g.1 unaborted open_is before.0 before.1 before.2 in
        (after.0, after.1, subst (λ (c : Copy). HasLock after.0 k c.rows) (sym g.2) after.2);
  }
    where
      told_after : (u : Uid) → is_told u s ≡ true → is_told u (end_new n w e s).part ≡ true
      told_after u was = by (at_uid u s.ends) refl was
        where
          by : (o : Option End) → at_uid u s.ends ≡ o → is_some o ≡ true → is_told u (end_new n w e s).part ≡ true
          by None is h = let no_way : false ≡ true = h in cc
          by (Some d) is h = ap is_some (f.ends u d is)

      its : is_told w (end_new n w e s).part ≡ true
      its = ap is_some (put_same w e s.ends)

      on_end : (e' : End) → e ≡ e' → (c : Copy) → at_number x s.objects ≡ Some c → ((u : Uid) → is_on path u ≡ true →
          at_uid u (put_uid w e s.ends) ≢ Some ending.Abort) → is_told (first_uid path) (end_new n w e s).part ≡ false
          → (h : Uid) → is_on path h ≡ true → HasLock h k c.rows → (g : Uid) × (is_on path g ≡ true) × HasLock g k (end_copy w e c).rows
      on_end ending.Abort is c there unaborted open_is h on lock = (
        h,
        on,
        subst (λ (d : End). HasLock h k (end_copy w d c).rows) (sym is) (lock_abort paths x c (good.copies x c there) h w k off lock),
      )
        where
          up : IsAbove paths tree path h
          up = above paths tree (length path) path (omega arith) own h on

          off : is_on (paths h) w ≡ false
          off = false_from_ne_true (is_on (paths h) w) (λ it. absurd (unaborted w (up.part w it) (put_same w e s.ends ∙ ap Some is)))
      on_end ending.Commit is c there unaborted open_is h on lock = ⊎_elim mine (λ other.
          (h, on, subst (λ (d : End). HasLock h k (end_copy w d c).rows) (sym is) (lock_commit c h w k other lock))) (uid_cases h w)
        where
          up : IsAbove paths tree path h
          up = above paths tree (length path) path (omega arith) own h on

          mine : h ≡ w → (g : Uid) × (is_on path g ≡ true) × HasLock g k (end_copy w e c).rows
          mine same = parent (before_last (paths h)) refl
            where
              last_is : last_uid (paths h) ≡ h
              last_is = let q = good.copies x c there in ap last_uid (ap paths (sym lock.2) ∙ sym (q.holders lock.0 lock.1)) ∙ lock.2

              parent : (o : Option Uid) → before_last (paths h) ≡ o → (g : Uid) × (is_on path g ≡ true) × HasLock g k (end_copy w e c).rows
              parent None none = never (is_told (first_uid path) (end_new n w e s).part) (subst (λ u. is_told u (end_new n w e s).part
                  ≡ true) (sym (sym up.root ∙ own_root paths tree (paths h) none ∙ last_is ∙ same)) its) open_is
              parent (Some heir) is_parent = (
                heir,
                up.part heir (before_on (paths h) heir is_parent),
                subst (λ (d : End). HasLock heir k (end_copy w d c).rows) (sym is) (subst (λ v. HasLock heir k
                    (end_copy v ending.Commit c).rows) same (lock_passes paths tree x c (good.copies x c there) h heir k (subst (λ v.
                    IsLowest v c.rows) (sym same) (lowest is x c there)) (heirs_by_tops h c (λ o. good.tops x c o there)) is_parent lock)),
              )

  call_end_one : (n : ℕ) (w : Uid) (e : End) (s : Server) → IsInTurn w e s → IsGoodServer paths s → Kept_call s →
      Kept_call (end_one n w e s).part
  call_end_one n w e s turn good call = by (is_told w s) refl (one_follows n w e s)
    where
      by : (c : Bool) → is_told w s ≡ c → Follows s (cond {A = Did Server} c (did_nothing s) (end_new n w (taken_end w e s) s)).part →
          Kept_call (cond {A = Did Server} c (did_nothing s) (end_new n w (taken_end w e s) s)).part
      by true is f = call
      by false is f = call_end_new n w (taken_end w e s) s is (turn is) good f call

  pub call_told : (n : ℕ) (es : List (Uid × End)) (s : Server) → AreInTurn n es s → IsGoodServer paths s → Kept_call s →
      Kept_call (told n es s).part
  call_told n [] s turn good call = call
  call_told n (e ∷ es) s turn good call = let d = end_one n e.0 e.1 s in
      call_told n es d.part turn.1 (good_end_one paths tree n e.0 e.1 s turn.0 good) (call_end_one n e.0 e.1 s turn.0 good call)

  -- ---- invoke

  -- other parts of a server don't matter
  same_objects : (s t : Server) → t.objects ≡ s.objects → t.ends ≡ s.ends → Kept_call s → Kept_call t
  same_objects s t objects ends call = record {
    reached = ap (λ m. binding_less (binding_of (at_number x m)) b) objects ∙ call.reached;
    holds = λ c there same unaborted open_is. call.holds c (ap (at_number x) (sym objects) ∙ there) same
        (λ u on was. unaborted u on (ap (at_uid u) ends ∙ was)) (ap (λ m. is_some (at_uid (first_uid path) m)) (sym ends) ∙ open_is);
  }

  call_keeps : (act : Uid) (req : ℕ) (a : Option InvokedReply) (s : Server) → Kept_call s → Kept_call (keeps act req a s)
  call_keeps act req None s call = call
  call_keeps act req (Some a) s call = same_objects s (keeps act req (Some a) s) refl refl call

  -- a copy put whose binding is the same, and whose locks stand
  call_put : (y : ℕ) (c d : Copy) (s : Server) → at_number y s.objects ≡ Some c → d.binding ≡ c.binding →
      ((u : Uid) → HasLock u k c.rows → HasLock u k d.rows) → Kept_call s → Kept_call (record s { objects = put_number y d s.objects })
  call_put y c d s there same_is stands call = record {
    reached = ⊎_elim (λ one. ap (λ o. binding_less (binding_of o) b) (at_new one)
        ∙ ap (λ e. binding_less e b) (same_is ∙ sym (ap binding_of (was one))) ∙ call.reached)
        (λ apart. ap (λ o. binding_less (binding_of o) b) (put_number_other y x d s.objects apart.0) ∙ call.reached) (one_or_two y x);
    holds = λ e is same unaborted open_is. ⊎_elim (λ one.
        let q : ◌≡◌ {A = Option Copy} (Some d) (Some e) = sym (at_new one) ∙ is in
        let d_is : d ≡ e = cc in
        let old = call.holds c (was one) (ap (binding_eq b) (sym same_is) ∙ ap (λ (f : Copy). binding_eq b f.binding) d_is ∙ same) unaborted
        open_is in
        (old.0, old.1, subst (λ (f : Copy). HasLock old.0 k f.rows) d_is (stands old.0 old.2)))
        (λ apart. call.holds e (sym (put_number_other y x d s.objects apart.0) ∙ is) same unaborted open_is) (one_or_two y x);
  }
    where
      at_new : y ≡ x → at_number x (put_number y d s.objects) ≡ Some d
      at_new one = ap (λ j. at_number j (put_number y d s.objects)) (sym one) ∙ put_number_same y d s.objects

      was : y ≡ x → at_number x s.objects ≡ Some c
      was one = ap (λ j. at_number j s.objects) (sym one) ∙ there

  call_on_copy : (n : ℕ) (p : Path) (y : ℕ) (o : Op) (s : Server) (f : Option Copy) → at_number y s.objects ≡ f → Kept_call s →
      Kept_call (on_copy y (invoke_copy n p y o) s f).part
  call_on_copy n p y o s None there call = call
  call_on_copy n p y o s (Some c) there call = by (first_conflict (uids_of p) (object y) (op_mode o) c.rows)
    where
      by : (r : Option Row) → Kept_call (record s { objects = put_number y (ask_copy n p y o c r).part s.objects })
      by None = call_put y c (run_copy n p y o c).part s there refl (λ u lock. lock_request n p y o c u k lock) call
      by (Some r) = call_put y c c s there refl (λ u lock. lock) call

  pub call_invoke : (n : ℕ) (h : Head) (y : ℕ) (a : Binding) (i : ℕ) (ends : List (Uid × End)) (o : Op) (s : Server) → AreInTurn n ends s →
      IsGoodServer paths s → Kept_call s → Kept_call (invoke n h y a i ends o s).part
  call_invoke n h y a i ends o s turn good call = by (has_ended h.path s || is_below h.req (at_uid (actor h.path) s.kept))
    where
      new : Kept_call (invoke_new n h y ends o s).part
      new =
          let d = apply_ends n ends s in
          let t = d.part in
          let r = on_copy y (invoke_copy n h.path y o) t (at_number y t.objects) in
          call_keeps (actor h.path) h.req r.reply r.part
          (call_on_copy n h.path y o t (at_number y t.objects) refl (call_told n ends s turn good call))

      kept : (f : Option Kept) → Kept_call (invoke_kept n h y ends o s f).part
      kept None = new
      kept (Some f) = one (f.req == h.req)
        where
          one : (c : Bool) → Kept_call (cond {A = Served Server InvokedReply} c (reply s f.answer) (invoke_new n h y ends o s)).part
          one true = call
          one false = new

      now : (w : Option What) → Kept_call (invoke_now n h y ends o s w).part
      now (Some w) = call
      now None = kept (at_uid (actor h.path) s.kept)

      by : (c : Bool) → Kept_call (cond {A = Served Server InvokedReply} c (void s) (invoke_now n h y ends o s (changed_by i y a s))).part
      by true = call
      by false = now (changed_by i y a s)

  -- ---- vote

  pub call_vote : (n : ℕ) (p : Path) (i : ℕ) (ties : List (ℕ × Binding)) (ends : List (Uid × End)) (s : Server) → AreInTurn n ends s →
      IsGoodServer paths s → Kept_call s → Kept_call (vote n p i ties ends s).part
  call_vote n p i ties ends s turn good call = by (has_ended p s)
    where
      yes : (w : Option What) → Kept_call (vote_now n (actor p) ends s w).part
      yes (Some w) = call
      yes None = let d = apply_ends n ends s in same_objects d.part _ refl refl (call_told n ends s turn good call)

      by : (c : Bool) → Kept_call (cond {A = Served Server VotedReply} c (void s)
          (vote_now n (actor p) ends s (either (other_inc i s.inc) (first_unbound ties s)))).part
      by true = call
      by false = yes (either (other_inc i s.inc) (first_unbound ties s))

-- ---- a call that runs

-- an answered request was answered again, or its call has run and is kept
pub call_ran : (n : ℕ) (h : Head) (x : ℕ) (b : Binding) (i : ℕ) (ends : List (Uid × End)) (o : Op) (s : Server) (a : Answer) →
    (invoke n h x b i ends o s).reply ≡ Some (invoked.Answered a)
    → ((invoke n h x b i ends o s).part ≡ s) ⊎ IsKeptCall (uids_of h.path) x b (mode_code (op_mode o)) (invoke n h x b i ends o s).part
call_ran n h x b i ends o s a is =
    by (has_ended h.path s) (is_below h.req (at_uid (actor h.path) s.kept)) (invoke_follows n h x b i ends o s) is
  where
    Ran : Served Server InvokedReply → Type 0
    Ran r = Follows s r.part → r.reply ≡ Some (invoked.Answered a) →
        (r.part ≡ s) ⊎ IsKeptCall (uids_of h.path) x b (mode_code (op_mode o)) r.part

    new : binding_less (active_binding x s) b ≡ false → Ran (invoke_new n h x ends o s)
    new reached f said = inr (one (at_number x t.objects) refl f said)
      where
        t : Server
        t = let d = apply_ends n ends s in d.part

        Kept_in : Option Copy → Type 0
        Kept_in q = let r = on_copy x (invoke_copy n h.path x o) t q in Follows s (keeps (actor h.path) h.req r.reply r.part) → r.reply ≡
            Some (invoked.Answered a) → IsKeptCall (uids_of h.path) x b (mode_code (op_mode o)) (keeps (actor h.path) h.req r.reply r.part)

        one : (q : Option Copy) → at_number x t.objects ≡ q → Kept_in q
        one None there g e = cc
        one (Some c) there g e = two (first_conflict (uids_of h.path) (object x) (op_mode o) c.rows) g e
          where
            Asked : Option Row → Type 0
            Asked r = let v : Served Copy InvokedReply = ask_copy n h.path x o c r in Follows s (keeps (actor h.path) h.req v.reply
                (record t { objects = put_number x v.part t.objects })) → v.reply ≡ Some (invoked.Answered a)
                → IsKeptCall (uids_of h.path) x b (mode_code (op_mode o))
                (keeps (actor h.path) h.req v.reply (record t { objects = put_number x v.part t.objects }))

            two : (r : Option Row) → Asked r
            two (Some r) g' e' = cc
            two None g' e' = record {
              reached = not_below b (active_binding x s) _ (g'.bindings x) reached;
              holds = λ d is same unaborted open_is.
                  let q : ◌≡◌ {A = Option Copy} (Some (run_copy n h.path x o c).part) (Some d) = sym
                  (put_number_same x (run_copy n h.path x o c).part t.objects) ∙ is in
                  let d_is : (run_copy n h.path x o c).part ≡ d = cc in (
                    actor h.path,
                    on_own h.path,
                    subst (λ (v : Copy). HasLock (actor h.path) (mode_code (op_mode o)) v.rows) d_is (call_lock n h.path x o c),
                  );
            }

    now : (w : Option What) → changed_by i x b s ≡ w → Ran (invoke_now n h x ends o s w)
    now (Some w) is f e = cc
    now None is f e = kept (at_uid (actor h.path) s.kept) f e
      where
        first : (p q : Option What) → either p q ≡ None → q ≡ None
        first None q e' = e'
        first (Some p) q e' = cc

        bound : (q : Option Copy) → at_number x s.objects ≡ q → changed_copy b q ≡ None → binding_less (active_binding x s) b ≡ false
        bound None there e' = cc
        bound (Some c) there e' = two (binding_eq b c.binding) refl e'
          where
            number : (l m : ℕ) → (l == m) ≡ true → nat_lt m l ≡ false
            number l m p = grind (arith, p)

            two : (y : Bool) → binding_eq b c.binding ≡ y → cond {A = Option What} y None (Some (what.Bind b c.binding)) ≡ None →
                binding_less (active_binding x s) b ≡ false
            two true same d = ap (λ q. binding_less (binding_of q) b) there ∙ number (binding_number b) (binding_number c.binding) same
            two false same d = cc

        reached : binding_less (active_binding x s) b ≡ false
        reached = bound (at_number x s.objects) refl (first (other_inc i s.inc) (changed_copy b (at_number x s.objects)) is)

        kept : (q : Option Kept) → Ran (invoke_kept n h x ends o s q)
        kept None f' e' = new reached f' e'
        kept (Some q) f' e' = same (q.req == h.req) f' e'
          where
            same : (c : Bool) → Ran (cond {A = Served Server InvokedReply} c (reply s q.answer) (invoke_new n h x ends o s))
            same true g d = inl refl
            same false g d = new reached g d

    by : (over below : Bool) →
        Ran (cond {A = Served Server InvokedReply} (over || below) (void s) (invoke_now n h x ends o s (changed_by i x b s)))
    by true below f e = cc
    by false true f e = cc
    by false false f e = now (changed_by i x b s) refl f e
