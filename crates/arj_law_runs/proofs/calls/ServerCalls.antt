-- A server goes on from call to call: what it wrote comes from calls that it ran and never refuses.
use Rattle.arj_law_parts.proofs.Words
use Words.{◌≡◌, ◌⊎◌, ◌<◌, ◌==◌, ◌||◌, ℕ, List, [], ◌∷◌, ◌++◌, Bool, true, false, cond, Option, Some, None, refl, sym, ◌∙◌, ap, subst, inl}
use Words.{inr, ⊎_elim, arith, nat_lt, eqb-true, filter, is_some, not, min, length, uid_cases, uid_is, in_filter, Uid, Binding, Path, Head}
use Words.{End, Op, Value, Asked, ObjectState, What, InvokedReply, VotedReply, front, last_uid, is_on, uid_eq, actor, asked_by, Copy, Over}
use Words.{taken_copy, end_copy, overs_committed, over_of, is_of, is_top_over, settled, folded, written, invoke_copy, Served, Did, either}
use Words.{reply, void, did_nothing, at_number, put_number, at_uid, put_uid, binding_number, binding_less, binding_eq, Server, Kept}
use Words.{is_told, has_ended, binding_of, active_binding, took_copy, activate, other_inc, changed_by, end_new, end_one, apply_ends, keeps}
use Words.{on_copy, invoke_new, invoke_kept, invoke_now, is_below, invoke, first_unbound, vote_now, vote, put_same as put_number_same}
use Words.{put_other as put_number_other, one_or_two, Post}
use Words.list
use Words.ending
use Rattle.arj_law_runs.proofs.Terms
use Terms.{taken_end, kept_after, put_same, each_at, end_binding, Call, IsSaidToCommit, is_refusal, AreFromCalls, HasDone, HasReached}
use Terms.{IsPast, IsSource}
use Rattle.arj_law_parts.proofs.parts
use parts.{InTurn.told_stays, Keys.put_other, Keys.without_other, Pairs.at_each}
use parts.ServerRuns.{activate_follows, one_follows, invoke_follows}
use Rattle.arj_law_parts.specs.parts.Servers.{Follows}

pub never : {P : Type 0} {b : Bool} → b ≡ true → b ≡ false → P
never holds fails = let no_way : true ≡ false = sym holds ∙ fails in cc

pub some_is : {A : Type 0} {a b : A} → Some a ≡ Some b → a ≡ b
some_is {A} {a} {b} is = let k : ◌≡◌ {A = Option A} (Some a) (Some b) = is in cc

-- ---- from one server to the next

-- One server after another: no binding falls and no copy goes; and the answer that it keeps of an action is the same, or to a later
-- request, or the action's end was told.
pub record GoesOn (s t : Server) : Type 0 where
  pub follows : Follows s t
  pub kept : (u : Uid) (k : Kept) → at_uid u s.kept ≡ Some k →
      (is_told u t ≡ true) ⊎ ((q : Kept) × (at_uid u t.kept ≡ Some q) × ((q ≡ k) ⊎ (k.req < q.req)))
  pub there : (x : ℕ) (c : Copy) → at_number x s.objects ≡ Some c → (q : Copy) × (at_number x t.objects ≡ Some q)

pub done_on : (s t : Server) → GoesOn s t → (f : Bool) (a : Asked) → HasDone f a s → HasDone f a t
done_on s t g f a (inl over) = inl (told_stays s t g.follows a.act over)
done_on s t g f a (inr (k, found, its)) = ⊎_elim (λ over. inl over) (λ q. inr (q.0, q.1, by q.0 q.2 its)) (g.kept a.act k found)
  where
    by : (q : Kept) → (q ≡ k) ⊎ (k.req < q.req) → (a.req < k.req) ⊎ ((k.req ≡ a.req) × (is_refusal k.answer ≡ f)) →
        (a.req < q.req) ⊎ ((q.req ≡ a.req) × (is_refusal q.answer ≡ f))
    by q (inl same) its = subst (λ (z : Kept). (a.req < z.req) ⊎ ((z.req ≡ a.req) × (is_refusal z.answer ≡ f))) (sym same) its
    by q (inr more) (inl less) = inl (omega (arith, more, less))
    by q (inr more) (inr same) = inl (omega (arith, more, same.0))

lower : (i j k : ℕ) → nat_lt j i ≡ false → nat_lt k i ≡ true → nat_lt k j ≡ true
lower i j k p q = grind (arith, p, q)

not_lower : (i j k : ℕ) → nat_lt j i ≡ false → nat_lt i k ≡ false → nat_lt j k ≡ false
not_lower i j k p q = grind (arith, p, q)

pub past_on : (s t : Server) → GoesOn s t → (c : Call) → IsPast c s → IsPast c t
past_on s t g c (inl done) = inl (done_on s t g true (asked_by c.head) done)
past_on s t g c (inr less) = let f = g.follows in inr
    (lower (binding_number (active_binding c.x s)) (binding_number (active_binding c.x t)) (binding_number c.binding) (f.bindings c.x) less)

-- a copy is there still, under no lower binding
pub copy_on : (s t : Server) → GoesOn s t → (x n : ℕ) (c : Copy) → at_number x s.objects ≡ Some c → nat_lt (binding_number c.binding) n
    ≡ false → (q : Copy) × (at_number x t.objects ≡ Some q) × (nat_lt (binding_number q.binding) n ≡ false)
copy_on s t g x n c at low =
    let q = g.there x c at in
    let f = g.follows in (
      q.0,
      q.1,
      not_lower (binding_number c.binding) (binding_number (let z = q.0 in z.binding)) n
          ((λ i. binding_less (binding_of (sym q.1 i)) (binding_of (sym at i))) ∙ f.bindings x) low,
    )

pub itself : (s : Server) → GoesOn s s
itself s = record { follows = told_itself; kept = λ u k found. inr (k, found, inl refl); there = λ x c at. (c, at) }
  where
    not_less : (n : ℕ) → nat_lt n n ≡ false
    not_less n = grind arith

    told_itself : Follows s s
    told_itself =
        record { same = refl; bindings = λ x. not_less (binding_number (active_binding x s)); ends = λ u e is. is; run = λ u req h. h }

pub then_on : (s t v : Server) → GoesOn s t → GoesOn t v → GoesOn s v
then_on s t v a b = record {
  follows = record {
    same = b.follows.same ∙ a.follows.same;
    bindings = λ x. not_lower (binding_number (active_binding x t)) (binding_number (active_binding x v))
        (binding_number (active_binding x s)) (b.follows.bindings x) (a.follows.bindings x);
    ends = λ u e is. b.follows.ends u e (a.follows.ends u e is);
    run = λ u req h. b.follows.run u req (a.follows.run u req h);
  };
  kept = λ u k found. ⊎_elim (λ over. inl (told_stays t v b.follows u over))
      (λ q. ⊎_elim (λ over. inl over) (λ w. inr (w.0, w.1, more k q.0 w.0 q.2 w.2)) (b.kept u q.0 q.1)) (a.kept u k found);
  there = λ x c at. let q = a.there x c at in b.there x q.0 q.1;
}
  where
    more : (k q w : Kept) → (q ≡ k) ⊎ (k.req < q.req) → (w ≡ q) ⊎ (q.req < w.req) → (w ≡ k) ⊎ (k.req < w.req)
    more k q w (inl a) (inl b) = inl (b ∙ a)
    more k q w (inl a) (inr b) = inr (subst (λ (z : Kept). z.req < w.req) a b)
    more k q w (inr a) (inl b) = inr (subst (λ (z : Kept). k.req < z.req) (sym b) a)
    more k q w (inr a) (inr b) = inr (omega (arith, a, b))

-- ---- sources

module _ (sent : List Post) (n : ℕ) where
  pub source_on : (s t : Server) → GoesOn s t → (x : ℕ) (b : Binding) (us : List Uid) → IsSource sent n s x b us → IsSource sent n t x b us
  source_on s t g x b us o = record {
    call = o.call;
    from = o.from;
    asked = o.asked;
    object = o.object;
    bound = o.bound;
    inc = o.inc ∙ sym g.follows.same;
    writing = o.writing;
    rest = o.rest;
    path = o.path;
    committed = o.committed;
    done = done_on s t g false (asked_by (let c = o.call in c.head)) o.done;
    unrefused = o.unrefused;
  }

  -- the binding counts by its number
  bound_on : (s : Server) (x : ℕ) (b d : Binding) (us : List Uid) → binding_number b ≡ binding_number d → IsSource sent n s x b us →
      IsSource sent n s x d us
  bound_on s x b d us same o = record {
    call = o.call;
    from = o.from;
    asked = o.asked;
    object = o.object;
    bound = o.bound ∙ same;
    inc = o.inc;
    writing = o.writing;
    rest = o.rest;
    path = o.path;
    committed = o.committed;
    done = o.done;
    unrefused = o.unrefused;
  }

  split_last : (u : Uid) (us rest : List Uid) → (u ∷ us) ++ rest ≡ front (u ∷ us) ++ last_uid (u ∷ us) ∷ rest
  split_last u [] rest = refl
  split_last u (w ∷ us) rest = ap (λ vs. u ∷ vs) (split_last w us rest)

  -- an action's end that is a commit passes what it wrote to its parent
  passed : (s : Server) (x : ℕ) (b : Binding) (us : List Uid) → IsSaidToCommit sent (last_uid us) → IsSource sent n s x b us →
      IsSource sent n s x b (front us)
  passed s x b [] said o = o
  passed s x b (u ∷ us) said o = record {
    call = o.call;
    from = o.from;
    asked = o.asked;
    object = o.object;
    bound = o.bound;
    inc = o.inc;
    writing = o.writing;
    rest = last_uid (u ∷ us) ∷ o.rest;
    path = o.path ∙ split_last u us o.rest;
    committed = λ w on. by w (uid_eq (last_uid (u ∷ us)) w) refl on;
    done = o.done;
    unrefused = o.unrefused;
  }
    where
      by : (w : Uid) (q : Bool) → uid_eq (last_uid (u ∷ us)) w ≡ q → (q || is_on o.rest w) ≡ true → IsSaidToCommit sent w
      by w true same on = subst (IsSaidToCommit sent) (uid_is (last_uid (u ∷ us)) w same) said
      by w false other on = o.committed w on

  -- ---- overlays

  abbrev pub Each : (List Uid → Type 0) → List Over → Type 0
  Each P es = (e : Over) → list.In e es → P e.holder

  pub each_written : (P : List Uid → Type 0) (holder : List Uid) (tops : ℕ) (v : Value) (es : List Over) → P holder → Each P es →
      Each P (written holder tops v es)
  each_written P holder tops v [] its all e (inl same) = subst (λ (o : Over). P o.holder) same its
  each_written P holder tops v [] its all e (inr i) = absurd i
  each_written P holder tops v (f ∷ fs) its all e i = by (is_of (last_uid holder) f) i
    where
      by : (b : Bool) → list.In e (cond b (record f { value = v } ∷ fs) (record { holder = holder; tops = tops; value = v } ∷ f ∷ fs)) →
          P e.holder
      by true (inl same) = subst (λ (o : Over). P o.holder) same (all f (inl refl))
      by true (inr j) = all e (inr j)
      by false (inl same) = subst (λ (o : Over). P o.holder) same its
      by false (inr j) = all e j

  each_filter : (P : List Uid → Type 0) (q : Over → Bool) (es : List Over) → Each P es → Each P (filter q es)
  each_filter P q es all e i = all e (in_filter q e es i).0

  each_folded : (P : List Uid → Type 0) (u : Uid) (es : List Over) → ((us : List Uid) → last_uid us ≡ u → P us → P (front us)) → Each P es →
      Each P (folded u es)
  each_folded P u [] up all = all
  each_folded P u (f ∷ fs) up all = by (is_of u f) refl
    where
      by : (b : Bool) → is_of u f ≡ b →
          Each P (cond b (written (front f.holder) (min f.tops (length (front f.holder))) f.value fs) (f ∷ fs))
      by true own = each_written P (front f.holder) (min f.tops (length (front f.holder))) f.value fs
          (up f.holder (uid_is (last_uid f.holder) u own) (all f (inl refl))) (λ e i. all e (inr i))
      by false other = all

  each_ended : (P : List Uid → Type 0) (u : Uid) (e : End) (c : Copy) → (e ≡ ending.Commit → (us : List Uid) → last_uid us ≡ u → P us →
      P (front us)) → Each P c.stack → Each P (let d = end_copy u e c in d.stack)
  each_ended P u ending.Abort c up all = each_filter P (λ e. not (is_on e.holder u)) c.stack all
  each_ended P u ending.Commit c up all = by (over_of u c.stack)
    where
      by : (o : Option Over) → Each P (overs_committed u o c).stack
      by None = all
      by (Some e) = top (is_top_over e)
        where
          top : (b : Bool) → Each P (cond b (settled u e c) (record c { stack = folded u c.stack })).stack
          top true = each_filter P (λ o. not (is_of u o)) c.stack all
          top false = each_folded P u c.stack (up refl) all

-- ---- one server

put_there : (x : ℕ) (d : Copy) (objects : List (ℕ × Copy)) (y : ℕ) (c : Copy) → at_number y objects ≡ Some c →
    (q : Copy) × (at_number y (put_number x d objects) ≡ Some q)
put_there x d objects y c at = ⊎_elim (λ same. (d, ap (λ z. at_number z (put_number x d objects)) (sym same) ∙ put_number_same x d objects))
    (λ apart. (c, put_number_other x y d objects apart.0 ∙ at)) (one_or_two x y)

module _ (n : ℕ) where
  pub goes_activate : (p : Path) (b : Binding) (st : ObjectState) (s : Server) → GoesOn s (activate n p b st s).part
  goes_activate p b st s = by (has_ended p s) (binding_less b (active_binding st.uid.num s)) (binding_eq b (active_binding st.uid.num s))
      (activate_follows n p b st s)
    where
      by : (over lower equal : Bool) →
          Follows s (cond {A = Served Server ℕ} (over || lower) (void s) (cond equal (reply s s.inc) (took_copy n st.uid.num b st s))).part
          → GoesOn s (cond {A = Served Server ℕ} (over || lower) (void s) (cond equal (reply s s.inc) (took_copy n st.uid.num b st s))).part
      by true lower equal f = itself s
      by false true equal f = itself s
      by false false true f = itself s
      by false false false f = record {
        follows = f;
        kept = λ u k found. inr (k, found, inl refl);
        there = λ x c at. put_there st.uid.num (taken_copy b st) s.objects x c at;
      }

  -- who answers an Activate has the copy, under its binding or a later one
  pub activate_reached : (p : Path) (b : Binding) (st : ObjectState) (s : Server) (j : ℕ) → (binding_number b ≡ 0 → ⊥) →
      (activate n p b st s).reply ≡ Some j → HasReached st.uid.num b (activate n p b st s).part
  activate_reached p b st s j some =
      by (has_ended p s) (binding_less b (active_binding st.uid.num s)) (binding_eq b (active_binding st.uid.num s)) refl
    where
      low : (x y : ℕ) → y ≡ x → nat_lt x y ≡ false
      low x y same = grind (arith, same)

      there : (o : Option Copy) → at_number st.uid.num s.objects ≡ o → binding_eq b (binding_of o) ≡ true → HasReached st.uid.num b s
      there None is same = absurd (some (eqb-true (binding_number b) 0 same))
      there (Some c) is same =
          (c, is, low (binding_number c.binding) (binding_number b) (eqb-true (binding_number b) (binding_number c.binding) same))

      none : {P : Type 0} → ◌≡◌ {A = Option ℕ} None (Some j) → P
      none is = absurd (cc is)

      by : (over lower equal : Bool) → binding_eq b (active_binding st.uid.num s) ≡ equal →
          (cond {A = Served Server ℕ} (over || lower) (void s) (cond equal (reply s s.inc) (took_copy n st.uid.num b st s))).reply ≡ Some j
          → HasReached st.uid.num b
          (cond {A = Served Server ℕ} (over || lower) (void s) (cond equal (reply s s.inc) (took_copy n st.uid.num b st s))).part
      by true lower equal e is = none is
      by false true equal e is = none is
      by false false true e is = there (at_number st.uid.num s.objects) refl e
      by false false false e is =
          (taken_copy b st, put_number_same st.uid.num (taken_copy b st) s.objects, low (binding_number b) (binding_number b) refl)

  goes_new : (u : Uid) (e : End) (s : Server) → Follows s (end_new n u e s).part → GoesOn s (end_new n u e s).part
  goes_new u e s f = record {
    follows = f;
    kept = λ w k found. ⊎_elim (λ same. inl (ap (λ v. is_some (at_uid v (put_uid u e s.ends))) same ∙ ap is_some (put_same u e s.ends)))
        (λ apart. inr (k, without_other w u s.kept apart ∙ found, inl refl)) (uid_cases w u);
    there = λ x c at. (end_copy u e c, each_at (λ y. end_copy u e) x s.objects c at);
  }

  goes_one : (u : Uid) (e : End) (s : Server) → GoesOn s (end_one n u e s).part
  goes_one u e s = by (is_told u s) (one_follows n u e s)
    where
      by : (b : Bool) → Follows s (cond {A = Did Server} b (did_nothing s) (end_new n u (taken_end u e s) s)).part →
          GoesOn s (cond {A = Did Server} b (did_nothing s) (end_new n u (taken_end u e s) s)).part
      by true f = itself s
      by false f = goes_new u (taken_end u e s) s f

  pub goes_told : (es : List (Uid × End)) (s : Server) → GoesOn s (apply_ends n es s).part
  goes_told [] s = itself s
  goes_told (e ∷ es) s = let d = end_one n e.0 e.1 s in let t = apply_ends n es d.part in
      then_on s d.part t.part (goes_one e.0 e.1 s) (goes_told es d.part)

  pub goes_vote : (p : Path) (i : ℕ) (ties : List (ℕ × Binding)) (ends : List (Uid × End)) (s : Server) →
      GoesOn s (vote n p i ties ends s).part
  goes_vote p i ties ends s = by (has_ended p s)
    where
      yes : (w : Option What) → GoesOn s (vote_now n (actor p) ends s w).part
      yes (Some w) = itself s
      yes None = let g = goes_told ends s in record {
        follows = record { same = g.follows.same; bindings = g.follows.bindings; ends = g.follows.ends; run = g.follows.run };
        kept = g.kept;
        there = g.there;
      }

      by : (b : Bool) → GoesOn s (cond {A = Served Server VotedReply} b (void s)
          (vote_now n (actor p) ends s (either (other_inc i s.inc) (first_unbound ties s)))).part
      by true = itself s
      by false = yes (either (other_inc i s.inc) (first_unbound ties s))

  -- the answer to a request that wasn't run yet is kept
  goes_new_invoke : (h : Head) (x : ℕ) (ends : List (Uid × End)) (op : Op) (s : Server) → ((k : Kept) → at_uid (actor h.path) s.kept
      ≡ Some k → k.req < h.req) → Follows s (invoke_new n h x ends op s).part → GoesOn s (invoke_new n h x ends op s).part
  goes_new_invoke h x ends op s later f = by (at_number x t.objects) refl f
    where
      t : Server
      t = (apply_ends n ends s).part

      g : GoesOn s t
      g = goes_told ends s

      act : Uid
      act = actor h.path

      kept : (q v : Server) (a : Option InvokedReply) → q.kept ≡ t.kept → q.ends ≡ t.ends → keeps act h.req a q ≡ v → (u : Uid) (k : Kept) →
          at_uid u s.kept ≡ Some k → (is_told u v ≡ true) ⊎ ((w : Kept) × (at_uid u v.kept ≡ Some w) × ((w ≡ k) ⊎ (k.req < w.req)))
      kept q v None same over is u k found = subst (λ (z : Server). (is_told u z ≡ true)
          ⊎ ((w : Kept) × (at_uid u z.kept ≡ Some w) × ((w ≡ k) ⊎ (k.req < w.req)))) is (⊎_elim (λ told_it.
          inl (ap (λ m. is_some (at_uid u m)) over ∙ told_it)) (λ w. inr (w.0, ap (at_uid u) same ∙ w.1, w.2)) (g.kept u k found))
      kept q v (Some a) same over is u k found =
          subst (λ (z : Server). (is_told u z ≡ true) ⊎ ((w : Kept) × (at_uid u z.kept ≡ Some w) × ((w ≡ k) ⊎ (k.req < w.req)))) is
          (⊎_elim (λ own. inr (
            record { req = h.req; answer = a },
            ap (λ w. at_uid w (put_uid act (record { req = h.req; answer = a }) q.kept)) own
                ∙ put_same act (record { req = h.req; answer = a }) q.kept,
            inr (later k (ap (λ w. at_uid w s.kept) (sym own) ∙ found)),
          ))
          (λ apart. ⊎_elim (λ told_it. inl (ap (λ m. is_some (at_uid u m)) over ∙ told_it)) (λ w. inr
          (w.0, put_other u act (record { req = h.req; answer = a }) q.kept apart ∙ ap (at_uid u) same ∙ w.1, w.2)) (g.kept u k found))
          (uid_cases u act))

      there : (q : Server) (a : Option InvokedReply) →
          ((y : ℕ) (c : Copy) → at_number y t.objects ≡ Some c → (z : Copy) × (at_number y q.objects ≡ Some z)) → (y : ℕ) (c : Copy) →
          at_number y s.objects ≡ Some c → (z : Copy) × (at_number y (let v = keeps act h.req a q in v.objects) ≡ Some z)
      there q None up y c at = let f = g.there y c at in up y f.0 f.1
      there q (Some a) up y c at = let f = g.there y c at in up y f.0 f.1

      by : (o : Option Copy) → at_number x t.objects ≡ o → Follows s (kept_after h (on_copy x (invoke_copy n h.path x op) t o)).part →
          GoesOn s (kept_after h (on_copy x (invoke_copy n h.path x op) t o)).part
      by None found f =
          let r = on_copy x (invoke_copy n h.path x op) t None in
          record {
            follows = f;
            kept = kept r.part (keeps act h.req r.reply r.part) r.reply refl refl refl;
            there = there r.part r.reply (λ y c at. (c, at));
          }
      by (Some c) found f =
          let r = on_copy x (invoke_copy n h.path x op) t (Some c) in
          record {
            follows = f;
            kept = kept r.part (keeps act h.req r.reply r.part) r.reply refl refl refl;
            there = there r.part r.reply (λ y z at. put_there x (invoke_copy n h.path x op c).part t.objects y z at);
          }

  pub goes_invoke : (h : Head) (x : ℕ) (b : Binding) (i : ℕ) (ends : List (Uid × End)) (op : Op) (s : Server) →
      GoesOn s (invoke n h x b i ends op s).part
  goes_invoke h x b i ends op s =
      by (has_ended h.path s) (is_below h.req (at_uid (actor h.path) s.kept)) refl (invoke_follows n h x b i ends op s)
    where
      above : (k : Kept) → is_below h.req (at_uid (actor h.path) s.kept) ≡ false → at_uid (actor h.path) s.kept ≡ Some k →
          nat_lt h.req k.req ≡ false
      above k off found = ap (is_below h.req) (sym found) ∙ off

      number : (a c : ℕ) → nat_lt a c ≡ false → (c == a) ≡ false → c < a
      number a c p q = grind (arith, p, q)

      kept : is_below h.req (at_uid (actor h.path) s.kept) ≡ false → (k : Option Kept) → at_uid (actor h.path) s.kept ≡ k →
          Follows s (invoke_kept n h x ends op s k).part → GoesOn s (invoke_kept n h x ends op s k).part
      kept off None none f =
          goes_new_invoke h x ends op s (λ k found. let no_way : ◌≡◌ {A = Option Kept} None (Some k) = sym none ∙ found in cc) f
      kept off (Some k) found f = one (k.req == h.req) refl f
        where
          one : (c : Bool) → (k.req == h.req) ≡ c → Follows s (cond {A = Served Server InvokedReply} c (reply s k.answer) (invoke_new n h x
              ends op s)).part → GoesOn s (cond {A = Served Server InvokedReply} c (reply s k.answer) (invoke_new n h x ends op s)).part
          one true same f = itself s
          one false other f = goes_new_invoke h x ends op s (λ q at. let same : k ≡ q = some_is (sym found ∙ at) in
              subst (λ (z : Kept). z.req < h.req) same (number h.req k.req (above k off found) other)) f

      now : is_below h.req (at_uid (actor h.path) s.kept) ≡ false → (w : Option What) → Follows s (invoke_now n h x ends op s w).part →
          GoesOn s (invoke_now n h x ends op s w).part
      now off (Some w) f = itself s
      now off None f = kept off (at_uid (actor h.path) s.kept) refl f

      by : (over below : Bool) → is_below h.req (at_uid (actor h.path) s.kept) ≡ below →
          Follows s (cond {A = Served Server InvokedReply} (over || below) (void s) (invoke_now n h x ends op s (changed_by i x b s))).part
          → GoesOn s (cond {A = Served Server InvokedReply} (over || below) (void s) (invoke_now n h x ends op s (changed_by i x b s))).part
      by true below is f = itself s
      by false true is f = itself s
      by false false is f = now is (changed_by i x b s) f

-- ---- its copies

module _ (sent : List Post) (n : ℕ) (v : Server) where
  -- each overlay of these objects is from a call, as this server has it
  abbrev pub From : List (ℕ × Copy) → Type 0
  From objects = (x : ℕ) (c : Copy) (e : Over) → at_number x objects ≡ Some c → list.In e c.stack → IsSource sent n v x c.binding e.holder

  pub from_before : (s : Server) → GoesOn s v → AreFromCalls sent n s → From s.objects
  from_before s g all x c e at i = source_on sent n s v g x c.binding e.holder (all x c e at i)

  pub from_put : (x : ℕ) (d : Copy) (objects : List (ℕ × Copy)) → Each sent n (IsSource sent n v x d.binding) d.stack → From objects →
      From (put_number x d objects)
  from_put x d objects its all y c e at i = ⊎_elim
      (λ same. let found : d ≡ c = some_is (sym (put_number_same x d objects) ∙ ap (λ z. at_number z (put_number x d objects)) same ∙ at) in
      subst (λ z. IsSource sent n v z c.binding e.holder) same
      (subst (λ (z : Copy). (f : Over) → list.In f z.stack → IsSource sent n v x z.binding f.holder) found its e i))
      (λ apart. all y c e (sym (put_number_other x y d objects apart.0) ∙ at) i) (one_or_two x y)

  pub from_activate : (p : Path) (b : Binding) (st : ObjectState) (s : Server) → From s.objects →
      From (let r = activate n p b st s in let z = r.part in z.objects)
  from_activate p b st s all =
      by (has_ended p s) (binding_less b (active_binding st.uid.num s)) (binding_eq b (active_binding st.uid.num s))
    where
      by : (over lower equal : Bool) → From (let r = cond {A = Served Server ℕ} (over || lower) (void s)
          (cond equal (reply s s.inc) (took_copy n st.uid.num b st s)) in let z = r.part in z.objects)
      by true lower equal = all
      by false true equal = all
      by false false true = all
      by false false false = from_put st.uid.num (taken_copy b st) s.objects (λ e i. absurd i) all

  commits : (u : Uid) (e : End) (s : Server) → taken_end u e s ≡ ending.Commit → e ≡ ending.Commit
  commits u ending.Commit s is = refl
  commits u ending.Abort s is = is

  from_one : (u : Uid) (e : End) (s : Server) → (e ≡ ending.Commit → IsSaidToCommit sent u) → From s.objects →
      From (let d = end_one n u e s in let z = d.part in z.objects)
  from_one u e s said all = by (is_told u s)
    where
      by : (b : Bool) →
          From (let d = cond {A = Did Server} b (did_nothing s) (end_new n u (taken_end u e s) s) in let z = d.part in z.objects)
      by true = all
      by false = λ x c o at i.
          let f = at_each (λ y. end_copy u (taken_end u e s)) x s.objects c at in
          let old = f.0 in
          let its = each_ended sent n (IsSource sent n v x old.binding) u (taken_end u e s) old
          (λ is us last p. passed sent n v x old.binding us (subst (IsSaidToCommit sent) (sym last) (said (commits u e s is))) p)
          (λ q j. all x old q f.1 j) o (subst (λ (z : Copy). list.In o z.stack) f.2 i) in
          bound_on sent n v x old.binding c.binding o.holder
          (ap binding_number (sym (end_binding u (taken_end u e s) old)) ∙ ap (λ (z : Copy). binding_number z.binding) (sym f.2)) its

  -- the commits of a list are said
  abbrev pub AreSaid : List (Uid × End) → Type 0
  AreSaid es = (u : Uid) → list.In (u, ending.Commit) es → IsSaidToCommit sent u

  pub from_told : (es : List (Uid × End)) (s : Server) → AreSaid es → From s.objects →
      From (let d = apply_ends n es s in let z = d.part in z.objects)
  from_told [] s said all = all
  from_told (e ∷ es) s said all = let d = end_one n e.0 e.1 s in
      from_told es d.part (λ u i. said u (inr i)) (from_one e.0 e.1 s (λ is. said e.0 (inl (λ i. (e.0, is i)))) all)

  pub from_vote : (p : Path) (i : ℕ) (ties : List (ℕ × Binding)) (ends : List (Uid × End)) (s : Server) → AreSaid ends → From s.objects →
      From (let r = vote n p i ties ends s in let z = r.part in z.objects)
  from_vote p i ties ends s said all = by (has_ended p s)
    where
      yes : (w : Option What) → From (let r = vote_now n (actor p) ends s w in let z = r.part in z.objects)
      yes (Some w) = all
      yes None = from_told ends s said all

      by : (b : Bool) → From (let r = cond {A = Served Server VotedReply} b (void s)
          (vote_now n (actor p) ends s (either (other_inc i s.inc) (first_unbound ties s))) in let z = r.part in z.objects)
      by true = all
      by false = yes (either (other_inc i s.inc) (first_unbound ties s))
