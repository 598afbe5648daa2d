-- A server stays good under each call.
use Rattle.arj_law_parts.proofs.Words
use Words.{◌≡◌, ◌⊎◌, ◌≤◌, ℕ, List, [], ◌∷◌, length, Bool, true, false, cond, not, ◌||◌, nat_le, ◌==◌, Option, Some, None, refl, sym, ◌∙◌}
use Words.{ap, subst, inl, inr, ⊎_elim, Contains, arith, filter, is_some, min, list_any, or_cases, or_parts, false_from_ne_true}
use Words.{before_last, Row, last_uid, front, is_on, has_any, first_conflict, uid_eq, object, uid_is, uid_same, uid_cases, In, in_from}
use Words.{in_to, in_filter, in_find, heir_is, Uid, Binding, Path, Head, End, Op, Value, ObjectState, What, InvokedReply, VotedReply}
use Words.{uids_of, tops_of, op_mode, writes, value_after, actor, Copy, Over, taken_copy, is_of, written, folded, undone, over_of}
use Words.{is_top_over, settled, overs_committed, end_copy, current, run_copy, ask_copy, invoke_copy, Served, Did, either, reply, void}
use Words.{did_nothing, at_number, put_number, each, at_uid, put_uid, binding_less, binding_eq, Server, Kept, new_server, is_told}
use Words.{has_ended, active_binding, took_copy, activate, other_inc, changed_by, end_new, end_one, apply_ends, told, keeps, on_copy}
use Words.{invoke_new, invoke_kept, invoke_now, is_below, invoke, first_unbound, vote_now, vote, put_same as put_number_same}
use Words.{put_other as put_number_other, one_or_two}
use Words.ending
use Rattle.arj_law_parts.proofs.Terms
use Terms.{taken_end, Paths, IsTree, IsGoodCopy, IsLowest, HasHeirs, IsGoodServer, IsInTurn, AreInTurn, has_end_of, AreOfOthers}
use Rattle.arj_law_parts.proofs.parts
use parts.{Begun.on_own, Pairs.at_each}
use parts.Gone.{gone_abort, gone_commit, gone_request, gone_later}
use parts.GoodCopies.{good_taken, good_wrote, good_aborted, good_committed}
use parts.Keys.{put_other, put_cases, without_cases, sorted_put, sorted_without}

never : {P : Type 0} (b : Bool) → b ≡ true → b ≡ false → P
never b holds fails = let no_way : true ≡ false = sym holds ∙ fails in cc

-- ---- who was told

-- what is told after an end was told before, or is of that end
pub told_one : (n : ℕ) (w : Uid) (f : End) (s : Server) (u : Uid) → is_told u (end_one n w f s).part ≡ true → (is_told u s ≡ true) ⊎ (w ≡ u)
told_one n w f s u is = by (is_told w s) is
  where
    by : (b : Bool) → is_told u (cond {A = Did Server} b (did_nothing s) (end_new n w (taken_end w f s) s)).part ≡ true →
        (is_told u s ≡ true) ⊎ (w ≡ u)
    by true t = inl t
    by false t =
        ⊎_elim (λ same. inr (sym same)) (λ other. inl (ap is_some (sym (put_other u w (taken_end w f s) s.ends other)) ∙ t)) (uid_cases u w)

pub told_ends : (n : ℕ) (es : List (Uid × End)) (s : Server) (u : Uid) → is_told u (apply_ends n es s).part ≡ true →
    (is_told u s ≡ true) ⊎ (has_end_of u es ≡ true)
told_ends n [] s u is = inl is
told_ends n (e ∷ es) s u is = let d = end_one n e.0 e.1 s in ⊎_elim (λ old. ⊎_elim (λ first. inl first) (λ same. inr (here same))
    (told_one n e.0 e.1 s u old)) (λ rest. inr (later (uid_eq e.0 u) rest)) (told_ends n es d.part u is)
  where
    later : (b : Bool) → has_end_of u es ≡ true → (b || has_end_of u es) ≡ true
    later true t = refl
    later false t = t

    here : e.0 ≡ u → (uid_eq e.0 u || has_end_of u es) ≡ true
    here same = λ i. (ap (uid_eq e.0) (sym same) ∙ uid_same e.0) i || has_end_of u es

-- ---- overlays are at or below a top

tops_written : (holder : List Uid) (tops : ℕ) (v : Value) (stack : List Over) → 1 ≤ tops → ((e : Over) → In e stack → 1 ≤ e.tops) →
    (y : Over) → In y (written holder tops v stack) → 1 ≤ y.tops
tops_written holder tops v [] some all y (inl same) = subst (λ (o : Over). 1 ≤ o.tops) same some
tops_written holder tops v [] some all y (inr i) = absurd i
tops_written holder tops v (e ∷ es) some all y i = by (is_of (last_uid holder) e) i
  where
    by : (b : Bool) → In y (cond b (record e { value = v } ∷ es) (record { holder = holder; tops = tops; value = v } ∷ e ∷ es)) → 1 ≤ y.tops
    by true (inl same) = subst (λ (o : Over). 1 ≤ o.tops) same (all e (inl refl))
    by true (inr j) = all y (inr j)
    by false (inl same) = subst (λ (o : Over). 1 ≤ o.tops) same some
    by false (inr j) = all y j

-- an overlay that isn't a top's own has a parent
parent_of : (us : List Uid) → 2 ≤ length us → (h : Uid) × (before_last us ≡ Some h)
parent_of [] two = absurd (omega (arith, two))
parent_of (u ∷ []) two = absurd (omega (arith, two))
parent_of (u ∷ w ∷ []) two = (u, refl)
parent_of (u ∷ w ∷ v ∷ us) two = parent_of (w ∷ v ∷ us) (omega arith)

deep : (e : Over) → 1 ≤ e.tops → is_top_over e ≡ false → 2 ≤ length e.holder
deep e some is = number (length e.holder) e.tops some is
  where
    number : (l t : ℕ) → 1 ≤ t → nat_le l t ≡ false → 2 ≤ l
    number l t p q = grind (arith, p, q)

pub heirs_by_tops : (u : Uid) (c : Copy) → ((e : Over) → Contains c.stack e → 1 ≤ e.tops) → HasHeirs u c
heirs_by_tops u c tops e found is = parent_of e.holder (deep e (tops e (in_to e c.stack (in_stack c.stack found))) is)
  where
    in_stack : (es : List Over) → over_of u es ≡ Some e → In e es
    in_stack es f = (in_find (is_of u) e es f).0

tops_folded : (u : Uid) (stack : List Over) → ((e : Over) → over_of u stack ≡ Some e → 2 ≤ length e.holder) →
    ((e : Over) → In e stack → 1 ≤ e.tops) → (y : Over) → In y (folded u stack) → 1 ≤ y.tops
tops_folded u [] long all y i = absurd i
tops_folded u (o ∷ es) long all y i = by (is_of u o) refl i
  where
    by : (b : Bool) → is_of u o ≡ b → In y (cond b (written (front o.holder) (min o.tops (length (front o.holder))) o.value es) (o ∷ es)) →
        1 ≤ y.tops
    by false other j = all y j
    by true own j =
        let h = parent_of o.holder (long o (λ k. cond (own k) (Some o) (over_of u es))) in
        let up = heir_is o.holder h.0 h.1 in
        tops_written (front o.holder) (min o.tops (length (front o.holder))) o.value es
        (least o.tops (length (front o.holder)) (all o (inl refl)) up.1) (λ e k. all e (inr k)) y j
      where
        least : (a b : ℕ) → 1 ≤ a → 1 ≤ b → 1 ≤ min a b
        least a b p q = omega (arith, p, q)

tops_end : (u : Uid) (e : End) (c : Copy) → ((o : Over) → Contains c.stack o → 1 ≤ o.tops) → (y : Over) →
    Contains (end_copy u e c).stack y → 1 ≤ y.tops
tops_end u ending.Abort c all y k =
    all y (in_to y c.stack (in_filter (λ o. not (is_on o.holder u)) y c.stack (in_from y (undone u c.stack) k)).0)
tops_end u ending.Commit c all y k = by (over_of u c.stack) refl k
  where
    by : (o : Option Over) → over_of u c.stack ≡ o → Contains (overs_committed u o c).stack y → 1 ≤ y.tops
    by None is j = all y j
    by (Some e) is j = top (is_top_over e) refl j
      where
        top : (b : Bool) → is_top_over e ≡ b → Contains (cond b (settled u e c) (record c { stack = folded u c.stack })).stack y →
            1 ≤ y.tops
        top true own m =
            all y (in_to y c.stack (in_filter (λ o. not (is_of u o)) y c.stack (in_from y (filter (λ o. not (is_of u o)) c.stack) m)).0)
        top false nested m = tops_folded u c.stack (λ f found. deep f (all f (in_to f c.stack (in_find (is_of u) f c.stack found).0))
            (one f found)) (λ f i. all f (in_to f c.stack i)) y (in_from y (folded u c.stack) m)
          where
            one : (f : Over) → over_of u c.stack ≡ Some f → is_top_over f ≡ false
            one f found = let same : ◌≡◌ {A = Option Over} (Some f) (Some e) = sym found ∙ is in let e_is : f ≡ e = cc in
                ap is_top_over e_is ∙ nested

-- ---- a good server

pub good_new : (paths : Paths) (inc : ℕ) → IsGoodServer paths (new_server inc)
good_new paths inc = record {
  copies = λ x c is. let no_way : ◌≡◌ {A = Option Copy} None (Some c) = is in cc;
  tops = λ x c e is k. let no_way : ◌≡◌ {A = Option Copy} None (Some c) = is in cc;
  none = λ x c u is t. let no_way : false ≡ true = t in cc;
  sorted = tt;
  unanswered = λ u k t is. let no_way : false ≡ true = t in cc;
}

-- a good copy is put, in which no ended action has a lock
good_put : (paths : Paths) (x : ℕ) (c : Copy) (s : Server) → IsGoodCopy paths x c → ((e : Over) → Contains c.stack e → 1 ≤ e.tops) →
    ((u : Uid) → is_told u s ≡ true → has_any u c.rows ≡ false)
    → IsGoodServer paths s → IsGoodServer paths (record s { objects = put_number x c s.objects })
good_put paths x c s good tops none was = record {
  copies = λ y d is. place (λ z w. IsGoodCopy paths z w) y d good (was.copies y d) is;
  tops = λ y d e is. place (λ z w. Contains w.stack e → 1 ≤ e.tops) y d (tops e) (was.tops y d e) is;
  none = λ y d u is t. place (λ z w. has_any u w.rows ≡ false) y d (none u t) (λ old. was.none y d u old t) is;
  sorted = was.sorted;
  unanswered = was.unanswered;
}
  where
    place : (P : ℕ → Copy → Type 0) (y : ℕ) (d : Copy) → P x c → (at_number y s.objects ≡ Some d → P y d) →
        at_number y (put_number x c s.objects) ≡ Some d → P y d
    place P y d new old is =
        ⊎_elim (λ same. at_same same) (λ apart. old (sym (put_number_other x y c s.objects apart.0) ∙ is)) (one_or_two x y)
      where
        at_same : x ≡ y → P y d
        at_same same =
            let e : ◌≡◌ {A = Option Copy} (Some c) (Some d) = sym (put_number_same x c s.objects)
            ∙ ap (λ j. at_number j (put_number x c s.objects)) same ∙ is in
            let one : c ≡ d = cc in
            subst (λ w. P y w) one (subst (λ j. P j c) same new)

pub good_activate : (paths : Paths) (n : ℕ) (p : Path) (b : Binding) (st : ObjectState) (s : Server) → IsGoodServer paths s →
    IsGoodServer paths (activate n p b st s).part
good_activate paths n p b st s good =
    by (has_ended p s) (binding_less b (active_binding st.uid.num s)) (binding_eq b (active_binding st.uid.num s))
  where
    by : (over lower equal : Bool) → IsGoodServer paths
        (cond {A = Served Server ℕ} (over || lower) (void s) (cond equal (reply s s.inc) (took_copy n st.uid.num b st s))).part
    by true lower equal = good
    by false true equal = good
    by false false true = good
    by false false false =
        good_put paths st.uid.num (taken_copy b st) s (good_taken paths st.uid.num b st) (λ e k. absurd (in_from e [] k)) (λ u t. refl) good

module _ (paths : Paths) (tree : IsTree paths) where
  -- ---- ends

  good_end : (x : ℕ) (c : Copy) → IsGoodCopy paths x c → ((o : Over) → Contains c.stack o → 1 ≤ o.tops) → (u : Uid) (e : End) →
      (e ≡ ending.Commit → IsLowest u c.rows) → IsGoodCopy paths x (end_copy u e c)
  good_end x c good tops u ending.Abort lowest = good_aborted paths tree x c good u
  good_end x c good tops u ending.Commit lowest = good_committed paths tree x c good u (lowest refl) (heirs_by_tops u c tops)

  gone_end : (x : ℕ) (c : Copy) → IsGoodCopy paths x c → (u : Uid) (e : End) → (e ≡ ending.Commit → IsLowest u c.rows) →
      has_any u (end_copy u e c).rows ≡ false
  gone_end x c good u ending.Abort lowest = gone_abort u c
  gone_end x c good u ending.Commit lowest = gone_commit paths tree x c good u (lowest refl)

  good_end_new : (n : ℕ) (u : Uid) (e : End) (s : Server) → (e ≡ ending.Commit → (x : ℕ) (c : Copy) → at_number x s.objects ≡ Some c →
      IsLowest u c.rows) → IsGoodServer paths s → IsGoodServer paths (end_new n u e s).part
  good_end_new n u e s lowest good = record {
    copies = λ x d is. let f = before x d is in subst (IsGoodCopy paths x) (sym f.2)
        (good_end x f.0 (good.copies x f.0 f.1) (λ o. good.tops x f.0 o f.1) u e (λ is_commit. lowest is_commit x f.0 f.1));
    tops = λ x d o is k. let f = before x d is in
        tops_end u e f.0 (λ q. good.tops x f.0 q f.1) o (subst (λ (c : Copy). Contains c.stack o) f.2 k);
    none = λ x d w is t. let f = before x d is in ap (λ (c : Copy). has_any w c.rows) f.2
        ∙ ⊎_elim (λ same. ap (λ v. has_any v (end_copy u e f.0).rows) same ∙ gone_end x f.0 (good.copies x f.0 f.1) u e
        (λ is_commit. lowest is_commit x f.0 f.1)) (λ old. gone_later w u e f.0 (good.none x f.0 w f.1 old)) (who w t);
    sorted = sorted_without u s.kept good.sorted;
    unanswered = λ w k t is. let f = without_cases w u k s.kept good.sorted is in
        ⊎_elim (λ same. f.0 same) (λ old. good.unanswered w k old f.1) (who w t);
  }
    where
      before : (x : ℕ) (d : Copy) → at_number x (each (λ y. end_copy u e) s.objects) ≡ Some d →
          (c : Copy) × (at_number x s.objects ≡ Some c) × (d ≡ end_copy u e c)
      before x d is = at_each (λ y. end_copy u e) x s.objects d is

      who : (w : Uid) → is_some (at_uid w (put_uid u e s.ends)) ≡ true → (w ≡ u) ⊎ (is_told w s ≡ true)
      who w t = ⊎_elim (λ same. inl same) (λ other. inr (ap is_some (sym (put_other w u e s.ends other)) ∙ t)) (uid_cases w u)

  pub good_end_one : (n : ℕ) (u : Uid) (e : End) (s : Server) → IsInTurn u e s → IsGoodServer paths s →
      IsGoodServer paths (end_one n u e s).part
  good_end_one n u e s turn good = by (is_told u s) refl
    where
      by : (b : Bool) → is_told u s ≡ b →
          IsGoodServer paths (cond {A = Did Server} b (did_nothing s) (end_new n u (taken_end u e s) s)).part
      by true is = good
      by false is = good_end_new n u (taken_end u e s) s (turn is) good

  pub good_told : (n : ℕ) (es : List (Uid × End)) (s : Server) → AreInTurn n es s → IsGoodServer paths s →
      IsGoodServer paths (told n es s).part
  good_told n [] s turn good = good
  good_told n (e ∷ es) s turn good = let d = end_one n e.0 e.1 s in good_told n es d.part turn.1 (good_end_one n e.0 e.1 s turn.0 good)

  -- ---- invoke

  -- nobody on the path was told
  abbrev IsOpen : Path → Server → Type 0
  IsOpen p s = (u : Uid) → is_told u s ≡ true → is_on (uids_of p) u ≡ false

  good_run : (n : ℕ) (p : Path) (x : ℕ) (o : Op) (c : Copy) (s : Server) → uids_of p ≡ paths (actor p) → IsOpen p s →
      at_number x s.objects ≡ Some c → first_conflict (uids_of p) (object x) (op_mode o) c.rows ≡ None
      → IsGoodServer paths s → IsGoodServer paths (record s { objects = put_number x (run_copy n p x o c).part s.objects })
  good_run n p x o c s own free there clear good = good_put paths x (run_copy n p x o c).part s
      (good_wrote paths tree x c (good.copies x c there) n p o own clear)
      (tops (writes o))
      (λ u t. gone_request u c n p x o (free u t) (good.none x c u there t)) good
    where
      v : Value
      v = value_after o (current c.base c.stack)

      tops : (b : Bool) → (e : Over) → Contains (cond b (written (uids_of p) (tops_of p) v c.stack) c.stack) e → 1 ≤ e.tops
      tops true e k = tops_written (uids_of p) (tops_of p) v c.stack p.one_top (λ q i. good.tops x c q there (in_to q c.stack i)) e
          (in_from e (written (uids_of p) (tops_of p) v c.stack) k)
      tops false e k = good.tops x c e there k

  same_put : (x : ℕ) (c : Copy) (s : Server) → at_number x s.objects ≡ Some c → IsGoodServer paths s →
      IsGoodServer paths (record s { objects = put_number x c s.objects })
  same_put x c s there good =
      good_put paths x c s (good.copies x c there) (λ e. good.tops x c e there) (λ u t. good.none x c u there t) good

  good_on_copy : (n : ℕ) (p : Path) (x : ℕ) (o : Op) (s : Server) → uids_of p ≡ paths (actor p) → IsOpen p s → IsGoodServer paths s →
      (f : Option Copy) → at_number x s.objects ≡ f → IsGoodServer paths (on_copy x (invoke_copy n p x o) s f).part
  good_on_copy n p x o s own free good None there = good
  good_on_copy n p x o s own free good (Some c) there = by (first_conflict (uids_of p) (object x) (op_mode o) c.rows) refl
    where
      by : (r : Option Row) → first_conflict (uids_of p) (object x) (op_mode o) c.rows ≡ r →
          IsGoodServer paths (record s { objects = put_number x (ask_copy n p x o c r).part s.objects })
      by None clear = good_run n p x o c s own free there clear good
      by (Some r) taken = same_put x c s there good

  good_keeps : (act : Uid) (req : ℕ) (a : Option InvokedReply) (s : Server) → is_told act s ≡ false → IsGoodServer paths s →
      IsGoodServer paths (keeps act req a s)
  good_keeps act req None s fresh good = good
  good_keeps act req (Some a) s fresh good = record {
    copies = good.copies;
    tops = good.tops;
    none = good.none;
    sorted = sorted_put act (record { req = req; answer = a }) s.kept good.sorted;
    unanswered = λ u k t is. ⊎_elim (λ new. never (is_told u s) t (ap (λ w. is_told w s) new.0 ∙ fresh))
        (λ old. good.unanswered u k t old.1) (put_cases u act (record { req = req; answer = a }) k s.kept is);
  }

  pub told_on_copy : (x : ℕ) (f : Copy → Served Copy InvokedReply) (s : Server) (o : Option Copy) (u : Uid) →
      is_told u (on_copy x f s o).part ≡ is_told u s
  told_on_copy x f s None u = refl
  told_on_copy x f s (Some c) u = refl

  pub open_after : (n : ℕ) (p : Path) (ends : List (Uid × End)) (s : Server) → has_ended p s ≡ false → AreOfOthers p ends →
      IsOpen p (apply_ends n ends s).part
  open_after n p ends s open_is others u t =
      ⊎_elim (λ old. false_from_ne_true (is_on (uids_of p) u) (λ on. never (is_told u s) old (unended (uids_of p) open_is on)))
      (λ new. false_from_ne_true (is_on (uids_of p) u) (λ on. never (has_end_of u ends) new (others u on))) (told_ends n ends s u t)
    where
      unended : (us : List Uid) → list_any (λ w. is_told w s) us ≡ false → is_on us u ≡ true → is_told u s ≡ false
      unended [] none on = let no_way : false ≡ true = on in cc
      unended (w ∷ us) none on =
          let q = or_parts (is_told w s) (list_any (λ v. is_told v s) us) none in
          ⊎_elim (λ same. ap (λ v. is_told v s) (sym (uid_is w u same)) ∙ q.0) (λ rest. unended us q.1 rest)
          (or_cases (uid_eq w u) (is_on us u) on)

  good_new_invoke : (n : ℕ) (h : Head) (x : ℕ) (ends : List (Uid × End)) (o : Op) (s : Server) → uids_of h.path ≡ paths (actor h.path) →
      has_ended h.path s ≡ false → AreOfOthers h.path ends → AreInTurn n ends s → IsGoodServer paths s →
      IsGoodServer paths (invoke_new n h x ends o s).part
  good_new_invoke n h x ends o s own open_is others turn good =
      let d = apply_ends n ends s in
      let t = d.part in
      let free = open_after n h.path ends s open_is others in
      let r = on_copy x (invoke_copy n h.path x o) t (at_number x t.objects) in
      good_keeps (actor h.path) h.req r.reply r.part
      (told_on_copy x (invoke_copy n h.path x o) t (at_number x t.objects) (actor h.path) ∙ false_from_ne_true (is_told (actor h.path) t)
      (λ was. never (is_on (uids_of h.path) (actor h.path)) (on_own h.path) (free (actor h.path) was)))
      (good_on_copy n h.path x o t own free (good_told n ends s turn good) (at_number x t.objects) refl)

  pub good_invoke : (n : ℕ) (h : Head) (x : ℕ) (b : Binding) (i : ℕ) (ends : List (Uid × End)) (o : Op) (s : Server) →
      uids_of h.path ≡ paths (actor h.path) → AreOfOthers h.path ends → AreInTurn n ends s → IsGoodServer paths s →
      IsGoodServer paths (invoke n h x b i ends o s).part
  good_invoke n h x b i ends o s own others turn good = by (has_ended h.path s) (is_below h.req (at_uid (actor h.path) s.kept)) refl
    where
      new : has_ended h.path s ≡ false → IsGoodServer paths (invoke_new n h x ends o s).part
      new open_is = good_new_invoke n h x ends o s own open_is others turn good

      kept : has_ended h.path s ≡ false → (k : Option Kept) → IsGoodServer paths (invoke_kept n h x ends o s k).part
      kept open_is None = new open_is
      kept open_is (Some k) = one (k.req == h.req)
        where
          one : (c : Bool) →
              IsGoodServer paths (cond {A = Served Server InvokedReply} c (reply s k.answer) (invoke_new n h x ends o s)).part
          one true = good
          one false = new open_is

      now : has_ended h.path s ≡ false → (w : Option What) → IsGoodServer paths (invoke_now n h x ends o s w).part
      now open_is (Some w) = good
      now open_is None = kept open_is (at_uid (actor h.path) s.kept)

      by : (over below : Bool) → has_ended h.path s ≡ over → IsGoodServer paths
          (cond {A = Served Server InvokedReply} (over || below) (void s) (invoke_now n h x ends o s (changed_by i x b s))).part
      by true below is = good
      by false true is = good
      by false false is = now is (changed_by i x b s)

  -- ---- vote

  pub good_vote : (n : ℕ) (p : Path) (i : ℕ) (ties : List (ℕ × Binding)) (ends : List (Uid × End)) (s : Server) → AreInTurn n ends s →
      IsGoodServer paths s → IsGoodServer paths (vote n p i ties ends s).part
  good_vote n p i ties ends s turn good = by (has_ended p s)
    where
      yes : (w : Option What) → IsGoodServer paths (vote_now n (actor p) ends s w).part
      yes (Some w) = good
      yes None = let g = good_told n ends s turn good in
          record { copies = g.copies; tops = g.tops; none = g.none; sorted = g.sorted; unanswered = g.unanswered }

      by : (b : Bool) → IsGoodServer paths (cond {A = Served Server VotedReply} b (void s)
          (vote_now n (actor p) ends s (either (other_inc i s.inc) (first_unbound ties s)))).part
      by true = good
      by false = yes (either (other_inc i s.inc) (first_unbound ties s))
