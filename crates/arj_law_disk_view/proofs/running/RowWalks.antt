-- Locks at a server are by the paths of actions that were begun, whatever the server does.
use Rattle.arj_law_parts.proofs.Words
use Words.{◌<◌, sym, ◌∙◌, ap, subst, inl, inr, arith, ℕ, ◌==◌, ◌||◌, List, [], ◌∷◌, Bool, true, false, cond, Option, Some, None, ◌≡◌, refl}
use Words.{Contains, option_map, AllByRecursion, cons_option, filter_map, match_ordering, nat_cmp, Ordering, Less, Equal, Greater}
use Words.{first_conflict, in_from, Uid, Binding, End, Head, InvokedReply, ObjectState, Op, Path, Row, VotedReply, What, object}
use Words.{op_mode, uids_of, made_over, Reply, actor, Copy, changed_state, ask_copy, end_copy, invoke_copy, run_copy}
use Words.{taken_copy, Served, Did, did_nothing, either, reply, void, at_number, at_uid, binding_eq, binding_less, each}
use Words.{put_number, Kept, Server, activate, active_binding, apply_ends, changed_by, changed_states, end_new, end_one, first_unbound}
use Words.{has_ended, invoke, invoke_kept, invoke_new, invoke_now, is_below, is_told, keeps, on_copy, other_inc, told, took_copy, vote}
use Words.{vote_now}
use Rattle.arj_law_disk_view.proofs.Terms.{Action, AreBegun, all_found, all_put, AreCallRows, AreKeyed, IsCallRow, Among, AreOwnStates}
use Rattle.arj_law_disk_view.proofs.running.Means.{IsOwnReply}
use Rattle.arj_law_parts.proofs.parts.InTurn.{known_end, known_run}
use Rattle.arj_law_parts.specs.parts.Servers.{IsBegun}
use Rattle.arj_protocol.specs.Server.{taken_end}

-- ---- each object once

above_put : (k j : ℕ) (c : Copy) (m : List (ℕ × Copy)) → j < k → AllByRecursion (λ (e : ℕ × Copy). j < e.0) m →
    AllByRecursion (λ (e : ℕ × Copy). j < e.0) (put_number k c m)
above_put k j c [] less all = (less, tt)
above_put k j c (e ∷ es) less all = by (nat_cmp k e.0) (above_put k j c es less all.1)
  where
    by : (r : Ordering) → AllByRecursion (λ (f : ℕ × Copy). j < f.0) (put_number k c es) →
        AllByRecursion (λ (f : ℕ × Copy). j < f.0) (match_ordering r ((k, c) ∷ e ∷ es) ((e.0, c) ∷ es) (e ∷ put_number k c es))
    by Less ih = (less, all)
    by Equal ih = all
    by Greater ih = (all.0, ih)

above_all : (k j : ℕ) (m : List (ℕ × Copy)) → k < j → AllByRecursion (λ (e : ℕ × Copy). j < e.0) m →
    AllByRecursion (λ (e : ℕ × Copy). k < e.0) m
above_all k j [] less all = tt
above_all k j (e ∷ es) less all = (omega (arith, less, all.0), above_all k j es less all.1)

keyed_put : (k : ℕ) (c : Copy) (m : List (ℕ × Copy)) → AreKeyed m → AreKeyed (put_number k c m)
keyed_put k c [] keyed = (tt, tt)
keyed_put k c (e ∷ es) keyed = by (nat_cmp k e.0) refl (keyed_put k c es keyed.1)
  where
    less : nat_cmp k e.0 ≡ Less → k < e.0
    less is = grind (arith, is)

    more : nat_cmp k e.0 ≡ Greater → e.0 < k
    more is = grind (arith, is)

    by : (r : Ordering) → nat_cmp k e.0 ≡ r → AreKeyed (put_number k c es) →
        AreKeyed (match_ordering r ((k, c) ∷ e ∷ es) ((e.0, c) ∷ es) (e ∷ put_number k c es))
    by Less is ih = ((less is, above_all k e.0 es (less is) keyed.0), keyed)
    by Equal is ih = keyed
    by Greater is ih = (above_put k e.0 c es (more is) keyed.0, ih)

above_each : (f : ℕ → Copy → Copy) (k : ℕ) (m : List (ℕ × Copy)) → AllByRecursion (λ (e : ℕ × Copy). k < e.0) m →
    AllByRecursion (λ (e : ℕ × Copy). k < e.0) (each f m)
above_each f k [] all = tt
above_each f k (e ∷ es) all = (all.0, above_each f k es all.1)

keyed_each : (f : ℕ → Copy → Copy) (m : List (ℕ × Copy)) → AreKeyed m → AreKeyed (each f m)
keyed_each f [] keyed = tt
keyed_each f (e ∷ es) keyed = (above_each f e.0 es keyed.0, keyed_each f es keyed.1)

-- ---- what a server votes

-- a state that a top made is of the object in whose copy it made it
state_of : (top : Uid) (x : ℕ) (c : Copy) (s : ObjectState) → changed_state top x c ≡ Some s → (s.uid ≡ object x) × (s.writer ≡ top)
state_of top x c s is = let made = sym (made_over top x c s is).2 in
    (ap (λ (z : ObjectState). z.uid) made, ap (λ (z : ObjectState). z.writer) made)

module _ (top : Uid) where
  abbrev Changed : List (ℕ × Copy) → List ObjectState
  Changed objects = filter_map (λ (e : ℕ × Copy). changed_state top e.0 e.1) objects

  -- each is of an object that stands there
  places : (objects : List (ℕ × Copy)) (k : ℕ) → AllByRecursion (λ (e : ℕ × Copy). k < e.0) objects → (s : ObjectState) →
      Among s (Changed objects) → (s.uid ≡ object s.uid.num) × (k < s.uid.num)
  places [] k all s none = absurd none
  places (e ∷ es) k all s i = by (changed_state top e.0 e.1) refl i (places es k all.1 s)
    where
      by : (o : Option ObjectState) → changed_state top e.0 e.1 ≡ o → Among s (cons_option o (Changed es)) →
          (Among s (Changed es) → (s.uid ≡ object s.uid.num) × (k < s.uid.num)) → (s.uid ≡ object s.uid.num) × (k < s.uid.num)
      by None is i ih = ih i
      by (Some t) is (inr more) ih = ih more
      by (Some t) is (inl same) ih =
          let of : s.uid ≡ object e.0 = ap (λ (z : ObjectState). z.uid) (sym same) ∙ (state_of top e.0 e.1 t is).0 in
          (of ∙ ap (λ (u : Uid). object u.num) (sym of), subst (λ n. k < n) (ap (λ (u : Uid). u.num) (sym of)) all.0)

  one_each : (objects : List (ℕ × Copy)) → AreKeyed objects → (s t : ObjectState) → Among s (Changed objects) → Among t (Changed objects) →
      s.uid ≡ t.uid → s ≡ t
  one_each [] keyed s t none j same = absurd none
  one_each (e ∷ es) keyed s t i j same = by (changed_state top e.0 e.1) refl i j (one_each es keyed.1 s t)
    where
      apart : (a b w : ObjectState) → changed_state top e.0 e.1 ≡ Some w → w ≡ a → Among b (Changed es) → a.uid ≡ b.uid → ⊥
      apart a b w is here there equal =
          let of : a.uid ≡ object e.0 = ap (λ (z : ObjectState). z.uid) (sym here) ∙ (state_of top e.0 e.1 w is).0 in
          let less = (places es e.0 keyed.0 b there).1 in
          omega (arith, less, ap (λ (u : Uid). u.num) (sym of ∙ equal))

      by : (o : Option ObjectState) → changed_state top e.0 e.1 ≡ o → Among s (cons_option o (Changed es)) →
          Among t (cons_option o (Changed es)) → (Among s (Changed es) → Among t (Changed es) → s.uid ≡ t.uid → s ≡ t) → s ≡ t
      by None is i j ih = ih i j same
      by (Some w) is (inl a) (inl b) ih = sym a ∙ b
      by (Some w) is (inr i) (inr j) ih = ih i j same
      by (Some w) is (inl a) (inr j) ih = absurd (apart s t w is a j same)
      by (Some w) is (inr i) (inl b) ih = absurd (apart t s w is b i (sym same))

changed_own : (top : Uid) (s : Server) → AreKeyed s.objects → AreOwnStates top (changed_states top s)
changed_own top s keyed =
    record { own = λ w i. (each_own s.objects w i).0; once = one_each top s.objects keyed; writer = λ w i. (each_own s.objects w i).1 }
  where
    Its : ObjectState → Type 0
    Its w = (w.uid ≡ object w.uid.num) × (w.writer ≡ top)

    each_own : (objects : List (ℕ × Copy)) (w : ObjectState) → Among w (filter_map (λ (e : ℕ × Copy). changed_state top e.0 e.1) objects) →
        Its w
    each_own [] w none = absurd none
    each_own (e ∷ es) w i = by (changed_state top e.0 e.1) refl i (each_own es w)
      where
        by : (o : Option ObjectState) → changed_state top e.0 e.1 ≡ o → Among w (cons_option o (filter_map (λ (e : ℕ × Copy).
            changed_state top e.0 e.1) es)) → (Among w (filter_map (λ (e : ℕ × Copy). changed_state top e.0 e.1) es) → Its w) → Its w
        by None is j ih = ih j
        by (Some t) is (inr more) ih = ih more
        by (Some t) is (inl same) ih = let f = state_of top e.0 e.1 t is in let of : w.uid ≡ object e.0 = ap (λ (z : ObjectState). z.uid)
            (sym same) ∙ f.0 in (of ∙ ap (λ (u : Uid). object u.num) (sym of), ap (λ (z : ObjectState). z.writer) (sym same) ∙ f.1)

module _ (acts : List Action) (begun : AreBegun acts) where
  abbrev CopyKnown : Copy → Type 0
  CopyKnown c = (r : Row) → Contains c.rows r → IsCallRow acts r

  -- so are the rows, and each object's copy stands once
  abbrev AreSo : List (ℕ × Copy) → Type 0
  AreSo objects = AreCallRows acts objects × AreKeyed objects

  put_so : (x : ℕ) (c : Copy) (objects : List (ℕ × Copy)) → CopyKnown c → AreSo objects → AreSo (put_number x c objects)
  put_so x c objects its all = (all_put CopyKnown x c objects its all.0, keyed_put x c objects all.1)

  pub rows_activate : (n : ℕ) (p : Path) (b : Binding) (st : ObjectState) (s : Server) → AreSo s.objects →
      (let r = activate n p b st s in let v = r.part in AreSo v.objects)
  rows_activate n p b st s all =
      by (has_ended p s) (binding_less b (active_binding st.uid.num s)) (binding_eq b (active_binding st.uid.num s))
    where
      by : (over lower equal : Bool) → (let r = cond {A = Served Server ℕ} (over || lower) (void s)
          (cond equal (reply s s.inc) (took_copy n st.uid.num b st s)) in let v = r.part in AreSo v.objects)
      by true lower equal = all
      by false true equal = all
      by false false true = all
      by false false false = put_so st.uid.num (taken_copy b st) s.objects (λ r k. absurd (in_from r [] k)) all

  rows_each : (u : Uid) (e : End) (objects : List (ℕ × Copy)) → AreCallRows acts objects →
      AreCallRows acts (each (λ x. end_copy u e) objects)
  rows_each u e [] all = tt
  rows_each u e (o ∷ os) all = (known_end acts begun u e o.1 all.0, rows_each u e os all.1)

  rows_end_one : (n : ℕ) (u : Uid) (e : End) (s : Server) → AreSo s.objects → (let r = end_one n u e s in let v = r.part in AreSo v.objects)
  rows_end_one n u e s all = by (is_told u s)
    where
      by : (b : Bool) →
          (let r = cond {A = Did Server} b (did_nothing s) (end_new n u (taken_end u e s) s) in let v = r.part in AreSo v.objects)
      by true = all
      by false = (rows_each u (taken_end u e s) s.objects all.0, keyed_each (λ x. end_copy u (taken_end u e s)) s.objects all.1)

  pub rows_told : (n : ℕ) (es : List (Uid × End)) (s : Server) → AreSo s.objects →
      (let r = told n es s in let v = r.part in AreSo v.objects)
  rows_told n [] s all = all
  rows_told n (e ∷ es) s all = let d = end_one n e.0 e.1 s in rows_told n es d.part (rows_end_one n e.0 e.1 s all)

  rows_on_copy : (n : ℕ) (p : Path) (x : ℕ) (o : Op) (s : Server) → IsBegun acts p → AreSo s.objects → (f : Option Copy) →
      at_number x s.objects ≡ f → (let r = on_copy x (invoke_copy n p x o) s f in let v = r.part in AreSo v.objects)
  rows_on_copy n p x o s its all None there = all
  rows_on_copy n p x o s its all (Some c) there = by (first_conflict (uids_of p) (object x) (op_mode o) c.rows)
    where
      mine : CopyKnown c
      mine = all_found CopyKnown x s.objects c all.0 there

      by : (r : Option Row) → AreSo (put_number x (ask_copy n p x o c r).part s.objects)
      by None = put_so x (run_copy n p x o c).part s.objects (known_run acts begun n p x o c its mine) all
      by (Some r) = put_so x c s.objects mine all

  rows_keeps : (act : Uid) (req : ℕ) (a : Option InvokedReply) (s : Server) → AreSo s.objects →
      (let v = keeps act req a s in AreSo v.objects)
  rows_keeps act req None s all = all
  rows_keeps act req (Some a) s all = all

  pub rows_invoke : (n : ℕ) (h : Head) (x : ℕ) (b : Binding) (i : ℕ) (ends : List (Uid × End)) (o : Op) (s : Server) → IsBegun acts h.path →
      AreSo s.objects → (let r = invoke n h x b i ends o s in let v = r.part in AreSo v.objects)
  rows_invoke n h x b i ends o s its all = by (has_ended h.path s || is_below h.req (at_uid (actor h.path) s.kept))
    where
      Left : Served Server InvokedReply → Type 0
      Left r = let v = r.part in AreSo v.objects

      new : Left (invoke_new n h x ends o s)
      new =
          let d = apply_ends n ends s in
          let t = d.part in
          let r = on_copy x (invoke_copy n h.path x o) t (at_number x t.objects) in
          rows_keeps (actor h.path) h.req r.reply r.part
          (rows_on_copy n h.path x o t its (rows_told n ends s all) (at_number x t.objects) refl)

      kept : (k : Option Kept) → Left (invoke_kept n h x ends o s k)
      kept None = new
      kept (Some k) = one (k.req == h.req)
        where
          one : (c : Bool) → Left (cond {A = Served Server InvokedReply} c (reply s k.answer) (invoke_new n h x ends o s))
          one true = all
          one false = new

      now : (w : Option What) → Left (invoke_now n h x ends o s w)
      now (Some w) = all
      now None = kept (at_uid (actor h.path) s.kept)

      by : (c : Bool) → Left (cond {A = Served Server InvokedReply} c (void s) (invoke_now n h x ends o s (changed_by i x b s)))
      by true = all
      by false = now (changed_by i x b s)

  pub rows_vote : (n : ℕ) (p : Path) (i : ℕ) (ties : List (ℕ × Binding)) (ends : List (Uid × End)) (s : Server) → AreSo s.objects →
      (let r = vote n p i ties ends s in let v = r.part in AreSo v.objects)
  rows_vote n p i ties ends s all = by (has_ended p s)
    where
      now : (w : Option What) → (let r = vote_now n (actor p) ends s w in let v = r.part in AreSo v.objects)
      now (Some w) = all
      now None = rows_told n ends s all

      by : (b : Bool) → (let r = cond {A = Served Server VotedReply} b (void s)
          (vote_now n (actor p) ends s (either (other_inc i s.inc) (first_unbound ties s))) in let v = r.part in AreSo v.objects)
      by true = all
      by false = now (either (other_inc i s.inc) (first_unbound ties s))

  -- a vote's states are each of its own object
  pub votes_own : (n : ℕ) (p : Path) (i : ℕ) (ties : List (ℕ × Binding)) (ends : List (Uid × End)) (s : Server) → AreSo s.objects →
      IsOwnReply (actor p) (option_map Reply.Voted (let r = vote n p i ties ends s in r.reply))
  votes_own n p i ties ends s all = by (has_ended p s)
    where
      now : (w : Option What) → IsOwnReply (actor p) (option_map Reply.Voted (let r = vote_now n (actor p) ends s w in r.reply))
      now (Some w) = tt
      now None = let d = apply_ends n ends s in changed_own (actor p) d.part (rows_told n ends s all).1

      by : (b : Bool) → IsOwnReply (actor p) (option_map Reply.Voted (let r = cond {A = Served Server VotedReply} b (void s)
          (vote_now n (actor p) ends s (either (other_inc i s.inc) (first_unbound ties s))) in r.reply))
      by true = tt
      by false = now (either (other_inc i s.inc) (first_unbound ties s))
