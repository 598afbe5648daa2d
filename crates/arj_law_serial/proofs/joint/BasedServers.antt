-- What a server does with copies: of each of the object it still holds what did, where it holds of states that come and of what ends raise.
use Rattle.arj_law_parts.proofs.Words
use Words.{◌≡◌, ◌==◌, ◌||◌, ℕ, List, [], ◌∷◌, Bool, true, false, cond, Option, Some, None, refl, ◌∙◌, ap, inl, inr, ⊤, AllByRecursion}
use Words.{and_parts, uid_is, Binding, End, Head, InvokedReply, ObjectState, Op, Path, Row, Uid, VotedReply, What, first_conflict, object}
use Words.{op_mode, uid_eq, uids_of, actor, Base, Copy, Over, ask_copy, end_copy, folded, invoke_copy, is_top_over, over_of}
use Words.{overs_committed, raised, settled, taken_copy, Did, Served, did_nothing, either, reply, void, is_object, at_number, at_uid}
use Words.{binding_eq, binding_less, each, Kept, Server, activate, active_binding, apply_ends, changed_by, end_new, end_one, first_unbound}
use Words.{has_ended, invoke, invoke_kept, invoke_new, invoke_now, is_below, is_told, keeps, on_copy, other_inc, told, took_copy, vote}
use Words.{vote_now}
use Words.list
use Words.ending
use Rattle.arj_law_serial.proofs.Terms.{taken_end, keyed_found, keyed_put}

module _ (x : ℕ) (B : Binding → Base → Type 0) where
  -- a copy of the object
  abbrev pub CopyIsSo : ℕ → Copy → Type 0
  CopyIsSo y c = y ≡ x → B c.binding c.base

  abbrev pub CopiesAreSo : Server → Type 0
  CopiesAreSo s = AllByRecursion (λ (e : ℕ × Copy). CopyIsSo e.0 e.1) s.objects

  -- where a server takes an end, which is new to it, as the commit of a top that wrote in a copy of the object, it holds of what that comes
  -- to
  abbrev pub IsRaised : Uid → End → Server → Type 0
  IsRaised u e s = is_told u s ≡ false → taken_end u e s ≡ ending.Commit → (c : Copy) (o : Over) → list.In {X = ℕ × Copy} (x, c) s.objects →
      over_of u c.stack ≡ Some o → is_top_over o ≡ true → B c.binding c.base → B c.binding (raised u o.value c.base)

  -- one end after another
  abbrev pub AreRaised : ℕ → List (Uid × End) → Server → Type 0
  AreRaised n [] s = ⊤
  AreRaised n (e ∷ es) s = IsRaised e.0 e.1 s × (let d = end_one n e.0 e.1 s in AreRaised n es d.part)

  -- ---- a copy

  committed_so : (u : Uid) (o : Option Over) (c : Copy) → ((e : Over) → o ≡ Some e → is_top_over e ≡ true →
      B c.binding (raised u e.value c.base)) → B c.binding c.base → B (overs_committed u o c).binding (overs_committed u o c).base
  committed_so u None c raise its = its
  committed_so u (Some e) c raise its = by (is_top_over e) refl
    where
      by : (b : Bool) → is_top_over e ≡ b → B (cond {A = Copy} b (settled u e c) (record c { stack = folded u c.stack })).binding
          (cond {A = Copy} b (settled u e c) (record c { stack = folded u c.stack })).base
      by true on = raise e refl on
      by false off = its

  end_so : (u : Uid) (e : End) (c : Copy) → (e ≡ ending.Commit → (o : Over) → over_of u c.stack ≡ Some o → is_top_over o ≡ true →
      B c.binding (raised u o.value c.base)) → B c.binding c.base → B (end_copy u e c).binding (end_copy u e c).base
  end_so u ending.Commit c raise its = committed_so u (over_of u c.stack) c (raise refl) its
  end_so u ending.Abort c raise its = its

  asked_so : (n : ℕ) (p : Path) (y : ℕ) (o : Op) (c : Copy) (r : Option Row) → B c.binding c.base →
      B (ask_copy n p y o c r).part.binding (ask_copy n p y o c r).part.base
  asked_so n p y o c None its = its
  asked_so n p y o c (Some r) its = its

  -- ---- a server

  pub activate_so : (n : ℕ) (p : Path) (b : Binding) (st : ObjectState) (s : Server) → is_object st.uid ≡ true →
      (st.uid ≡ object x → B b (let c = taken_copy b st in c.base)) → CopiesAreSo s → CopiesAreSo (activate n p b st s).part
  activate_so n p b st s object_is its all =
      by (has_ended p s) (binding_less b (active_binding st.uid.num s)) (binding_eq b (active_binding st.uid.num s))
    where
      uid : st.uid ≡ object st.uid.num
      uid = uid_is st.uid (object st.uid.num) (and_parts (uid_eq st.uid (object st.uid.num)) _ object_is).0

      by : (over lower equal : Bool) → CopiesAreSo
          (cond {A = Served Server ℕ} (over || lower) (void s) (cond equal (reply s s.inc) (took_copy n st.uid.num b st s))).part
      by true lower equal = all
      by false true equal = all
      by false false true = all
      by false false false = keyed_put CopyIsSo st.uid.num (taken_copy b st) s.objects (λ same. its (uid ∙ ap object same)) all

  ends_each : (u : Uid) (e : End) (es : List (ℕ × Copy)) → ((c : Copy) → list.In {X = ℕ × Copy} (x, c) es → e ≡ ending.Commit → (o : Over) →
      over_of u c.stack ≡ Some o → is_top_over o ≡ true → B c.binding c.base → B c.binding (raised u o.value c.base))
      → AllByRecursion (λ (f : ℕ × Copy). CopyIsSo f.0 f.1) es →
      AllByRecursion (λ (f : ℕ × Copy). CopyIsSo f.0 f.1) (each (λ y. end_copy u e) es)
  ends_each u e [] raise all = tt
  ends_each u e (f ∷ fs) raise all = (
    (λ same. end_so u e f.1 (λ is o there top. raise f.1 (inl (λ i. (same i, f.1))) is o there top (all.0 same)) (all.0 same)),
    ends_each u e fs (λ c i. raise c (inr i)) all.1,
  )

  end_one_so : (n : ℕ) (u : Uid) (e : End) (s : Server) → IsRaised u e s → CopiesAreSo s → CopiesAreSo (end_one n u e s).part
  end_one_so n u e s raise all = by (is_told u s) refl
    where
      by : (b : Bool) → is_told u s ≡ b → CopiesAreSo (cond {A = Did Server} b (did_nothing s) (end_new n u (taken_end u e s) s)).part
      by true on = all
      by false off = ends_each u (taken_end u e s) s.objects (λ c i is o there top its. raise off is c o i there top its) all

  pub told_so : (n : ℕ) (es : List (Uid × End)) (s : Server) → AreRaised n es s → CopiesAreSo s → CopiesAreSo (told n es s).part
  told_so n [] s raise all = all
  told_so n (e ∷ es) s raise all = told_so n es (end_one n e.0 e.1 s).part raise.1 (end_one_so n e.0 e.1 s raise.0 all)

  on_copy_so : (n : ℕ) (p : Path) (y : ℕ) (o : Op) (s : Server) → CopiesAreSo s → (f : Option Copy) → at_number y s.objects ≡ f →
      CopiesAreSo (on_copy y (invoke_copy n p y o) s f).part
  on_copy_so n p y o s all None there = all
  on_copy_so n p y o s all (Some c) there =
      keyed_put CopyIsSo y (ask_copy n p y o c (first_conflict (uids_of p) (object y) (op_mode o) c.rows)).part s.objects
      (λ same. asked_so n p y o c (first_conflict (uids_of p) (object y) (op_mode o) c.rows)
      (keyed_found CopyIsSo y s.objects c all there same)) all

  pub invoke_so : (n : ℕ) (h : Head) (y : ℕ) (b : Binding) (i : ℕ) (ends : List (Uid × End)) (o : Op) (s : Server) → AreRaised n ends s →
      CopiesAreSo s → CopiesAreSo (invoke n h y b i ends o s).part
  invoke_so n h y b i ends o s raise all = by (has_ended h.path s || is_below h.req (at_uid (actor h.path) s.kept))
    where
      Left : Served Server InvokedReply → Type 0
      Left r = CopiesAreSo r.part

      stays : (act : Uid) (req : ℕ) (a : Option InvokedReply) (v : Server) → CopiesAreSo v → CopiesAreSo (keeps act req a v)
      stays act req None v its = its
      stays act req (Some a) v its = its

      new : Left (invoke_new n h y ends o s)
      new =
          let t = (apply_ends n ends s).part in
          let r = on_copy y (invoke_copy n h.path y o) t (at_number y t.objects) in
          stays (actor h.path) h.req r.reply r.part (on_copy_so n h.path y o t (told_so n ends s raise all) (at_number y t.objects) refl)

      kept : (q : Option Kept) → Left (invoke_kept n h y ends o s q)
      kept None = new
      kept (Some q) = one (q.req == h.req)
        where
          one : (c : Bool) → Left (cond {A = Served Server InvokedReply} c (reply s q.answer) (invoke_new n h y ends o s))
          one true = all
          one false = new

      now : (w : Option What) → Left (invoke_now n h y ends o s w)
      now (Some w) = all
      now None = kept (at_uid (actor h.path) s.kept)

      by : (c : Bool) → Left (cond {A = Served Server InvokedReply} c (void s) (invoke_now n h y ends o s (changed_by i y b s)))
      by true = all
      by false = now (changed_by i y b s)

  pub vote_so : (n : ℕ) (p : Path) (i : ℕ) (ties : List (ℕ × Binding)) (ends : List (Uid × End)) (s : Server) → AreRaised n ends s →
      CopiesAreSo s → CopiesAreSo (vote n p i ties ends s).part
  vote_so n p i ties ends s raise all = by (has_ended p s)
    where
      now : (w : Option What) → CopiesAreSo (vote_now n (actor p) ends s w).part
      now (Some w) = all
      now None = told_so n ends s raise all

      by : (b : Bool) → CopiesAreSo (cond {A = Served Server VotedReply} b (void s)
          (vote_now n (actor p) ends s (either (other_inc i s.inc) (first_unbound ties s)))).part
      by true = all
      by false = now (either (other_inc i s.inc) (first_unbound ties s))
