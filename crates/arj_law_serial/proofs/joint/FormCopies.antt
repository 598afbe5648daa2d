-- What a server does with copies: their values stay as operations keep them, and so do the answers that it keeps.
use Rattle.arj_law_parts.proofs.Words
use Words.{◌==◌, ◌≡◌, ◌||◌, ℕ, List, [], ◌∷◌, Bool, true, false, cond, length, not, Option, Some, None, refl, min, IfSome, AllByRecursion}
use Words.{cons_option, filter_map, object, Binding, End, Head, InvokedReply, ObjectState, Op, Path, Row, Uid, Value, VotedReply, What}
use Words.{first_conflict, front, is_on, last_uid, op_mode, tops_of, uids_of, value_after, writes, actor, Copy, Over, ask_copy}
use Words.{changed_state, changed_states}
use Words.{current, end_copy, folded, invoke_copy, is_of, is_top_over, over_of, overs_committed, settled, taken_copy, written, Did}
use Words.{Served, did_nothing, either, reply, void, at_number, at_uid, binding_eq, binding_less, Kept, Server, activate, active_binding}
use Words.{apply_ends, changed_by, end_new, end_one, first_unbound, has_ended, invoke, invoke_kept, invoke_new, invoke_now, is_below}
use Words.{is_told}
use Words.{keeps, changed_states, on_copy, other_inc, told, took_copy, vote, vote_now}
use Words.ending
use Words.invoked
use Words.voted
use Rattle.arj_law_parts.proofs.parts.LivesNamed.{keyed_each, keyed_found, keyed_put}
use Rattle.arj_law_runs.proofs.addresses.Lists.{all_at_uid, all_filter, all_put, all_without}
use Rattle.arj_law_serial.specs.joint.Forms.{HasValues}
use Rattle.arj_protocol.specs.Server.{taken_end}

-- ---- copies

module _ (V : Value → Type 0) where
  abbrev IsSo : Over → Type 0
  IsSo o = V o.value

  written_so : (holder : List Uid) (tops : ℕ) (v : Value) (es : List Over) → V v → AllByRecursion IsSo es →
      AllByRecursion IsSo (written holder tops v es)
  written_so holder tops v [] its all = (its, tt)
  written_so holder tops v (e ∷ es) its all = by (is_of (last_uid holder) e)
    where
      by : (b : Bool) →
          AllByRecursion IsSo (cond b (record e { value = v } ∷ es) (record { holder = holder; tops = tops; value = v } ∷ e ∷ es))
      by true = (its, all.1)
      by false = (its, all)

  folded_so : (u : Uid) (es : List Over) → AllByRecursion IsSo es → AllByRecursion IsSo (folded u es)
  folded_so u [] all = tt
  folded_so u (e ∷ es) all = by (is_of u e)
    where
      by : (b : Bool) → AllByRecursion IsSo (cond b (written (front e.holder) (min e.tops (length (front e.holder))) e.value es) (e ∷ es))
      by true = written_so (front e.holder) (min e.tops (length (front e.holder))) e.value es all.0 all.1
      by false = all

  pub over_so : (u : Uid) (es : List Over) → AllByRecursion IsSo es → IfSome (over_of u es) IsSo
  over_so u [] all = tt
  over_so u (e ∷ es) all = by (is_of u e) (over_so u es all.1)
    where
      by : (b : Bool) → IfSome (over_of u es) IsSo → IfSome (cond b (Some e) (over_of u es)) IsSo
      by true ih = all.0
      by false ih = ih

  committed_so : (u : Uid) (o : Option Over) (c : Copy) → IfSome o IsSo → HasValues V c → HasValues V (overs_committed u o c)
  committed_so u None c its so = so
  committed_so u (Some e) c its so = by (is_top_over e)
    where
      by : (b : Bool) → HasValues V (cond {A = Copy} b (settled u e c) (record c { stack = folded u c.stack }))
      by true = record { base = its; over = all_filter IsSo (λ o. not (is_of u o)) c.stack so.over }
      by false = record { base = so.base; over = folded_so u c.stack so.over }

  pub ended_so : (u : Uid) (e : End) (c : Copy) → HasValues V c → HasValues V (end_copy u e c)
  ended_so u ending.Commit c so = let d = committed_so u (over_of u c.stack) c (over_so u c.stack so.over) so in
      record { base = d.base; over = d.over }
  ended_so u ending.Abort c so = record { base = so.base; over = all_filter IsSo (λ e. not (is_on e.holder u)) c.stack so.over }

  -- the value in place
  pub current_so : (c : Copy) → HasValues V c → V (current c.base c.stack)
  current_so c so = by c.stack so.over
    where
      by : (es : List Over) → AllByRecursion IsSo es → V (current c.base es)
      by [] all = so.base
      by (e ∷ es) all = all.0

  pub asked_so : (n : ℕ) (p : Path) (x : ℕ) (o : Op) (c : Copy) (r : Option Row) → ((v : Value) → V v → V (value_after o v)) →
      HasValues V c → HasValues V (ask_copy n p x o c r).part
  asked_so n p x o c (Some r) after so = so
  asked_so n p x o c None after so = record { base = so.base; over = by (writes o) }
    where
      by : (b : Bool) →
          AllByRecursion IsSo (cond b (written (uids_of p) (tops_of p) (value_after o (current c.base c.stack)) c.stack) c.stack)
      by true = written_so (uids_of p) (tops_of p) (value_after o (current c.base c.stack)) c.stack
          (after (current c.base c.stack) (current_so c so)) so.over
      by false = so.over

-- ---- servers

-- An object's copy stays so as actions end, and as an operation of this form is asked, which then has such an answer; such a state is taken
-- for one; and it may be answered that something differs.
pub record KeepCopies (C : ℕ → Copy → Type 0) (A : InvokedReply → Type 0) (F : Op → Type 0) (T : ObjectState → Type 0) : Type 0 where
  pub ends : (u : Uid) (e : End) (x : ℕ) (c : Copy) → C x c → C x (end_copy u e c)
  pub asks : (n : ℕ) (p : Path) (x : ℕ) (o : Op) (c : Copy) (r : Option Row) → F o → C x c →
      C x (ask_copy n p x o c r).part × IfSome (ask_copy n p x o c r).reply A
  pub takes : (b : Binding) (st : ObjectState) → T st → C st.uid.num (taken_copy b st)
  pub changed : (w : What) → A (invoked.Changed w)

module _ (C : ℕ → Copy → Type 0) (A : InvokedReply → Type 0) where
  -- copies are so, and answers that are kept
  abbrev pub ServerIs : Server → Type 0
  ServerIs s =
      AllByRecursion (λ (e : ℕ × Copy). C e.0 e.1) s.objects × AllByRecursion (λ (e : Uid × Kept). A (let k = e.1 in k.answer)) s.kept

  -- what a call leaves and answers
  abbrev pub Answers : Served Server InvokedReply → Type 0
  Answers r = ServerIs r.part × IfSome r.reply A

module _ (C : ℕ → Copy → Type 0) (A : InvokedReply → Type 0) (F : Op → Type 0) (T : ObjectState → Type 0) (k : KeepCopies C A F T) where
  pub activate_so : (n : ℕ) (p : Path) (b : Binding) (st : ObjectState) (s : Server) → T st → ServerIs C A s →
      ServerIs C A (activate n p b st s).part
  activate_so n p b st s its all =
      by (has_ended p s) (binding_less b (active_binding st.uid.num s)) (binding_eq b (active_binding st.uid.num s))
    where
      by : (over lower equal : Bool) → ServerIs C A
          (cond {A = Served Server ℕ} (over || lower) (void s) (cond equal (reply s s.inc) (took_copy n st.uid.num b st s))).part
      by true lower equal = all
      by false true equal = all
      by false false true = all
      by false false false = (keyed_put C st.uid.num (taken_copy b st) s.objects (k.takes b st its) all.0, all.1)

  end_one_so : (n : ℕ) (u : Uid) (e : End) (s : Server) → ServerIs C A s → ServerIs C A (end_one n u e s).part
  end_one_so n u e s all = by (is_told u s)
    where
      by : (b : Bool) → ServerIs C A (cond {A = Did Server} b (did_nothing s) (end_new n u (taken_end u e s) s)).part
      by true = all
      by false = (
        keyed_each C (λ x. end_copy u (taken_end u e s)) (k.ends u (taken_end u e s)) s.objects all.0,
        all_without (λ (e : Uid × Kept). A (let q = e.1 in q.answer)) u s.kept all.1,
      )

  pub told_so : (n : ℕ) (es : List (Uid × End)) (s : Server) → ServerIs C A s → ServerIs C A (told n es s).part
  told_so n [] s all = all
  told_so n (e ∷ es) s all = told_so n es (end_one n e.0 e.1 s).part (end_one_so n e.0 e.1 s all)

  on_copy_so : (n : ℕ) (p : Path) (x : ℕ) (o : Op) (s : Server) → F o → ServerIs C A s → (f : Option Copy) →
      at_number x s.objects ≡ f → Answers C A (on_copy x (invoke_copy n p x o) s f)
  on_copy_so n p x o s fits all None there = (all, k.changed _)
  on_copy_so n p x o s fits all (Some c) there =
      let r = first_conflict (uids_of p) (object x) (op_mode o) c.rows in
      let a = k.asks n p x o c r fits (keyed_found C x s.objects c all.0 there) in
      ((keyed_put C x (ask_copy n p x o c r).part s.objects a.0 all.0, all.1), a.1)

  pub invoke_so : (n : ℕ) (h : Head) (x : ℕ) (b : Binding) (i : ℕ) (ends : List (Uid × End)) (o : Op) (s : Server) → F o →
      ServerIs C A s → Answers C A (invoke n h x b i ends o s)
  invoke_so n h x b i ends o s fits all = by (has_ended h.path s || is_below h.req (at_uid (actor h.path) s.kept))
    where
      stays : (act : Uid) (req : ℕ) (a : Option InvokedReply) (v : Server) → IfSome a A → ServerIs C A v →
          ServerIs C A (keeps act req a v)
      stays act req None v sends its = its
      stays act req (Some a) v sends its = (
        its.0,
        all_put (λ (e : Uid × Kept). A (let q = e.1 in q.answer)) act (record { req = req; answer = a }) v.kept (λ w. sends) its.1,
      )

      new : Answers C A (invoke_new n h x ends o s)
      new =
          let t = (apply_ends n ends s).part in
          let r = on_copy x (invoke_copy n h.path x o) t (at_number x t.objects) in
          let a = on_copy_so n h.path x o t fits (told_so n ends s all) (at_number x t.objects) refl in
          (stays (actor h.path) h.req r.reply r.part a.1 a.0, a.1)

      kept : (q : Option Kept) → at_uid (actor h.path) s.kept ≡ q → Answers C A (invoke_kept n h x ends o s q)
      kept None there = new
      kept (Some q) there = one (q.req == h.req)
        where
          one : (c : Bool) → Answers C A (cond {A = Served Server InvokedReply} c (reply s q.answer) (invoke_new n h x ends o s))
          one true = (all, all_at_uid (λ (z : Kept). A z.answer) (actor h.path) q s.kept all.1 there)
          one false = new

      now : (w : Option What) → Answers C A (invoke_now n h x ends o s w)
      now (Some w) = (all, k.changed w)
      now None = kept (at_uid (actor h.path) s.kept) refl

      by : (c : Bool) → Answers C A (cond {A = Served Server InvokedReply} c (void s) (invoke_now n h x ends o s (changed_by i x b s)))
      by true = (all, tt)
      by false = now (changed_by i x b s)

  -- ---- votes

  module _ (S : ObjectState → Type 0) (Y : VotedReply → Type 0) (made : (top : Uid) (x : ℕ) (c : Copy) → C x c →
      IfSome (changed_state top x c) S) (yes : (states : List ObjectState) → AllByRecursion S states → Y (voted.Yes states))
      (changed : (w : What) → Y (voted.Changed w)) where
    changed_so : (top : Uid) (objects : List (ℕ × Copy)) → AllByRecursion (λ (e : ℕ × Copy). C e.0 e.1) objects →
        AllByRecursion S (filter_map (λ (e : ℕ × Copy). changed_state top e.0 e.1) objects)
    changed_so top [] all = tt
    changed_so top (e ∷ es) all = by (changed_state top e.0 e.1) (made top e.0 e.1 all.0) (changed_so top es all.1)
      where
        by : (o : Option ObjectState) → IfSome o S → AllByRecursion S (filter_map (λ (f : ℕ × Copy). changed_state top f.0 f.1) es) →
            AllByRecursion S (cons_option o (filter_map (λ (f : ℕ × Copy). changed_state top f.0 f.1) es))
        by None so ih = ih
        by (Some st) so ih = (so, ih)

    pub vote_so : (n : ℕ) (p : Path) (i : ℕ) (ties : List (ℕ × Binding)) (ends : List (Uid × End)) (s : Server) → ServerIs C A s →
        ServerIs C A (vote n p i ties ends s).part × IfSome (vote n p i ties ends s).reply Y
    vote_so n p i ties ends s all = by (has_ended p s)
      where
        Left : Served Server VotedReply → Type 0
        Left r = ServerIs C A r.part × IfSome r.reply Y

        now : (w : Option What) → Left (vote_now n (actor p) ends s w)
        now (Some w) = (all, changed w)
        now None = let t = told_so n ends s all in let d = apply_ends n ends s in
            (t, yes (changed_states (actor p) d.part) (changed_so (actor p) d.part.objects t.0))

        by : (b : Bool) → Left (cond {A = Served Server VotedReply} b (void s)
            (vote_now n (actor p) ends s (either (other_inc i s.inc) (first_unbound ties s))))
        by true = (all, tt)
        by false = now (either (other_inc i s.inc) (first_unbound ties s))
