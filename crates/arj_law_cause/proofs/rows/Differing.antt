-- What a server's answer says of incarnations and copies, where it finds that something changed, or takes a copy; and what naming's says
-- where it grants the write lock, and where it was restarted.
use Rattle.arj_law_parts.proofs.Words
use Words.{⊤, ◌≡◌, ◌⊎◌, ◌≤◌, ◌<◌, ◌∙◌, ◌+◌, ◌*◌, ◌==◌, ◌++◌, ◌&&◌, ◌||◌, not, ℕ, Bool, true, false, cond, List, [], ◌∷◌, Option, Some}
use Words.{None, refl}
use Words.{sym, ap, subst, inl, inr, ⊎_elim, arith, nat_tests, and_parts, eqb-true, eq-eqb, is_some, option_map}
use Words.{Ask, Asked, Binding, Body, End, Head, Header, InvokedReply, Line, Message, ObjectState, Op, RecordedReply, Reply, Row, Start}
use Words.{Uid, What}
use Words.{actor, answers, asked_by, asks, response, Disk, Do, Effect, Say, Send, Served, reply, void, Copy, Kept, Server, active_binding}
use Words.{apply_ends, ask_copy, at_number, at_uid, binding_eq, binding_number, binding_of, changed_by, changed_copy, either}
use Words.{first_conflict}
use Words.{has_ended, invoke_copy, invoke_kept, invoke_new, invoke_now, is_below, object, on_copy, op_mode, other_inc, took_copy, unbound}
use Words.{uids_of}
use Words.{Handled, Naming, Parts, Took, Void, handle, handle_ask, if_naming, is_meant, is_over, note_named, on_named, sends_answer}
use Words.{serve, served}
use Words.{top_of, with_naming, with_server, Node, numbered, binding_less}
use Words.{length, list_all, if◌then◌else◌, listed_entry, BoundReply, Named}
use Words.ask
use Words.body
use Words.bound
use Words.invoked
use Words.naming
use Words.recorded
use Words.server
use Words.what
use Rattle.arj_law_lock_view.proofs.Terms.{same_number}
use Rattle.arj_law_lock_view.specs.moments.Made.{Saying, Tells, is_again, is_kept, lines_behind}
use Rattle.arj_law_parts.proofs.moves.Happens.{Wide}
use Rattle.arj_law_parts.specs.moves.Moments.{Moment, up}
use Rattle.arj_law_parts.specs.moves.Seen as seen
use Rattle.arj_law_runs.specs.calls.Bindings.{HasFewBindings, bindings_made, most_bindings}
use Rattle.arj_model.specs.Actions.{Placed}
use Rattle.arj_model.specs.CauseCopies.{Activation, had_both, is_at, is_older, is_under, same_binding}
use Rattle.arj_model.specs.Refusals.{inc_step, incarnation}
use Rattle.arj_protocol.specs.Named.{bind_named}
use Rattle.arj_protocol.specs.Naming.{on_counted}
use Rattle.arj_law_cause.proofs.bindings.Active.{older_is}
use Rattle.arj_law_cause.proofs.bindings.Asking.{AskSo, AskedSo, IsSaidSo}
use Rattle.arj_law_cause.proofs.bindings.Binding.{GrantsNow, bind_grants}
use Rattle.arj_law_cause.proofs.bindings.Copies.{HasCopies, active_by}
use Rattle.arj_law_cause.proofs.bindings.Counted.{IsBefore, IsGiven}
use Rattle.arj_law_cause.proofs.bindings.Lines.{IsLined, inc_with}
use Rattle.arj_law_cause.proofs.bindings.Resting.{binding_at, ends_stay}
use Rattle.arj_law_cause.proofs.bindings.Said.{KnowsBindings}
use Rattle.arj_law_cause.proofs.bindings.Since.{AreLow, IsActiveIn, both_had, binding_is, low_more, met_in}
use Rattle.arj_law_cause.proofs.rows.Telling.{init_is, init_of, outs_in, same_reply}
use Rattle.arj_law_cause.proofs.rows.Inside.{handle_starts}
use Rattle.arj_law_runs.proofs.kept.Handled.{it}
use Rattle.arj_law_serial.proofs.holding.Says.{All, says}
use Rattle.arj_law_serial.proofs.holding.Sorts.{is_no_start}

some_is : {A : Type 0} {a b : A} → Some a ≡ Some b → a ≡ b
some_is {A} {a} {b} is = let k : ◌≡◌ {A = Option A} (Some a) (Some b) = is in cc

none_is : {A : Type 0} {x : A} → None ≡ Some x → ⊥
none_is {A} {x} is = let no_way : ◌≡◌ {A = Option A} None (Some x) = is in cc

-- ---- what is said

-- a server differs so from what was said of it
abbrev pub Differs : Start → ℕ → ℕ → What → List Line → Type 0
Differs st n x (what.Inc had now) before = (had < now) × (incarnation st before n ≡ now)
Differs st n x (what.Bind had now) before = (is_older had now ≡ true) × (had_both n x had now before ≡ true)

-- Where a server finds that something changed, it differs so; where it takes a copy, it says its incarnation; and naming names its own,
-- where it grants the write lock, and where that isn't the one of the grant.
abbrev pub says_differs : Start → ℕ → Head → Ask → Reply → List Line → Type 0
says_differs st n h (ask.Invoke x b i ends o) (Reply.Invoked (invoked.Changed w)) before =
    HasFewBindings before → Differs st n x w before × ((j k : ℕ) → w ≡ what.Inc j k → j ≡ i)
says_differs st n h (ask.Activate b s) (Reply.Activated i) before = (incarnation st before n ≡ i) × AreLow st before
says_differs st n h (ask.Bind x include avoid) (Reply.Bound (bound.Make b s g stores)) before = g ≡ incarnation st before 1
says_differs st n h (ask.Bind x include avoid) (Reply.Bound (bound.Write g stores)) before = g ≡ incarnation st before 1
says_differs st n h (ask.Record x b i g) (Reply.Noted (recorded.Changed w)) before =
    (n ≡ 1) × (w ≡ what.Inc g (incarnation st before 1)) × (g < incarnation st before 1)
says_differs st n h a r before = ⊤

-- so it is of an answer
abbrev pub differs_so : Start → Saying
differs_so st a before = says_differs st (let z = a in z.from) (let z = a in z.head) (let z = a in z.ask) (let z = a in z.reply) before

-- ---- an Invoke

either_none : {A : Type 0} (o p : Option A) → either o p ≡ None → (o ≡ None) × (p ≡ None)
either_none None p is = (refl, is)
either_none {A} (Some a) p is = absurd (none_is (sym is))

copy_there : (b : Binding) (o : Option Copy) → changed_copy b o ≡ None → (c : Copy) × (o ≡ Some c)
copy_there b None is = absurd (none_is (sym is))
copy_there b (Some c) is = (c, refl)

-- an answer that something changed is given before anything is done
module _ (n : ℕ) (h : Head) (x : ℕ) (ends : List (Uid × End)) (o : Op) (w : What) where
  abbrev Changes : Option What → Served Server InvokedReply → Type 0
  Changes found r = r.reply ≡ Some (invoked.Changed w) → (found ≡ Some w) × (r.outs ≡ [])

  never_changed : (c : Copy) (f : Option Row) → (ask_copy n h.path x o c f).reply ≡ Some (invoked.Changed w) → ⊥
  never_changed c None is = let no_way : ◌≡◌ {A = InvokedReply} (invoked.Answered _) (invoked.Changed w) = some_is is in cc no_way
  never_changed c (Some r) is = let no_way : ◌≡◌ {A = InvokedReply} (invoked.Conflict _ _) (invoked.Changed w) = some_is is in cc no_way

  new_none : (s : Server) (c : Copy) → at_number x s.objects ≡ Some c →
      (invoke_new n h x ends o s).reply ≡ Some (invoked.Changed w) → ⊥
  new_none s c there is = by (at_number x t.objects) refl is
    where
      t : Server
      t = (apply_ends n ends s).part

      still : binding_at x (apply_ends n ends s).part ≡ Some c.binding
      still = (ends_stay n ends s).0 x ∙ ap (option_map (λ (z : Copy). z.binding)) there

      by : (f : Option Copy) → at_number x (apply_ends n ends s).part.objects ≡ f →
          (on_copy x (invoke_copy n h.path x o) (apply_ends n ends s).part f).reply ≡ Some (invoked.Changed w) → ⊥
      by None at is = none_is (sym (ap (option_map (λ (z : Copy). z.binding)) at) ∙ still)
      by (Some q) at is = never_changed q (first_conflict (uids_of h.path) (object x) (op_mode o) q.rows) is

  pub invoke_changes : (b : Binding) (i : ℕ) (s : Server) → is_again h (ask.Invoke x b i ends o) s ≡ false →
      Changes (changed_by i x b s) (server.invoke n h x b i ends o s)
  invoke_changes b i s new = by (has_ended h.path s || is_below h.req (at_uid (actor h.path) s.kept))
    where
      new_so : changed_by i x b s ≡ None → (invoke_new n h x ends o s).reply ≡ Some (invoked.Changed w) → ⊥
      new_so none is = let c = copy_there b (at_number x s.objects) (either_none (other_inc i s.inc)
          (changed_copy b (at_number x s.objects)) none).1 in new_none s c.0 c.1 is

      kept : changed_by i x b s ≡ None → (f : Option Kept) → is_kept h.req f ≡ false →
          (invoke_kept n h x ends o s f).reply ≡ Some (invoked.Changed w) → ⊥
      kept none None off is = new_so none is
      kept none (Some q) off is = one (q.req == h.req) off is
        where
          one : (c : Bool) → c ≡ false → (cond {A = Served Server InvokedReply} c (reply s q.answer) (invoke_new n h x ends o s)).reply ≡
              Some (invoked.Changed w) → ⊥
          one true e is = absurd (cc e)
          one false e is = new_so none is

      now : (f : Option What) → changed_by i x b s ≡ f → (not (is_some f) && is_kept h.req (at_uid (actor h.path) s.kept)) ≡ false →
          Changes f (invoke_now n h x ends o s f)
      now (Some v) at off is = (ap (λ q. Some (what_in q)) (some_is is), refl)
        where
          what_in : InvokedReply → What
          what_in (invoked.Changed z) = z
          what_in q = v
      now None at off is = absurd (kept at (at_uid (actor h.path) s.kept) off is)

      by : (c : Bool) → Changes (changed_by i x b s) (cond {A = Served Server InvokedReply} c (void s)
          (invoke_now n h x ends o s (changed_by i x b s)))
      by true is = absurd (none_is is)
      by false is = now (changed_by i x b s) refl new is

-- ---- a server by the journal

module _ (st : Start) (n : ℕ) (s : Server) (ls : List Line) (given : IsGiven st ls) (low : AreLow st ls) (had : HasCopies n s st ls)
    (level : incarnation st ls n ≡ s.inc) (few : HasFewBindings ls) (x : ℕ) (b : Binding) (lined : IsLined ls x b n) (i : ℕ)
    (said : IsSaidSo (IsLined ls) (active_by ls) (met_in st ls) x b n i) where
  count_low : (m : ℕ) → m ≤ bindings_made ls → m < 4294967296
  count_low m le = under m (bindings_made ls) le few
    where
      under : (m k : ℕ) → m ≤ k → k < most_bindings → m < 4294967296
      under m k le few = omega (arith, le, few)

  -- another incarnation is an earlier one
  earlier : (i == s.inc) ≡ false → i < s.inc
  earlier off = by said
    where
      above : i ≡ 0 → i < s.inc
      above none = grind (arith, nat_tests, none, off)

      under : i ≤ incarnation st ls n → i < s.inc
      under le = grind (arith, nat_tests, le, level, off)

      by : IsSaidSo (IsLined ls) (active_by ls) (met_in st ls) x b n i → i < s.inc
      by (inl none) = above none
      by (inr met) = under (low.low n x b i (met few))

  -- in the same one a copy was active under the binding
  among : (i == s.inc) ≡ true → IsActiveIn st ls n x b (incarnation st ls n)
  among on = by said
    where
      same : i ≡ incarnation st ls n
      same = eqb-true i s.inc on ∙ sym level

      never : (m : ℕ) → m ≡ 0 → i ≡ m → 1 ≤ incarnation st ls n → ⊥
      never m none is some = omega (arith, none, is, some, same)

      by : IsSaidSo (IsLined ls) (active_by ls) (met_in st ls) x b n i → IsActiveIn st ls n x b (incarnation st ls n)
      by (inl none) = absurd (never i none refl (low.some n))
      by (inr met) = subst (IsActiveIn st ls n x b) same (met few)

  -- it isn't newer than what the server has
  under_now : (i == s.inc) ≡ true → binding_number b ≤ binding_number (active_binding x s)
  under_now on =
      let a = had.since x b (among on) in
      found a.0 (Rattle.arj_law_cause.proofs.bindings.Lines.copies n ls) a.1 had.above a.2
    where
      use_of : Placed Activation → Type 0
      use_of a = (let c = a.it in c.node == n) ≡ true →
          (binding_number (let c = a.it in c.binding) ≤ binding_number (active_binding (let c = a.it in c.x) s)) × IsLined ls
          (let c = a.it in c.x) (let c = a.it in c.binding) n

      found : (a : Placed Activation) (cs : List (Placed Activation)) → Words.In a cs →
          Words.AllByRecursion (Rattle.arj_law_cause.proofs.bindings.Copies.IsUnder n s ls) cs → is_under n x b a ≡ true →
          binding_number b ≤ binding_number (active_binding x s)
      found a [] j all is = absurd j
      found a (c ∷ cs) (inr j) all is = found a cs j all.1 is
      found a (c ∷ cs) (inl same) all is =
          let f : use_of a = subst (Rattle.arj_law_cause.proofs.bindings.Copies.IsUnder n s ls) same all.0 in
          let p = and_parts (is_at n x a.it) (same_binding (let z = a.it in z.binding) b) is in
          let q = and_parts ((let z = a.it in z.node) == n) ((let z = a.it in z.x) == x) p.0 in
          subst (λ c. binding_number c ≤ binding_number (active_binding x s)) (binding_is (let z = a.it in z.binding) b p.1)
          (subst (λ y. binding_number (let z = a.it in z.binding) ≤ binding_number (active_binding y s))
          (eqb-true (let z = a.it in z.x) x q.1) (f q.0).0)

  pub differs_now : (w : What) → changed_by i x b s ≡ Some w →
      Differs st n x w ls × ((j k : ℕ) → w ≡ what.Inc j k → j ≡ i)
  differs_now w is = by (i == s.inc) refl is
    where
      had_inc : What → ℕ
      had_inc (what.Inc j k) = j
      had_inc w = i

      is_inc : What → Bool
      is_inc (what.Inc j k) = true
      is_inc w = false

      copied : (i == s.inc) ≡ true → (o : Option Copy) → at_number x s.objects ≡ o → changed_copy b o ≡ Some w →
          Differs st n x w ls × ((j k : ℕ) → w ≡ what.Inc j k → j ≡ i)
      copied on None at is = absurd (none_left (binding_number b) b.inc b.count (subst (λ o. binding_number b ≤ binding_number (binding_of
          o))
          at (under_now on)) refl (given.some x b n lined))
        where
          none_left : (m j c : ℕ) → m ≤ 0 * 4294967296 + 0 → m ≡ j * 4294967296 + c → 1 ≤ c → ⊥
          none_left m j c le is some = omega (arith, le, is, some)
      copied on (Some c) at is = one (binding_eq b c.binding) refl is
        where
          one : (q : Bool) → binding_eq b c.binding ≡ q → cond q None (Some (what.Bind b c.binding)) ≡ Some w →
              Differs st n x w ls × ((j k : ℕ) → w ≡ what.Inc j k → j ≡ i)
          one true same found = absurd (none_is found)
          one false off found = subst (λ z. Differs st n x z ls × ((j k : ℕ) → z ≡ what.Inc j k → j ≡ i)) (some_is found) (
            (
              older_is b c.binding (count_low b.count (given.small x b n lined)) (count_low (let d = c.binding in d.count)
                  (given.small x c.binding n (had.there x c at).0))
                  (less (binding_number b) (binding_number c.binding)
                  (subst (λ o. binding_number b ≤ binding_number (binding_of o)) at (under_now on)) off),
              both_had n x b c.binding ls (λ same. let no_way : true ≡ false = sym (same_number (binding_number b))
                  ∙ ap (λ z. binding_number b == binding_number z) same ∙ off in cc no_way) (had.since x b (among on)) (had.last x c at),
            ),
            λ j k same. let no_way : false ≡ true = ap is_inc same in absurd (cc no_way),
          )
            where
              less : (m k : ℕ) → m ≤ k → (m == k) ≡ false → m < k
              less m k le off = grind (arith, nat_tests, le, off)

      by : (q : Bool) → (i == s.inc) ≡ q → either (cond q None (Some (what.Inc i s.inc))) (changed_copy b (at_number x s.objects)) ≡
          Some w → Differs st n x w ls × ((j k : ℕ) → w ≡ what.Inc j k → j ≡ i)
      by false off found = subst (λ z. Differs st n x z ls × ((j k : ℕ) → z ≡ what.Inc j k → j ≡ i)) (some_is found)
          ((earlier off, level), λ j k same. sym (ap had_inc same))
      by true on found = copied on (at_number x s.objects) refl found

-- ---- an Activate, and a Record

pub activate_says : (n : ℕ) (h : Head) (b : Binding) (u : ObjectState) (s : Server) (i : ℕ) →
    (server.activate n h.path b u s).reply ≡ Some i →
    (i ≡ s.inc) × (((server.activate n h.path b u s).outs ≡ [])
    ⊎ ((server.activate n h.path b u s).outs ≡ Say (body.Active n (let z = u.uid in z.num) b) ∷ []))
activate_says n h b u s i =
    by (has_ended h.path s || binding_less b (active_binding (let z = u.uid in z.num) s)) (binding_eq b (active_binding
    (let z = u.uid in z.num) s))
  where
    Says : Served Server ℕ → Type 0
    Says r = r.reply ≡ Some i → (i ≡ s.inc) × ((r.outs ≡ []) ⊎ (r.outs ≡ Say (body.Active n (let z = u.uid in z.num) b) ∷ []))

    by : (o q : Bool) → Says (cond {A = Served Server ℕ} o (void s) (cond {A = Served Server ℕ} q (reply s s.inc)
        (took_copy n (let z = u.uid in z.num) b u s)))
    by true q is = absurd (none_is is)
    by false true is = (sym (some_is is), inl refl)
    by false false is = (sym (some_is is), inr refl)

pub note_says : (h : Head) (x : ℕ) (b : Binding) (i g : ℕ) (o : Naming) (w : What) →
    (naming.note h.path x b i g o).reply ≡ Some (recorded.Changed w) →
    (w ≡ what.Inc g o.inc) × ((g == o.inc) ≡ false) × ((naming.note h.path x b i g o).outs ≡ [])
note_says h x b i g o w = by (is_over h.path o || not (is_some (at_number x o.objects))) (g == o.inc) refl
  where
    never : (q : RecordedReply) → recorded.Yes ≡ q → q ≡ recorded.Changed w → ⊥
    never q one other = let no_way : recorded.Yes ≡ recorded.Changed w = one ∙ other in cc no_way

    IsNone : {S : Type 0} → Served S RecordedReply → Type 0
    IsNone r = r.reply ≡ Some (recorded.Changed w) → ⊥

    noted : (q : Words.Named) → IsNone (note_named x (top_of h.path) b i q)
    noted q = one (Words.is_binding b q.recorded)
      where
        made : (m : Words.Made) (c : Bool) → IsNone (cond {A = Served Words.Named RecordedReply} c (reply q recorded.Yes)
            (record {
              part = Words.lowered x (top_of h.path) (Words.in_use (top_of h.path) m i q);
              outs = Words.lower_lines x
                  (top_of h.path) q;
              reply = Some recorded.Yes;
            }))
        made m true is = never recorded.Yes refl (some_is is)
        made m false is = never recorded.Yes refl (some_is is)

        other : (f : Option Words.Made) → IsNone (Words.note_other x (top_of h.path) b i q f)
        other None is = none_is is
        other (Some m) is = each (binding_eq b m.binding) is
          where
            each : (c : Bool) → IsNone (cond {A = Served Words.Named RecordedReply} c (Words.note_made x (top_of h.path) i q m) (void q))
            each true is = made m m.recorded is
            each false is = none_is is

        one : (c : Bool) → IsNone (cond {A = Served Words.Named RecordedReply} c (reply q recorded.Yes)
            (Words.note_other x (top_of h.path) b i q (at_uid (top_of h.path) q.made)))
        one true is = never recorded.Yes refl (some_is is)
        one false is = other (at_uid (top_of h.path) q.made) is

    there : (f : Option Words.Named) → IsNone (on_named x (note_named x (top_of h.path) b i) o f)
    there None is = none_is is
    there (Some q) is = noted q is

    what_in : RecordedReply → What
    what_in (recorded.Changed z) = z
    what_in q = w

    Says : Served Naming RecordedReply → Type 0
    Says r = r.reply ≡ Some (recorded.Changed w) → (w ≡ what.Inc g o.inc) × ((g == o.inc) ≡ false) × (r.outs ≡ [])

    by : (over ours : Bool) → (g == o.inc) ≡ ours → Says (cond {A = Served Naming RecordedReply} over (void o)
        (cond {A = Served Naming RecordedReply} ours (on_named x (note_named x (top_of h.path) b i) o (at_number x o.objects))
        (reply o (recorded.Changed (what.Inc g o.inc)))))
    by true ours at is = absurd (none_is is)
    by false true at is = absurd (there (at_number x o.objects) is)
    by false false at is = (sym (ap what_in (some_is is)), at, refl)

-- ---- a request that is served

module _ (k : ℕ) (d : Disk) (t v : Parts) (from : ℕ) (m : Message) (h : Head) (r : Reply) (front : List Effect) (M : Moment)
    (known : Wide KnowsBindings (up k d t M)) (there : seen.In (record { from = from; to = k; message = m }) M.seen.sent) where
  abbrev Sent : Handled → Type 0
  Sent a = a ≡ Took v (front ++ Send from (response (asked_by h) r) ∷ [])

  abbrev Behind : List Line
  Behind = lines_behind M.past.number front M.seen.lines

  replied : (w : Parts) (outs : List Effect) (q : Reply) → Took w (outs ++ Send from (response (asked_by h) q) ∷ []) ≡
      Took v (front ++ Send from (response (asked_by h) r) ∷ []) → (r ≡ q) × (outs ≡ front)
  replied w outs q same = (
    same_reply from h r q front outs (sym (ap outs_in same)),
    sym (init_is outs (Send from (response (asked_by h) q))) ∙ ap init_of (ap outs_in same)
        ∙ init_is front (Send from (response (asked_by h) r)),
  )

  here : (let N = up k d t M in N.seen.nodes k) ≡ Some (record { number = k; disk = d; live = Some t })
  here = λ i. cond (same_number k i) (Some (record { number = k; disk = d; live = Some t })) (M.seen.nodes k)

  pub level : incarnation M.seen.start M.seen.lines k ≡ (let s = t.server in s.inc)
  level = (let q = known.2.0.1.0.1 k (record { number = k; disk = d; live = Some t }) here in q.1 t refl).0
      ∙ sym (let u = it 0 k d t (seen.with_sent known.0 M.seen) known.2.0.0.0.0.0 in u.server)

  had : HasCopies k t.server M.seen.start M.seen.lines
  had = known.2.1.1.1 k (record { number = k; disk = d; live = Some t }) t here refl

  asking : AskedSo (IsLined M.seen.lines) (active_by M.seen.lines) (met_in M.seen.start M.seen.lines) k (asks m)
  asking = let s = known.2.1.0 in let p = s.sent (record { from = from; to = k; message = m }) (known.1 _ there) in p.asking

  invoked_says : (x : ℕ) (b : Binding) (i : ℕ) (ends : List (Uid × End)) (o : Op) → asks m ≡ Some (h, ask.Invoke x b i ends o) →
      is_again h (ask.Invoke x b i ends o) t.server ≡ false → Sent (serve k d t from h (ask.Invoke x b i ends o)) →
      says_differs M.seen.start k h (ask.Invoke x b i ends o) r (lines_behind M.past.number front M.seen.lines)
  invoked_says x b i ends o asks_it new is = by (server.invoke k h x b i ends o t.server).reply refl is
    where
      its : IsLined M.seen.lines x b k × IsSaidSo (IsLined M.seen.lines) (active_by M.seen.lines) (met_in M.seen.start M.seen.lines) x b k i
      its = subst (AskedSo (IsLined M.seen.lines) (active_by M.seen.lines) (met_in M.seen.start M.seen.lines) k) asks_it asking

      says : (q : InvokedReply) → (server.invoke k h x b i ends o t.server).reply ≡ Some q →
          (server.invoke k h x b i ends o t.server).outs ≡ front →
          says_differs M.seen.start k h (ask.Invoke x b i ends o) (Reply.Invoked q) (lines_behind M.past.number front M.seen.lines)
      says (invoked.Answered a) at same = tt
      says (invoked.Conflict u m) at same = tt
      says (invoked.Changed w) at same =
          let c = invoke_changes k h x ends o w b i t.server new at in
          subst (λ fs. says_differs M.seen.start k h (ask.Invoke x b i ends o) (Reply.Invoked (invoked.Changed w))
          (lines_behind M.past.number fs M.seen.lines)) (sym c.1 ∙ same)
          (λ few. differs_now M.seen.start k t.server M.seen.lines known.2.0.1.1.0 known.2.1.1.0 had level few x b its.0 i its.1 w c.0)

      by : (f : Option InvokedReply) → (server.invoke k h x b i ends o t.server).reply ≡ f →
          Sent (sends_answer from h (with_server t (server.invoke k h x b i ends o t.server).part)
          (server.invoke k h x b i ends o t.server).outs (option_map Reply.Invoked f)) →
          says_differs M.seen.start k h (ask.Invoke x b i ends o) r (lines_behind M.past.number front M.seen.lines)
      by None at e = let no_way : Void [] ≡ Took v (front ++ Send from (response (asked_by h) r) ∷ []) = e in absurd (cc no_way)
      by (Some q) at e =
          let z = replied (with_server t (server.invoke k h x b i ends o t.server).part) (server.invoke k h x b i ends o t.server).outs
          (Reply.Invoked q) e in
          subst (λ y. says_differs M.seen.start k h (ask.Invoke x b i ends o) y (lines_behind M.past.number front M.seen.lines)) (sym z.0)
          (says q at z.1)

  activated_says : (b : Binding) (u : ObjectState) → Sent (serve k d t from h (ask.Activate b u)) →
      says_differs M.seen.start k h (ask.Activate b u) r (lines_behind M.past.number front M.seen.lines)
  activated_says b u is = by (server.activate k h.path b u t.server).reply refl is
    where
      same_inc : (fs : List Effect) → (fs ≡ []) ⊎ (fs ≡ Say (body.Active k (let z = u.uid in z.num) b) ∷ []) →
          incarnation M.seen.start (lines_behind M.past.number fs M.seen.lines) k ≡ incarnation M.seen.start M.seen.lines k
      same_inc fs (inl none) = ap (λ es. incarnation M.seen.start (lines_behind M.past.number es M.seen.lines) k) none
      same_inc fs (inr one) = ap (λ es. incarnation M.seen.start (lines_behind M.past.number es M.seen.lines) k) one
          ∙ inc_with M.seen.start k M.past.number M.seen.lines (body.Active k (let z = u.uid in z.num) b)

      still_low : (fs : List Effect) → (fs ≡ []) ⊎ (fs ≡ Say (body.Active k (let z = u.uid in z.num) b) ∷ []) →
          AreLow M.seen.start (lines_behind M.past.number fs M.seen.lines)
      still_low fs (inl none) = subst (λ es. AreLow M.seen.start (lines_behind M.past.number es M.seen.lines)) (sym none) known.2.1.1.0
      still_low fs (inr one) = subst (λ es. AreLow M.seen.start (lines_behind M.past.number es M.seen.lines)) (sym one)
          (low_more M.seen.start M.seen.lines M.past.number (body.Active k (let z = u.uid in z.num) b)
          (λ n. no_less (incarnation M.seen.start M.seen.lines n) _ (sym (inc_with M.seen.start n M.past.number M.seen.lines
          (body.Active k (let z = u.uid in z.num) b)))) known.2.1.1.0)
        where
          no_less : (i j : ℕ) → i ≡ j → i ≤ j
          no_less i j same = omega (arith, same)

      by : (f : Option ℕ) → (server.activate k h.path b u t.server).reply ≡ f →
          Sent (sends_answer from h (with_server t (server.activate k h.path b u t.server).part)
          (server.activate k h.path b u t.server).outs (option_map Reply.Activated f)) →
          says_differs M.seen.start k h (ask.Activate b u) r (lines_behind M.past.number front M.seen.lines)
      by None at e = let no_way : Void [] ≡ Took v (front ++ Send from (response (asked_by h) r) ∷ []) = e in absurd (cc no_way)
      by (Some i) at e =
          let z = replied (with_server t (server.activate k h.path b u t.server).part) (server.activate k h.path b u t.server).outs
          (Reply.Activated i) e in
          let a = activate_says k h b u t.server i at in
          subst (λ y. says_differs M.seen.start k h (ask.Activate b u) y (lines_behind M.past.number front M.seen.lines)) (sym z.0) (
            same_inc front (wrote z.1 a.1) ∙ level ∙ sym a.0,
            still_low front (wrote z.1 a.1),
          )
        where
          wrote : {es : List Effect} → es ≡ front → (es ≡ []) ⊎ (es ≡ Say (body.Active k (let z = u.uid in z.num) b) ∷ []) →
              (front ≡ []) ⊎ (front ≡ Say (body.Active k (let z = u.uid in z.num) b) ∷ [])
          wrote same did = subst (λ fs. (fs ≡ []) ⊎ (fs ≡ Say (body.Active k (let z = u.uid in z.num) b) ∷ [])) same did

  noted_says : (x : ℕ) (b : Binding) (i g : ℕ) → asks m ≡ Some (h, ask.Record x b i g) → Sent (serve k d t from h (ask.Record x b i g)) →
      says_differs M.seen.start k h (ask.Record x b i g) r (lines_behind M.past.number front M.seen.lines)
  noted_says x b i g asks_it is = with_it t.naming refl is
    where
      its : AskSo (IsLined M.seen.lines) (active_by M.seen.lines) (met_in M.seen.start M.seen.lines) k (ask.Record x b i g)
      its = subst (AskedSo (IsLined M.seen.lines) (active_by M.seen.lines) (met_in M.seen.start M.seen.lines) k) asks_it asking

      -- its binding was made in an incarnation of naming up to this one
      earlier : (g == incarnation M.seen.start M.seen.lines 1) ≡ false → g < incarnation M.seen.start M.seen.lines 1
      earlier off = by (let z = known.2.0.1.1.0 in z.older x b its.0 its.1)
        where
          less : (j k : ℕ) → g ≡ j → j < k → g < k
          less j k same low = omega (arith, same, low)

          never : (j k : ℕ) → g ≡ j → j ≡ k → (g == k) ≡ false → g < k
          never j k same is none = let no_way : true ≡ false = sym (Words.eq-eqb g k (same ∙ is)) ∙ none in absurd (cc no_way)

          by : IsBefore (incarnation M.seen.start M.seen.lines 1) (length (Rattle.arj_law_cause.proofs.bindings.Lines.made M.seen.lines))
              b →
              g < incarnation M.seen.start M.seen.lines 1
          by (inl low) = less b.inc (incarnation M.seen.start M.seen.lines 1) its.4 low
          by (inr same) = never b.inc (incarnation M.seen.start M.seen.lines 1) its.4 same.0 off

      named : (o : Naming) → t.naming ≡ Some o → Sent (served from h (with_naming t) Reply.Noted (naming.note h.path x b i g o)) →
          says_differs M.seen.start k h (ask.Record x b i g) r (lines_behind M.past.number front M.seen.lines)
      named o at_it e = by (naming.note h.path x b i g o).reply refl e
        where
          c : Rattle.arj_law_cause.proofs.bindings.Counted.IsCounted k o M.seen.start M.seen.lines
          c = known.2.0.1.1.1 k (record { number = k; disk = d; live = Some t }) t here refl o at_it

          says : (q : RecordedReply) → (naming.note h.path x b i g o).reply ≡ Some q → (naming.note h.path x b i g o).outs ≡ front →
              says_differs M.seen.start k h (ask.Record x b i g) (Reply.Noted q) (lines_behind M.past.number front M.seen.lines)
          says recorded.Yes at same = tt
          says (recorded.Changed w) at same =
              let z = note_says h x b i g o w at in
              subst (λ fs. says_differs M.seen.start k h (ask.Record x b i g) (Reply.Noted (recorded.Changed w))
              (lines_behind M.past.number fs M.seen.lines)) (sym z.2 ∙ same)
              (c.first, z.0 ∙ ap (what.Inc g) c.inc, earlier (subst (λ j. (g == j) ≡ false) c.inc z.1))

          by : (f : Option RecordedReply) → (naming.note h.path x b i g o).reply ≡ f →
              Sent (sends_answer from h (with_naming t (naming.note h.path x b i g o).part) (naming.note h.path x b i g o).outs
              (option_map Reply.Noted f)) →
              says_differs M.seen.start k h (ask.Record x b i g) r (lines_behind M.past.number front M.seen.lines)
          by None at e = let no_way : Void [] ≡ Took v (front ++ Send from (response (asked_by h) r) ∷ []) = e in absurd (cc no_way)
          by (Some q) at e =
              let z = replied (with_naming t (naming.note h.path x b i g o).part) (naming.note h.path x b i g o).outs (Reply.Noted q) e in
              subst (λ y. says_differs M.seen.start k h (ask.Record x b i g) y (lines_behind M.past.number front M.seen.lines)) (sym z.0)
              (says q at z.1)

      with_it : (f : Option Naming) → t.naming ≡ f →
          Sent (if_naming (λ o. served from h (with_naming t) Reply.Noted (naming.note h.path x b i g o)) f) →
          says_differs M.seen.start k h (ask.Record x b i g) r (lines_behind M.past.number front M.seen.lines)
      with_it None at e = let no_way : Void [] ≡ Took v (front ++ Send from (response (asked_by h) r) ∷ []) = e in absurd (cc no_way)
      with_it (Some o) at e = named o at e

  -- naming's incarnation stays where no line says that a node starts
  pub behind_inc : (e : ℕ) (es : List Effect) (ls : List Line) → All (is_no_start 1) es →
      incarnation M.seen.start (lines_behind e es ls) 1 ≡ incarnation M.seen.start ls 1
  behind_inc e [] ls calm = refl
  behind_inc e (Say b ∷ es) ls calm =
      let p = and_parts (is_no_start 1 b) (list_all (says (is_no_start 1)) es) calm in
      behind_inc e es (ls ++ numbered e (b ∷ [])) p.1 ∙ inc_with M.seen.start 1 e ls b ∙ one b (incarnation M.seen.start ls 1) p.0
    where
      one : (b : Body) (i : ℕ) → is_no_start 1 b ≡ true → inc_step 1 b i ≡ i
      one (body.Up n j) i is = go (n == 1) is
        where
          go : (c : Bool) → not c ≡ true → (if c then j else i) ≡ i
          go true h = absurd (cc h)
          go false off = refl
      one b i is = refl
  behind_inc e (Send to p ∷ es) ls calm = behind_inc e es ls (and_parts true (list_all (says (is_no_start 1)) es) calm).1
  behind_inc e (Do w ∷ es) ls calm = behind_inc e es ls (and_parts true (list_all (says (is_no_start 1)) es) calm).1

  bound_says : (x : ℕ) (include : Bool) (avoid : Binding) → All (is_no_start 1) front → Sent (serve k d t from h (ask.Bind x include avoid)) →
      says_differs M.seen.start k h (ask.Bind x include avoid) r (lines_behind M.past.number front M.seen.lines)
  bound_says x include avoid calm is = with_it t.naming refl is
    where
      named : (o : Naming) → t.naming ≡ Some o →
          Sent (served from h (with_naming t) Reply.Bound (naming.bind h.path x include avoid d.names o)) →
          says_differs M.seen.start k h (ask.Bind x include avoid) r (lines_behind M.past.number front M.seen.lines)
      named o at_it e = by (naming.bind h.path x include avoid d.names o).reply refl e
        where
          c : Rattle.arj_law_cause.proofs.bindings.Counted.IsCounted k o M.seen.start M.seen.lines
          c = known.2.0.1.1.1 k (record { number = k; disk = d; live = Some t }) t here refl o at_it

          grants : GrantsNow o.inc (naming.bind h.path x include avoid d.names o).reply
          grants = over (is_over h.path o)
            where
              found : (f : Option Named) → GrantsNow o.inc
                  (on_counted x (bind_named o.inc x h.path include avoid (listed_entry x d.names)) o f).reply
              found None = tt
              found (Some q) = bind_grants o.inc x h.path (listed_entry x d.names) (record { named = q; count = o.count }) include avoid

              over : (b : Bool) → GrantsNow o.inc (cond {A = Served Naming BoundReply} b (void o)
                  (on_counted x (bind_named o.inc x h.path include avoid (listed_entry x d.names)) o (at_number x o.objects))).reply
              over true = tt
              over false = found (at_number x o.objects)

          says : (q : BoundReply) → GrantsNow o.inc (Some q) →
              says_differs M.seen.start k h (ask.Bind x include avoid) (Reply.Bound q) (lines_behind M.past.number front M.seen.lines)
          says (bound.Make b s g stores) its = its ∙ c.inc ∙ sym (behind_inc M.past.number front M.seen.lines calm)
          says (bound.Live b s i g stores) its = tt
          says (bound.Write g stores) its = its ∙ c.inc ∙ sym (behind_inc M.past.number front M.seen.lines calm)
          says (bound.Conflict u w) its = tt

          by : (f : Option BoundReply) → (naming.bind h.path x include avoid d.names o).reply ≡ f →
              Sent (sends_answer from h (with_naming t (naming.bind h.path x include avoid d.names o).part)
              (naming.bind h.path x include avoid d.names o).outs (option_map Reply.Bound f)) →
              says_differs M.seen.start k h (ask.Bind x include avoid) r (lines_behind M.past.number front M.seen.lines)
          by None at e = let no_way : Void [] ≡ Took v (front ++ Send from (response (asked_by h) r) ∷ []) = e in absurd (cc no_way)
          by (Some q) at e =
              let z = replied (with_naming t (naming.bind h.path x include avoid d.names o).part)
              (naming.bind h.path x include avoid d.names o).outs (Reply.Bound q) e in
              subst (λ y. says_differs M.seen.start k h (ask.Bind x include avoid) y (lines_behind M.past.number front M.seen.lines)) (sym z.0)
              (says q (subst (GrantsNow o.inc) at grants))

      with_it : (f : Option Naming) → t.naming ≡ f →
          Sent (if_naming (λ o. served from h (with_naming t) Reply.Bound (naming.bind h.path x include avoid d.names o)) f) →
          says_differs M.seen.start k h (ask.Bind x include avoid) r (lines_behind M.past.number front M.seen.lines)
      with_it None at e = let no_way : Void [] ≡ Took v (front ++ Send from (response (asked_by h) r) ∷ []) = e in absurd (cc no_way)
      with_it (Some o) at e = named o at e

  pub served_differs : (a : Ask) → All (is_no_start 1) front → asks m ≡ Some (h, a) → is_again h a t.server ≡ false → Sent (serve k d t from h a) →
      says_differs M.seen.start k h a r (lines_behind M.past.number front M.seen.lines)
  served_differs (ask.Invoke x b i ends o) calm asks_it new is = invoked_says x b i ends o asks_it new is
  served_differs (ask.Activate b u) calm asks_it new is = activated_says b u is
  served_differs (ask.Record x b i g) calm asks_it new is = noted_says x b i g asks_it is
  served_differs (ask.Bind x include avoid) calm asks_it new is = bound_says x include avoid calm is
  served_differs (ask.Load x) calm asks_it new is = tt
  served_differs (ask.Vote i ties ends) calm asks_it new is = tt
  served_differs (ask.Prepare states) calm asks_it new is = tt
  served_differs (ask.Confirm grants excluded included) calm asks_it new is = tt

-- ---- each answer was made so

-- what all lines of more effects are, all of these are
pub fronts : (p : Body → Bool) (es : List Effect) (e : Effect) → All p (es ++ e ∷ []) → All p es
fronts p [] e all = refl
fronts p (Say b ∷ es) e all = let q = and_parts (p b) (list_all (says p) (es ++ e ∷ [])) all in λ i. q.0 i && fronts p es e q.1 i
fronts p (Send to m ∷ es) e all = fronts p es e (and_parts true (list_all (says p) (es ++ e ∷ [])) all).1
fronts p (Do w ∷ es) e all = fronts p es e (and_parts true (list_all (says p) (es ++ e ∷ [])) all).1

-- where the run began so, and what is known of bindings
abbrev pub Starts : Start → Moment → Type 0
Starts st M = (M.seen.start ≡ st) × Wide KnowsBindings M

pub tells_differs : (st : Start) → Tells (Starts st) (differs_so st)
tells_differs st k d t v from m h a r front M known there other meant asking new is =
    subst (λ z. says_differs z k h a r (lines_behind M.past.number front M.seen.lines)) known.0
    (served_differs k d t v from m h r front M known.1 there a calm asking new (sym (ap (handle_ask k d t from m) asking) ∙ is))
  where
    calm : All (is_no_start 1) front
    calm = fronts (is_no_start 1) front (Send from (response (asked_by h) r))
        (handle_starts k d t v from m (front ++ Send from (response (asked_by h) r) ∷ []) is 1)
