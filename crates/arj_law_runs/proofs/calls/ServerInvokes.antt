-- A call at a server: what it writes comes from it, and what is refused won't be run.
use Rattle.arj_law_parts.proofs.Words
use Words.{◌≡◌, ◌⊎◌, ◌<◌, ◌==◌, ◌||◌, ℕ, List, [], ◌∷◌, Bool, true, false, cond, Option, Some, None, refl, sym, ◌∙◌, ap, subst, inl, inr}
use Words.{⊎_elim, arith, nat_lt, append-nil, list_any, eqb-true, uid_is, Uid, Binding, Path, Head, End, Op, Answer, Row, What}
use Words.{InvokedReply, Message, asks, uids_of, tops_of, is_on, uid_eq, first_conflict, object, op_mode, writes, value_after, actor}
use Words.{asked_by, Copy, Over, end_copy, current, written, ask_copy, invoke_copy, run_copy, Did, Disk, Served, did_nothing, either, reply}
use Words.{void, Parts, with_server, at_number, put_number, at_uid, binding_number, binding_less, binding_eq, Server, Kept, end_new}
use Words.{end_one, is_told, has_ended, binding_of, active_binding, changed_copy, changed_by, apply_ends, keeps, on_copy, invoke_new}
use Words.{invoke_kept, invoke_now, is_below, invoke, Post}
use Words.list
use Words.ask
use Words.ending
use Words.what
use Words.invoked
use Rattle.arj_law_runs.proofs.Terms
use Terms.{taken_end, kept_after, IsTree, Paths, on_own, put_same, each_at, end_binding, In, Call, IsAsked, IsRefused, IsSaidToCommit}
use Terms.{call_by, is_refusal, AreFromCalls, AreOneCall, HasDone, HasReached, IsPast, IsRefusal, IsSource, Since}
use Rattle.arj_law_parts.proofs.parts.GoodServers.{open_after}
use Rattle.arj_law_parts.specs.parts.Servers.{AreOfOthers}
use Rattle.arj_law_runs.proofs.calls
use calls.ServerCalls.{Each, From, GoesOn, each_written, from_before, from_put, from_told, goes_invoke, never, some_is}
use Rattle.arj_law_runs.specs.calls.Servers.{AreRefusals}

-- an action that was told of on a path ends it
told_ended : (p : Path) (s : Server) → is_told (actor p) s ≡ true → has_ended p s ≡ true
told_ended p s told_it = by (uids_of p) (on_own p)
  where
    by : (us : List Uid) → is_on us (actor p) ≡ true → list_any (λ u. is_told u s) us ≡ true
    by [] on = cc
    by (u ∷ us) on = one (uid_eq u (actor p)) refl on (by us)
      where
        one : (c : Bool) → uid_eq u (actor p) ≡ c → (c || is_on us (actor p)) ≡ true →
            (is_on us (actor p) ≡ true → list_any (λ w. is_told w s) us ≡ true) → (is_told u s || list_any (λ w. is_told w s) us) ≡ true
        one true same f ih = ap (λ c. c || list_any (λ w. is_told w s) us) (ap (λ w. is_told w s) (uid_is u (actor p) same) ∙ told_it)
        one false same f ih = ap (λ c. is_told u s || c) (ih f) ∙ last (is_told u s)
          where
            last : (c : Bool) → (c || true) ≡ true
            last true = refl
            last false = refl

-- ---- what differs

same_number : (n : ℕ) → (n == n) ≡ true
same_number n = grind arith

-- nothing differs where incarnation and binding are the server's
unchanged : (i x : ℕ) (b : Binding) (s : Server) (c : Copy) → i ≡ s.inc → at_number x s.objects ≡ Some c →
    binding_number b ≡ binding_number c.binding → changed_by i x b s ≡ None
unchanged i x b s c inc at same = by (i == s.inc) (ap (λ z. i == z) (sym inc) ∙ same_number i) (at_number x s.objects)
    at (binding_eq b c.binding) (ap (λ z. binding_number b == z) (sym same) ∙ same_number (binding_number b))
  where
    by : (p : Bool) → p ≡ true → (o : Option Copy) → o ≡ Some c → (q : Bool) → binding_eq b c.binding ≡ true →
        either {A = What} (cond p None (Some (what.Inc i s.inc))) (changed_copy b o) ≡ None
    by true is (Some d) there q on = let same_copy : c ≡ d = sym (some_is there) in
        ap (λ z. cond z None (Some (what.Bind b d.binding))) (ap (λ (y : Copy). binding_eq b y.binding) (sym same_copy) ∙ on)
    by true is None there q on = absurd (cc there)
    by false is o there q on = absurd (cc is)

-- where nothing differs they are the server's
as_active : (i x : ℕ) (b : Binding) (s : Server) → changed_by i x b s ≡ None →
    (i ≡ s.inc) × (c : Copy) × (at_number x s.objects ≡ Some c) × (binding_number b ≡ binding_number c.binding)
as_active i x b s none = by (i == s.inc) refl none
  where
    copied : i ≡ s.inc → (o : Option Copy) → at_number x s.objects ≡ o → changed_copy b o ≡ None →
        (i ≡ s.inc) × (c : Copy) × (at_number x s.objects ≡ Some c) × (binding_number b ≡ binding_number c.binding)
    copied inc None at is = absurd (cc is)
    copied inc (Some c) at is = bound (binding_eq b c.binding) refl is
      where
        bound : (q : Bool) → binding_eq b c.binding ≡ q → cond q None (Some (what.Bind b c.binding)) ≡ None →
            (i ≡ s.inc) × (d : Copy) × (at_number x s.objects ≡ Some d) × (binding_number b ≡ binding_number d.binding)
        bound true same h = (inc, c, at, eqb-true (binding_number b) (binding_number c.binding) same)
        bound false other h = absurd (cc h)

    by : (p : Bool) → (i == s.inc) ≡ p → either {A = What} (cond p None (Some (what.Inc i s.inc))) (changed_copy b (at_number x s.objects))
        ≡ None → (i ≡ s.inc) × (c : Copy) × (at_number x s.objects ≡ Some c) × (binding_number b ≡ binding_number c.binding)
    by true inc h = copied (eqb-true i s.inc inc) (at_number x s.objects) refl h
    by false other h = absurd (cc h)

-- ends leave an object's binding
ended_copy : (n x : ℕ) (es : List (Uid × End)) (s : Server) (c : Copy) → at_number x s.objects ≡ Some c →
    (e : Copy) × (at_number x (let d = apply_ends n es s in let z = d.part in z.objects) ≡ Some e) × (e.binding ≡ c.binding)
ended_copy n x [] s c at = (c, at, refl)
ended_copy n x (e ∷ es) s c at = let d = end_one n e.0 e.1 s in let f = one (is_told e.0 s) in let g = ended_copy n x es d.part f.0 f.1 in
    (g.0, g.1, g.2 ∙ f.2)
  where
    one : (b : Bool) → (q : Copy) × (at_number x (let d = cond {A = Did Server} b (did_nothing s) (end_new n e.0 (taken_end e.0 e.1 s) s) in
        let z = d.part in z.objects) ≡ Some q) × (q.binding ≡ c.binding)
    one true = (c, at, refl)
    one false = (
      end_copy e.0 (taken_end e.0 e.1 s) c,
      each_at (λ y. end_copy e.0 (taken_end e.0 e.1 s)) x s.objects c at,
      end_binding e.0 (taken_end e.0 e.1 s) c,
    )

-- ---- one call

module _ (paths : Paths) (tree : IsTree paths) (sent : List Post) (n from : ℕ) (m : Message)
    (posted : In (record { from = from; to = n; message = m }) sent) (h : Head) (x : ℕ) (b : Binding) (i : ℕ) (ends : List (Uid × End))
    (op : Op) (is : asks m ≡ Some (h, ask.Invoke x b i ends op))
    (d : Disk) (t : Parts) (inc : t.server.inc ≡ d.inc) (one_call : AreOneCall sent)
    (refusals : AreRefusals sent n (record { number = n; disk = d; live = Some t }))
    (reached : Since i (HasReached x b) (record { number = n; disk = d; live = Some t }))
    (others : AreOfOthers h.path ends) (said : (u : Uid) → list.In (u, ending.Commit) ends →
    IsSaidToCommit sent u) (sources : AreFromCalls sent n t.server) where
  abbrev s : Server
  s = t.server

  abbrev pub call : Call
  call = record { head = h; x = x; binding = b; inc = i; op = op }

  asked : IsAsked sent from n call
  asked = record { message = m; posted = posted; call = ap call_by is }

  -- a refusal is of a call that won't be run any more, and of none that wrote something here
  pub record IsClear (r : Served Server InvokedReply) : Type 0 where
    pub past : (q : InvokedReply) → r.reply ≡ Some q → is_refusal q ≡ true →
        Since i (IsPast call) (record { number = n; disk = d; live = Some (with_server t r.part) })
    pub clear : (q : InvokedReply) → r.reply ≡ Some q → is_refusal q ≡ true → (y : ℕ) (c : Copy) (e : Over) →
        at_number y (let v = r.part in v.objects) ≡ Some c → list.In e c.stack → (o : IsSource sent n r.part y c.binding e.holder) →
        asked_by (let z = o.call in z.head) ≡ asked_by h → ⊥

  -- who did the request is the one that asks, so this server has run it
  done_here : (v : Server) → HasDone false (asked_by h) v → is_told (actor h.path) v ≡ false →
      (k : Kept) × (at_uid (actor h.path) v.kept ≡ Some k) × ((h.req < k.req) ⊎ ((k.req ≡ h.req) × (is_refusal k.answer ≡ false)))
  done_here v (inl over) off = absurd (never over off)
  done_here v (inr k) off = k

  none_is : {A : Type 0} (q : A) → None ≡ Some q → ⊥
  none_is {A} q is = let no_way : ◌≡◌ {A = Option A} None (Some q) = is in cc

  done_of : (v : Server) (y : ℕ) (c : Copy) (e : Over) (o : IsSource sent n v y c.binding e.holder) →
      asked_by (let z = o.call in z.head) ≡ asked_by h → HasDone false (asked_by h) v
  done_of v y c e o same = subst (λ a. HasDone false a v) same o.done

  -- what the server is left with
  abbrev pub Left : Served Server InvokedReply → Type 0
  Left r = AreFromCalls sent n (let v = r.part in v) × IsClear r

  -- ---- where the server doesn't run it

  is_void : IsClear (void s)
  is_void = record { past = λ q at r. absurd (none_is q at); clear = λ q at r. absurd (none_is q at) }

  differs : (w : What) → changed_by i x b s ≡ Some w → IsClear (reply s (invoked.Changed w))
  differs w is_changed = record { past = λ q at r. by reached; clear = λ q at r y c e there k o same. wrong y c e there o same }
    where
      wrong : (y : ℕ) (c : Copy) (e : Over) → at_number y s.objects ≡ Some c → (o : IsSource sent n s y c.binding e.holder) →
          asked_by (let z = o.call in z.head) ≡ asked_by h → ⊥
      wrong y c e there o same =
          let z = one_call o.from from n n o.call call o.asked asked same in
          let object : y ≡ x = sym o.object ∙ z.0 in
          let no_change = unchanged i x b s c (sym z.2 ∙ o.inc) (ap (λ q. at_number q s.objects) (sym object) ∙ there)
          (ap binding_number (sym z.1) ∙ o.bound) in
          absurd (none_is w (sym no_change ∙ is_changed))

      greater : (p q : ℕ) → nat_lt q p ≡ false → (p == q) ≡ false → nat_lt p q ≡ true
      greater p q a c = grind (arith, a, c)

      bound : i ≡ s.inc → (c : Copy) → at_number x s.objects ≡ Some c → binding_less c.binding b ≡ false →
          binding_less b (active_binding x s) ≡ true
      bound same c at low = by (binding_eq b c.binding) refl
        where
          by : (q : Bool) → binding_eq b c.binding ≡ q → binding_less b (active_binding x s) ≡ true
          by true eq = absurd
              (none_is w (sym (unchanged i x b s c same at (eqb-true (binding_number b) (binding_number c.binding) eq)) ∙ is_changed))
          by false other = (λ j. binding_less b (binding_of (at j))) ∙ greater (binding_number b) (binding_number c.binding) low other

      by : Since i (HasReached x b) (record { number = n; disk = d; live = Some t }) →
          Since i (IsPast call) (record { number = n; disk = d; live = Some (with_server t s) })
      by (inl later) = inl later
      by (inr r) = inr (r.0, inr (bound (r.0 ∙ sym inc) r.1.0 r.1.1 r.1.2))

  -- ---- where it answers again

  module _ (open_is : has_ended h.path s ≡ false) (above : is_below h.req (at_uid (actor h.path) s.kept) ≡ false) (same_inc : i ≡ s.inc)
      (c : Copy) (there : at_number x s.objects ≡ Some c) (active : binding_number b ≡ binding_number c.binding) where
    untold : is_told (actor h.path) s ≡ false
    untold = by (is_told (actor h.path) s) refl
      where
        by : (q : Bool) → is_told (actor h.path) s ≡ q → is_told (actor h.path) s ≡ false
        by true on = absurd (never (told_ended h.path s on) open_is)
        by false off = off

    not_less : (k : Kept) → at_uid (actor h.path) s.kept ≡ Some k → h.req < k.req → ⊥
    not_less k found less = never (number h.req k.req less) (ap (is_below h.req) (sym found) ∙ above)
      where
        number : (p q : ℕ) → p < q → nat_lt p q ≡ true
        number p q l = grind (arith, l)

    again : (k : Kept) → at_uid (actor h.path) s.kept ≡ Some k → k.req ≡ h.req → IsClear (reply s k.answer)
    again k found req = record {
      past = λ q at r. inr (same_inc ∙ inc, inl (inr (k, found, inr (req, ap is_refusal (some_is at) ∙ r))));
      clear = λ q at r y z e it j o same. wrong (ap is_refusal (some_is at) ∙ r) (done_here s (done_of s y z e o same) untold);
    }
      where
        wrong : is_refusal k.answer ≡ true →
            (w : Kept) × (at_uid (actor h.path) s.kept ≡ Some w) × ((h.req < w.req) ⊎ ((w.req ≡ h.req) × (is_refusal w.answer ≡ false))) → ⊥
        wrong r (w, at, inl less) = not_less w at less
        wrong r (w, at, inr its) = never (ap (λ (z : Kept). is_refusal z.answer) (some_is (sym at ∙ found)) ∙ r) its.1

    -- ---- where it runs it

    module _ (new : (k : Kept) → at_uid (actor h.path) s.kept ≡ Some k → k.req ≡ h.req → ⊥) where
      -- it didn't refuse it before
      unrefused : IsRefused sent n (asked_by h) → ⊥
      unrefused r = by (refusals (asked_by h) r)
        where
          done : HasDone true (asked_by h) s → ⊥
          done (inl over) = never over untold
          done (inr (k, found, inl less)) = not_less k found less
          done (inr (k, found, inr its)) = new k found its.0

          less_self : (p : ℕ) → nat_lt p p ≡ false
          less_self p = grind arith

          past : (e : Call) → e.x ≡ x → e.binding ≡ b → asked_by e.head ≡ asked_by h → IsPast e s → ⊥
          past e its_x bound same (inl its) = done (subst (λ a. HasDone true a s) same its)
          past e its_x bound same (inr less) =
              never (sym ((λ j. nat_lt (binding_number (bound j)) (binding_number (binding_of (at_number (its_x j) s.objects))))
              ∙ (λ j. nat_lt (active j) (binding_number (binding_of (there j))))) ∙ less) (less_self (binding_number c.binding))

          by : IsRefusal sent n (record { number = n; disk = d; live = Some t }) (asked_by h) → ⊥
          by f =
              let z = one_call f.from from n n f.call call f.asked asked f.same in
              ⊎_elim (λ (later : f.call.inc < d.inc). omega (arith, later, z.2, same_inc, inc)) (λ p. past f.call z.0 z.1 f.same p.1) f.past

      abbrev t1 : Server
      t1 = let z = apply_ends n ends s in z.part

      g : GoesOn s (invoke_new n h x ends op s).part
      g = subst (λ (r : Served Server InvokedReply). GoesOn s r.part) is_new (goes_invoke n h x b i ends op s)
        where
          no_change : changed_by i x b s ≡ None
          no_change = unchanged i x b s c same_inc there active

          kept : (o : Option Kept) → at_uid (actor h.path) s.kept ≡ o → invoke_kept n h x ends op s o ≡ invoke_new n h x ends op s
          kept None found = refl
          kept (Some k) found = one (k.req == h.req) refl
            where
              one : (q : Bool) → (k.req == h.req) ≡ q →
                  cond {A = Served Server InvokedReply} q (reply s k.answer) (invoke_new n h x ends op s) ≡ invoke_new n h x ends op s
              one true same = absurd (new k found (eqb-true k.req h.req same))
              one false other = refl

          is_new : invoke n h x b i ends op s ≡ invoke_new n h x ends op s
          is_new = (λ j. cond {A = Served Server InvokedReply} (open_is j || above j) (void s) (invoke_now n h x ends op s (no_change j)))
              ∙ kept (at_uid (actor h.path) s.kept) refl

      -- nobody on its path was told by now
      untold_then : is_told (actor h.path) t1 ≡ false
      untold_then = by (is_told (actor h.path) t1) refl
        where
          by : (q : Bool) → is_told (actor h.path) t1 ≡ q → is_told (actor h.path) t1 ≡ false
          by true on = absurd (never (on_own h.path) (open_after paths tree n h.path ends s open_is others (actor h.path) on))
          by false off = off

      kept_here : (q : InvokedReply) (v : Server) →
          at_uid (actor h.path) (let z = keeps (actor h.path) h.req (Some q) v in z.kept) ≡ Some (record { req = h.req; answer = q })
      kept_here q v = put_same (actor h.path) (record { req = h.req; answer = q }) v.kept

      refused_new : (q : InvokedReply) (v : Server) (outs : _) → is_told (actor h.path) v ≡ false → is_refusal q ≡ true →
          IsClear (kept_after h (record { part = v; outs = outs; reply = Some q }))
      refused_new q v outs off bad = record {
        past = λ r at bad_r. inr (same_inc ∙ inc, inl (inr (record { req = h.req; answer = q }, kept_here q v, inr (refl, bad))));
        clear = λ r at bad_r y z e it j o same.
            wrong (done_here (keeps (actor h.path) h.req (Some q) v) (done_of (keeps (actor h.path) h.req (Some q) v) y z e o same) off);
      }
        where
          not_self : (p : ℕ) → p < p → ⊥
          not_self p less = omega (arith, less)

          wrong : (w : Kept) × (at_uid (actor h.path) (let z = keeps (actor h.path) h.req (Some q) v in z.kept) ≡ Some w)
              × ((h.req < w.req) ⊎ ((w.req ≡ h.req) × (is_refusal w.answer ≡ false))) → ⊥
          wrong (w, at, inl less) = not_self h.req (subst (λ (z : Kept). h.req < z.req) (some_is (sym at ∙ kept_here q v)) less)
          wrong (w, at, inr its) = never bad (ap (λ (z : Kept). is_refusal z.answer) (some_is (sym (kept_here q v) ∙ at)) ∙ its.1)

      answered : (a : Answer) (v : Server) (outs : _) →
          IsClear (kept_after h (record { part = v; outs = outs; reply = Some (invoked.Answered a) }))
      answered a v outs = record { past = λ q at bad. absurd (fine q at bad); clear = λ q at bad y z e it j o same. absurd (fine q at bad) }
        where
          fine : (q : InvokedReply) → Some (invoked.Answered a) ≡ Some q → is_refusal q ≡ true → ⊥
          fine q at bad = never bad (sym (ap is_refusal (some_is at)))

      -- what it wrote is from this call, or was there before
      ran : (v : Server) → v.inc ≡ s.inc → HasDone false (asked_by h) v → GoesOn s v → (e : Copy) → at_number x t1.objects ≡ Some e →
          binding_number b ≡ binding_number e.binding → (r : Option Row) → (is_done : r ≡ None) →
          From sent n v (let z = put_number x (ask_copy n h.path x op e r).part t1.objects in z)
      ran v same done goes e at bound None clear =
          from_put sent n v x (run_copy n h.path x op e).part t1.objects (by (writes op) refl) before
        where
          before : From sent n v t1.objects
          before = from_told sent n v ends s said (from_before sent n v s goes sources)

          old : Each sent n (IsSource sent n v x e.binding) e.stack
          old q k = before x e q at k

          its : writes op ≡ true → IsSource sent n v x e.binding (uids_of h.path)
          its on = record {
            call = call;
            from = from;
            asked = asked;
            object = refl;
            bound = bound;
            inc = same_inc ∙ sym same;
            writing = on;
            rest = [];
            path = sym (append-nil (uids_of h.path));
            committed = λ w none. let no_way : false ≡ true = none in cc;
            done = done;
            unrefused = unrefused;
          }

          by : (q : Bool) → writes op ≡ q → Each sent n (IsSource sent n v x e.binding)
              (cond q (written (uids_of h.path) (tops_of h.path) (value_after op (current e.base e.stack)) e.stack) e.stack)
          by true on = each_written sent n (IsSource sent n v x e.binding) (uids_of h.path) (tops_of h.path)
              (value_after op (current e.base e.stack)) e.stack (its on) old
          by false off = old
      ran v same done goes e at bound (Some r) clear = absurd (cc clear)

      left : Left (invoke_new n h x ends op s)
      left =
          let f = ended_copy n x ends s c there in
          let l = copied f.0 f.1 (active ∙ ap binding_number (sym f.2)) (at_number x t1.objects) f.1 g in
          (l.0, record { past = l.1.past; clear = l.1.clear })
        where
          copied : (e : Copy) → at_number x t1.objects ≡ Some e → binding_number b ≡ binding_number e.binding → (o : Option Copy) →
              o ≡ Some e → GoesOn s (kept_after h (on_copy x (invoke_copy n h.path x op) t1 o)).part →
              Left (kept_after h (on_copy x (invoke_copy n h.path x op) t1 o))
          copied e at bound None same = absurd (cc same)
          copied e at bound (Some q) same = locked (first_conflict (uids_of h.path) (object x) (op_mode op) q.rows)
            where
              here : at_number x t1.objects ≡ Some q
              here = at ∙ sym same

              bound_q : binding_number b ≡ binding_number q.binding
              bound_q = bound ∙ ap (λ (z : Copy). binding_number z.binding) (sym (some_is same))

              locked : (r : Option Row) → GoesOn s (kept_after h (on_copy x (λ z. ask_copy n h.path x op z r) t1 (Some q))).part →
                  Left (kept_after h (on_copy x (λ z. ask_copy n h.path x op z r) t1 (Some q)))
              locked (Some r) goes =
                  let u = on_copy x (λ z. ask_copy n h.path x op z (Some r)) t1 (Some q) in
                  let v = (kept_after h u).part in (
                    from_put sent n v x q t1.objects (λ o k. from_told sent n v ends s said (from_before sent n v s goes sources) x q o here
                        k) (from_told sent n v ends s said (from_before sent n v s goes sources)),
                    refused_new _ u.part u.outs untold_then refl,
                  )
              locked None goes =
                  let u = on_copy x (λ z. ask_copy n h.path x op z None) t1 (Some q) in
                  let v = (kept_after h u).part in (
                    ran v goes.follows.same (inr (_, kept_here _ u.part, inr (refl, refl))) goes q here bound_q None refl,
                    answered _ u.part u.outs,
                  )

  -- ---- each way

  pub it_is_left : Left (invoke n h x b i ends op s)
  it_is_left = by (has_ended h.path s) refl (is_below h.req (at_uid (actor h.path) s.kept)) refl
    where
      now : has_ended h.path s ≡ false → is_below h.req (at_uid (actor h.path) s.kept) ≡ false → (w : Option What) →
          changed_by i x b s ≡ w → Left (invoke_now n h x ends op s w)
      now over below (Some w) is_changed = (sources, differs w is_changed)
      now over below None same = let f = as_active i x b s same in kept f.0 f.1 f.2 f.3 (at_uid (actor h.path) s.kept) refl
        where
          kept : i ≡ s.inc → (c : Copy) → at_number x s.objects ≡ Some c → binding_number b ≡ binding_number c.binding → (k : Option Kept) →
              at_uid (actor h.path) s.kept ≡ k → Left (invoke_kept n h x ends op s k)
          kept inc_is c at bound None found = left over below inc_is c at bound (λ k it. absurd (none_is k (sym found ∙ it)))
          kept inc_is c at bound (Some k) found = one (k.req == h.req) refl
            where
              one : (q : Bool) → (k.req == h.req) ≡ q →
                  Left (cond {A = Served Server InvokedReply} q (reply s k.answer) (invoke_new n h x ends op s))
              one true req = (sources, again over below inc_is c at bound k found (eqb-true k.req h.req req))
              one false other = left over below inc_is c at bound (λ q it req. never (other_way q it req) other)
                where
                  other_way : (q : Kept) → at_uid (actor h.path) s.kept ≡ Some q → q.req ≡ h.req → (k.req == h.req) ≡ true
                  other_way q it req =
                      ap (λ z. z == h.req) (sym (ap (λ (z : Kept). z.req) (some_is (sym it ∙ found))) ∙ req) ∙ same_number h.req

      by : (over : Bool) → has_ended h.path s ≡ over → (below : Bool) → is_below h.req (at_uid (actor h.path) s.kept) ≡ below →
          Left (cond {A = Served Server InvokedReply} (over || below) (void s) (invoke_now n h x ends op s (changed_by i x b s)))
      by true over below off = (sources, is_void)
      by false over true off = (sources, is_void)
      by false over false off = now over off (changed_by i x b s) refl
