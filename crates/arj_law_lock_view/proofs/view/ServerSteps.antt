-- A whole server goes: it stops and starts, takes copies, and answers calls.
use Rattle.arj_law_parts.proofs.Words
use Words.{◌≡◌, ◌≢◌, ◌<◌, ◌≤◌, ◌⊎◌, ◌+◌, ◌∙◌, ◌==◌, ◌||◌, ℕ, List, [], ◌∷◌, length, Bool, true, false, cond, nat_lt, Option, Some, None}
use Words.{refl, sym, ap, subst, inl, inr, ⊎_elim, arith, eqb-true, list_any, or_parts, uid_cases, Binding, End, Head, InvokedReply}
use Words.{ObjectState, Op, Path, Row, Uid, What, answer_of, first_conflict, last_uid, object, op_mode, uids_of, value_after, actor, Copy}
use Words.{ask_copy, current, invoke_copy, run_copy, taken_copy, Served, either, reply, void, at_number, at_uid, binding_eq, binding_less}
use Words.{binding_number, put_number, put_uid, unbound, Kept, Server, activate, active_binding, apply_ends, binding_of, changed_by}
use Words.{changed_copy, has_ended, invoke, invoke_kept, invoke_new, invoke_now, is_below, is_told, new_server, on_copy, took_copy}
use Words.{put_other as put_number_other, put_same as put_number_same, one_or_two}
use Words.ask
use Words.invoked
use Words.what
use Rattle.arj_law_lock_view.proofs.Terms
use Terms.{kept_after, Act, In, at_act, same, top, next, stay, step, Request, State, Change, CrashServer, act_here, act_other, at_here}
use Terms.{same_is, has_end_of, on_own, path_some, put_other, put_same, told_follows, Acts, AreOne, IsCaller, Codes, IsNew, KeepsServer}
use Terms.{OnlyEnds, OnlyServer, SeesCopy, answer_for, request_for, writer_in, state_code, Goes, IsServedBy, SeesObject, ShowsIfInvoked}
use Terms.{ShowsInvoked, Wanted, Wants, last_of, wanted_by, IsShown, ShowsActivated, AreBrought, Sees, View}
use Terms.machine
use Rattle.arj_law_lock.specs.machine.{Machine.after_crash, Steps.IsElsewhere}
use Rattle.arj_law_lock_view.proofs.view
use view.{PlaceSteps.caller_of}
use view.AskedSteps.{IsAsked, asked_of, given_of}
use view.CopySteps.{activations_are_seen, operations_are_seen, refusals_are_seen, server_else}
use view.LeftSteps.{object_sent, only_server, shows_later}
use view.RunSteps.{goes_then, goes_to, only_both}
use view.ToldSteps.{brought_go, copy_told, kept_told, untold_after}
use Rattle.arj_law_lock_view.specs.view.Servers.{SeesServer}
use Rattle.arj_law_lock_view.specs.view.Serving.{ActivatesAreSeen, InvokesAreSeen, ServersAreDown, ServersStart, ServersStop}

unlike : (j l : ℕ) → (j == l) ≡ false → j ≡ l → ⊥
unlike j l a b = grind (arith, a, b)

only_itself : (n : ℕ) (S : State) → OnlyServer n S S
only_itself n S = record { rest = refl; others = λ k other. refl; sent = λ m i. i }

-- ---- it starts

-- a server of the machine that has just started is seen as a new one
started : (v : View) (i : ℕ) (S : State) → S.server v.node ≡ after_crash i → Sees v (new_server i) S
started v i S empty = record {
  incarnation = ap (λ (m : machine.Server). m.incarnation) empty;
  object = (
    ap (λ (m : machine.Server). m.active) empty,
    ap (λ (m : machine.Server). m.log) empty,
    λ a. ap (λ (m : machine.Server). m.rows a) empty,
  );
  latest = λ u fresh. subst (λ (m : machine.Server). m.request (v.family.act u) ≤ 0) (sym empty) (omega arith);
  kept = λ u k w found. absurd (let no_way : ◌≡◌ {A = Option Kept} None (Some k) = found in cc no_way);
  voted = λ u fresh off. ap (λ (m : machine.Server). m.voted (v.family.act u)) empty;
}

-- the machine's server stops, and starts in a later incarnation
crashes : (n i : ℕ) (S : State) → (S.server n).incarnation < i → Goes S (λ T. (T.server n ≡ after_crash i) × OnlyServer n S T)
crashes n i S low = record {
  state = next (CrashServer n i) S;
  run = step (CrashServer n i) low stay;
  holds = (
    at_here S.server n (after_crash i),
    record { rest = refl; others = λ k other. server_else S n k (after_crash i) other; sent = λ m i. i },
  );
}

pub servers_stop : ServersStop
servers_stop v s S sees = goes_to (crashes v.node (s.inc + 1) S (let i = sees.incarnation in omega (arith, i)))
    (λ T g. (record { last = s.inc + 1; low = omega arith; empty = g.0 }, g.1))

pub servers_are_down : ServersAreDown
servers_are_down v first inc = record { last = 0; low = omega arith; empty = refl }

pub servers_start : ServersStart
servers_start v inc i S up down = ⊎_elim
    (λ less. goes_to (crashes v.node i S (let e = ap (λ (m : machine.Server). m.incarnation) down.empty in omega (arith, e, less)))
    (λ T g. (started v i T g.0, g.1)))
    (λ same. record { state = S; run = stay; holds = (started v i S (down.empty ∙ ap after_crash same), only_itself v.node S) })
    (order down.last i (let l = down.low in omega (arith, l, up)))
  where
    order : (m k : ℕ) → m ≤ k → (m < k) ⊎ (m ≡ k)
    order m k le = grind (arith, le)

-- ---- it takes a copy

module _ (act : Acts) (code : Codes) (wants : Wants) (x n : ℕ) (p : Path) (b : Binding) (st : ObjectState) (s : Server) (S : State)
    (bound : 1 ≤ binding_number b) (served : IsServedBy S b n)
    (given : In (machine.Activate (binding_number b) (state_code act code st)) S.net) (sees : SeesServer act code wants x n s S) where
  abbrev Takes : Served Server ℕ → Type 0
  Takes r = Goes S (λ T. SeesServer act code wants x n r.part T × OnlyServer n S T × ShowsActivated b T r.reply)

  has : (o : Option Copy) → at_number x s.objects ≡ o → SeesObject act code x s.inc o (S.server n) S
  has o is = subst (λ (f : Option Copy). SeesObject act code x s.inc f (S.server n) S) is sees.object

  active_is : (let m = S.server n in m.active) ≡ binding_number (active_binding x s)
  active_is = by (at_number x s.objects) refl
    where
      by : (o : Option Copy) → at_number x s.objects ≡ o → (let m = S.server n in m.active) ≡ binding_number (binding_of o)
      by None none = (has None none).0
      by (Some c) there = let h = has (Some c) there in let copy = h.0 in copy.active

  again : binding_eq b (active_binding x s) ≡ true → Takes (reply s s.inc)
  again same_one = record {
    state = S;
    run = stay;
    holds = (
      sees,
      only_itself n S,
      by (at_number x s.objects) refl (eqb-true (binding_number b) (binding_number (active_binding x s)) same_one),
    );
  }
    where
      none_is : (k : ℕ) → 1 ≤ k → k ≡ 0 → ⊥
      none_is k low is = omega (arith, low, is)

      by : (o : Option Copy) → at_number x s.objects ≡ o → binding_number b ≡ binding_number (binding_of o) →
          In (machine.Activated (binding_number b) s.inc) S.net
      by None none is = absurd (none_is (binding_number b) bound is)
      by (Some c) there is = let h = has (Some c) there in subst (λ (k : ℕ). In (machine.Activated k s.inc) S.net) (sym is) h.1

  takes : binding_less b (active_binding x s) ≡ false → binding_eq b (active_binding x s) ≡ false → Takes (took_copy n x b st s)
  takes unless unlike = goes_to (activations_are_seen act code n x b st S given served (subst (λ (k : ℕ). k < binding_number b)
      (sym active_is) (above (binding_number b) (binding_number (active_binding x s)) unless unlike)))
      (λ T h. (
        record {
          incarnation = (let k = h.2 in k.incarnation ∙ sees.incarnation);
          object = subst (λ (f : Option Copy). SeesObject act code x s.inc f (T.server n) T) (sym (put_number_same x (taken_copy b st)
              s.objects)) (h.0, subst (λ (k : ℕ). In (machine.Activated (binding_number b) k) T.net) sees.incarnation h.3);
          latest = λ u fresh. (let k = h.2 in
              subst (λ (f : Act → ℕ). f (act u) ≤ last_of (at_uid u s.kept)) (sym k.request) (sees.latest u fresh));
          kept = λ u k w found wanted. (let o = h.1 in shows_later act code u k.req w S T o.sent k.answer (sees.kept u k w found wanted));
          voted = λ u fresh off. (let k = h.2 in ap (λ (f : Act → Bool). f (act u)) k.voted ∙ sees.voted u fresh off);
        },
        h.1,
        subst (λ (k : ℕ). In (machine.Activated (binding_number b) k) T.net) sees.incarnation h.3,
      ))
    where
      above : (j k : ℕ) → nat_lt j k ≡ false → (j == k) ≡ false → k < j
      above j k less like = grind (arith, less, like)

  at_object : (y : ℕ) → Served Server ℕ
  at_object y = cond (has_ended p s || binding_less b (active_binding y s)) (void s)
      (cond (binding_eq b (active_binding y s)) (reply s s.inc) (took_copy n y b st s))

  here : Takes (at_object x)
  unfolding at_object
  here = by (has_ended p s) (binding_less b (active_binding x s)) (binding_eq b (active_binding x s)) refl refl
    where
      by : (e l q : Bool) → binding_less b (active_binding x s) ≡ l → binding_eq b (active_binding x s) ≡ q →
          Takes (cond (e || l) (void s) (cond q (reply s s.inc) (took_copy n x b st s)))
      by true l q less like = record { state = S; run = stay; holds = (sees, only_itself n S, tt) }
      by false true q less like = record { state = S; run = stay; holds = (sees, only_itself n S, tt) }
      by false false true less like = again like
      by false false false less like = takes less like

  pub copy_taken : (let u = st.uid in u.num) ≡ x → Takes (activate n p b st s)
  unfolding at_object
  copy_taken is = subst (λ (y : ℕ). Takes (at_object y)) (sym is) here

other_object : (x y : ℕ) (c : Copy) (m : List (ℕ × Copy)) → y ≢ x → at_number x (put_number y c m) ≡ at_number x m
other_object x y c m other = ⊎_elim (λ same_one. absurd (other same_one)) (λ apart. put_number_other y x c m apart.0) (one_or_two y x)

-- an Activate of another object is nothing
other_copies : (act : Acts) (code : Codes) (wants : Wants) (x n : ℕ) (p : Path) (b : Binding) (st : ObjectState) (s : Server) (S : State) →
    (let u = st.uid in u.num) ≢ x → SeesServer act code wants x n s S →
    SeesServer act code wants x n (let r = activate n p b st s in r.part) S
other_copies act code wants x n p b st s S other sees = by (has_ended p s || binding_less b (active_binding (let u = st.uid in u.num) s))
    (binding_eq b (active_binding (let u = st.uid in u.num) s))
  where
    by : (e q : Bool) → SeesServer act code wants x n
        (let r = cond e (void s) (cond q (reply s s.inc) (took_copy n (let u = st.uid in u.num) b st s)) in r.part) S
    by true q = sees
    by false true = sees
    by false false = record {
      incarnation = sees.incarnation;
      object = subst (λ (f : Option Copy). SeesObject act code x s.inc f (S.server n) S)
          (sym (other_object x (let u = st.uid in u.num) (taken_copy b st) s.objects other)) sees.object;
      latest = sees.latest;
      kept = sees.kept;
      voted = sees.voted;
    }

pub activates_are_seen : ActivatesAreSeen
activates_are_seen v h b st s S shown sees = by ((let u = st.uid in u.num) == v.x) refl
  where
    by : (t : Bool) → ((let u = st.uid in u.num) == v.x) ≡ t → let r = activate v.node h.path b st s in
        Goes S (λ T. Sees v r.part T × OnlyServer v.node S T × ((let u = st.uid in u.num) ≡ v.x → ShowsActivated b T r.reply))
    by true is =
        let its : (let u = st.uid in u.num) ≡ v.x = eqb-true (let u = st.uid in u.num) v.x is in
        let g = given_of v h b st s S shown its in
        goes_to (copy_taken v.family.act v.code v.wants v.x v.node h.path b st s S g.bound g.served g.sent sees its)
        (λ T k. (k.0, k.1, λ same. k.2))
    by false is = let other : (let u = st.uid in u.num) ≢ v.x = λ same. unlike (let u = st.uid in u.num) v.x is same in record {
      state = S;
      run = stay;
      holds = (
        other_copies v.family.act v.code v.wants v.x v.node h.path b st s S other sees,
        only_itself v.node S,
        λ same. absurd (other same),
      );
    }

-- ---- it answers calls

module _ (v : View) (h : Head) (b : Binding) (i : ℕ) (o : Op) (s : Server) (S : State) (asked : IsAsked v h b i o S)
    (sees : Sees v s S) where
  abbrev act : Acts
  act = v.family.act

  abbrev x : ℕ
  x = v.x

  abbrev n : ℕ
  n = v.node

  abbrev code : Codes
  code = v.code

  abbrev wants : Wants
  wants = v.wants

  abbrev u : Uid
  u = actor h.path

  abbrev w0 : Wanted
  w0 = record { binding = b; op = o }

  abbrev q : Request
  q = wanted_by act u h.req w0

  abbrev Answers : Served Server InvokedReply → Type 0
  Answers r = Goes S (λ T. Sees v r.part T × OnlyServer n S T × ShowsIfInvoked act v.code u h.req w0 T r.reply)

  stays : Answers (void s)
  stays = record { state = S; run = stay; holds = (sees, only_itself n S, tt) }

  -- it has another incarnation or binding
  changed : (d : What) → IsElsewhere (S.server n) (let c = S.binding (binding_number b) in c.incarnation) (binding_number b) →
      Answers (reply s (invoked.Changed d))
  changed d away = record {
    state = next (Change n q) S;
    run = step (Change n q) (asked.sent, asked.served, away) stay;
    holds = (
      record {
        incarnation = sees.incarnation;
        object = object_sent act code x s.inc (at_number x s.objects) (S.server n) S (next (Change n q) S) (λ m i. inr i) sees.object;
        latest = sees.latest;
        kept = λ u k w found wanted.
            shows_later act code u k.req w S (next (Change n q) S) (λ m i. inr i) k.answer (sees.kept u k w found wanted);
        voted = sees.voted;
      },
      record { rest = refl; others = λ k other. refl; sent = λ m i. inr i },
      inl refl,
    );
  }

  -- the request again
  again_kept : (k : Kept) → at_uid u s.kept ≡ Some k → k.req ≡ h.req → Answers (reply s k.answer)
  again_kept k found is = record {
    state = S;
    run = stay;
    holds = (
      sees,
      only_itself n S,
      subst (λ (r : ℕ). ShowsInvoked act code u r w0 S k.answer) is (sees.kept u k w0 found (ap (wants u) is ∙ asked.wish)),
    );
  }

  -- ---- a new request

  module _ (one : AreOne act) (caller : IsCaller act h.path) (c : Copy) (there : at_number x s.objects ≡ Some c) (tied : binding_number b
      ≡ binding_number c.binding) (inc_is : i ≡ s.inc) (later : (let m = S.server n in m.request (act u)) < h.req) where
    has_copy : SeesCopy act code x c (S.server n) × In (machine.Activated (binding_number c.binding) s.inc) S.net
    has_copy = subst (λ (f : Option Copy). SeesObject act code x s.inc f (S.server n) S) there sees.object

    request_is : request_for act h.path h.req o c ≡ q
    request_is = λ j. record { act = act u; number = h.req; binding = sym tied j; write = q.write }

    new_one : IsNew S n (request_for act h.path h.req o c)
    new_one = record {
      sent = subst (λ (r : Request). In (machine.Invoke r) S.net) (sym request_is) asked.sent;
      here = (let copy = has_copy.0 in (
        ap (λ (k : ℕ). (let v = S.binding k in v.server)) (sym tied) ∙ asked.served,
        sees.incarnation ∙ sym inc_is ∙ sym (let m = asked.named in m.1) ∙ ap (λ (k : ℕ). (let v = S.binding k in v.incarnation)) tied,
        copy.active,
      ));
      later = later;
    }

    -- the server with a copy, and an answer that is kept
    after : Copy → InvokedReply → Server
    after r a = record s { objects = put_number x r s.objects; kept = put_uid u (record { req = h.req; answer = a }) s.kept }

    server_then : (T : State) (r : Copy) (a : InvokedReply) → SeesCopy act code x r (T.server n) →
        In (machine.Activated (binding_number r.binding) s.inc) T.net → OnlyServer n S T → KeepsServer
        (at_act (let m = S.server n in m.request) (act u) h.req) (S.server n) (T.server n) → ShowsInvoked act code u h.req w0 T a
        → Sees v (record s { objects = put_number x r s.objects; kept = put_uid u (record { req = h.req; answer = a }) s.kept }) T
    server_then T r a copy activated only keeps shows = record {
      incarnation = keeps.incarnation ∙ sees.incarnation;
      object =
          subst (λ (f : Option Copy). SeesObject act code x s.inc f (T.server n) T) (sym (put_number_same x r s.objects)) (copy, activated);
      latest = λ y fresh. subst (λ (f : Act → ℕ). f (act y) ≤ last_of (at_uid y (put_uid u mine s.kept))) (sym keeps.request) (⊎_elim
          (λ (is : y ≡ u). subst (λ (z : Uid). at_act (let m = S.server n in
          m.request) (act u) h.req (act z) ≤ last_of (at_uid z (put_uid u mine s.kept))) (sym is)
          (same_low (act_here (let m = S.server n in m.request) (act u) h.req) (ap last_of (put_same u mine s.kept))))
          (λ (other : y ≢ u). old_low (act_other (let m = S.server n in m.request) (act u) h.req (act y) (apart y other))
          (ap last_of (put_other y u mine s.kept other)) (sees.latest y fresh))
          (uid_cases y u));
      kept = λ y k w found wanted. ⊎_elim
          (λ (is : y ≡ u).
          let two : ◌≡◌ {A = Option Kept} (Some mine) (Some k) = sym (put_same u mine s.kept)
          ∙ ap (λ (z : Uid). at_uid z (put_uid u mine s.kept)) (sym is) ∙ found in
          let its : mine ≡ k = cc two in
          let both : ◌≡◌ {A = Option Wanted} (Some w0) (Some w) = sym asked.wish ∙ ap (λ (z : Uid). wants z h.req) (sym is)
          ∙ ap (λ (z : Kept). wants y z.req) its ∙ wanted in
          let same_wish : w0 ≡ w = cc both in
          subst (λ (z : Kept). ShowsInvoked act code y z.req w T z.answer) its (subst (λ (z : Uid). ShowsInvoked act code z h.req w T a)
          (sym is) (subst (λ (z : Wanted). ShowsInvoked act code u h.req z T a) same_wish shows)))
          (λ (other : y ≢ u). shows_later act code y k.req w S T only.sent k.answer
          (sees.kept y k w (sym (put_other y u mine s.kept other) ∙ found) wanted))
          (uid_cases y u);
      voted = λ y fresh off. ap (λ (f : Act → Bool). f (act y)) keeps.voted ∙ sees.voted y fresh off;
    }
      where
        mine : Kept
        mine = record { req = h.req; answer = a }

        same_low : {j k : ℕ} → j ≡ h.req → k ≡ h.req → j ≤ k
        same_low a b = omega (arith, a, b)

        old_low : {j k l m : ℕ} → j ≡ k → l ≡ m → k ≤ m → j ≤ l
        old_low a b c = omega (arith, a, b, c)

        apart : (y : Uid) → y ≢ u → same (act y) (act u) ≡ false
        apart y other = by (same (act y) (act u)) refl
          where
            by : (t : Bool) → same (act y) (act u) ≡ t → t ≡ false
            by true is = absurd (other (one y u (same_is (act y) (act u) is)))
            by false is = refl

    on_it : Answers (kept_after h (on_copy x (invoke_copy n h.path x o) s (Some c)))
    on_it = by (first_conflict (uids_of h.path) (object x) (op_mode o) c.rows) refl
      where
        by : (r : Option Row) → first_conflict (uids_of h.path) (object x) (op_mode o) c.rows ≡ r → Answers (kept_after h (record {
          part = record s { objects = put_number x (let k = ask_copy n h.path x o c r in k.part) s.objects };
          outs = (let k = ask_copy n h.path x o c r in k.outs);
          reply = (let k = ask_copy n h.path x o c r in k.reply);
        }))
        by None free = goes_to (operations_are_seen act code n x h.req h.path o c S one caller free has_copy.0 new_one) (λ T g.
            let shown : ShowsInvoked act code u h.req w0 T (invoked.Answered (answer_of o (current c.base c.stack))) = (
              current c.base c.stack,
              refl,
              record {
                answer = answer_for act code S (request_for act h.path h.req o c) o c;
                sent = g.3;
                of = request_is;
                by = writer_in act c.base c.stack;
                sees = refl;
                gives = ap (λ (z : Request). code (value_after o (current c.base c.stack)) (top z.act)) request_is;
              },
            ) in (
              server_then T (let k = run_copy n h.path x o c in k.part) (invoked.Answered (answer_of o (current c.base c.stack))) g.0
                  (let y = g.1 in y.sent (machine.Activated (binding_number c.binding) s.inc) has_copy.1) g.1 g.2 shown,
              g.1,
              shown,
            ))
        by (Some r) is = goes_to (refusals_are_seen act code n x h.req h.path o c S has_copy.0 new_one) (λ T g.
            let shown : In (machine.Refused q) T.net = subst (λ (z : Request). In (machine.Refused z) T.net) request_is g.3 in (
              server_then T c (invoked.Conflict (last_uid r.holder) r.mode) g.0 (let y = g.1 in
                  y.sent (machine.Activated (binding_number c.binding) s.inc) has_copy.1) g.1 g.2 shown,
              g.1,
              shown,
            ))

-- what was asked is so after ends, and after all else that happened at a server
asked_later : (v : View) (h : Head) (b : Binding) (i : ℕ) (o : Op) (S T : State) → OnlyEnds v.node S T → IsAsked v h b i o S →
    IsAsked v h b i o T
asked_later v h b i o S T only asked = subst (IsAsked v h b i o) (sym only.rest) (record {
  number = asked.number;
  bound = asked.bound;
  served = asked.served;
  named = asked.named;
  sent = asked.sent;
  wish = asked.wish;
})

module _ (v : View) (h : Head) (b : Binding) (i : ℕ) (ends : List (Uid × End)) (o : Op) (s : Server) (S : State)
    (asked : IsAsked v h b i o S) (shown : IsShown v h (ask.Invoke v.x b i ends o) s S) (sees : Sees v s S) where
  abbrev who : Uid
  who = actor h.path

  abbrev want : Wanted
  want = record { binding = b; op = o }

  abbrev Replies : Served Server InvokedReply → Type 0
  Replies r = Goes S (λ T. Sees v r.part T × OnlyServer v.node S T × ShowsIfInvoked v.family.act v.code who h.req want T r.reply)

  abbrev t : Server
  t = let d = apply_ends v.node ends s in d.part

  brought : AreBrought v ends s S
  brought = record { whole = shown.whole; server = shown.server; ordered = shown.fits.2; shown = shown.shown }

  not_mine : has_end_of who ends ≡ false
  not_mine = shown.fits.1 who (on_own h.path)

  caller : IsCaller v.family.act h.path
  caller = let f = shown.fits.0 in subst (IsCaller v.family.act) f.2 (caller_of v.family shown.whole f.0 f.1 f.3)

  -- the ends, and then a new request
  fresh_one : is_told who s ≡ false → (c : Copy) → at_number v.x s.objects ≡ Some c → binding_number b ≡ binding_number c.binding →
      i ≡ s.inc → last_of (at_uid who s.kept) < h.req → Replies (invoke_new v.node h v.x ends o s)
  fresh_one untold c there tied inc_is less = goes_then (brought_go v ends s S brought sees)
      (λ T g. goes_to (on_new T g.0 g.1) (λ V k. (k.0, only_both (only_server g.1) k.1, k.2)))
    where
      f : (d : Copy) × (at_number v.x t.objects ≡ Some d) × (d.binding ≡ c.binding)
      f = copy_told v.node ends s v.x c there

      inc_after : t.inc ≡ s.inc
      inc_after = let k = told_follows v.node ends s in k.same

      later : (T : State) → Sees v t T → (let m = T.server v.node in m.request (v.family.act who)) < h.req
      later T after =
          lower (after.latest who (untold_after v.node ends s who untold not_mine)) (ap last_of (kept_told v.node ends s who not_mine)) less
        where
          lower : {j k l : ℕ} → j ≤ k → k ≡ l → l < h.req → j < h.req
          lower p q r = omega (arith, p, q, r)

      on_new : (T : State) → Sees v t T → OnlyEnds v.node S T → Goes T (λ V. Sees v (let r = kept_after h (on_copy v.x (invoke_copy v.node
          h.path v.x o) t (at_number v.x t.objects)) in r.part) V × OnlyServer v.node T V × ShowsIfInvoked v.family.act v.code who h.req
          want V (let r = kept_after h (on_copy v.x (invoke_copy v.node h.path v.x o) t (at_number v.x t.objects)) in r.reply))
      on_new T after only = subst (λ (d : Option Copy). Goes T (λ V. Sees v (let r = kept_after h
          (on_copy v.x (invoke_copy v.node h.path v.x o) t d) in r.part) V × OnlyServer v.node T V × ShowsIfInvoked v.family.act v.code who
          h.req want V (let r = kept_after h (on_copy v.x (invoke_copy v.node h.path v.x o) t d) in r.reply))) (sym f.1)
          (on_it v h b i o t T (asked_later v h b i o S T only asked) after (let k = shown.whole in let l = k.alike in
          l.one) caller f.0 f.1 (tied ∙ ap binding_number (sym f.2)) (inc_is ∙ sym inc_after) (later T after))

  -- ---- any request

  module _ (unended : has_ended h.path s ≡ false) (not_below : is_below h.req (at_uid who s.kept) ≡ false)
      (untold : is_told who s ≡ false) where
    -- of a request with this copy
    with_copy : (c : Copy) → at_number v.x s.objects ≡ Some c → binding_number b ≡ binding_number c.binding → i ≡ s.inc →
        Replies (invoke_kept v.node h v.x ends o s (at_uid who s.kept))
    with_copy c there tied inc_is = by (at_uid who s.kept) refl
      where
        low : (k : Option Kept) → at_uid who s.kept ≡ k → last_of k < h.req → last_of (at_uid who s.kept) < h.req
        low k is less = subst (λ (z : Option Kept). last_of z < h.req) (sym is) less

        by : (k : Option Kept) → at_uid who s.kept ≡ k → Replies (invoke_kept v.node h v.x ends o s k)
        by None none = fresh_one untold c there tied inc_is (low None none (positive asked.number))
          where
            positive : 1 ≤ h.req → 0 < h.req
            positive a = omega (arith, a)
        by (Some k) found = at (k.req == h.req) refl
          where
            at : (t : Bool) → (k.req == h.req) ≡ t → Replies (cond t (reply s k.answer) (invoke_new v.node h v.x ends o s))
            at true is = again_kept v h b i o s S asked sees k found (eqb-true k.req h.req is)
            at false is = fresh_one untold c there tied inc_is
                (low (Some k) found (less k.req h.req is (ap (is_below h.req) (sym found) ∙ not_below)))
              where
                less : (j l : ℕ) → (j == l) ≡ false → nat_lt l j ≡ false → j < l
                less j l a b = grind (arith, a, b)

    now : Replies (invoke_now v.node h v.x ends o s (changed_by i v.x b s))
    now = by_inc (i == s.inc) refl
      where
        by_copy : i ≡ s.inc → (f : Option Copy) → at_number v.x s.objects ≡ f →
            Replies (invoke_now v.node h v.x ends o s (changed_copy b f))
        by_copy inc_is None none = changed v h b i o s S asked sees (what.Bind b unbound) (inr (λ is. not_none (subst
            (λ (f : Option Copy). SeesObject v.family.act v.code v.x s.inc f (S.server v.node) S) none sees.object).0 is asked.bound))
          where
            not_none : {j l : ℕ} → j ≡ 0 → j ≡ l → 1 ≤ l → ⊥
            not_none a b c = omega (arith, a, b, c)
        by_copy inc_is (Some c) there = by_bound (binding_eq b c.binding) refl
          where
            by_bound : (t : Bool) → binding_eq b c.binding ≡ t →
                Replies (invoke_now v.node h v.x ends o s (cond t None (Some (what.Bind b c.binding))))
            by_bound true like = with_copy c there (eqb-true (binding_number b) (binding_number c.binding) like) inc_is
            by_bound false apart = changed v h b i o s S asked sees (what.Bind b c.binding) (inr (λ is.
                (let k = subst (λ (f : Option Copy). SeesObject v.family.act v.code v.x s.inc f (S.server v.node) S) there sees.object in
                let copy = k.0 in unlike (binding_number b) (binding_number c.binding) apart (sym is ∙ copy.active))))

        by_inc : (t : Bool) → (i == s.inc) ≡ t → Replies
            (invoke_now v.node h v.x ends o s (either (cond t None (Some (what.Inc i s.inc))) (changed_copy b (at_number v.x s.objects))))
        by_inc true is = by_copy (eqb-true i s.inc is) (at_number v.x s.objects) refl
        by_inc false is = changed v h b i o s S asked sees (what.Inc i s.inc)
            (inl (λ same_inc. unlike i s.inc is (sym (let m = asked.named in m.1) ∙ sym same_inc ∙ sees.incarnation)))

  pub own_answered : Replies (invoke v.node h v.x b i ends o s)
  own_answered = by (has_ended h.path s) (is_below h.req (at_uid who s.kept)) refl refl
    where
      untold : has_ended h.path s ≡ false → is_told who s ≡ false
      untold none = unended (uids_of h.path) (path_some h.path) none
        where
          unended : (us : List Uid) → 1 ≤ length us → list_any (λ y. is_told y s) us ≡ false → is_told (last_uid us) s ≡ false
          unended [] some none = absurd (let no_way = some in omega (arith, no_way))
          unended (y ∷ []) some none = (or_parts (is_told y s) false none).0
          unended (y ∷ w ∷ us) some none =
              unended (w ∷ us) (omega arith) (or_parts (is_told y s) (list_any (λ z. is_told z s) (w ∷ us)) none).1

      by : (e l : Bool) → has_ended h.path s ≡ e → is_below h.req (at_uid who s.kept) ≡ l →
          Replies (cond (e || l) (void s) (invoke_now v.node h v.x ends o s (changed_by i v.x b s)))
      by true l ended below = stays v h b i o s S asked sees
      by false true ended below = stays v h b i o s S asked sees
      by false false ended below = now ended below (untold ended)

-- ---- and those on other objects

module _ (v : View) (y : ℕ) (h : Head) (b : Binding) (i : ℕ) (ends : List (Uid × End)) (o : Op) (s : Server) (S : State) (other : y ≢ v.x)
    (unwanted : v.wants (actor h.path) h.req ≡ None) (shown : IsShown v h (ask.Invoke y b i ends o) s S) (sees : Sees v s S) where
  abbrev v0 : Uid
  v0 = actor h.path

  abbrev Stays : Served Server InvokedReply → Type 0
  Stays r = Goes S (λ T. Sees v r.part T × OnlyServer v.node S T)

  -- another answer is kept
  noted : (t : Server) (T : State) → Sees v t T → (objects : List (ℕ × Copy)) (a : InvokedReply) →
      at_number v.x objects ≡ at_number v.x t.objects → last_of (at_uid v0 t.kept) ≤ h.req →
      Sees v (record t { objects = objects; kept = put_uid v0 (record { req = h.req; answer = a }) t.kept }) T
  noted t T after objects a same_copy low = record {
    incarnation = after.incarnation;
    object = subst (λ (f : Option Copy). SeesObject v.family.act v.code v.x t.inc f (T.server v.node) T) (sym same_copy) after.object;
    latest = λ w1 fresh. ⊎_elim
        (λ (is : w1 ≡ v0). subst
        (λ (z : Uid). (let m = T.server v.node in m.request (v.family.act z)) ≤ last_of (at_uid z (put_uid v0 mine t.kept))) (sym is)
        (higher (after.latest v0 (ap (λ (z : Uid). is_told z t) (sym is) ∙ fresh)) low (ap last_of (put_same v0 mine t.kept))))
        (λ (apart : w1 ≢ v0). subst (λ (k : Option Kept). (let m = T.server v.node in m.request (v.family.act w1)) ≤ last_of k)
        (sym (put_other w1 v0 mine t.kept apart)) (after.latest w1 fresh))
        (uid_cases w1 v0);
    kept = λ w1 k w found wanted. ⊎_elim
        (λ (is : w1 ≡ v0).
        let two : ◌≡◌ {A = Option Kept} (Some mine) (Some k) = sym (put_same v0 mine t.kept)
        ∙ ap (λ (z : Uid). at_uid z (put_uid v0 mine t.kept)) (sym is) ∙ found in
        let its : mine ≡ k = cc two in
        let no_way : ◌≡◌ {A = Option Wanted} None (Some w) = sym unwanted ∙ ap (λ (z : Uid). v.wants z h.req) (sym is)
        ∙ ap (λ (z : Kept). v.wants w1 z.req) its ∙ wanted in
        absurd (cc no_way))
        (λ (apart : w1 ≢ v0). after.kept w1 k w (sym (put_other w1 v0 mine t.kept apart) ∙ found) wanted)
        (uid_cases w1 v0);
    voted = after.voted;
  }
    where
      mine : Kept
      mine = record { req = h.req; answer = a }

      higher : {j k l : ℕ} → j ≤ k → k ≤ h.req → l ≡ h.req → j ≤ l
      higher p q r = omega (arith, p, q, r)

  abbrev told_server : Server
  told_server = let d = apply_ends v.node ends s in d.part

  -- a request that wasn't run yet
  noted_new : last_of (at_uid v0 s.kept) ≤ h.req → Stays (invoke_new v.node h y ends o s)
  noted_new low =
      goes_to (brought_go v ends s S (record { whole = shown.whole; server = shown.server; ordered = shown.fits.2; shown = shown.shown })
      sees) (λ T g. (by_copy T g.0 (at_number y told_server.objects), only_server g.1))
    where
      low_after : last_of (at_uid v0 told_server.kept) ≤ h.req
      low_after = let same = ap last_of (kept_told v.node ends s v0 (shown.fits.1 v0 (on_own h.path))) in omega (arith, low, same)

      by_copy : (T : State) → Sees v told_server T → (f : Option Copy) →
          Sees v (let r = kept_after h (on_copy y (invoke_copy v.node h.path y o) told_server f) in r.part) T
      by_copy T after None = noted told_server T after told_server.objects (invoked.Changed (what.Bind unbound unbound)) refl low_after
      by_copy T after (Some c) = by (first_conflict (uids_of h.path) (object y) (op_mode o) c.rows)
        where
          by : (r : Option Row) → Sees v (let r = kept_after h (record {
            part = record told_server { objects = put_number y (let k = ask_copy v.node h.path y o c r in k.part) told_server.objects };
            outs = (let k = ask_copy v.node h.path y o c r in k.outs);
            reply = (let k = ask_copy v.node h.path y o c r in k.reply);
          }) in r.part) T
          by None = let r = run_copy v.node h.path y o c in noted told_server T after (put_number y r.part told_server.objects)
              (invoked.Answered (answer_of o (current c.base c.stack))) (other_object v.x y r.part told_server.objects other) low_after
          by (Some r) = noted told_server T after (put_number y c told_server.objects) (invoked.Conflict (last_uid r.holder) r.mode)
              (other_object v.x y c told_server.objects other) low_after

  as_it_was : Stays (void s)
  as_it_was = record { state = S; run = stay; holds = (sees, only_itself v.node S) }

  pub other_answered : Stays (invoke v.node h y b i ends o s)
  other_answered = by (has_ended h.path s) (is_below h.req (at_uid v0 s.kept)) refl
    where
      by_kept : (k : Option Kept) → at_uid v0 s.kept ≡ k → is_below h.req k ≡ false → Stays (invoke_kept v.node h y ends o s k)
      by_kept None none low = noted_new (subst (λ (z : Option Kept). last_of z ≤ h.req) (sym none) (omega arith))
      by_kept (Some k) found low = at (k.req == h.req)
        where
          at_most : (j l : ℕ) → nat_lt l j ≡ false → j ≤ l
          at_most j l a = grind (arith, a)

          at : (e : Bool) → Stays (cond e (reply s k.answer) (invoke_new v.node h y ends o s))
          at true = as_it_was
          at false = noted_new (subst (λ (z : Option Kept). last_of z ≤ h.req) (sym found) (at_most k.req h.req low))

      by_what : is_below h.req (at_uid v0 s.kept) ≡ false → (w : Option What) → Stays (invoke_now v.node h y ends o s w)
      by_what low (Some w) = as_it_was
      by_what low None = by_kept (at_uid v0 s.kept) refl low

      by : (e l : Bool) → is_below h.req (at_uid v0 s.kept) ≡ l →
          Stays (cond (e || l) (void s) (invoke_now v.node h y ends o s (changed_by i y b s)))
      by true l below = as_it_was
      by false true below = as_it_was
      by false false below = by_what below (changed_by i y b s)

pub invokes_are_seen : InvokesAreSeen
invokes_are_seen v h y b i ends o s S shown sees = by (y == v.x) refl
  where
    by : (t : Bool) → (y == v.x) ≡ t → let r = invoke v.node h y b i ends o s in
        Goes S (λ T. Sees v r.part T × OnlyServer v.node S T
        × (y ≡ v.x → ShowsIfInvoked v.family.act v.code (actor h.path) h.req (record { binding = b; op = o }) T r.reply))
    by true is = own y (eqb-true y v.x is) shown
      where
        own : (z : ℕ) → z ≡ v.x → IsShown v h (ask.Invoke z b i ends o) s S → let r = invoke v.node h z b i ends o s in
            Goes S (λ T. Sees v r.part T × OnlyServer v.node S T
            × (z ≡ v.x → ShowsIfInvoked v.family.act v.code (actor h.path) h.req (record { binding = b; op = o }) T r.reply))
        own z its = subst (λ (k : ℕ). IsShown v h (ask.Invoke k b i ends o) s S → let r = invoke v.node h k b i ends o s in
            Goes S (λ T. Sees v r.part T × OnlyServer v.node S T
            × (k ≡ v.x → ShowsIfInvoked v.family.act v.code (actor h.path) h.req (record { binding = b; op = o }) T r.reply))) (sym its)
            (λ here.
            goes_to (own_answered v h b i ends o s S (asked_of v h b i ends o s S here) here sees) (λ T k. (k.0, k.1, λ same. k.2)))
    by false is =
        let other : y ≢ v.x = λ same. unlike y v.x is same in
        let wanted = shown.wanted in
        goes_to (other_answered v y h b i ends o s S other (wanted.2 other) shown sees) (λ T k. (k.0, k.1, λ same. absurd (other same)))
