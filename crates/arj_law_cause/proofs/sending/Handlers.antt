-- What a node makes of a message leads to no more messages to another node than the message itself; and what a commit, an abort and a
-- giveup
-- lead to.
use Rattle.arj_law_parts.proofs.Words
use Words.{◌≡◌, ◌≤◌, ◌<◌, ◌+◌, ◌==◌, ◌&&◌, ◌||◌, not, ℕ, zero, suc, Bool, true, false, cond, List, [], ◌∷◌, ◌++◌, map, filter, refl, sym}
use Words.{ap, subst}
use Words.{arith, nat_tests, ◌∙◌, ⊤, AllByRecursion, flat_map, length}
use Words.{Option, Some, None, option_map, list_all, and_parts, AreAll, Ask, Asked, Body, End, Head, Kind, Label, Message, ObjectState}
use Words.{Path, Uid}
use Words.{request, Reply, actor, asked_by, response, last_end, heard, heard_by, heard_call, heard_doing, heard_none, heard_now, kept_at}
use Words.{moved_commit, step_call, step_commit, waits_for_call, waits_for_commit, CallStep, Ended, Goal, On, Steps, At, ask_at, goes_on}
use Words.{Machine, Voting, Preparing, Confirming, ask_of, left_of, plan_of, Plan, CommitStep, Stays, Asks, Decides, Aborts, Marked, Used}
use Words.{begin_confirm, begin_prepare, begin_vote, servers_of, targets_of, stores_left, votes_left, marks_store, marks_stores, stores_by}
use Words.{changed_of, with_states, waiting, participants, has_record}
use Words.{Calling, Committing, Coord, Doing, Idle, Now, doing_of, is_free, on_root, root_at, nodes_sent, servers_told}
use Words.{Disk, Do, Effect, Intent, Pair, Prep, PutIntent, RemoveIntent, Say, Send, Served, Did, has, Naming, Handled, Parts, Took, Void}
use Words.{at_uid, is_prepared, prepare_answer, prepare_by, prepare_states, Ready, Already, Old, InDoubt, without_number, without_uid}
use Words.{with_number}
use Words.{ack_told, end_states, handle, handle_ends, handle_told, if_naming, is_meant, naming_told, store_told, coord_heard, by_reply}
use Words.{sends_answer, served, taken, with_coord, with_naming, with_server, is_naming_effect, confirm, confirm_own, ends_own, told_own}
use Words.{vote_own}
use Words.{asks_all, asks_node, commits_in, mark_lines, say_for, says, tell, tell_all, tolds_by, tolds_of, tolds_of_branch, up_to}
use Words.{ends_of, root_of}
use Words.{acked, acked_by, acked_left, tolds_let_go, let_go, aborts_with, ends_with, decide, decided_told, ended, Branch, branch_of}
use Words.{uid_eq}
use Words.{answer_query, answer_decided, answer_recorded, is_deferred, is_kept_commit, is_open, root_or_self, Moved, answered, root_moved}
use Words.{next_ask, next_node, step}
use Words.ask
use Words.body
use Words.calls
use Words.cause
use Words.commit
use Words.confirmed
use Words.ending
use Words.kind
use Words.message
use Words.naming
use Words.prepared
use Words.server
use Words.voted
use Rattle.arj_law_parts.proofs.Terms.{is_over}
use Rattle.arj_law_parts.proofs.parts.Numbered.{AreUp, set_up}
use Rattle.arj_law_runs.proofs.bindings.Handled.{outs_of}
use Rattle.arj_law_cause.proofs.quiesces.Sends.{count_sent, naming_none, of_call, server_none, taken_one}
use Rattle.arj_law_cause.proofs.sending.Ordered.{IsSentUp, UpCoord, UpRecords, found_up}
use Rattle.arj_law_cause.proofs.sending.Weights as weights
use weights.{fewer, once, tally, times}

module _ (n j k : ℕ) where
  -- ---- steps of commits

  -- what a step asks, or tells, is of nodes in order
  abbrev UpStep : CommitStep → Type 0
  UpStep (Stays m) = ⊤
  UpStep (Asks m) = AreUp (left_of m)
  UpStep (Decides p) = AreUp p.sent
  UpStep (Aborts why p) = ⊤

  abbrev pub asked : Machine → ℕ
  asked (Voting p left) = 4
  asked (Preparing p left) = 3
  asked (Confirming p) = 2

  abbrev most : CommitStep → ℕ
  most (Stays m) = 0
  most (Asks m) = asked m
  most (Decides p) = 2
  most (Aborts why p) = 1

  asks_mass : (p : Path) (req : ℕ) (m : Machine) (a : ℕ) → ((h : Head) (i : ℕ) → weights.own n j k (request h (ask_of m i)) ≤ a) →
      (ns : List ℕ) (c : Coord) →
      weights.mass n j k (asks_all p req (map {A = ℕ} {B = ℕ × Ask} (λ i. (i, ask_of m i)) ns) c).outs ≤ times a (tally n ns) + tally j ns
  asks_mass p req m a less [] c = omega arith
  asks_mass p req m a less (i ∷ ns) c =
      let d = asks_node p req (i, ask_of m i) c in
      let h : Head = record { path = p; req = req } in
      weights.one_more n j k a (weights.own n j k (request h (ask_of m i))) (tally n ns) (tally j ns)
      (weights.mass n j k (asks_all p req (map {A = ℕ} {B = ℕ × Ask} (λ z. (z, ask_of m z)) ns) d.part).outs) (i == n) (i == j)
      (less h i) (asks_mass p req m a less ns d.part)

  pub machine_mass : (m : Machine) (c : Coord) → AreUp (left_of m) → weights.mass n j k (Words.asks_machine m c).outs ≤ asked m
  machine_mass (Voting p left) c up = weights.within n j k (weights.mass n j k (Words.asks_machine (Voting p left) c).outs) 3
      (tally n left) (tally j left)
      (asks_mass p.path p.req (Voting p left) 3 (λ h i. omega arith) left c) (once n left up) (once j left up)
  machine_mass (Preparing p left) c up = weights.within n j k (weights.mass n j k (Words.asks_machine (Preparing p left) c).outs) 2
      (tally n left) (tally j left)
      (asks_mass p.path p.req (Preparing p left) 2 (λ h i. omega arith) left c) (once n left up) (once j left up)
  machine_mass (Confirming p) c up = weights.one_sent n j k 2 1 (request (record { path = p.path; req = p.req }) (ask_of
      (Confirming p) 1)) (omega arith)
      (omega arith)

  step_mass : (u : Uid) (s : CommitStep) (intents : List (Uid × Intent)) (c : Coord) → UpStep s →
      weights.mass n j k (step_commit u s intents c).outs ≤ most s
  step_mass u (Stays m) intents c up = omega arith
  step_mass u (Asks m) intents c up = machine_mass m (commits_in u m c) up
  step_mass u (Decides p) intents c up = weights.decide_mass n j k p c up
  step_mass u (Aborts why p) intents c up = weights.ends_mass n j k u ending.Abort (λ l. body.Aborted l why) intents c

  moved_mass : (u : Uid) (m : Marked) (intents : List (Uid × Intent)) (c : Coord) (a : ℕ) → UpStep m.step → most m.step ≤ a →
      weights.mass n j k (moved_commit u m intents c).outs ≤ a
  moved_mass u m intents c a up le = weights.behind_none n j k (mark_lines u m.marks c) (step_commit u m.step intents c).outs a
      (weights.lines_none n j k u (λ (x : ℕ × ℕ) l. body.Excluded l x.0 x.1) c m.marks)
      (less (weights.mass n j k (step_commit u m.step intents c).outs) (most m.step) (step_mass u m.step intents c up) le)
    where
      less : (x y : ℕ) → x ≤ y → y ≤ a → x ≤ a
      less x y one two = omega (arith, one, two)

  -- so many at most
  abbrev Most : ℕ → CommitStep → Type 0
  Most a s = UpStep s × (most s ≤ a)

  more_so : (a b : ℕ) (s : CommitStep) → a ≤ b → Most a s → Most b s
  more_so a b s le its = (its.0, less (most s) its.1)
    where
      less : (x : ℕ) → x ≤ a → x ≤ b
      less x one = omega (arith, one, le)

  confirm_most : (p : Plan) → AreUp p.sent → Most 2 (begin_confirm p.used p)
  confirm_most p up = by p.used
    where
      by : (us : List Used) → Most 2 (begin_confirm us p)
      by [] = (up, omega arith)
      by (v ∷ vs) = ((tt, tt), omega arith)

  prepare_most : (p : Plan) → AreUp p.sent → Most 3 (begin_prepare (targets_of p) p)
  prepare_most p up = by (targets_of p) (set_up (flat_map (λ w. stores_by w (changed_of w.x p)) p.used))
    where
      by : (ns : List ℕ) → AreUp ns → Most 3 (begin_prepare ns p)
      by [] all = more_so 2 3 (begin_confirm p.used p) (omega arith) (confirm_most p up)
      by (i ∷ ns) all = (all, omega arith)

  votes_most : (p : Plan) → AreUp p.sent → (left : List ℕ) → Most 3 (votes_left left p)
  votes_most p up [] = prepare_most p up
  votes_most p up (i ∷ ns) = (tt, omega arith)

  stores_most : (p : Plan) → AreUp p.sent → (left : List ℕ) → Most 2 (stores_left left p).step
  stores_most p up [] = confirm_most p up
  stores_most p up (i ∷ ns) = (tt, omega arith)

  start_most : (p : Plan) → AreUp p.sent → Most 4 (commit.start p).step
  start_most p up = by (servers_of p) (set_up (map (λ (w : Used). w.server) (filter (λ (w : Used). w.called) p.used)))
    where
      by : (ns : List ℕ) → AreUp ns → Most 4 (begin_vote ns p)
      by [] all = more_so 3 4 (begin_prepare (targets_of p) p) (omega arith) (prepare_most p up)
      by (i ∷ ns) all = (all, omega arith)

  abbrev weight : Reply → ℕ
  weight (Reply.Voted r) = 3
  weight (Reply.Prepared r) = 2
  weight (Reply.Confirmed r) = 2
  weight r = 1

  some_weight : (r : Reply) → 1 ≤ weight r
  some_weight (Reply.Voted r) = omega arith
  some_weight (Reply.Prepared r) = omega arith
  some_weight (Reply.Confirmed r) = omega arith
  some_weight (Reply.Bound r) = omega arith
  some_weight (Reply.Loaded r) = omega arith
  some_weight (Reply.Activated i) = omega arith
  some_weight (Reply.Noted r) = omega arith
  some_weight (Reply.Invoked r) = omega arith

  answered_most : (from : ℕ) (m : Machine) (r : Reply) → AreUp (let p = plan_of m in p.sent) →
      Most (weight r) (commit.answered from m r).step
  answered_most from (Voting p left) (Reply.Voted (voted.Yes states)) up =
      votes_most (record p { changed = with_states states p.changed }) up (without_number from left)
  answered_most from (Voting p left) (Reply.Voted (voted.Changed w)) up = (tt, omega arith)
  answered_most from (Preparing p left) (Reply.Prepared prepared.Yes) up =
      stores_most (record p { prepared = with_number from p.prepared }) up (without_number from left)
  answered_most from (Preparing p left) (Reply.Prepared (prepared.InDoubt x holder)) up =
      stores_most (marks_store from p) up (without_number from left)
  answered_most from (Preparing p left) (Reply.Prepared (prepared.Old x v)) up = (tt, omega arith)
  answered_most from (Confirming p) (Reply.Confirmed confirmed.Yes) up = (up, omega arith)
  answered_most from (Confirming p) (Reply.Confirmed (confirmed.Conflict h m)) up = (tt, omega arith)
  answered_most from (Confirming p) (Reply.Confirmed (confirmed.Changed w)) up = (tt, omega arith)
  answered_most from (Confirming p) (Reply.Confirmed (confirmed.NoStores x)) up = (tt, omega arith)
  answered_most from (Confirming p) (Reply.Confirmed (confirmed.Listed x s)) up = (tt, omega arith)
  answered_most from m r up = (tt, none (weight r))
    where
      none : (a : ℕ) → 0 ≤ a
      none a = omega arith

  marked_sent : (ns : List ℕ) (p : Plan) → (marks_stores ns p).sent ≡ p.sent
  marked_sent [] p = refl
  marked_sent (i ∷ ns) p = marked_sent ns (marks_store i p)

  given_most : (m : Machine) → AreUp (let p = plan_of m in p.sent) → Most 2 (commit.given_up m).step
  given_most (Voting p left) up = (tt, omega arith)
  given_most (Preparing p left) up = confirm_most (marks_stores left p) (subst AreUp (sym (marked_sent left p)) up)
  given_most (Confirming p) up = (tt, omega arith)

  -- ---- steps of calls

  call_one : (h : Head) (x : ℕ) (g : Goal) (ends : List (Uid × End)) (at : At) → weights.own n j k (request h (ask_at x g ends at)) ≤ 1
  call_one h x g ends (calls.AtBind b) = omega arith
  call_one h x g ends (calls.AtLoad i s rest) = omega arith
  call_one h x g ends (calls.AtActivate i st) = omega arith
  call_one h x g ends (calls.AtNote i b) = omega arith
  call_one h x g ends (calls.AtInvoke i b) = omega arith

  pub call_mass : (s : Steps) (c : Coord) → weights.mass n j k (Words.asks_step s c).outs ≤ 1
  call_mass s c = weights.one_sent n j k 1 (next_node s) (request (record { path = s.path; req = s.req }) (next_ask (ends_of
      (root_of s.path) c.tree) s))
      (call_one (record { path = s.path; req = s.req }) s.x s.goal (ends_of (root_of s.path) c.tree) s.at) (omega arith)

  pub goes_mass : (s : Steps) (c : Coord) → weights.mass n j k (goes_on s c).outs ≤ 1
  goes_mass s c = call_mass s (Words.on_doing (actor s.path) (λ (d : Doing). record d { req = s.req; now = Calling s }) c)

  stepped_mass : (s : Steps) (i : CallStep) (c : Coord) → weights.mass n j k (step_call s i c).outs ≤ 1
  stepped_mass s (On at) c = goes_mass (record s { req = s.req + 1; at = at }) c
  stepped_mass s (Ended e) c = none (weights.mass n j k (says (actor s.path) (Words.end_line s.x s.goal e) c)) (weights.said_none n j k
      (actor s.path)
      (Words.end_line s.x s.goal e) c)
    where
      none : (a : ℕ) → a ≡ 0 → a ≤ 1
      none a is = omega (arith, is)

  -- ---- what a coordinator is sent

  heard_mass : (from : ℕ) (a : Asked) (r : Reply) (intents : List (Uid × Intent)) (c : Coord) → UpCoord c →
      weights.mass n j k (heard from a r intents c).outs ≤ weight r
  heard_mass from a r intents c up = by (doing_of a.act c) refl
    where
      none : (b : ℕ) → 0 ≤ b
      none b = omega arith

      less : (x : ℕ) → x ≤ 1 → x ≤ weight r
      less x le = more (weight r) (some_weight r)
        where
          more : (b : ℕ) → 1 ≤ b → x ≤ b
          more b some = omega (arith, le, some)

      now : (d : Doing) → doing_of a.act c ≡ Some d → (i : Now) → d.now ≡ i →
          weights.mass n j k (heard_now from a r intents c i).outs ≤ weight r
      now d found Idle is = none (weight r)
      now d found (Calling s) is = one (waits_for_call from a r s)
        where
          q : Moved
          q = answered (is_free (root_of s.path) (actor s.path) s.x c) (kept_at s c) s.goal s.at r

          one : (w : Bool) → weights.mass n j k (cond {A = Served Coord (Unit {0})} w (heard_by (heard_call s r c))
              (heard_none c)).outs ≤ weight r
          one true = less (weights.mass n j k (step_call s q.step (on_root (root_of s.path) (root_moved s r q) c)).outs)
              (stepped_mass s q.step (on_root (root_of s.path) (root_moved s r q) c))
          one false = none (weight r)
      now d found (Committing m) is = one (waits_for_commit from a r m)
        where
          so : Most (weight r) (commit.answered from m r).step
          so = answered_most from m r (subst IsSentUp is (up.1 a.act d found))

          one : (w : Bool) → weights.mass n j k (cond {A = Served Coord (Unit {0})} w (heard_by (moved_commit a.act
              (commit.answered from m r) intents c))
              (heard_none c)).outs ≤ weight r
          one true = moved_mass a.act (commit.answered from m r) intents c (weight r) so.0 so.1
          one false = none (weight r)

      by : (o : Option Doing) → doing_of a.act c ≡ o → weights.mass n j k (heard_doing from a r intents c o).outs ≤ weight r
      by None is = none (weight r)
      by (Some d) is = now d is d.now refl

  acked_mass : (from : ℕ) (u : Uid) (intents : List (Uid × Intent)) (c : Coord) → UpRecords intents →
      weights.mass n j k (acked from u intents c).outs ≤ 1
  acked_mass from u intents c up = by (at_uid u c.telling)
    where
      none : 0 ≤ 1
      none = omega arith

      less : (a b : ℕ) → a ≤ b → b ≤ 1 → a ≤ 1
      less a b x y = omega (arith, x, y)

      gone : (i : Intent) → AreUp i.nodes → (b : Bool) → weights.mass n j k (cond b (tell_all i.root false ((i.root, ending.Abort) ∷ [])
          (let_go i.root (without_uid u intents) c i.nodes)) []) ≤ 1
      gone i nodes true =
          let ns = let_go i.root (without_uid u intents) c i.nodes in
          weights.told_mass n j k i.root ((i.root, ending.Abort) ∷ []) ns
          (less (tally n ns) (tally n i.nodes) (fewer n _ i.nodes) (once n i.nodes nodes))
          (less (tally j ns) (tally j i.nodes) (fewer j _ i.nodes) (once j i.nodes nodes))
      gone i nodes false = none

      let_go_so : (o : Option Intent) → at_uid u intents ≡ o → weights.mass n j k (tolds_let_go u (without_uid u intents) c o) ≤ 1
      let_go_so None is = none
      let_go_so (Some i) is = gone i (found_up u intents i up is) (not (uid_eq i.root u) && is_over (branch_of i.root c.tree))

      left : (i : Intent) (ns : List ℕ) → weights.mass n j k (acked_left u i intents c ns).outs ≤ 1
      left i [] = let_go_so (at_uid u intents) refl
      left i (m ∷ ns) = none

      listed : (i : Intent) (b : Bool) →
          weights.mass n j k (cond {A = Served Coord (Unit {0})} b (acked_left u i intents c (without_number from i.nodes))
          (record { part = c; outs = []; reply = None })).outs ≤ 1
      listed i true = left i (without_number from i.nodes)
      listed i false = none

      by : (o : Option Intent) → weights.mass n j k (acked_by from u intents c o).outs ≤ 1
      by None = none
      by (Some i) = listed i (has i.nodes from)

  query_mass : (from : ℕ) (u : Uid) (intents : List (Uid × Intent)) (c : Coord) → weights.mass n j k (answer_query from u intents c) ≤ 1
  query_mass from u intents c = first (is_open u c.tree || is_deferred u intents from)
    where
      none : 0 ≤ 1
      none = omega arith

      tells : (root : Uid) (ack : Bool) (ends : List (Uid × End)) → weights.mass n j k (tell root ack ends from ∷ []) ≤ 1
      tells root ack ends = weights.one_sent n j k 1 from (message.Told (record { root = root; ack = ack; ends = ends }))
          (weights.flag_one n j k ack) (omega arith)

      decided_by : (b : Bool) →
          weights.mass n j k (cond b (tell (root_or_self u (branch_of u c.tree)) false ((u, ending.Commit) ∷ []) from ∷ [])
          (tell (root_or_self u (branch_of u c.tree)) false ((u, ending.Abort) ∷ []) from ∷ [])) ≤ 1
      decided_by true = tells (root_or_self u (branch_of u c.tree)) false ((u, ending.Commit) ∷ [])
      decided_by false = tells (root_or_self u (branch_of u c.tree)) false ((u, ending.Abort) ∷ [])

      listed : (i : Intent) (b : Bool) →
          weights.mass n j k (cond b (tell i.root true ((u, ending.Commit) ∷ []) from ∷ []) (answer_decided from u c)) ≤ 1
      listed i true = tells i.root true ((u, ending.Commit) ∷ [])
      listed i false = decided_by (is_kept_commit from u c)

      recorded : (o : Option Intent) → weights.mass n j k (answer_recorded from u c o) ≤ 1
      recorded None = decided_by (is_kept_commit from u c)
      recorded (Some i) = listed i (has i.nodes from)

      first : (b : Bool) → weights.mass n j k (cond b [] (answer_recorded from u c (at_uid u intents))) ≤ 1
      first true = none
      first false = recorded (at_uid u intents)

  -- ---- requests of commits, and ends

  module _ (from : ℕ) where
    -- what leads to nothing, and then one message
    answer_mass : (outs : List Effect) (m : Message) (a : ℕ) → weights.mass n j k outs ≡ 0 → weights.own n j k m ≤ a → 1 ≤ a →
        weights.mass n j k (outs ++ Send from m ∷ []) ≤ a
    answer_mass outs m a none less some = weights.behind_none n j k outs (Send from m ∷ []) a none
        (weights.one_sent n j k a from m less some)

    served_mass : {S R : Type 0} (h : Head) (put : S → Parts) (say : R → Reply) (r : Served S R) (a : ℕ) → count_sent r.outs ≡ 0 →
        ((y : R) → weights.own n j k (response (asked_by h) (say y)) ≤ a) → 1 ≤ a →
        weights.mass n j k (outs_of (served from h put say r)) ≤ a
    served_mass {S} {R} h put say r a none less some = by r.reply
      where
        least : (b : ℕ) → 0 ≤ b
        least b = omega arith

        by : (o : Option R) → weights.mass n j k (outs_of (sends_answer from h (put r.part) r.outs (option_map say o))) ≤ a
        by None = least a
        by (Some y) = answer_mass r.outs (response (asked_by h) (say y)) a (weights.unsent n j k r.outs none) (less y) some

    prepare_mass : (i : ℕ) (d : Pair) (states : List ObjectState) (h : Head) (t : Parts) →
        weights.mass n j k (outs_of (prepare_states i d states from h t)) ≤ 2
    prepare_mass i d states h t = by (is_prepared (actor h.path) d)
      where
        one : (r : Words.PreparedReply) → weights.mass n j k (Send from (response (asked_by h) (Reply.Prepared r)) ∷ []) ≤ 2
        one r = weights.one_sent n j k 2 from (response (asked_by h) (Reply.Prepared r)) (omega arith) (omega arith)

        answer : (p : Prep) → weights.mass n j k (outs_of (prepare_by i states from h t p)) ≤ 2
        answer Ready = one prepared.Yes
        answer (Already u) = omega arith
        answer (Old u v) = one (prepared.Old u.num v)
        answer (InDoubt u holder) = one (prepared.InDoubt u.num holder)

        by : (b : Bool) → weights.mass n j k (outs_of (cond b (sends_answer from h t [] (Some (Reply.Prepared prepared.Yes)))
            (prepare_by i states from h t (prepare_answer (actor h.path) states d)))) ≤ 2
        by true = one prepared.Yes
        by false = answer (prepare_answer (actor h.path) states d)

    naming_mass : {R : Type 0} (t : Parts) (h : Head) (say : R → Reply) (f : Naming → Served Naming R) (a : ℕ) (o : Option Naming) →
        ((m : Naming) → AreAll is_naming_effect (f m).outs) → ((y : R) → weights.own n j k (response (asked_by h) (say y)) ≤ a) → 1 ≤ a →
        weights.mass n j k (outs_of (if_naming (λ m. served from h (with_naming t) say (f m)) o)) ≤ a
    naming_mass t h say f a None all less some = least a
      where
        least : (b : ℕ) → 0 ≤ b
        least b = omega arith
    naming_mass t h say f a (Some m) all less some = served_mass h (with_naming t) say (f m) a (naming_none (f m).outs (all m)).0 less some

    ends_told : (i : ℕ) (d : Disk) (t : Parts) (ack : Bool) (ends : List (Uid × End)) (u : Uid) (e : End) →
        weights.mass n j k (outs_of (handle_told i d t from ack ends u e)) ≤ cond ack 1 0
    ends_told i d t ack ends u e = by ack
      where
        front : List Effect
        front = store_told i u e d.store ++ (naming_told u e d.names t.naming).outs ++ (server.told i ends t.server).outs

        store : (b : Bool) (e : End) → weights.mass n j k (cond b (end_states i u e) []) ≡ 0
        store false e = refl
        store true ending.Commit = refl
        store true ending.Abort = refl

        names : (o : Option Naming) → weights.mass n j k (naming_told u e d.names o).outs ≡ 0
        names None = refl
        names (Some o) = weights.unsent n j k (naming.told u e d.names o).outs (naming_none (naming.told u e d.names o).outs
            (told_own u e d.names o)).0

        all : (a b c s q : ℕ) → s ≡ q + c → q ≡ a + b → a ≡ 0 → b ≡ 0 → c ≡ 0 → s ≡ 0
        all a b c s q x y p r z = omega (arith, x, y, p, r, z)

        none : weights.mass n j k front ≡ 0
        none = all (weights.mass n j k (store_told i u e d.store)) (weights.mass n j k (naming_told u e d.names t.naming).outs)
            (weights.mass n j k (server.told i ends t.server).outs) (weights.mass n j k front)
            (weights.mass n j k (store_told i u e d.store ++ (naming_told u e d.names t.naming).outs))
            (weights.mass_both n j k (store_told i u e d.store ++ (naming_told u e d.names t.naming).outs)
            (server.told i ends t.server).outs)
            (weights.mass_both n j k (store_told i u e d.store) (naming_told u e d.names t.naming).outs)
            (store (is_prepared u d.store) e) (names t.naming)
            (weights.unsent n j k (server.told i ends t.server).outs (server_none i (server.told i ends t.server).outs
            (ends_own i ends t.server)).0)

        by : (b : Bool) → weights.mass n j k (front ++ ack_told from u b) ≤ cond b 1 0
        by true = answer_mass front (message.Acked (record { act = u })) 1 none (omega arith) (omega arith)
        by false = weights.behind_none n j k front [] 0 none (omega arith)

    -- ---- any message

    coord_mass : (t : Parts) (r : Served Coord (Unit {0})) (a : ℕ) → weights.mass n j k r.outs ≤ a →
        weights.mass n j k (outs_of (coord_heard t r)) ≤ a
    coord_mass t r a le = by r.reply
      where
        least : (b : ℕ) → 0 ≤ b
        least b = omega arith

        by : (o : Option (Unit {0})) → weights.mass n j k (outs_of (by_reply (with_coord t r.part) r.outs o)) ≤ a
        by None = least a
        by (Some u) = le

    least_of_two : (a b : ℕ) → a ≤ b → b ≤ 1 → a ≤ 1
    least_of_two a b x y = omega (arith, x, y)

    -- of a call
    call_taken : (i : ℕ) (d : Disk) (t : Parts) (m : Message) → of_call m ≡ true → weights.mass n j k (outs_of (taken i d t from m)) ≤ 1
    call_taken i d t m is =
        let one = taken_one i d t from m is in
        least_of_two (weights.mass n j k (outs_of (taken i d t from m))) (count_sent (outs_of (taken i d t from m)))
        (weights.calls_mass n j k (outs_of (taken i d t from m)) one.1) one.0

    module _ (i : ℕ) (d : Disk) (t : Parts) (up : UpCoord t.coord) (records : UpRecords d.intents) where
      if_meant : (m : Message) (a : ℕ) → weights.mass n j k (outs_of (handle i d t from m)) ≤ a →
          weights.mass n j k (outs_of (taken i d t from m)) ≤ a
      if_meant m a le = by (is_meant t m)
        where
          least : (b : ℕ) → 0 ≤ b
          least b = omega arith

          by : (b : Bool) → weights.mass n j k (outs_of (cond b (handle i d t from m) (Void []))) ≤ a
          by true = le
          by false = least a

      -- what a node makes of it leads to no more
      pub taken_mass : (m : Message) → weights.own n j k m < k → weights.mass n j k (outs_of (taken i d t from m)) ≤ weights.own n j k m
      taken_mass (message.Bind m) few = call_taken i d t (message.Bind m) refl
      taken_mass (message.Bound m) few = call_taken i d t (message.Bound m) refl
      taken_mass (message.Load m) few = call_taken i d t (message.Load m) refl
      taken_mass (message.Loaded m) few = call_taken i d t (message.Loaded m) refl
      taken_mass (message.Activate m) few = call_taken i d t (message.Activate m) refl
      taken_mass (message.Activated m) few = call_taken i d t (message.Activated m) refl
      taken_mass (message.RecordMsg m) few = call_taken i d t (message.RecordMsg m) refl
      taken_mass (message.Recorded m) few = call_taken i d t (message.Recorded m) refl
      taken_mass (message.Invoke m) few = call_taken i d t (message.Invoke m) refl
      taken_mass (message.Invoked m) few = call_taken i d t (message.Invoked m) refl
      taken_mass (message.Vote m) few = if_meant (message.Vote m) 3 (
          let h = m.head in
          let r = server.vote i h.path m.server_inc m.objects m.ends t.server in
          served_mass h (with_server t) Reply.Voted r 3 (server_none i r.outs (vote_own i h.path m.server_inc m.objects m.ends t.server)).0
          (λ y. omega arith) (omega arith))
      taken_mass (message.Prepare m) few = if_meant (message.Prepare m) 2 (prepare_mass i d.store m.states m.head t)
      taken_mass (message.Confirm m) few = if_meant (message.Confirm m) 2 (
          let h = m.head in
          naming_mass t h Reply.Confirmed (confirm h.path m.objects m.excluded m.included d.names) 2 t.naming
          (confirm_own h.path m.objects m.excluded m.included d.names) (λ y. omega arith) (omega arith))
      taken_mass (message.Told m) few = if_meant (message.Told m) (cond m.ack 1 0) (by (last_end m.ends))
        where
          least : (b : ℕ) → 0 ≤ b
          least b = omega arith

          by : (o : Option (Uid × End)) → weights.mass n j k (outs_of (handle_ends i d t from m.ack m.ends o)) ≤ cond m.ack 1 0
          by None = least (cond m.ack 1 0)
          by (Some e) = ends_told i d t m.ack m.ends e.0 e.1
      taken_mass (message.Query m) few = if_meant (message.Query m) 1 (query_mass from m.act d.intents t.coord)
      taken_mass (message.Voted m) few = if_meant (message.Voted m) 3 (coord_mass t (heard from m.asked (Reply.Voted m.reply) d.intents
          t.coord) 3 (heard_mass from m.asked (Reply.Voted m.reply) d.intents t.coord up))
      taken_mass (message.Prepared m) few = if_meant (message.Prepared m) 2 (coord_mass t (heard from m.asked (Reply.Prepared m.reply)
          d.intents t.coord) 2 (heard_mass from m.asked (Reply.Prepared m.reply) d.intents t.coord up))
      taken_mass (message.Confirmed m) few = if_meant (message.Confirmed m) 2 (coord_mass t (heard from m.asked (Reply.Confirmed m.reply)
          d.intents t.coord) 2 (heard_mass from m.asked (Reply.Confirmed m.reply) d.intents t.coord up))
      taken_mass (message.Acked m) few = if_meant (message.Acked m) 1 (coord_mass t (acked from m.act d.intents t.coord) 1
          (acked_mass from m.act d.intents t.coord records))
      taken_mass (message.Hello m) few = absurd (never k few)
        where
          never : (a : ℕ) → a < a → ⊥
          never a less = omega (arith, less)

  -- ---- what the script asks of an action

  pub commit_mass : (b : Branch) (intents : List (Uid × Intent)) (c : Coord) → weights.mass n j k (Words.commit_action b intents c).outs ≤ 4
  commit_mass b intents c = by b.doomed
    where
      u : Uid
      u = actor b.path

      plan : Plan
      plan = Words.plan_for b.path (Words.last_req (doing_of u c)) (root_at (root_of b.path) c) c

      so : Most 4 (commit.start plan).step
      so = start_most plan (set_up (map (λ (w : Words.Went). w.node)
          (filter (λ (w : Words.Went). Words.is_on w.path u) (let r = root_at (root_of b.path) c in r.went))))

      less : (a : ℕ) → a ≤ 1 → a ≤ 4
      less a le = omega (arith, le)

      top : weights.mass n j k (Words.commit_top b.path intents c).outs ≤ 4
      top = weights.behind_none n j k (says u body.Committing c) (moved_commit u (commit.start plan) intents c).outs 4
          (weights.said_none n j k u body.Committing c)
          (moved_mass u (commit.start plan) intents c 4 so.0 so.1)

      kinds : (q : Kind) → weights.mass n j k (Words.commit_open b intents c q).outs ≤ 4
      kinds kind.Nested = less (weights.mass n j k (ends_with u ending.Commit body.Committed intents c).outs)
          (weights.ends_mass n j k u ending.Commit body.Committed intents c)
      kinds kind.Serial = less (weights.mass n j k (ends_with u ending.Commit body.Ended intents c).outs)
          (weights.ends_mass n j k u ending.Commit body.Ended intents c)
      kinds kind.Top = top
      kinds kind.Independent = top
      kinds kind.Constituent = top

      by : (d : Bool) → weights.mass n j k (cond {A = Did Coord} d (aborts_with u cause.Doomed intents c)
          (Words.commit_open b intents c b.kind)).outs ≤ 4
      by true = less (weights.mass n j k (aborts_with u cause.Doomed intents c).outs) (weights.ends_mass n j k u ending.Abort
          (λ l. body.Aborted l cause.Doomed) intents c)
      by false = kinds b.kind

  aborted_none : (us : List Uid) (c : Coord) → weights.mass n j k (Words.all_aborted us c).outs ≡ 0
  aborted_none [] c = refl
  aborted_none (u ∷ us) c =
      let rest = (Words.all_aborted us (ended u ending.Abort c)).outs in
      both (weights.mass n j k (says u (λ l. body.Aborted l cause.Asked) c ++ rest)) (weights.mass n j k (says u
      (λ l. body.Aborted l cause.Asked) c)) (weights.mass n j k rest)
      (weights.mass_both n j k (says u (λ l. body.Aborted l cause.Asked) c) rest) (weights.said_none n j k u
      (λ l. body.Aborted l cause.Asked) c)
      (aborted_none us (ended u ending.Abort c))
    where
      both : (a b d : ℕ) → a ≡ b + d → b ≡ 0 → d ≡ 0 → a ≡ 0
      both a b d is one two = omega (arith, is, one, two)

  -- each action that it ends is told of once
  pub abort_mass : (u : Uid) (intents : List (Uid × Intent)) (c : Coord) →
      weights.mass n j k (Words.abort_action u intents c).outs ≤ length (Words.open_below u c.tree ++ u ∷ [])
  abort_mass u intents c =
      let us = Words.open_below u c.tree ++ u ∷ [] in
      let t = Words.all_aborted us c in
      weights.behind_none n j k t.outs (flat_map (tolds_of intents t.part) us) (length us) (aborted_none us c) (each us t.part)
    where
      each : (us : List Uid) (e : Coord) → weights.mass n j k (flat_map (tolds_of intents e) us) ≤ length us
      each [] e = omega arith
      each (w ∷ us) e = both (weights.mass n j k (tolds_of intents e w ++ flat_map (tolds_of intents e) us)) (weights.mass n j k
          (tolds_of intents e w))
          (weights.mass n j k (flat_map (tolds_of intents e) us)) (length us) (weights.mass_both n j k (tolds_of intents e w) (flat_map
          (tolds_of intents e) us))
          (weights.tolds_mass n j k intents e w) (each us e)
        where
          both : (a b d l : ℕ) → a ≡ b + d → b ≤ 1 → d ≤ l → a ≤ suc l
          both a b d l is one rest = omega (arith, is, one, rest)

  pub giveup_mass : (u : Uid) (intents : List (Uid × Intent)) (c : Coord) → UpCoord c →
      weights.mass n j k (Words.give_up u intents c).outs ≤ 2
  giveup_mass u intents c up = by (doing_of u c) refl
    where
      none : 0 ≤ 2
      none = omega arith

      less : (a : ℕ) → a ≤ 1 → a ≤ 2
      less a le = omega (arith, le)

      now : (d : Doing) → doing_of u c ≡ Some d → (q : Now) → d.now ≡ q → weights.mass n j k (Words.gives_up u intents c q).outs ≤ 2
      now d found Idle is = none
      now d found (Calling s) is = weights.behind_none n j k (Words.gaveup_lines u (next_node s ∷ []) c) (Words.give_up_call s c).outs 2
          (weights.lines_none n j k u (λ i l. body.GaveUp l i) c (next_node s ∷ []))
          (less (weights.mass n j k (Words.give_up_call s c).outs) (stepped_mass s (Words.given_up s.at)
          (on_root (root_of s.path) (Words.root_lost s (Words.given_up s.at)) c)))
      now d found (Committing m) is =
          let so = given_most m (subst IsSentUp is (up.1 u d found)) in
          weights.behind_none n j k (Words.gaveup_lines u (Words.nodes_given_up m) c) (moved_commit u (commit.given_up m) intents c).outs 2
          (weights.lines_none n j k u (λ i l. body.GaveUp l i) c (Words.nodes_given_up m))
          (moved_mass u (commit.given_up m) intents c 2 so.0 so.1)

      by : (o : Option Doing) → doing_of u c ≡ o → weights.mass n j k (Words.give_up_doing u intents c o).outs ≤ 2
      by None is = none
      by (Some d) is = now d is d.now refl
