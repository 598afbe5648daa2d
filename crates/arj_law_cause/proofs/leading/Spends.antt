-- What a coordinator puts out leads to no more than what came to it, and what it has less to do of then.
use Rattle.arj_law_parts.proofs.Words
use Words.{◌≡◌, ◌≤◌, ◌<◌, ◌∙◌, ◌+◌, ◌*◌, ◌==◌, ◌&&◌, ◌||◌, not, ℕ, zero, suc, Bool, true, false, cond, List, [], ◌∷◌, ◌++◌, map, filter}
use Words.{refl, sym, ap, subst, arith, nat_tests, length, ⊤, AllByRecursion, Option, Some, None, flat_map, and_parts, is_some}
use Words.{Ask, Asked, Body, End, Head, Kind, Label, Path, Uid, Op, request, Reply, actor, ask_kind, reply_kind, What}
use Words.{Coord, Disk, Do, Doing, Effect, Say, Send, Intent, PutIntent, Served, Did, doing_of, says, say_for, tell_all, tell, on_doing}
use Words.{on_root}
use Words.{At, Steps, Now, Idle, Calling, Committing, Machine, Voting, Preparing, Confirming, Plan, CommitStep, Stays, Asks, Decides}
use Words.{Aborts}
use Words.{Marked, Used, Goal, Run, Include, Known, CallStep, CallEnd, On, Ended, Moved, moves, finds, answered, bound_by, same_binding}
use Words.{other_binding, with_inc, named_again, live_known, made_known, two_bindings, two_incs, binding_eq, binding_less, load_from}
use Words.{next_ask, next_node, ask_at, ask_of, left_of, plan_of, waiting, asks_all, asks_node, asks_step, asks_machine, goes_on, step_call}
use Words.{step_commit, moved_commit, commits_in, mark_lines, heard, heard_by, heard_call, heard_doing, heard_none, heard_now, kept_at}
use Words.{waits_for_call, waits_for_commit, is_free, root_at, root_of, root_moved, root_lost, ends_of, ended, ends_with, aborts_with}
use Words.{decide}
use Words.{decided_told, participants, has_record, has, servers_of, targets_of, stores_left, votes_left, marks_store, marks_stores}
use Words.{stores_by}
use Words.{changed_of, begin_confirm, begin_prepare, begin_vote, with_states, with_number, without_number, without_uid, at_uid, uid_eq}
use Words.{acked, acked_by, acked_left, tolds_let_go, let_go, Branch, branch_of, tolds_of, tolds_of_branch, tolds_by, nodes_sent}
use Words.{servers_told, is_deferred, is_open, is_kept_commit, up_to, answer_query, answer_decided, answer_recorded, root_or_self}
use Words.{again_all, again_now, at_place, tolds_again, is_on, doomed_by, root_heard, end_line, open_below, record_work}
use Words.ask
use Words.body
use Words.bound
use Words.calls
use Words.cause
use Words.commit
use Words.confirmed
use Words.ending
use Words.invoked
use Words.kind
use Words.loaded
use Words.message
use Words.prepared
use Words.recorded
use Words.voted
use Rattle.arj_law_parts.proofs.Terms.{is_over}
use Rattle.arj_law_parts.proofs.parts.Numbered.{AreUp, set_up}
use Rattle.arj_law_runs.proofs.Terms.{end_tree_on}
use Rattle.arj_protocol.specs.Commit.{first_of}
use Rattle.arj_protocol.specs.Coord.{is_invoked_by}
use Rattle.arj_law_cause.proofs.leading.Calls.{given_left, least, reply_left, step_left}
use Rattle.arj_law_cause.proofs.leading.Kept.{OwnStep, UpStep, asked_doings, marked_path, marked_sent, same_doings, start_left}
use Rattle.arj_law_cause.proofs.leading.Loads as loads
use loads.{all_told, changed, count_in, few_but, few_in, lead, left_all, left_now, left_of_doing, machine_left, rested, steps_left, times}
use Rattle.arj_law_cause.proofs.sending.Ordered.{IsOwnNow, IsSentUp, UpCoord, UpRecords, found_up}

-- ---- handlers

-- With `n` nodes, of node `k`, where a hello leads to `hello`, and one to itself to `own`.
module _ (n k hello own : ℕ) where
  abbrev load : List Effect → ℕ
  load es = loads.load n k hello own es

  abbrev left : Coord → ℕ
  left c = left_all n c.doings

  -- It puts out what leads to so much at most beside what it has less to do of.
  abbrev pub Spends : ℕ → Coord → Did Coord → Type 0
  Spends a c d = load d.outs + left d.part ≤ a + left c

  -- ---- calls

  ask_lead : (z : ℕ) (h : Head) (x : ℕ) (g : Goal) (ends : List (Uid × End)) (at : At) → lead n z (request h (ask_at x g ends at)) ≤ 1
  ask_lead z h x g ends (calls.AtBind b) = omega arith
  ask_lead z h x g ends (calls.AtLoad i s rest) = omega arith
  ask_lead z h x g ends (calls.AtActivate i st) = omega arith
  ask_lead z h x g ends (calls.AtNote i b) = omega arith
  ask_lead z h x g ends (calls.AtInvoke i b) = omega arith

  pub step_load : (s : Steps) (c : Coord) → load (asks_step s c).outs ≤ 2
  step_load s c = loads.one_load n k hello own 1 (next_node s)
      (request (record { path = s.path; req = s.req }) (next_ask (ends_of (root_of s.path) c.tree) s))
      (λ z. ask_lead z (record { path = s.path; req = s.req }) s.x s.goal (ends_of (root_of s.path) c.tree) s.at)

  -- in place of what the action was at
  goes_spends : (s : Steps) (c : Coord) (d : Doing) → doing_of (actor s.path) c ≡ Some d →
      (load (goes_on s c).outs + left (goes_on s c).part) + left_now n d.now ≤ (2 + steps_left s.at) + left c
  goes_spends s c d found =
      let f : Doing → Doing = λ e. record e { req = s.req; now = Calling s } in
      sum (load (goes_on s c).outs) (left_all n (on_doing (actor s.path) f c).doings) (left_now n d.now) (steps_left s.at) (left c)
      (step_load s (on_doing (actor s.path) f c)) (changed n (actor s.path) f c d found)
    where
      sum : (a b o s c : ℕ) → a ≤ 2 → b + o ≡ c + s → (a + b) + o ≤ (2 + s) + c
      sum a b o s c le is = omega (arith, le, is)

  -- whatever it was at
  pub goes_free : (s : Steps) (c : Coord) (a : ℕ) → 2 + steps_left s.at ≤ a → Spends a c (goes_on s c)
  goes_free s c a few = by (doing_of (actor s.path) c) refl
    where
      f : Doing → Doing
      f e = record e { req = s.req; now = Calling s }

      sum : (x y c : ℕ) → x ≤ 2 → y ≡ c → 2 ≤ a → x + y ≤ a + c
      sum x y c le is few = omega (arith, le, is, few)

      two : (b : ℕ) → 2 + b ≤ a → 2 ≤ a
      two b le = omega (arith, le)

      less : (x y o b c : ℕ) → (x + y) + o ≤ (2 + b) + c → 2 + b ≤ a → x + y ≤ a + c
      less x y o b c one le = omega (arith, one, le)

      by : (o : Option Doing) → doing_of (actor s.path) c ≡ o → Spends a c (goes_on s c)
      by None none = sum (load (goes_on s c).outs) (left_all n (on_doing (actor s.path) f c).doings) (left c)
          (step_load s (on_doing (actor s.path) f c))
          (ap (λ (o : Option Doing). left_all n (Words.change_doing f (actor s.path) c o).doings) none) (two (steps_left s.at) few)
      by (Some d) found = less (load (goes_on s c).outs) (left (goes_on s c).part) (left_now n d.now) (steps_left s.at) (left c)
          (goes_spends s c d found) few

  stepped_spends : (s : Steps) (t : CallStep) (c : Coord) (d : Doing) → doing_of (actor s.path) c ≡ Some d → d.now ≡ Calling s → (a : ℕ) →
      step_left t ≤ a + steps_left s.at → Spends a c (step_call s t c)
  stepped_spends s (On at) c d found is a le =
      sum (load (step_call s (On at) c).outs) (left (step_call s (On at) c).part) (left_now n d.now) (steps_left at) (left c)
      (steps_left s.at)
      (goes_spends (record s { req = s.req + 1; at = at }) c d found) (ap (left_now n) is) le
    where
      sum : (x y o b c g : ℕ) → (x + y) + o ≤ (2 + b) + c → o ≡ g → 2 + b ≤ a + g → x + y ≤ a + c
      sum x y o b c g one same few = omega (arith, one, same, few)
  stepped_spends s (Ended e) c d found is a le =
      let f : Doing → Doing = λ q. record q { now = Idle } in
      let r = on_doing (actor s.path) f c in
      sum (load (says (actor s.path) (end_line s.x s.goal e) c)) (left_all n (step_call s (Ended e) c).part.doings) (left_all n r.doings)
      (left c)
      (loads.said_none n k hello own (actor s.path) (end_line s.x s.goal e) c)
      (ap (left_all n) (same_doings (actor s.path) e (on_root (root_of s.path) (root_heard s e) r)))
      (rested n (actor s.path) f c (λ q. least (left_of_doing n q)))
    where
      sum : (x y z c : ℕ) → x ≡ 0 → y ≡ z → z ≤ c → x + y ≤ a + c
      sum x y z c one two le = omega (arith, one, two, le)

  -- ---- ends

  ended_left : (u : Uid) (e : End) (c : Coord) → left (ended u e c) ≤ left c
  ended_left u e c = rested n u (λ (d : Doing). record d { now = Idle }) (record c { tree = Words.ended_at u e c.tree })
      (λ d. least (left_of_doing n d))

  nodes_up : (u : Uid) (r : Words.Root) → AreUp (nodes_sent u r)
  nodes_up u r = set_up (map (λ (w : Words.Went). w.node) (filter (λ (w : Words.Went). is_on w.path u) r.went))

  tolds_load : (intents : List (Uid × Intent)) (c : Coord) (u : Uid) → load (tolds_of intents c u) ≤ times 1 n
  tolds_load intents c u = by (branch_of u c.tree)
    where
      sent_once : (w : Uid) (r : Words.Root) → count_in n (nodes_sent w r) ≤ n
      sent_once w r = few_in n (nodes_sent w r) (nodes_up w r)

      kinds : (p : Path) (q : Kind) → load (tolds_by u q p intents c) ≤ times 1 n
      kinds p kind.Nested =
          let r = root_at (root_of p) c in
          let ns = servers_told u r c in
          loads.told_load n k hello own (root_of p) (up_to u (ends_of (root_of p) c.tree)) ns (few_in n ns
          (set_up (map (λ (w : Words.Went). w.node) (filter (is_invoked_by u c) r.went))))
      kinds p kind.Serial =
          let all = nodes_sent u (root_at u c) in
          loads.told_load n k hello own u ((u, ending.Abort) ∷ []) (filter (λ i. not (is_deferred u intents i)) all)
          (few_but n (λ i. not (is_deferred u intents i)) all (nodes_up u (root_at u c)))
      kinds p kind.Top = loads.told_load n k hello own (root_of p) ((u, ending.Abort) ∷ []) (nodes_sent u (root_at (root_of p) c))
          (sent_once u (root_at (root_of p) c))
      kinds p kind.Independent = loads.told_load n k hello own (root_of p) ((u, ending.Abort) ∷ []) (nodes_sent u (root_at (root_of p) c))
          (sent_once u (root_at (root_of p) c))
      kinds p kind.Constituent = loads.told_load n k hello own (root_of p) ((u, ending.Abort) ∷ []) (nodes_sent u (root_at (root_of p) c))
          (sent_once u (root_at (root_of p) c))

      by : (o : Option Branch) → load (tolds_of_branch u intents c o) ≤ times 1 n
      by None = least (times 1 n)
      by (Some b) = kinds b.path b.kind

  ends_load : (u : Uid) (e : End) (f : Label → Body) (intents : List (Uid × Intent)) (c : Coord) →
      load (ends_with u e f intents c).outs ≤ times 1 n
  ends_load u e f intents c = loads.behind_none n k hello own (says u f c) (tolds_of intents (ended u e c) u) (times 1 n)
      (loads.said_none n k hello own u f c) (tolds_load intents (ended u e c) u)

  add : (x y a c : ℕ) → x ≤ a → y ≤ c → x + y ≤ a + c
  add x y a c one two = omega (arith, one, two)

  pub ends_spends : (u : Uid) (e : End) (f : Label → Body) (intents : List (Uid × Intent)) (c : Coord) →
      Spends (times 1 n) c (ends_with u e f intents c)
  ends_spends u e f intents c = add (load (ends_with u e f intents c).outs) (left (ended u e c)) (times 1 n) (left c)
      (ends_load u e f intents c) (ended_left u e c)

  -- where it waited, what it had to do is done
  ended_done : (u : Uid) (e : End) (c : Coord) (d : Doing) → doing_of u c ≡ Some d → left (ended u e c) + left_now n d.now ≡ left c
  ended_done u e c d found = same (left (ended u e c)) (left_now n d.now) (left c) (changed n u (λ (q : Doing). record q { now = Idle })
      (record c { tree = Words.ended_at u e c.tree }) d (same_doing ∙ found))
    where
      same : (a b c : ℕ) → a + b ≡ c + 0 → a + b ≡ c
      same a b c is = omega (arith, is)

      same_doing : doing_of u (record c { tree = Words.ended_at u e c.tree }) ≡ doing_of u c
      same_doing = let g = end_tree_on u e c in λ i. cond (g.own u i) (at_place u.num c.doings) None

  -- ---- a decision

  told_lead : (root : Uid) (b : Bool) (ends : List (Uid × End)) (z : ℕ) →
      lead n z (message.Told (record { root = root; ack = b; ends = ends })) ≤ suc n
  told_lead root true ends z = same (suc n)
    where
      same : (a : ℕ) → a ≤ a
      same a = omega arith
  told_lead root false ends z = least (suc n)

  decide_load : (p : Plan) (c : Coord) → AreUp p.sent → load (decide p c).outs ≤ all_told n
  decide_load p c up = loads.behind_none n k hello own (record_work u p ++ says u body.Committed c) (map (decided_told root u p) p.sent)
      (all_told n)
      (both (load (record_work u p ++ says u body.Committed c)) (load (record_work u p)) (load (says u body.Committed c))
      (loads.load_both n k hello own (record_work u p) (says u body.Committed c)) (recorded (has_record p))
      (loads.said_none n k hello own u body.Committed c))
      (loads.all_in n k hello own (load (map (decided_told root u p) p.sent)) (suc (suc n)) (count_in n p.sent)
      (loads.either_in n k hello own (λ i. message.Told (record { root = root; ack = has_record p; ends = (u, ending.Commit) ∷ [] }))
      (λ i. message.Told (record { root = root; ack = false; ends = (u, ending.Abort) ∷ [] })) (has (participants p)) (suc n)
      (λ i z. told_lead root (has_record p) ((u, ending.Commit) ∷ []) z) (λ i z. told_lead root false ((u, ending.Abort) ∷ []) z) p.sent)
      (few_in n p.sent up))
    where
      u : Uid
      u = actor p.path

      root : Uid
      root = root_of p.path

      both : (a b e : ℕ) → a ≡ b + e → b ≡ 0 → e ≡ 0 → a ≡ 0
      both a b e is one two = omega (arith, is, one, two)

      recorded : (b : Bool) → load (cond b (Do (PutIntent u (record { root = root; nodes = participants p })) ∷ []) []) ≡ 0
      recorded true = refl
      recorded false = refl

  decided_left : (p : Plan) (c : Coord) (d : Doing) → doing_of (actor p.path) c ≡ Some d → left (decide p c).part + left_now n d.now ≤
      left c
  decided_left p c d found = by (has_record p)
    where
      u : Uid
      u = actor p.path

      took : Coord
      took = on_doing u (λ (q : Doing). record q { took = participants p }) (ended u ending.Commit c)

      low : (a b o c : ℕ) → a ≤ b → b + o ≡ c → a + o ≤ c
      low a b o c le is = omega (arith, le, is)

      same : (a : ℕ) → a ≤ a
      same a = omega arith

      less : left took + left_now n d.now ≤ left c
      less = low (left took) (left (ended u ending.Commit c)) (left_now n d.now) (left c)
          (rested n u (λ (q : Doing). record q { took = participants p }) (ended u ending.Commit c) (λ q. same (left_of_doing n q)))
          (ended_done u ending.Commit c d found)

      by : (b : Bool) → left (cond b (record (on_root (root_of p.path) (Words.root_after p) took) {
        telling = Words.put_uid u (record { root = root_of p.path; nodes = participants p })
            (on_root (root_of p.path) (Words.root_after p) took).telling;
      }) (on_root (root_of p.path) (Words.root_after p) took))
          + left_now n d.now ≤ left c
      by true = less
      by false = less

  decided_less : (p : Plan) (c : Coord) → left (decide p c).part ≤ left c
  decided_less p c = by (has_record p)
    where
      u : Uid
      u = actor p.path

      took : Coord
      took = on_doing u (λ (q : Doing). record q { took = participants p }) (ended u ending.Commit c)

      same : (a : ℕ) → a ≤ a
      same a = omega arith

      two : (a b c : ℕ) → a ≤ b → b ≤ c → a ≤ c
      two a b c x y = omega (arith, x, y)

      less : left took ≤ left c
      less = two (left took) (left (ended u ending.Commit c)) (left c)
          (rested n u (λ (q : Doing). record q { took = participants p }) (ended u ending.Commit c) (λ q. same (left_of_doing n q)))
          (ended_left u ending.Commit c)

      by : (b : Bool) → left (cond b (record (on_root (root_of p.path) (Words.root_after p) took) {
        telling = Words.put_uid u (record { root = root_of p.path; nodes = participants p })
            (on_root (root_of p.path) (Words.root_after p) took).telling;
      }) (on_root (root_of p.path) (Words.root_after p) took)) ≤ left c
      by true = less
      by false = less

  -- ---- commits

  abbrev pub asked : Machine → ℕ
  asked (Voting p ns) = times 2 n
  asked (Preparing p ns) = times 2 n
  asked (Confirming p) = 2

  abbrev most : CommitStep → ℕ
  most (Stays m) = machine_left n m
  most (Asks m) = asked m + machine_left n m
  most (Decides p) = all_told n
  most (Aborts why p) = times 1 n

  asks_load : (p : Path) (req : ℕ) (m : Machine) → ((z : ℕ) (h : Head) (i : ℕ) → lead n z (request h (ask_of m i)) ≤ 1) →
      (ns : List ℕ) (c : Coord) →
      load (asks_all p req (map {A = ℕ} {B = ℕ × Ask} (λ i. (i, ask_of m i)) ns) c).outs ≤ times 2 (count_in n ns)
  asks_load p req m less [] c = omega arith
  asks_load p req m less (i ∷ ns) c =
      let d = asks_node p req (i, ask_of m i) c in
      let h : Head = record { path = p; req = req } in
      let t = asks_all p req (map {A = ℕ} {B = ℕ × Ask} (λ z. (z, ask_of m z)) ns) d.part in
      loads.cost_in n k hello own 1 i (request h (ask_of m i)) (count_in n ns) (load t.outs) (λ z. less z h i) (asks_load p req m less
      ns d.part)

  pub machine_load : (m : Machine) (c : Coord) → AreUp (left_of m) → load (asks_machine m c).outs ≤ asked m
  machine_load (Voting p ns) c up = loads.all_in n k hello own (load (asks_machine (Voting p ns) c).outs) 2 (count_in n ns)
      (asks_load p.path p.req (Voting p ns) (λ z h i. omega arith) ns c) (few_in n ns up)
  machine_load (Preparing p ns) c up = loads.all_in n k hello own (load (asks_machine (Preparing p ns) c).outs) 2 (count_in n ns)
      (asks_load p.path p.req (Preparing p ns) (λ z h i. omega arith) ns c) (few_in n ns up)
  machine_load (Confirming p) c up = loads.one_load n k hello own 1 1 (request (record { path = p.path; req = p.req }) (ask_of
      (Confirming p) 1))
      (λ z. omega arith)

  -- in place of what the action was at
  step_spends : (u : Uid) (s : CommitStep) (intents : List (Uid × Intent)) (c : Coord) (d : Doing) → doing_of u c ≡ Some d → UpStep s →
      OwnStep u s →
      (load (step_commit u s intents c).outs + left (step_commit u s intents c).part) + left_now n d.now ≤ most s + left c
  step_spends u (Stays m) intents c d found up mine = sum (left (commits_in u m c)) (left_now n d.now) (machine_left n m) (left c)
      (changed n u (λ (q : Doing). record q { req = (plan_of m).req; now = Committing m }) c d found)
    where
      sum : (b o s c : ℕ) → b + o ≡ c + s → (0 + b) + o ≤ s + c
      sum b o s c is = omega (arith, is)
  step_spends u (Asks m) intents c d found up mine = sum (load (asks_machine m (commits_in u m c)).outs)
      (left (asks_machine m (commits_in u m c)).part) (left (commits_in u m c)) (left_now n d.now) (machine_left n m) (left c) (asked m)
      (machine_load m (commits_in u m c) up)
      (ap (left_all n) (asked_doings (plan_of m).path (plan_of m).req (waiting m) (commits_in u m c)))
      (changed n u (λ (q : Doing). record q { req = (plan_of m).req; now = Committing m }) c d found)
    where
      sum : (x y b o s c a : ℕ) → x ≤ a → y ≡ b → b + o ≡ c + s → (x + y) + o ≤ (a + s) + c
      sum x y b o s c a le same is = omega (arith, le, same, is)
  step_spends u (Decides p) intents c d found up mine = sum (load (decide p c).outs) (left (decide p c).part) (left_now n d.now) (left c)
      (all_told n) (decide_load p c up) (decided_left p c d (ap (λ v. doing_of v c) mine ∙ found))
    where
      sum : (x y o c a : ℕ) → x ≤ a → y + o ≤ c → (x + y) + o ≤ a + c
      sum x y o c a le is = omega (arith, le, is)
  step_spends u (Aborts why p) intents c d found up mine = sum (load (aborts_with u why intents c).outs) (left (ended u ending.Abort c))
      (left_now n d.now) (left c) (times 1 n) (ends_load u ending.Abort (λ l. body.Aborted l why) intents c)
      (ended_done u ending.Abort c d found)
    where
      sum : (x y o c a : ℕ) → x ≤ a → y + o ≡ c → (x + y) + o ≤ a + c
      sum x y o c a le is = omega (arith, le, is)

  moved_spends : (u : Uid) (m : Marked) (intents : List (Uid × Intent)) (c : Coord) (d : Doing) (a : ℕ) → doing_of u c ≡ Some d →
      UpStep m.step → OwnStep u m.step → most m.step ≤ a + left_now n d.now → Spends a c (moved_commit u m intents c)
  moved_spends u m intents c d a found up mine le =
      let t = step_commit u m.step intents c in
      sum (load (mark_lines u m.marks c ++ t.outs)) (load (mark_lines u m.marks c)) (load t.outs) (left t.part) (left_now n d.now)
      (most m.step) (left c) (loads.load_both n k hello own (mark_lines u m.marks c) t.outs)
      (loads.lines_none n k hello own u (λ (x : ℕ × ℕ) l. body.Excluded l x.0 x.1) c m.marks) (step_spends u m.step intents c d found up
      mine) le
    where
      sum : (x m t y o s c : ℕ) → x ≡ m + t → m ≡ 0 → (t + y) + o ≤ s + c → s ≤ a + o → x + y ≤ a + c
      sum x m t y o s c is none one few = omega (arith, is, none, one, few)

  -- ---- the steps of a commit

  abbrev Fits : Uid → ℕ → CommitStep → Type 0
  Fits u a s = UpStep s × OwnStep u s × (most s ≤ a)

  fits_more : (u : Uid) (a b : ℕ) (s : CommitStep) → a ≤ b → Fits u a s → Fits u b s
  fits_more u a b s le its = (its.0, its.1, less (most s) its.2)
    where
      less : (x : ℕ) → x ≤ a → x ≤ b
      less x one = omega (arith, one, le)

  confirm_fits : (u : Uid) (p : Plan) → AreUp p.sent → actor p.path ≡ u → Fits u (2 + all_told n) (begin_confirm p.used p)
  confirm_fits u p up mine = by p.used
    where
      more : (a : ℕ) → a ≤ 2 + a
      more a = omega arith

      same : (a : ℕ) → a ≤ a
      same a = omega arith

      by : (us : List Used) → Fits u (2 + all_told n) (begin_confirm us p)
      by [] = (up, mine, more (all_told n))
      by (v ∷ vs) = ((tt, tt), tt, same (2 + all_told n))

  abbrev prepares : ℕ
  prepares = times 2 n + (2 + all_told n)

  above : (a b : ℕ) → b ≤ a + b
  above a b = omega arith

  prepare_fits : (u : Uid) (p : Plan) → AreUp p.sent → actor p.path ≡ u → Fits u prepares (begin_prepare (targets_of p) p)
  prepare_fits u p up mine = by (targets_of p) (set_up (flat_map (λ w. stores_by w (changed_of w.x p)) p.used))
    where
      same : (a : ℕ) → a ≤ a
      same a = omega arith

      by : (ns : List ℕ) → AreUp ns → Fits u prepares (begin_prepare ns p)
      by [] all = fits_more u (2 + all_told n) prepares (begin_confirm p.used p) (above (times 2 n) (2 + all_told n)) (confirm_fits u p
          up mine)
      by (i ∷ ns) all = (all, tt, same prepares)

  votes_fits : (u : Uid) (p : Plan) → AreUp p.sent → actor p.path ≡ u → (ns : List ℕ) → Fits u prepares (votes_left ns p)
  votes_fits u p up mine [] = prepare_fits u p up mine
  votes_fits u p up mine (i ∷ ns) = (tt, tt, same prepares)
    where
      same : (a : ℕ) → a ≤ a
      same a = omega arith

  stores_fits : (u : Uid) (p : Plan) → AreUp p.sent → actor p.path ≡ u → (ns : List ℕ) → Fits u (2 + all_told n) (stores_left ns p).step
  stores_fits u p up mine [] = confirm_fits u p up mine
  stores_fits u p up mine (i ∷ ns) = (tt, tt, same (2 + all_told n))
    where
      same : (a : ℕ) → a ≤ a
      same a = omega arith

  abbrev begins : ℕ
  begins = times 2 n + prepares

  start_fits : (u : Uid) (p : Plan) → AreUp p.sent → actor p.path ≡ u → Fits u begins (commit.start p).step
  start_fits u p up mine = by (servers_of p) (set_up (map (λ (w : Used). w.server) (filter (λ (w : Used). w.called) p.used)))
    where
      same : (a : ℕ) → a ≤ a
      same a = omega arith

      by : (ns : List ℕ) → AreUp ns → Fits u begins (begin_vote ns p)
      by [] all = fits_more u prepares begins (begin_prepare (targets_of p) p) (above (times 2 n) prepares) (prepare_fits u p up mine)
      by (i ∷ ns) all = (all, tt, same begins)

  one_told : times 1 n ≤ all_told n
  one_told = loads.times_more 1 (suc (suc n)) n (omega arith)

  high : (a b c : ℕ) → a ≤ c → a ≤ b + c
  high a b c le = omega (arith, le)

  ends_fit : (u : Uid) (m : Machine) (why : Words.Cause) (p : Plan) → Fits u (machine_left n m) (Aborts why p)
  ends_fit u (Voting q ns) why p =
      (tt, tt, high (times 1 n) (times 2 n) (2 + all_told n) (high (times 1 n) 2 (all_told n) one_told))
  ends_fit u (Preparing q ns) why p = (tt, tt, high (times 1 n) 2 (all_told n) one_told)
  ends_fit u (Confirming q) why p = (tt, tt, one_told)

  answered_fits : (u : Uid) (from : ℕ) (m : Machine) (r : Reply) → AreUp (let p = plan_of m in p.sent) → actor (let p = plan_of m in
      p.path) ≡ u →
      Fits u (machine_left n m) (commit.answered from m r).step
  answered_fits u from (Voting p ns) (Reply.Voted (voted.Yes states)) up mine =
      votes_fits u (record p { changed = with_states states p.changed }) up mine (without_number from ns)
  answered_fits u from (Voting p ns) (Reply.Voted (voted.Changed w)) up mine = ends_fit u (Voting p ns) (cause.Changed from
      (Words.differs w)) p
  answered_fits u from (Preparing p ns) (Reply.Prepared prepared.Yes) up mine =
      stores_fits u (record p { prepared = with_number from p.prepared }) up mine (without_number from ns)
  answered_fits u from (Preparing p ns) (Reply.Prepared (prepared.InDoubt x holder)) up mine =
      stores_fits u (marks_store from p) up mine (without_number from ns)
  answered_fits u from (Preparing p ns) (Reply.Prepared (prepared.Old x v)) up mine = ends_fit u (Preparing p ns) (cause.Old from x v) p
  answered_fits u from (Confirming p) (Reply.Confirmed confirmed.Yes) up mine = (up, mine, same (all_told n))
    where
      same : (a : ℕ) → a ≤ a
      same a = omega arith
  answered_fits u from (Confirming p) (Reply.Confirmed (confirmed.Conflict h m)) up mine = ends_fit u (Confirming p) (cause.Conflict h m
      1) p
  answered_fits u from (Confirming p) (Reply.Confirmed (confirmed.Changed w)) up mine = ends_fit u (Confirming p) (cause.Changed 1
      (Words.differs w)) p
  answered_fits u from (Confirming p) (Reply.Confirmed (confirmed.NoStores x)) up mine = ends_fit u (Confirming p) (cause.NoStores x) p
  answered_fits u from (Confirming p) (Reply.Confirmed (confirmed.Listed x s)) up mine = ends_fit u (Confirming p) (cause.Listed x s) p
  answered_fits u from m r up mine = (tt, tt, same (machine_left n m))
    where
      same : (a : ℕ) → a ≤ a
      same a = omega arith

  given_fits : (u : Uid) (m : Machine) → AreUp (let p = plan_of m in p.sent) → actor (let p = plan_of m in p.path) ≡ u →
      Fits u (machine_left n m) (commit.given_up m).step
  given_fits u (Voting p ns) up mine = ends_fit u (Voting p ns) (cause.Lost (first_of ns)) p
  given_fits u (Preparing p ns) up mine =
      confirm_fits u (marks_stores ns p) (subst AreUp (sym (marked_sent ns p)) up) (ap actor (marked_path ns p) ∙ mine)
  given_fits u (Confirming p) up mine = ends_fit u (Confirming p) (cause.Lost 1) p

  -- ---- answers, acknowledgements, questions

  nothing : (c : Coord) → 0 + left c ≤ 0 + left c
  nothing c = same (left c)
    where
      same : (a : ℕ) → 0 + a ≤ 0 + a
      same a = omega arith

  pub more_or_same : (a b : ℕ) → 0 + b ≤ a + b
  more_or_same a b = omega arith

  pub heard_spends : (from : ℕ) (a : Asked) (r : Reply) (intents : List (Uid × Intent)) (c : Coord) → UpCoord c →
      let s = heard from a r intents c in load s.outs + left s.part ≤ 0 + left c
  heard_spends from a r intents c up = by (doing_of a.act c) refl
    where
      now : (d : Doing) → doing_of a.act c ≡ Some d → (i : Now) → d.now ≡ i →
          let s = heard_now from a r intents c i in load s.outs + left s.part ≤ 0 + left c
      now d found Idle is = nothing c
      now d found (Calling s) is = one (waits_for_call from a r s) refl
        where
          mine : actor s.path ≡ a.act
          mine = subst (IsOwnNow a.act) is (up.3 a.act d found)

          q : Moved
          q = answered (is_free (root_of s.path) (actor s.path) s.x c) (kept_at s c) s.goal s.at r

          kinds : waits_for_call from a r s ≡ true → (reply_kind r == ask_kind (next_ask [] s)) ≡ true
          kinds on =
              let p = and_parts (s.req == a.req) ((reply_kind r == ask_kind (next_ask [] s)) && (next_node s == from)) on in
              (and_parts (reply_kind r == ask_kind (next_ask [] s)) (next_node s == from) p.1).0

          zero_more : (x y : ℕ) → x ≤ y → x ≤ 0 + y
          zero_more x y le = omega (arith, le)

          one : (w : Bool) → waits_for_call from a r s ≡ w →
              let s = cond {A = Served Coord (Unit {0})} w (heard_by (heard_call s r c)) (heard_none c) in
              load s.outs + left s.part ≤ 0 + left c
          one true on = stepped_spends s q.step (on_root (root_of s.path) (root_moved s r q) c) d (ap (λ u. doing_of u c) mine ∙ found) is 0
              (zero_more (step_left q.step) (steps_left s.at)
              (reply_left (is_free (root_of s.path) (actor s.path) s.x c) (kept_at s c) s.x s.goal s.at r (kinds on)))
          one false on = nothing c
      now d found (Committing m) is = one (waits_for_commit from a r m)
        where
          fits : Fits a.act (machine_left n m) (commit.answered from m r).step
          fits = answered_fits a.act from m r (subst IsSentUp is (up.1 a.act d found)) (subst (IsOwnNow a.act) is (up.3 a.act d found))

          same : (x y z : ℕ) → x ≤ y → z ≡ y → x ≤ 0 + z
          same x y z le is = omega (arith, le, is)

          one : (w : Bool) → let s = cond {A = Served Coord (Unit {0})} w (heard_by (moved_commit a.act (commit.answered from m r)
              intents c))
              (heard_none c) in load s.outs + left s.part ≤ 0 + left c
          one true = moved_spends a.act (commit.answered from m r) intents c d 0 found fits.0 fits.1
              (same (most (commit.answered from m r).step) (machine_left n m) (left_now n d.now) fits.2 (ap (left_now n) is))
          one false = nothing c

      by : (o : Option Doing) → doing_of a.act c ≡ o →
          let s = heard_doing from a r intents c o in load s.outs + left s.part ≤ 0 + left c
      by None is = nothing c
      by (Some d) is = now d is d.now refl

  pub acked_spends : (from : ℕ) (u : Uid) (intents : List (Uid × Intent)) (c : Coord) → UpRecords intents →
      let s = acked from u intents c in load s.outs + left s.part ≤ n + left c
  acked_spends from u intents c up = by (at_uid u c.telling)
    where
      none : 0 + left c ≤ n + left c
      none = more_or_same n (left c)

      gone : (i : Intent) → AreUp i.nodes → (b : Bool) → load (cond b (tell_all i.root false ((i.root, ending.Abort) ∷ [])
          (let_go i.root (without_uid u intents) c i.nodes)) []) ≤ n
      gone i nodes true = less (load (tell_all i.root false ((i.root, ending.Abort) ∷ []) (let_go i.root (without_uid u intents) c
          i.nodes)))
          (times 1 n) (loads.told_load n k hello own i.root ((i.root, ending.Abort) ∷ []) (let_go i.root (without_uid u intents) c i.nodes)
          (few_but n _ i.nodes nodes)) (once n)
        where
          less : (x y : ℕ) → x ≤ y → y ≤ n → x ≤ n
          less x y one two = omega (arith, one, two)

          once : (a : ℕ) → times 1 a ≤ a
          once zero = omega arith
          once (suc a) = more (times 1 a) a (once a)
            where
              more : (x y : ℕ) → x ≤ y → 1 + x ≤ suc y
              more x y le = omega (arith, le)
      gone i nodes false = least n

      let_go_so : (o : Option Intent) → at_uid u intents ≡ o → load (tolds_let_go u (without_uid u intents) c o) ≤ n
      let_go_so None is = least n
      let_go_so (Some i) is = gone i (found_up u intents i up is) (not (uid_eq i.root u) && is_over (branch_of i.root c.tree))

      same : (a : ℕ) → a ≤ a
      same a = omega arith

      left_so : (i : Intent) (ns : List ℕ) → let s = acked_left u i intents c ns in load s.outs + left s.part ≤ n + left c
      left_so i [] = add (load (tolds_let_go u (without_uid u intents) c (at_uid u intents))) (left c) n (left c)
          (let_go_so (at_uid u intents) refl) (same (left c))
      left_so i (m ∷ ns) = none

      listed : (i : Intent) (b : Bool) →
          let s = cond {A = Served Coord (Unit {0})} b (acked_left u i intents c (without_number from i.nodes))
          (record { part = c; outs = []; reply = None }) in load s.outs + left s.part ≤ n + left c
      listed i true = left_so i (without_number from i.nodes)
      listed i false = none

      by : (o : Option Intent) → let s = acked_by from u intents c o in load s.outs + left s.part ≤ n + left c
      by None = none
      by (Some i) = listed i (has i.nodes from)

  pub query_load : (from : ℕ) (u : Uid) (intents : List (Uid × Intent)) (c : Coord) → load (answer_query from u intents c) ≤ suc (suc n)
  query_load from u intents c = first (is_open u c.tree || is_deferred u intents from)
    where
      none : 0 ≤ suc (suc n)
      none = least (suc (suc n))

      tells : (root : Uid) (ack : Bool) (ends : List (Uid × End)) → load (tell root ack ends from ∷ []) ≤ suc (suc n)
      tells root ack ends = loads.one_load n k hello own (suc n) from (message.Told (record { root = root; ack = ack; ends = ends }))
          (λ z. told_lead root ack ends z)

      decided_by : (b : Bool) → load (cond b (tell (root_or_self u (branch_of u c.tree)) false ((u, ending.Commit) ∷ []) from ∷ [])
          (tell (root_or_self u (branch_of u c.tree)) false ((u, ending.Abort) ∷ []) from ∷ [])) ≤ suc (suc n)
      decided_by true = tells (root_or_self u (branch_of u c.tree)) false ((u, ending.Commit) ∷ [])
      decided_by false = tells (root_or_self u (branch_of u c.tree)) false ((u, ending.Abort) ∷ [])

      listed : (i : Intent) (b : Bool) →
          load (cond b (tell i.root true ((u, ending.Commit) ∷ []) from ∷ []) (answer_decided from u c)) ≤ suc (suc n)
      listed i true = tells i.root true ((u, ending.Commit) ∷ [])
      listed i false = decided_by (is_kept_commit from u c)

      recorded_so : (o : Option Intent) → load (answer_recorded from u c o) ≤ suc (suc n)
      recorded_so None = decided_by (is_kept_commit from u c)
      recorded_so (Some i) = listed i (has i.nodes from)

      first : (b : Bool) → load (cond b [] (answer_recorded from u c (at_uid u intents))) ≤ suc (suc n)
      first true = none
      first false = recorded_so (at_uid u intents)

  -- ---- what the script asks of an action

  -- an action that begins has nothing to do yet
  pub begin_spends : (l : Label) (how : Kind) (parent : Option Label) (b : Option Branch) (c : Coord) →
      Spends 0 c (Words.begin_action l how parent b c)
  begin_spends l how parent b c = same (left_all n (c.doings ++ record { label = l; req = 0; now = Idle; took = [] } ∷ [])) (left c)
      (loads.sum_both (left_of_doing n) c.doings (record { label = l; req = 0; now = Idle; took = [] } ∷ []))
    where
      same : (a b : ℕ) → a ≡ b + (0 + 0) → 0 + a ≤ 0 + b
      same a b is = omega (arith, is)

  pub call_spends : (b : Branch) (x : ℕ) (o : Op) (c : Coord) → Spends 10 c (Words.call b.path x o c)
  call_spends b x o c = goes_free (Words.call_steps b.path x o (Words.next_req (actor b.path) c) (root_at (root_of b.path) c) c kept)
      (on_root (root_of b.path) (Words.with_keeping x kept) (record c { tree = Words.uses_object b.path x c.tree })) 10
      (start_left (Words.known_at_start (Words.top_of b.path) x (root_at (root_of b.path) c) c (let k = kept in
      k.kept)) (let k = kept in k.avoid))
    where
      old : Words.Keeping
      old = Words.keeping_of x (root_at (root_of b.path) c)

      kept : Words.Keeping
      kept = Words.renewed (is_free (root_of b.path) (actor b.path) x c) old (let k = old in k.kept)

  pub include_spends : (b : Branch) (x s : ℕ) (c : Coord) → Spends 10 c (Words.include b.path x s c)
  include_spends b x s c = goes_free (Words.start b.path x (Include s) None Words.unbound (Words.next_req (actor b.path) c))
      (record c { tree = Words.uses_object b.path x c.tree }) 10 (omega arith)

  -- whatever the action is at
  step_free : (u : Uid) (s : CommitStep) (intents : List (Uid × Intent)) (c : Coord) → UpStep s → OwnStep u s →
      Spends (most s) c (step_commit u s intents c)
  step_free u s intents c up mine = by (doing_of u c) refl
    where
      less : (x y o m c : ℕ) → (x + y) + o ≤ m + c → x + y ≤ m + c
      less x y o m c le = omega (arith, le)

      stays : (m : Machine) → doing_of u c ≡ None → left (commits_in u m c) ≡ left c
      stays m none = ap (λ (o : Option Doing). left_all n (Words.change_doing (λ (q : Doing). record q {
        req = (plan_of m).req;
        now = Committing m;
      }) u c o).doings) none

      kept : (x a y b : ℕ) → x ≡ b → y ≡ 0 → y + x ≤ a + b
      kept x a y b is none = omega (arith, is, none)

      both : (x y z b a m : ℕ) → x ≤ a → y ≡ z → z ≡ b → x + y ≤ (a + m) + b
      both x y z b a m le one two = omega (arith, le, one, two)

      alone : (s : CommitStep) → UpStep s → OwnStep u s → doing_of u c ≡ None → Spends (most s) c (step_commit u s intents c)
      alone (Stays m) up mine none = kept (left (commits_in u m c)) (machine_left n m) 0 (left c) (stays m none) refl
      alone (Asks m) up mine none = both (load (asks_machine m (commits_in u m c)).outs) (left (asks_machine m (commits_in u m c)).part)
          (left (commits_in u m c)) (left c) (asked m) (machine_left n m) (machine_load m (commits_in u m c) up)
          (ap (left_all n) (asked_doings (plan_of m).path (plan_of m).req (waiting m) (commits_in u m c))) (stays m none)
      alone (Decides p) up mine none = add (load (decide p c).outs) (left (decide p c).part) (all_told n) (left c) (decide_load p c up)
          (decided_less p c)
      alone (Aborts why p) up mine none = add (load (aborts_with u why intents c).outs) (left (ended u ending.Abort c)) (times 1 n) (left c)
          (ends_load u ending.Abort (λ l. body.Aborted l why) intents c) (ended_left u ending.Abort c)

      by : (o : Option Doing) → doing_of u c ≡ o → Spends (most s) c (step_commit u s intents c)
      by None none = alone s up mine none
      by (Some d) found = less (load (step_commit u s intents c).outs) (left (step_commit u s intents c).part) (left_now n d.now) (most s)
          (left c) (step_spends u s intents c d found up mine)

  pub commit_spends : (b : Branch) (intents : List (Uid × Intent)) (c : Coord) → Spends begins c (Words.commit_action b intents c)
  commit_spends b intents c = by b.doomed
    where
      u : Uid
      u = actor b.path

      plan : Plan
      plan = Words.plan_for b.path (Words.last_req (doing_of u c)) (root_at (root_of b.path) c) c

      fits : Fits u begins (commit.start plan).step
      fits = start_fits u plan (nodes_up u (root_at (root_of b.path) c)) refl

      t : Did Coord
      t = moved_commit u (commit.start plan) intents c

      raise : (x y a c : ℕ) → x + y ≤ a + c → a ≤ begins → x + y ≤ begins + c
      raise x y a c one le = omega (arith, one, le)

      told : times 1 n ≤ begins
      told = high (times 1 n) (times 2 n) prepares (high (times 1 n) (times 2 n) (2 + all_told n) (high (times 1 n) 2 (all_told n)
          one_told))

      ends : (e : End) (f : Label → Body) → Spends begins c (ends_with u e f intents c)
      ends e f = raise (load (ends_with u e f intents c).outs) (left (ended u e c)) (times 1 n) (left c) (ends_spends u e f intents c) told

      top : Spends begins c (Words.commit_top b.path intents c)
      top = sum (load (says u body.Committing c ++ t.outs)) (load (says u body.Committing c)) (load t.outs)
          (load (mark_lines u (commit.start plan).marks c)) (load (step_commit u (commit.start plan).step intents c).outs) (left t.part)
          (most (commit.start plan).step) (left c) (loads.load_both n k hello own (says u body.Committing c) t.outs)
          (loads.said_none n k hello own u body.Committing c)
          (loads.load_both n k hello own (mark_lines u (commit.start plan).marks c) (step_commit u (commit.start plan).step intents c).outs)
          (loads.lines_none n k hello own u (λ (x : ℕ × ℕ) l. body.Excluded l x.0 x.1) c (commit.start plan).marks)
          (step_free u (commit.start plan).step intents c fits.0 fits.1) fits.2
        where
          sum : (x s o m t y a c : ℕ) → x ≡ s + o → s ≡ 0 → o ≡ m + t → m ≡ 0 → t + y ≤ a + c → a ≤ begins → x + y ≤ begins + c
          sum x s o m t y a c one two three four five le = omega (arith, one, two, three, four, five, le)

      kinds : (q : Kind) → Spends begins c (Words.commit_open b intents c q)
      kinds kind.Nested = ends ending.Commit body.Committed
      kinds kind.Serial = ends ending.Commit body.Ended
      kinds kind.Top = top
      kinds kind.Independent = top
      kinds kind.Constituent = top

      by : (d : Bool) → Spends begins c (cond {A = Did Coord} d (aborts_with u cause.Doomed intents c) (Words.commit_open b intents c
          b.kind))
      by true = ends ending.Abort (λ l. body.Aborted l cause.Doomed)
      by false = kinds b.kind

  -- each action that it ends is told of once
  aborted_less : (us : List Uid) (c : Coord) → load (Words.all_aborted us c).outs + left (Words.all_aborted us c).part ≤ 0 + left c
  aborted_less [] c = nothing c
  aborted_less (u ∷ us) c =
      let t = Words.all_aborted us (ended u ending.Abort c) in
      sum (load (says u (λ l. body.Aborted l cause.Asked) c ++ t.outs)) (load (says u (λ l. body.Aborted l cause.Asked) c)) (load t.outs)
      (left t.part) (left (ended u ending.Abort c)) (left c)
      (loads.load_both n k hello own (says u (λ l. body.Aborted l cause.Asked) c) t.outs)
      (loads.said_none n k hello own u (λ l. body.Aborted l cause.Asked) c) (aborted_less us (ended u ending.Abort c))
      (ended_left u ending.Abort c)
    where
      sum : (x s o y e c : ℕ) → x ≡ s + o → s ≡ 0 → o + y ≤ 0 + e → e ≤ c → x + y ≤ 0 + c
      sum x s o y e c one two three le = omega (arith, one, two, three, le)

  pub abort_spends : (u : Uid) (intents : List (Uid × Intent)) (c : Coord) (a : ℕ) → length (open_below u c.tree ++ u ∷ []) ≤ a →
      Spends (times (times 1 n) a) c (Words.abort_action u intents c)
  abort_spends u intents c a few =
      let us = open_below u c.tree ++ u ∷ [] in
      let t = Words.all_aborted us c in
      sum (load (t.outs ++ flat_map (tolds_of intents t.part) us)) (load t.outs) (load (flat_map (tolds_of intents t.part) us)) (left
      t.part)
      (left c) (times (times 1 n) (length us)) (times (times 1 n) a)
      (loads.load_both n k hello own t.outs (flat_map (tolds_of intents t.part) us)) (aborted_less us c) (each us t.part)
      (loads.times_longer (times 1 n) (length us) a few)
    where
      sum : (x o f y c s b : ℕ) → x ≡ o + f → o + y ≤ 0 + c → f ≤ s → s ≤ b → x + y ≤ b + c
      sum x o f y c s b one two three le = omega (arith, one, two, three, le)

      each : (us : List Uid) (e : Coord) → load (flat_map (tolds_of intents e) us) ≤ times (times 1 n) (length us)
      each [] e = omega arith
      each (w ∷ us) e = both (load (tolds_of intents e w ++ flat_map (tolds_of intents e) us)) (load (tolds_of intents e w))
          (load (flat_map (tolds_of intents e) us)) (times 1 n) (times (times 1 n) (length us))
          (loads.load_both n k hello own (tolds_of intents e w) (flat_map (tolds_of intents e) us)) (tolds_load intents e w) (each us e)
        where
          both : (x y z p q : ℕ) → x ≡ y + z → y ≤ p → z ≤ q → x ≤ p + q
          both x y z p q is one rest = omega (arith, is, one, rest)

  pub giveup_spends : (u : Uid) (intents : List (Uid × Intent)) (c : Coord) → UpCoord c → Spends 2 c (Words.give_up u intents c)
  giveup_spends u intents c up = by (doing_of u c) refl
    where
      behind : (es : List Effect) (d : Did Coord) → load es ≡ 0 → Spends 2 c d → load (es ++ d.outs) + left d.part ≤ 2 + left c
      behind es d none le = sum (load (es ++ d.outs)) (load es) (load d.outs) (left d.part) (left c) (loads.load_both n k hello own es
          d.outs) none le
        where
          sum : (x e o y c : ℕ) → x ≡ e + o → e ≡ 0 → o + y ≤ 2 + c → x + y ≤ 2 + c
          sum x e o y c is none le = omega (arith, is, none, le)

      two : (x y : ℕ) → x ≤ y → x ≤ 2 + y
      two x y le = omega (arith, le)

      now : (d : Doing) → doing_of u c ≡ Some d → (q : Now) → d.now ≡ q → Spends 2 c (Words.gives_up u intents c q)
      now d found Idle is = more_or_same 2 (left c)
      now d found (Calling s) is =
          let lost = on_root (root_of s.path) (root_lost s (Words.given_up s.at)) c in
          let mine : actor s.path ≡ u = subst (IsOwnNow u) is (up.3 u d found) in
          behind (Words.gaveup_lines u (next_node s ∷ []) c) (Words.give_up_call s c)
          (loads.lines_none n k hello own u (λ i l. body.GaveUp l i) c (next_node s ∷ []))
          (stepped_spends s (Words.given_up s.at) lost d (ap (λ v. doing_of v c) mine ∙ found) is 2 (given_left s.at))
      now d found (Committing m) is =
          let fits : Fits u (machine_left n m) (commit.given_up m).step
          = given_fits u m (subst IsSentUp is (up.1 u d found)) (subst (IsOwnNow u) is (up.3 u d found)) in
          behind (Words.gaveup_lines u (Words.nodes_given_up m) c) (moved_commit u (commit.given_up m) intents c)
          (loads.lines_none n k hello own u (λ i l. body.GaveUp l i) c (Words.nodes_given_up m))
          (moved_spends u (commit.given_up m) intents c d 2 found fits.0 fits.1
          (raise (most (commit.given_up m).step) (machine_left n m) (left_now n d.now) fits.2 (ap (left_now n) is)))
        where
          raise : (x y z : ℕ) → x ≤ y → z ≡ y → x ≤ 2 + z
          raise x y z le is = omega (arith, le, is)

      by : (o : Option Doing) → doing_of u c ≡ o → Spends 2 c (Words.give_up_doing u intents c o)
      by None is = more_or_same 2 (left c)
      by (Some d) is = now d is d.now refl
