-- What a node says as it takes a message is work: answers, ends of commits, locks, bindings and states.
use Rattle.arj_law_parts.proofs.Words
use Words.{◌≡◌, ◌∙◌, ◌==◌, ◌&&◌, ◌++◌, ℕ, zero, suc, Bool, true, false, cond, List, [], ◌∷◌, map, filter, refl, sym, Option, Some, None}
use Words.{option_map, list_all, and_parts, append-nil, append_assoc, all_both, all_flat, AreAll, Reply, actor, answers, asked_by}
use Words.{last_end, response, heard, heard_by, heard_call, heard_doing, heard_none, heard_now, waits_for_call, waits_for_commit}
use Words.{mark_lines, moved_commit, end_line, step_call, step_commit, asks_all, asks_node, commits_in, waiting, plan_of, Answered}
use Words.{Included, Conflict, Changed, Lost, CallEnd, CallStep, Ended, Goal, Include, On, Run, Steps, Aborts, Asks, CommitStep, Decides}
use Words.{Machine, Marked, Plan, Stays, has_record, participants, root_of, Calling, Committing, Coord, Doing, Idle, Now, doing_of}
use Words.{decide, decided_told, record_work, says, say_for, tell, tolds_of, tolds_by, tolds_of_branch, tell_all, up_to, servers_told}
use Words.{nodes_sent, is_deferred, ends_of, root_at, branch_of, Branch, acked, acked_by, acked_left, answer_query, answer_recorded}
use Words.{answer_decided, is_kept_commit, root_or_self, tolds_let_go, let_go, at_uid, without_uid, without_number, has, is_open, not}
use Words.{◌||◌, Intent, Served, Disk, Effect, Pair, Say, Send, Do, PutIntent, Prep, Ready, Already, Old, InDoubt, held_at, holder_of}
use Words.{is_prepared, prepare_answer, worked, confirm, Naming, Handled, Void, Took, Here, Parts, Ran, ack_told, by_reply, end_states}
use Words.{first_done, first_queued, handle, handle_all, handle_answer, handle_ask, handle_ends, handle_other, handle_told, holders}
use Words.{if_naming, is_earlier, is_meant, load_by, load_held, naming_told, next_round, prepare_by, prepare_states, query_about, ran}
use Words.{ran_handled, rounds, sends_answer, serve, served, store_told, taken, with_coord, with_naming, with_server, is_naming_effect}
use Words.{is_naming_line, is_server_effect, is_server_line, activate_own, bind_own, confirm_own, ends_own, invoke_own, note_own}
use Words.{told_own, vote_own, Uid, End, Head, Asked, ObjectState, Body, Message, Label, Path, Kind, object, Ask, asks, uid_eq}
use Words.naming
use Words.server
use Words.ask
use Words.body
use Words.cause
use Words.commit
use Words.ending
use Words.kind
use Words.message
use Words.prepared
use Words.voted
use Words.confirmed
use Rattle.arj_protocol.specs.Words.{VotedReply, PreparedReply, ConfirmedReply}
use Rattle.arj_protocol.specs.Ending.{is_over as ending_over}
use Rattle.arj_law_parts.proofs.steps.Still.{outs_of}
use Rattle.arj_model.specs.Own.{is_refusal_of_commit}

-- The line is of a node's work: an answer, an end of a commit, a lock, a binding or a state; no frame, and no halt.
abbrev pub works : Body → Bool
works (body.Ok l x op answer) = true
works (body.Includes l x n) = true
works (body.Conflict l holder mode n) = true
works (body.Lost l n) = true
works (body.Changed l n difference) = true
works (body.Committed l) = true
works (body.Aborted l c) = is_refusal_of_commit c
works (body.Excluded l x n) = true
works (body.Granted n u o mode) = true
works (body.Lowered n u o) = true
works (body.Bound x b n) = true
works (body.Active n x b) = true
works (body.Told n u e part) = true
works (body.Prepared n u role) = true
works (body.Done n u role e) = true
works _ = false

-- so it is of an effect
abbrev pub says_work : Effect → Bool
says_work (Say b) = works b
says_work e = true

abbrev pub Work : List Effect → Type 0
Work outs = AreAll says_work outs

pub work_both : (es fs : List Effect) → Work es → Work fs → Work (es ++ fs)
work_both es fs a b = all_both says_work es fs a b

pub work_map : {A : Type 0} (f : A → Effect) (items : List A) → ((a : A) → says_work (f a) ≡ true) → Work (map f items)
work_map f [] each = refl
work_map f (a ∷ rest) each = λ i. each a i && work_map f rest each i

-- ---- server and naming

server_line : (n : ℕ) (b : Body) → is_server_line n b ≡ true → works b ≡ true
server_line n (body.Granted m u o how) is = refl
server_line n (body.Active m x b) is = refl
server_line n (body.Told m u e p) is = refl
server_line n b is = absurd (cc is)

naming_line : (b : Body) → is_naming_line b ≡ true → works b ≡ true
naming_line (body.Granted m u o how) is = refl
naming_line (body.Lowered m u o) is = refl
naming_line (body.Bound x b n) is = refl
naming_line (body.Told m u e p) is = refl
naming_line (body.Prepared m u r) is = refl
naming_line (body.Done m u r e) is = refl
naming_line b is = absurd (cc is)

work_all : (test : Effect → Bool) (line : Body → Bool) → ((b : Body) → test (Say b) ≡ line b) → ((b : Body) → line b ≡ true → works b
    ≡ true) →
    (es : List Effect) → AreAll test es → Work es
work_all test line same good [] all = refl
work_all test line same good (Say b ∷ es) all =
    let own = and_parts (test (Say b)) (list_all test es) all in
    let its = good b (sym (same b) ∙ own.0) in
    λ i. its i && work_all test line same good es own.1 i
work_all test line same good (Send to m ∷ es) all = work_all test line same good es (and_parts (test (Send to m)) (list_all test es) all).1
work_all test line same good (Do w ∷ es) all = work_all test line same good es (and_parts (test (Do w)) (list_all test es) all).1

server_work : (n : ℕ) (es : List Effect) → AreAll (is_server_effect n) es → Work es
server_work n = work_all (is_server_effect n) (is_server_line n) (λ b. refl) (server_line n)

naming_work : (es : List Effect) → AreAll is_naming_effect es → Work es
naming_work = work_all is_naming_effect is_naming_line (λ b. refl) naming_line

-- ---- coordinators

pub tells_work : (root : Uid) (ack : Bool) (ends : List (Uid × End)) (nodes : List ℕ) → Work (tell_all root ack ends nodes)
tells_work root ack ends nodes = work_map (tell root ack ends) nodes (λ n. refl)

pub says_so : (u : Uid) (f : Label → Body) (c : Coord) → ((l : Label) → works (f l) ≡ true) → Work (says u f c)
says_so u f c each = by (doing_of u c)
  where
    by : (o : Option Doing) → Work (say_for f o)
    by None = refl
    by (Some d) = λ i. each d.label i && true

tolds_work : (u : Uid) (k : Kind) (p : Path) (intents : List (Uid × Intent)) (c : Coord) → Work (tolds_by u k p intents c)
tolds_work u kind.Nested p intents c =
    tells_work (root_of p) false (up_to u (ends_of (root_of p) c.tree)) (servers_told u (root_at (root_of p) c) c)
tolds_work u kind.Serial p intents c =
    tells_work u false ((u, ending.Abort) ∷ []) (filter (λ n. not (is_deferred u intents n)) (nodes_sent u (root_at u c)))
tolds_work u kind.Top p intents c = tells_work (root_of p) false ((u, ending.Abort) ∷ []) (nodes_sent u (root_at (root_of p) c))
tolds_work u kind.Independent p intents c = tells_work (root_of p) false ((u, ending.Abort) ∷ []) (nodes_sent u (root_at (root_of p) c))
tolds_work u kind.Constituent p intents c = tells_work (root_of p) false ((u, ending.Abort) ∷ []) (nodes_sent u (root_at (root_of p) c))

pub tolds_of_work : (intents : List (Uid × Intent)) (c : Coord) (u : Uid) → Work (tolds_of intents c u)
tolds_of_work intents c u = by (branch_of u c.tree)
  where
    by : (b : Option Branch) → Work (tolds_of_branch u intents c b)
    by None = refl
    by (Some b) = tolds_work u b.kind b.path intents c

pub asks_all_work : (p : Path) (req : ℕ) (asked : List (ℕ × Ask)) (c : Coord) → Work (asks_all p req asked c).outs
asks_all_work p req [] c = refl
asks_all_work p req (a ∷ rest) c =
    let d = asks_node p req a c in
    let t = asks_all p req rest d.part in
    work_both d.outs t.outs refl (asks_all_work p req rest d.part)

end_line_work : (x : ℕ) (g : Goal) (e : CallEnd) (l : Label) → works (end_line x g e l) ≡ true
end_line_work x g (Answered a) l = by g
  where
    by : (h : Goal) → works (Words.end_line x h (Answered a) l) ≡ true
    by (Run o) = refl
    by (Include s) = refl
end_line_work x g (Included s) l = refl
end_line_work x g (Conflict holder m n) l = refl
end_line_work x g (Changed n w) l = refl
end_line_work x g (Lost n sent) l = refl

pub step_call_work : (s : Steps) (t : CallStep) (c : Coord) → Work (step_call s t c).outs
step_call_work s (On at) c = refl
step_call_work s (Ended e) c = says_so (actor s.path) (end_line s.x s.goal e) c (end_line_work s.x s.goal e)

decided_work : (root u : Uid) (p : Plan) (n : ℕ) → says_work (decided_told root u p n) ≡ true
decided_work root u p n = by (has (participants p) n)
  where
    by : (b : Bool) →
        says_work (cond b (tell root (has_record p) ((u, ending.Commit) ∷ []) n) (tell root false ((u, ending.Abort) ∷ []) n)) ≡ true
    by true = refl
    by false = refl

decide_work : (p : Plan) (c : Coord) → Work (decide p c).outs
decide_work p c =
    let u = actor p.path in
    work_both (record_work u p ++ says u body.Committed c) (map (decided_told (root_of p.path) u p) p.sent)
    (work_both (record_work u p) (says u body.Committed c) (put (has_record p)) (says_so u body.Committed c (λ l. refl)))
    (work_map (decided_told (root_of p.path) u p) p.sent (decided_work (root_of p.path) u p))
  where
    put : (b : Bool) →
        Work (cond b (Do (PutIntent (actor p.path) (record { root = root_of p.path; nodes = participants p })) ∷ []) [])
    put true = refl
    put false = refl

-- the step of a commit aborts for a cause that refuses it
abbrev pub Refuses : CommitStep → Type 0
Refuses (Aborts why p) = is_refusal_of_commit why ≡ true
Refuses s = Unit {0}

pub step_commit_work : (u : Uid) (s : CommitStep) (intents : List (Uid × Intent)) (c : Coord) → Refuses s →
    Work (step_commit u s intents c).outs
step_commit_work u (Stays m) intents c so = refl
step_commit_work u (Asks m) intents c so = asks_all_work (plan_of m).path (plan_of m).req (commit.waiting m) (commits_in u m c)
step_commit_work u (Decides p) intents c so = decide_work p c
step_commit_work u (Aborts why p) intents c so =
    work_both (says u (λ l. body.Aborted l why) c) (tolds_of intents (Words.ended u ending.Abort c) u)
    (says_so u (λ l. body.Aborted l why) c (λ l. so)) (tolds_of_work intents (Words.ended u ending.Abort c) u)

pub marks_work : (u : Uid) (marks : List (ℕ × ℕ)) (c : Coord) → Work (mark_lines u marks c)
marks_work u marks c =
    all_flat says_work (λ (k : ℕ × ℕ). says u (λ l. body.Excluded l k.0 k.1) c) marks (λ k. says_so u (λ l. body.Excluded l k.0 k.1) c
    (λ l. refl))

pub moved_commit_work : (u : Uid) (m : Marked) (intents : List (Uid × Intent)) (c : Coord) → Refuses m.step →
    Work (moved_commit u m intents c).outs
moved_commit_work u m intents c so =
    work_both (mark_lines u m.marks c) (step_commit u m.step intents c).outs (marks_work u m.marks c)
    (step_commit_work u m.step intents c so)

-- an answer aborts for a cause that refuses the commit
confirm_refuses : (us : List Words.Used) (p : Plan) → Refuses (commit.begin_confirm us p)
confirm_refuses [] p = tt
confirm_refuses (u ∷ us) p = tt

prepare_refuses : (ns : List ℕ) (p : Plan) → Refuses (commit.begin_prepare ns p)
prepare_refuses [] p = confirm_refuses p.used p
prepare_refuses (n ∷ ns) p = tt

pub vote_refuses : (ns : List ℕ) (p : Plan) → Refuses (commit.begin_vote ns p)
vote_refuses [] p = prepare_refuses (commit.targets_of p) p
vote_refuses (n ∷ ns) p = tt

votes_refuse : (ns : List ℕ) (p : Plan) → Refuses (commit.votes_left ns p)
votes_refuse [] p = prepare_refuses (commit.targets_of p) p
votes_refuse (n ∷ ns) p = tt

pub stores_refuse : (ns : List ℕ) (p : Plan) → Refuses (commit.stores_left ns p).step
stores_refuse [] p = confirm_refuses p.used p
stores_refuse (n ∷ ns) p = tt

answer_refuses : (from : ℕ) (m : Machine) (r : Reply) → Refuses (commit.answered from m r).step
answer_refuses from (Words.Voting p left) (Reply.Voted r) = by r
  where
    by : (v : VotedReply) → Refuses (commit.voted_by from left p v).step
    by (voted.Yes states) = votes_refuse (without_number from left) (record p { changed = commit.with_states states p.changed })
    by (voted.Changed w) = refl
answer_refuses from (Words.Preparing p left) (Reply.Prepared r) = by r
  where
    by : (v : PreparedReply) → Refuses (commit.prepared_by from left p v).step
    by prepared.Yes = stores_refuse (without_number from left) (record p { prepared = Words.with_number from p.prepared })
    by (prepared.InDoubt x holder) = stores_refuse (without_number from left) (commit.marks_store from p)
    by (prepared.Old x v) = refl
answer_refuses from (Words.Confirming p) (Reply.Confirmed r) = by r
  where
    by : (v : ConfirmedReply) → Refuses (commit.confirmed_by p v)
    by confirmed.Yes = tt
    by (confirmed.Conflict holder m) = refl
    by (confirmed.Changed w) = refl
    by (confirmed.NoStores x) = refl
    by (confirmed.Listed x s) = refl
answer_refuses from (Words.Voting p left) r = tt
answer_refuses from (Words.Preparing p left) r = tt
answer_refuses from (Words.Confirming p) r = tt

heard_work : (from : ℕ) (a : Asked) (r : Reply) (intents : List (Uid × Intent)) (c : Coord) → Work (heard from a r intents c).outs
heard_work from a r intents c = by (doing_of a.act c)
  where
    now : (n : Now) → Work (heard_now from a r intents c n).outs
    now Idle = refl
    now (Calling s) = one (waits_for_call from a r s)
      where
        one : (b : Bool) → Work (cond {A = Served Coord (Unit {0})} b (heard_by (heard_call s r c)) (heard_none c)).outs
        one true = step_call_work s _ _
        one false = refl
    now (Committing m) = one (waits_for_commit from a r m)
      where
        one : (b : Bool) →
            Work (cond {A = Served Coord (Unit {0})} b (heard_by (moved_commit a.act (commit.answered from m r) intents c))
            (heard_none c)).outs
        one true = moved_commit_work a.act (commit.answered from m r) intents c (answer_refuses from m r)
        one false = refl

    by : (o : Option Doing) → Work (heard_doing from a r intents c o).outs
    by None = refl
    by (Some d) = now d.now

acked_work : (from : ℕ) (u : Uid) (intents : List (Uid × Intent)) (c : Coord) → Work (acked from u intents c).outs
acked_work from u intents c = by (at_uid u c.telling)
  where
    let_go_work : (o : Option Intent) → Work (tolds_let_go u (without_uid u intents) c o)
    let_go_work None = refl
    let_go_work (Some i) = either (not (uid_eq i.root u) && ending_over (branch_of i.root c.tree))
      where
        either : (b : Bool) → Work (cond b (tell_all i.root false ((i.root, ending.Abort) ∷ [])
            (let_go i.root (without_uid u intents) c i.nodes)) [])
        either true = tells_work i.root false ((i.root, ending.Abort) ∷ []) (let_go i.root (without_uid u intents) c i.nodes)
        either false = refl

    left : (i : Intent) (ns : List ℕ) → Work (acked_left u i intents c ns).outs
    left i [] = let_go_work (at_uid u intents)
    left i (n ∷ ns) = refl

    waited : (i : Intent) (b : Bool) →
        Work (cond {A = Served Coord (Unit {0})} b (acked_left u i intents c (without_number from i.nodes))
        (record { part = c; outs = []; reply = None })).outs
    waited i true = left i (without_number from i.nodes)
    waited i false = refl

    by : (o : Option Intent) → Work (acked_by from u intents c o).outs
    by None = refl
    by (Some i) = waited i (has i.nodes from)

query_work : (from : ℕ) (u : Uid) (intents : List (Uid × Intent)) (c : Coord) → Work (answer_query from u intents c)
query_work from u intents c = either (is_open u c.tree || is_deferred u intents from) (recorded (at_uid u intents))
  where
    decided : (b : Bool) → Work (cond b (tell (root_or_self u (branch_of u c.tree)) false ((u, ending.Commit) ∷ []) from ∷ [])
        (tell (root_or_self u (branch_of u c.tree)) false ((u, ending.Abort) ∷ []) from ∷ []))
    decided true = refl
    decided false = refl

    listed : (i : Intent) (b : Bool) →
        Work (cond b (tell i.root true ((u, ending.Commit) ∷ []) from ∷ []) (answer_decided from u c))
    listed i true = refl
    listed i false = decided (is_kept_commit from u c)

    recorded : (o : Option Intent) → Work (answer_recorded from u c o)
    recorded None = decided (is_kept_commit from u c)
    recorded (Some i) = listed i (has i.nodes from)

    either : (b : Bool) → Work (answer_recorded from u c (at_uid u intents)) → Work (cond b [] (answer_recorded from u c
        (at_uid u intents)))
    either true rest = refl
    either false rest = rest

-- ---- messages

module _ (from : ℕ) (h : Head) where
  answer_work : (t : Parts) (outs : List Effect) (r : Option Reply) → Work outs → Work (outs_of (sends_answer from h t outs r))
  answer_work t outs None all = refl
  answer_work t outs (Some r) all = work_both outs (Send from (response (asked_by h) r) ∷ []) all refl

  served_work : {S R : Type 0} (put : S → Parts) (say : R → Reply) (r : Served S R) → Work r.outs → Work
      (outs_of (served from h put say r))
  served_work put say r all = answer_work (put r.part) r.outs (option_map say r.reply) all

  naming_served : {R : Type 0} (put : Naming → Parts) (say : R → Reply) (f : Naming → Served Naming R) (o : Option Naming) →
      ((n : Naming) → AreAll is_naming_effect (f n).outs) → Work (outs_of (if_naming (λ n. served from h put say (f n)) o))
  naming_served put say f None all = refl
  naming_served put say f (Some n) all = served_work put say (f n) (naming_work (f n).outs (all n))

  load_work : (x : ℕ) (d : Pair) (t : Parts) (holder : Option Uid) → Work (outs_of (load_by x d from h t holder))
  load_work x d t (Some holder) = refl
  load_work x d t None = by (held_at (object x) d)
    where
      by : (s : Option ObjectState) → Work (outs_of (load_held from h t s))
      by None = refl
      by (Some s) = refl

  prepare_work : (n : ℕ) (d : Pair) (states : List ObjectState) (t : Parts) → Work (outs_of (prepare_states n d states from h t))
  prepare_work n d states t = by (is_prepared (actor h.path) d)
    where
      answer : (p : Prep) → Work (outs_of (prepare_by n states from h t p))
      answer Ready = refl
      answer (Already u) = refl
      answer (Old u v) = refl
      answer (InDoubt u holder) = refl

      by : (b : Bool) → Work (outs_of (cond b (sends_answer from h t [] (Some (Reply.Prepared prepared.Yes)))
          (prepare_by n states from h t (prepare_answer (actor h.path) states d))))
      by true = refl
      by false = answer (prepare_answer (actor h.path) states d)

  serve_work : (n : ℕ) (d : Disk) (t : Parts) (a : Ask) → Work (outs_of (serve n d t from h a))
  serve_work n d t (ask.Bind x include avoid) = naming_served (with_naming t) Reply.Bound (naming.bind h.path x include avoid d.names)
      t.naming (bind_own h.path x include avoid d.names)
  serve_work n d t (ask.Load x) = load_work x d.store t (holder_of (object x) d.store)
  serve_work n d t (ask.Activate b st) = served_work (with_server t) Reply.Activated (server.activate n h.path b st t.server)
      (server_work n (server.activate n h.path b st t.server).outs (activate_own n h.path b st t.server))
  serve_work n d t (ask.Record x b i g) =
      naming_served (with_naming t) Reply.Noted (naming.note h.path x b i g) t.naming (note_own h.path x b i g)
  serve_work n d t (ask.Invoke x b i ends op) = served_work (with_server t) Reply.Invoked (server.invoke n h x b i ends op t.server)
      (server_work n (server.invoke n h x b i ends op t.server).outs (invoke_own n h x b i ends op t.server))
  serve_work n d t (ask.Vote i ties ends) = served_work (with_server t) Reply.Voted (server.vote n h.path i ties ends t.server)
      (server_work n (server.vote n h.path i ties ends t.server).outs (vote_own n h.path i ties ends t.server))
  serve_work n d t (ask.Prepare states) = prepare_work n d.store states t
  serve_work n d t (ask.Confirm grants excluded included) = naming_served (with_naming t) Reply.Confirmed
      (confirm h.path grants excluded included d.names) t.naming (confirm_own h.path grants excluded included d.names)

told_work : (n : ℕ) (d : Disk) (t : Parts) (from : ℕ) (ack : Bool) (ends : List (Uid × End)) (u : Uid) (e : End) →
    Work (outs_of (handle_told n d t from ack ends u e))
told_work n d t from ack ends u e =
    work_both (store_told n u e d.store ++ (naming_told u e d.names t.naming).outs ++ (server.told n ends t.server).outs)
    (ack_told from u ack)
    (work_both (store_told n u e d.store ++ (naming_told u e d.names t.naming).outs) (server.told n ends t.server).outs
    (work_both (store_told n u e d.store) (naming_told u e d.names t.naming).outs (store (is_prepared u d.store) e)
    (names t.naming))
    (server_work n (server.told n ends t.server).outs (ends_own n ends t.server)))
    (acks ack)
  where
    store : (b : Bool) (e : End) → Work (cond b (end_states n u e) [])
    store false e = refl
    store true ending.Commit = refl
    store true ending.Abort = refl

    names : (o : Option Naming) → Work (naming_told u e d.names o).outs
    names None = refl
    names (Some o) = naming_work (naming.told u e d.names o).outs (told_own u e d.names o)

    acks : (b : Bool) → Work (ack_told from u b)
    acks true = refl
    acks false = refl

reply_work : (t : Parts) (outs : List Effect) (r : Option (Unit {0})) → Work outs → Work (outs_of (by_reply t outs r))
reply_work t outs None all = refl
reply_work t outs (Some u) all = all

other_work : (n : ℕ) (d : Disk) (t : Parts) (from : ℕ) (m : Message) → Work (outs_of (handle_other n d t from m))
other_work n d t from (message.Told m) = by (last_end m.ends)
  where
    by : (o : Option (Uid × End)) → Work (outs_of (handle_ends n d t from m.ack m.ends o))
    by None = refl
    by (Some e) = told_work n d t from m.ack m.ends e.0 e.1
other_work n d t from (message.Acked m) =
    reply_work (with_coord t (acked from m.act d.intents t.coord).part) (acked from m.act d.intents t.coord).outs (acked from m.act
    d.intents t.coord).reply (acked_work from m.act d.intents t.coord)
other_work n d t from (message.Query m) = query_work from m.act d.intents t.coord
other_work n d t from (message.Hello m) = work_map query_about (filter (is_earlier m.node m.inc) (holders d t)) (λ u. refl)
other_work n d t from m = refl

pub taken_work : (n : ℕ) (d : Disk) (t : Parts) (from : ℕ) (m : Message) → Work (outs_of (taken n d t from m))
taken_work n d t from m = by (is_meant t m)
  where
    answered : (a : Option (Asked × Reply)) → Work (outs_of (handle_answer n d t from m a))
    answered None = other_work n d t from m
    answered (Some a) =
        reply_work (with_coord t (heard from a.0 a.1 d.intents t.coord).part) (heard from a.0 a.1 d.intents t.coord).outs (heard from a.0
        a.1 d.intents t.coord).reply (heard_work from a.0 a.1 d.intents t.coord)

    asked : (a : Option (Head × Ask)) → Work (outs_of (handle_ask n d t from m a))
    asked None = answered (answers m)
    asked (Some a) = serve_work from a.0 n d t a.1

    by : (b : Bool) → Work (outs_of (cond b (handle n d t from m) (Void [])))
    by true = asked (asks m)
    by false = refl

-- ---- messages of a node to itself

pub ran_work : (n : ℕ) (t : Parts) (es : List Effect) (d : Disk) → Work es → Work (ran n t es d).outs
ran_work n t [] d all = refl
ran_work n t (Say b ∷ es) d all = let own = and_parts (works b) (list_all says_work es) all in
    λ i. own.0 i && ran_work n t es d own.1 i
ran_work n t (Do w ∷ es) d all = ran_work n t es (worked w d) all
ran_work n t (Send to m ∷ es) d all = by (to == n) (ran_work n t es d all)
  where
    by : (b : Bool) → Work (ran n t es d).outs → Work (cond b (first_queued m (ran n t es d))
        (first_done (Send to m) (ran n t es d))).outs
    by true rest = rest
    by false rest = rest

handled_work : (n : ℕ) (h : Here) (v : Handled) → Work (outs_of v) → Work (ran_handled n h v).outs
handled_work n h (Void outs) all = ran_work n h.parts outs h.disk all
handled_work n h (Took t outs) all = ran_work n t outs h.disk all

all_work : (n : ℕ) (ms : List Message) (h : Here) → Work (handle_all n ms h).outs
all_work n [] h = refl
all_work n (m ∷ ms) h =
    let r = ran_handled n h (taken n h.disk h.parts n m) in
    work_both r.outs (handle_all n ms r.here).outs
    (handled_work n h (taken n h.disk h.parts n m) (taken_work n h.disk h.parts n m)) (all_work n ms r.here)

-- what they lead to comes behind what was done first
pub rounds_work : (n k : ℕ) (r : Ran) → (more : List Effect) × ((rounds n k r).outs ≡ r.outs ++ more) × Work more
rounds_work n zero r = ([], sym (append-nil r.outs), refl)
rounds_work n (suc k) r = by r.queue (rounds_work n k (next_round n r))
  where
    turn : List Effect
    turn = (handle_all n r.queue r.here).outs

    after : List Message → Ran
    after q = elim q [ [] ↦ r | m ∷ ms ↦ rounds n k (next_round n r) ]

    by : (q : List Message) → (more : List Effect) × ((rounds n k (next_round n r)).outs ≡ (r.outs ++ turn) ++ more) × Work more →
        (more : List Effect) × ((after q).outs ≡ r.outs ++ more) × Work more
    by [] rest = ([], sym (append-nil r.outs), refl)
    by (m ∷ ms) rest =
        (turn ++ rest.0, rest.1 ∙ append_assoc r.outs turn rest.0, work_both turn rest.0 (all_work n r.queue r.here) rest.2)
