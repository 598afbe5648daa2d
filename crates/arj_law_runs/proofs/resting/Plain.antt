-- What a node says in a quiesce: that no answer was given up, and no action aborted but by an answer that refuses its commit.
use Rattle.arj_law_parts.proofs.Words
use Words.{◌≡◌, ◌∙◌, ◌==◌, ◌&&◌, ℕ, zero, suc, Bool, true, false, cond, List, [], ◌∷◌, ◌++◌, map, filter, refl, sym, Option, Some, None, ⊤}
use Words.{◌||◌, not, option_map, list_all, and_parts, activate_own, all_both, all_flat, all_if, bind_own, confirm_own, ends_own}
use Words.{invoke_own, note_own, told_own, vote_own, Reply, actor, answers, asked_by, last_end, response, again_all, again_now, asks_all}
use Words.{asks_node, commits_in, end_line, heard, heard_by, heard_call, heard_doing, heard_none, heard_now, kept_at, mark_lines}
use Words.{moved_commit, root_moved, step_call, step_commit, waits_for_call, waits_for_commit, Answered, CallEnd, CallStep, Changed}
use Words.{Conflict, Ended, Goal, Included, Lost, On, Run, Steps, Aborts, Asks, CommitStep, Confirming, Decides, Machine, Marked, Plan}
use Words.{Preparing, Stays, Used, Voting, has_record, participants, plan_of, waiting, confirm, Calling, Committing, Coord, Doing, Idle}
use Words.{Now, doing_of, is_free, nodes_sent, on_root, root_at, servers_told, Disk, Effect, Intent, Pair, PutIntent, Say, Send, Do, Served}
use Words.{Prep, Ready, Already, Old, InDoubt, held_at, holder_of, is_prepared, prepare_answer, worked, acked, acked_by, acked_left}
use Words.{answer_decided, answer_query, answer_recorded, decided_told, ended, is_deferred, is_kept_commit, let_go, record_work}
use Words.{root_or_self, say_for, says, tell, tell_all, tolds_by, tolds_let_go, tolds_of, tolds_of_branch, up_to, Naming, Handled, Void}
use Words.{Took, Here, Parts, Ran, ack_told, by_reply, end_states, first_done, first_queued, handle, handle_all, handle_answer, handle_ask}
use Words.{handle_ends, handle_other, handle_told, holders, if_naming, is_earlier, is_meant, load_by, load_held, most_rounds, naming_told}
use Words.{next_round, prepare_by, prepare_states, query_about, ran, ran_handled, rounds, sends_answer, serve, served, store_told, taken}
use Words.{whole, with_coord, with_naming, with_server, at_uid, has, with_number, without_number, without_uid, AreAll, is_naming_effect}
use Words.{is_naming_line, is_server_effect, is_server_line, Node, Step, Tick, frame_step, handled_step, node_did, refusal, step_of}
use Words.{step_unless, tick_step, tolds_again, void_step, Branch, branch_of, ends_of, is_open, root_of, Ask, Asked, Body, Cause, End, Head}
use Words.{Header, Kind, Label, Message, ObjectState, Path, Uid, asks, object, uid_eq, is_plain, is_refusal}
use Words.calls
use Words.commit
use Words.naming
use Words.server
use Words.input as step
use Words.ask
use Words.body
use Words.confirmed
use Words.ending
use Words.kind
use Words.message
use Words.prepared
use Words.voted
use Rattle.arj_law_runs.proofs.Terms.{Frame}
use Rattle.arj_protocol.specs.{Asking.answer_line, Ending.is_over}

-- what an effect says is plain
abbrev pub says_plain : Effect → Bool
says_plain (Say b) = is_plain b
says_plain _ = true

abbrev pub Good : List Effect → Type 0
Good outs = AreAll says_plain outs

abbrev outs_of : Handled → List Effect
outs_of (Void outs) = outs
outs_of (Took t outs) = outs

-- Lines of a kind with no halt, no abort and no giveup are plain.
record IsApart (test : Body → Bool) : Type 0 where
  halted : (n : ℕ) → test (body.Halted n) ≡ false
  aborted : (m : Label) (why : Cause) → test (body.Aborted m why) ≡ false
  gave_up : (m : Label) (n : ℕ) → test (body.GaveUp m n) ≡ false

other_line : (test : Body → Bool) → IsApart test → (b : Body) → test b ≡ true → is_plain b ≡ true
other_line test none (body.Began a b c d) is = refl
other_line test none (body.Ok a b c d) is = refl
other_line test none (body.Includes a b c) is = refl
other_line test none (body.Conflict a b c d) is = refl
other_line test none (body.Lost a b) is = refl
other_line test none (body.Changed a b c) is = refl
other_line test none (body.Committing a) is = refl
other_line test none (body.Committed a) is = refl
other_line test none (body.Ended a) is = refl
other_line test none (body.Aborted a b) is = absurd (cc (sym is ∙ none.aborted a b))
other_line test none (body.GaveUp a b) is = absurd (cc (sym is ∙ none.gave_up a b))
other_line test none (body.Excluded a b c) is = refl
other_line test none (body.Granted a b c d) is = refl
other_line test none (body.Lowered a b c) is = refl
other_line test none (body.Bound a b c) is = refl
other_line test none (body.Active a b c) is = refl
other_line test none (body.Told a b c d) is = refl
other_line test none (body.Prepared a b c) is = refl
other_line test none (body.Done a b c d) is = refl
other_line test none (body.Sent a b c d) is = refl
other_line test none (body.Got a) is = refl
other_line test none (body.Void a) is = refl
other_line test none (body.Dropped a) is = refl
other_line test none (body.Halted a) is = absurd (cc (sym is ∙ none.halted a))
other_line test none (body.Up a b) is = refl
other_line test none (body.Armed a) is = refl
other_line test none (body.Recovered a b) is = refl
other_line test none (body.Refused a) is = refl
other_line test none (body.Entry a b c d) is = refl
other_line test none (body.Copy a b c d e) is = refl
other_line test none (body.Quiet a) is = refl
other_line test none (body.Bad a) is = refl
other_line test none (body.Limit a) is = refl

-- so are effects of such a kind
good_all : (test : Effect → Bool) (line : Body → Bool) → ((b : Body) → test (Say b) ≡ line b) → IsApart line → (es : List Effect) →
    AreAll test es → Good es
good_all test line same none [] all = refl
good_all test line same none (Say b ∷ es) all =
    let own = and_parts (test (Say b)) (list_all test es) all in
    let good = other_line line none b (sym (same b) ∙ own.0) in
    λ i. good i && good_all test line same none es own.1 i
good_all test line same none (Send to m ∷ es) all = good_all test line same none es (and_parts (test (Send to m)) (list_all test es) all).1
good_all test line same none (Do w ∷ es) all = good_all test line same none es (and_parts (test (Do w)) (list_all test es) all).1

server_good : (n : ℕ) (es : List Effect) → AreAll (is_server_effect n) es → Good es
server_good n = good_all (is_server_effect n) (is_server_line n) (λ b. refl)
    (record { halted = λ m. refl; aborted = λ m why. refl; gave_up = λ m j. refl })

naming_good : (es : List Effect) → AreAll is_naming_effect es → Good es
naming_good =
    good_all is_naming_effect is_naming_line (λ b. refl) (record { halted = λ m. refl; aborted = λ m why. refl; gave_up = λ m j. refl })

map_good : {A : Type 0} (f : A → Effect) (items : List A) → ((a : A) → says_plain (f a) ≡ true) → Good (map f items)
map_good f [] each = refl
map_good f (a ∷ rest) each = λ i. each a i && map_good f rest each i

-- ---- the coordinator

tells_good : (root : Uid) (ack : Bool) (ends : List (Uid × End)) (nodes : List ℕ) → Good (tell_all root ack ends nodes)
tells_good root ack ends nodes = map_good (tell root ack ends) nodes (λ n. refl)

says_good : (u : Uid) (f : Label → Body) (c : Coord) → ((l : Label) → is_plain (f l) ≡ true) → Good (says u f c)
says_good u f c each = by (doing_of u c)
  where
    by : (o : Option Doing) → Good (say_for f o)
    by None = refl
    by (Some d) = λ i. each d.label i && true

tolds_good : (intents : List (Uid × Intent)) (c : Coord) (u : Uid) → Good (tolds_of intents c u)
tolds_good intents c u = by (branch_of u c.tree)
  where
    kinds : (k : Kind) (p : Path) → Good (tolds_by u k p intents c)
    kinds kind.Nested p = tells_good (root_of p) false (up_to u (ends_of (root_of p) c.tree)) (servers_told u (root_at (root_of p) c) c)
    kinds kind.Serial p =
        tells_good u false ((u, ending.Abort) ∷ []) (filter (λ n. not (is_deferred u intents n)) (nodes_sent u (root_at u c)))
    kinds kind.Top p = tells_good (root_of p) false ((u, ending.Abort) ∷ []) (nodes_sent u (root_at (root_of p) c))
    kinds kind.Independent p = tells_good (root_of p) false ((u, ending.Abort) ∷ []) (nodes_sent u (root_at (root_of p) c))
    kinds kind.Constituent p = tells_good (root_of p) false ((u, ending.Abort) ∷ []) (nodes_sent u (root_at (root_of p) c))

    by : (b : Option Branch) → Good (tolds_of_branch u intents c b)
    by None = refl
    by (Some b) = kinds b.kind b.path

let_go_good : (u : Uid) (intents : List (Uid × Intent)) (c : Coord) (o : Option Intent) → Good (tolds_let_go u intents c o)
let_go_good u intents c None = refl
let_go_good u intents c (Some i) =
    all_if says_plain (not (uid_eq i.root u) && is_over (branch_of i.root c.tree))
    (tell_all i.root false ((i.root, ending.Abort) ∷ []) (let_go i.root intents c i.nodes)) []
    (tells_good i.root false ((i.root, ending.Abort) ∷ []) (let_go i.root intents c i.nodes)) refl

acked_good : (from : ℕ) (u : Uid) (intents : List (Uid × Intent)) (c : Coord) → Good (acked from u intents c).outs
acked_good from u intents c = by (at_uid u c.telling)
  where
    none : Served Coord (Unit {0})
    none = record { part = c; outs = []; reply = None }

    left : (i : Intent) (ns : List ℕ) → Good (acked_left u i intents c ns).outs
    left i [] = let_go_good u (without_uid u intents) c (at_uid u intents)
    left i (n ∷ ns) = refl

    waited : (i : Intent) (b : Bool) → Good (cond b (acked_left u i intents c (without_number from i.nodes)) none).outs
    waited i true = left i (without_number from i.nodes)
    waited i false = refl

    by : (o : Option Intent) → Good (acked_by from u intents c o).outs
    by None = refl
    by (Some i) = waited i (has i.nodes from)

query_good : (from : ℕ) (u : Uid) (intents : List (Uid × Intent)) (c : Coord) → Good (answer_query from u intents c)
query_good from u intents c = all_if says_plain (is_open u c.tree || is_deferred u intents from) []
    (answer_recorded from u c (at_uid u intents)) refl (by (at_uid u intents))
  where
    decided_so : Good (answer_decided from u c)
    decided_so = all_if says_plain (is_kept_commit from u c) (tell (root_or_self u (branch_of u c.tree)) false ((u, ending.Commit) ∷ [])
        from ∷ []) (tell (root_or_self u (branch_of u c.tree)) false ((u, ending.Abort) ∷ []) from ∷ []) refl refl

    by : (o : Option Intent) → Good (answer_recorded from u c o)
    by None = decided_so
    by (Some i) = all_if says_plain (has i.nodes from) (tell i.root true ((u, ending.Commit) ∷ []) from ∷ []) (answer_decided from u c)
        refl decided_so

asks_good : (p : Path) (req : ℕ) (asked : List (ℕ × Ask)) (c : Coord) → Good (asks_all p req asked c).outs
asks_good p req [] c = refl
asks_good p req (a ∷ rest) c = let d = asks_node p req a c in
    all_both says_plain d.outs (asks_all p req rest d.part).outs refl (asks_good p req rest d.part)

again_now_good : (c : Coord) (n : Now) → Good (again_now c n).outs
again_now_good c Idle = refl
again_now_good c (Calling s) = refl
again_now_good c (Committing m) = asks_good (plan_of m).path (plan_of m).req (waiting m) c

again_good : (ds : List Doing) (c : Coord) → Good (again_all ds c).outs
again_good [] c = refl
again_good (d ∷ ds) c = let t = again_now c d.now in
    all_both says_plain t.outs (again_all ds t.part).outs (again_now_good c d.now) (again_good ds t.part)

tolds_again_good : (telling : List (Uid × Intent)) → Good (tolds_again telling)
tolds_again_good telling = all_flat says_plain (λ (e : Uid × Intent). tell_all e.1.root true ((e.0, ending.Commit) ∷ []) e.1.nodes) telling
    (λ e. tells_good e.1.root true ((e.0, ending.Commit) ∷ []) e.1.nodes)

-- a call's end by an answer, and each of its steps
end_good : (x : ℕ) (g : Goal) (e : CallEnd) (l : Label) → is_plain (end_line x g e l) ≡ true
end_good x g (Answered a) l = by g
  where
    by : (h : Goal) → is_plain (answer_line x h a l) ≡ true
    by (Run o) = refl
    by (calls.Include s) = refl
end_good x g (Included s) l = refl
end_good x g (Conflict holder m n) l = refl
end_good x g (Changed n w) l = refl
end_good x g (Lost n sent) l = refl

step_call_good : (s : Steps) (t : CallStep) (c : Coord) → Good (step_call s t c).outs
step_call_good s (On at) c = refl
step_call_good s (Ended e) c = says_good (actor s.path) (end_line s.x s.goal e) c (end_good s.x s.goal e)

-- a commit aborts by an answer that refuses it
abbrev IsRefusing : CommitStep → Type 0
IsRefusing (Aborts why p) = is_refusal why ≡ true
IsRefusing (Stays m) = ⊤
IsRefusing (Asks m) = ⊤
IsRefusing (Decides p) = ⊤

confirm_refuses : (used : List Used) (p : Plan) → IsRefusing (commit.begin_confirm used p)
confirm_refuses [] p = tt
confirm_refuses (x ∷ xs) p = tt

prepare_refuses : (targets : List ℕ) (p : Plan) → IsRefusing (commit.begin_prepare targets p)
prepare_refuses [] p = confirm_refuses p.used p
prepare_refuses (s ∷ ss) p = tt

votes_refuse : (ns : List ℕ) (p : Plan) → IsRefusing (commit.votes_left ns p)
votes_refuse [] p = prepare_refuses (commit.targets_of p) p
votes_refuse (n ∷ ns) p = tt

stores_refuse : (ns : List ℕ) (p : Plan) → IsRefusing (commit.stores_left ns p).step
stores_refuse [] p = confirm_refuses p.used p
stores_refuse (n ∷ ns) p = tt

answer_refuses : (from : ℕ) (m : Machine) (r : Reply) → IsRefusing (commit.answered from m r).step
answer_refuses from (Voting p left) (Reply.Bound r) = tt
answer_refuses from (Voting p left) (Reply.Loaded r) = tt
answer_refuses from (Voting p left) (Reply.Activated r) = tt
answer_refuses from (Voting p left) (Reply.Noted r) = tt
answer_refuses from (Voting p left) (Reply.Invoked r) = tt
answer_refuses from (Voting p left) (Reply.Voted (voted.Yes states)) =
    votes_refuse (without_number from left) (record p { changed = commit.with_states states p.changed })
answer_refuses from (Voting p left) (Reply.Voted (voted.Changed w)) = refl
answer_refuses from (Voting p left) (Reply.Prepared r) = tt
answer_refuses from (Voting p left) (Reply.Confirmed r) = tt
answer_refuses from (Preparing p left) (Reply.Bound r) = tt
answer_refuses from (Preparing p left) (Reply.Loaded r) = tt
answer_refuses from (Preparing p left) (Reply.Activated r) = tt
answer_refuses from (Preparing p left) (Reply.Noted r) = tt
answer_refuses from (Preparing p left) (Reply.Invoked r) = tt
answer_refuses from (Preparing p left) (Reply.Voted r) = tt
answer_refuses from (Preparing p left) (Reply.Prepared prepared.Yes) =
    stores_refuse (without_number from left) (record p { prepared = with_number from p.prepared })
answer_refuses from (Preparing p left) (Reply.Prepared (prepared.InDoubt x holder)) =
    stores_refuse (without_number from left) (commit.marks_store from p)
answer_refuses from (Preparing p left) (Reply.Prepared (prepared.Old x v)) = refl
answer_refuses from (Preparing p left) (Reply.Confirmed r) = tt
answer_refuses from (Confirming p) (Reply.Bound r) = tt
answer_refuses from (Confirming p) (Reply.Loaded r) = tt
answer_refuses from (Confirming p) (Reply.Activated r) = tt
answer_refuses from (Confirming p) (Reply.Noted r) = tt
answer_refuses from (Confirming p) (Reply.Invoked r) = tt
answer_refuses from (Confirming p) (Reply.Voted r) = tt
answer_refuses from (Confirming p) (Reply.Prepared r) = tt
answer_refuses from (Confirming p) (Reply.Confirmed confirmed.Yes) = tt
answer_refuses from (Confirming p) (Reply.Confirmed (confirmed.Conflict holder m)) = refl
answer_refuses from (Confirming p) (Reply.Confirmed (confirmed.Changed w)) = refl
answer_refuses from (Confirming p) (Reply.Confirmed (confirmed.NoStores x)) = refl
answer_refuses from (Confirming p) (Reply.Confirmed (confirmed.Listed x s)) = refl

step_commit_good : (u : Uid) (s : CommitStep) (intents : List (Uid × Intent)) (c : Coord) → IsRefusing s →
    Good (step_commit u s intents c).outs
step_commit_good u (Stays m) intents c refuses = refl
step_commit_good u (Asks m) intents c refuses = asks_good (plan_of m).path (plan_of m).req (waiting m) (commits_in u m c)
step_commit_good u (Decides p) intents c refuses =
    let v = actor p.path in
    all_both says_plain (record_work v p ++ says v body.Committed c) (map (decided_told (root_of p.path) v p) p.sent)
    (all_both says_plain (record_work v p) (says v body.Committed c) (recorded (has_record p)) (says_good v body.Committed c (λ l. refl)))
    (map_good (decided_told (root_of p.path) v p) p.sent (λ n. told n (has (participants p) n)))
  where
    recorded : (b : Bool) → Good (cond b (Do (PutIntent (actor p.path) (record { root = root_of p.path; nodes = participants p })) ∷ []) [])
    recorded true = refl
    recorded false = refl

    told : (n : ℕ) (b : Bool) → says_plain (cond b (tell (root_of p.path) (has_record p) ((actor p.path, ending.Commit) ∷ []) n)
        (tell (root_of p.path) false ((actor p.path, ending.Abort) ∷ []) n)) ≡ true
    told n true = refl
    told n false = refl
step_commit_good u (Aborts why p) intents c refuses = all_both says_plain (says u (λ l. body.Aborted l why) c) (tolds_of intents
    (ended u ending.Abort c) u) (says_good u (λ l. body.Aborted l why) c (λ l. refuses)) (tolds_good intents (ended u ending.Abort c) u)

moved_commit_good : (u : Uid) (m : Marked) (intents : List (Uid × Intent)) (c : Coord) → IsRefusing m.step →
    Good (moved_commit u m intents c).outs
moved_commit_good u m intents c refuses =
    let t = step_commit u m.step intents c in
    all_both says_plain (mark_lines u m.marks c) t.outs
    (all_flat says_plain (λ (k : ℕ × ℕ). says u (λ l. body.Excluded l k.0 k.1) c) m.marks
    (λ k. says_good u (λ l. body.Excluded l k.0 k.1) c (λ l. refl)))
    (step_commit_good u m.step intents c refuses)

heard_good : (from : ℕ) (a : Asked) (r : Reply) (intents : List (Uid × Intent)) (c : Coord) → Good (heard from a r intents c).outs
heard_good from a r intents c = by (doing_of a.act c)
  where
    call_so : (s : Steps) (b : Bool) → let x : Served Coord (Unit {0}) = cond b (heard_by (heard_call s r c)) (heard_none c) in Good x.outs
    call_so s false = refl
    call_so s true =
        let m = calls.answered (is_free (root_of s.path) (actor s.path) s.x c) (kept_at s c) s.goal s.at r in
        step_call_good s m.step (on_root (root_of s.path) (root_moved s r m) c)

    commit_so : (m : Machine) (b : Bool) → let x : Served Coord (Unit {0}) = cond b
        (heard_by (moved_commit a.act (commit.answered from m r) intents c)) (heard_none c) in Good x.outs
    commit_so m false = refl
    commit_so m true = moved_commit_good a.act (commit.answered from m r) intents c (answer_refuses from m r)

    now : (n : Now) → Good (heard_now from a r intents c n).outs
    now Idle = refl
    now (Calling s) = call_so s (waits_for_call from a r s)
    now (Committing m) = commit_so m (waits_for_commit from a r m)

    by : (o : Option Doing) → Good (heard_doing from a r intents c o).outs
    by None = refl
    by (Some d) = now d.now

-- ---- messages

module _ (from : ℕ) (h : Head) where
  answer_good : (t : Parts) (outs : List Effect) (r : Option Reply) → Good outs → Good (outs_of (sends_answer from h t outs r))
  answer_good t outs None all = refl
  answer_good t outs (Some r) all = all_both says_plain outs (Send from (response (asked_by h) r) ∷ []) all refl

  served_good : {S R : Type 0} (put : S → Parts) (say : R → Reply) (r : Served S R) → Good r.outs → Good (outs_of (served from h put say r))
  served_good put say r all = answer_good (put r.part) r.outs (option_map say r.reply) all

  naming_served : {R : Type 0} (put : Naming → Parts) (say : R → Reply) (f : Naming → Served Naming R) (o : Option Naming) →
      ((n : Naming) → AreAll is_naming_effect (f n).outs) → Good (outs_of (if_naming (λ n. served from h put say (f n)) o))
  naming_served put say f None all = refl
  naming_served put say f (Some n) all = served_good put say (f n) (naming_good (f n).outs (all n))

  load_good : (x : ℕ) (d : Pair) (t : Parts) (holder : Option Uid) → Good (outs_of (load_by x d from h t holder))
  load_good x d t (Some holder) = refl
  load_good x d t None = by (held_at (object x) d)
    where
      by : (s : Option ObjectState) → Good (outs_of (load_held from h t s))
      by None = refl
      by (Some s) = refl

  prepare_good : (n : ℕ) (d : Pair) (states : List ObjectState) (t : Parts) → Good (outs_of (prepare_states n d states from h t))
  prepare_good n d states t = by (is_prepared (actor h.path) d)
    where
      answer : (p : Prep) → Good (outs_of (prepare_by n states from h t p))
      answer Ready = refl
      answer (Already u) = refl
      answer (Old u v) = refl
      answer (InDoubt u holder) = refl

      by : (b : Bool) → Good (outs_of (cond b (sends_answer from h t [] (Some (Reply.Prepared prepared.Yes)))
          (prepare_by n states from h t (prepare_answer (actor h.path) states d))))
      by true = refl
      by false = answer (prepare_answer (actor h.path) states d)

  serve_good : (n : ℕ) (d : Disk) (t : Parts) (a : Ask) → Good (outs_of (serve n d t from h a))
  serve_good n d t (ask.Bind x include avoid) = naming_served (with_naming t) Reply.Bound (naming.bind h.path x include avoid d.names)
      t.naming (bind_own h.path x include avoid d.names)
  serve_good n d t (ask.Load x) = load_good x d.store t (holder_of (object x) d.store)
  serve_good n d t (ask.Activate b st) = served_good (with_server t) Reply.Activated (server.activate n h.path b st t.server)
      (server_good n (server.activate n h.path b st t.server).outs (activate_own n h.path b st t.server))
  serve_good n d t (ask.Record x b i g) =
      naming_served (with_naming t) Reply.Noted (naming.note h.path x b i g) t.naming (note_own h.path x b i g)
  serve_good n d t (ask.Invoke x b i ends op) = served_good (with_server t) Reply.Invoked (server.invoke n h x b i ends op t.server)
      (server_good n (server.invoke n h x b i ends op t.server).outs (invoke_own n h x b i ends op t.server))
  serve_good n d t (ask.Vote i ties ends) = served_good (with_server t) Reply.Voted (server.vote n h.path i ties ends t.server)
      (server_good n (server.vote n h.path i ties ends t.server).outs (vote_own n h.path i ties ends t.server))
  serve_good n d t (ask.Prepare states) = prepare_good n d.store states t
  serve_good n d t (ask.Confirm grants excluded included) = naming_served (with_naming t) Reply.Confirmed
      (confirm h.path grants excluded included d.names) t.naming (confirm_own h.path grants excluded included d.names)

told_good : (n : ℕ) (d : Disk) (t : Parts) (from : ℕ) (ack : Bool) (ends : List (Uid × End)) (u : Uid) (e : End) →
    Good (outs_of (handle_told n d t from ack ends u e))
told_good n d t from ack ends u e =
    all_both says_plain (store_told n u e d.store ++ (naming_told u e d.names t.naming).outs ++ (server.told n ends t.server).outs)
    (ack_told from u ack)
    (all_both says_plain (store_told n u e d.store ++ (naming_told u e d.names t.naming).outs) (server.told n ends t.server).outs
    (all_both says_plain (store_told n u e d.store) (naming_told u e d.names t.naming).outs (store (is_prepared u d.store) e)
    (names t.naming))
    (server_good n (server.told n ends t.server).outs (ends_own n ends t.server)))
    (acks ack)
  where
    store : (b : Bool) (e : End) → Good (cond b (end_states n u e) [])
    store false e = refl
    store true ending.Commit = refl
    store true ending.Abort = refl

    names : (o : Option Naming) → Good (naming_told u e d.names o).outs
    names None = refl
    names (Some o) = naming_good (naming.told u e d.names o).outs (told_own u e d.names o)

    acks : (b : Bool) → Good (ack_told from u b)
    acks true = refl
    acks false = refl

reply_good : (t : Parts) (outs : List Effect) (r : Option (Unit {0})) → Good outs → Good (outs_of (by_reply t outs r))
reply_good t outs None all = refl
reply_good t outs (Some u) all = all

other_good : (n : ℕ) (d : Disk) (t : Parts) (from : ℕ) (m : Message) → Good (outs_of (handle_other n d t from m))
other_good n d t from (message.Told m) = by (last_end m.ends)
  where
    by : (o : Option (Uid × End)) → Good (outs_of (handle_ends n d t from m.ack m.ends o))
    by None = refl
    by (Some e) = told_good n d t from m.ack m.ends e.0 e.1
other_good n d t from (message.Acked m) = reply_good (with_coord t (acked from m.act d.intents t.coord).part)
    (acked from m.act d.intents t.coord).outs (acked from m.act d.intents t.coord).reply (acked_good from m.act d.intents t.coord)
other_good n d t from (message.Query m) = query_good from m.act d.intents t.coord
other_good n d t from (message.Hello m) = map_good query_about (filter (is_earlier m.node m.inc) (holders d t)) (λ u. refl)
other_good n d t from (message.Bind m) = refl
other_good n d t from (message.Bound m) = refl
other_good n d t from (message.Load m) = refl
other_good n d t from (message.Loaded m) = refl
other_good n d t from (message.Activate m) = refl
other_good n d t from (message.Activated m) = refl
other_good n d t from (message.RecordMsg m) = refl
other_good n d t from (message.Recorded m) = refl
other_good n d t from (message.Invoke m) = refl
other_good n d t from (message.Invoked m) = refl
other_good n d t from (message.Vote m) = refl
other_good n d t from (message.Voted m) = refl
other_good n d t from (message.Prepare m) = refl
other_good n d t from (message.Prepared m) = refl
other_good n d t from (message.Confirm m) = refl
other_good n d t from (message.Confirmed m) = refl

taken_good : (n : ℕ) (d : Disk) (t : Parts) (from : ℕ) (m : Message) → Good (outs_of (taken n d t from m))
taken_good n d t from m = by (is_meant t m)
  where
    answered : (a : Option (Asked × Reply)) → Good (outs_of (handle_answer n d t from m a))
    answered None = other_good n d t from m
    answered (Some a) = reply_good (with_coord t (heard from a.0 a.1 d.intents t.coord).part) (heard from a.0 a.1 d.intents t.coord).outs
        (heard from a.0 a.1 d.intents t.coord).reply (heard_good from a.0 a.1 d.intents t.coord)

    asked : (a : Option (Head × Ask)) → Good (outs_of (handle_ask n d t from m a))
    asked None = answered (answers m)
    asked (Some a) = serve_good from a.0 n d t a.1

    by : (b : Bool) → Good (outs_of (cond b (handle n d t from m) (Void [])))
    by true = asked (asks m)
    by false = refl

-- ---- a whole step

ran_good : (n : ℕ) (t : Parts) (es : List Effect) (d : Disk) → Good es → Good (ran n t es d).outs
ran_good n t [] d all = refl
ran_good n t (Say b ∷ es) d all = let own = and_parts (is_plain b) (list_all says_plain es) all in λ i. own.0 i && ran_good n t es d own.1 i
ran_good n t (Do w ∷ es) d all = ran_good n t es (worked w d) all
ran_good n t (Send to m ∷ es) d all = by (to == n) (ran_good n t es d all)
  where
    by : (b : Bool) → Good (ran n t es d).outs → Good (cond b (first_queued m (ran n t es d)) (first_done (Send to m) (ran n t es d))).outs
    by true rest = rest
    by false rest = rest

handled_good : (n : ℕ) (h : Here) (v : Handled) → Good (outs_of v) → Good (ran_handled n h v).outs
handled_good n h (Void outs) all = ran_good n h.parts outs h.disk all
handled_good n h (Took t outs) all = ran_good n t outs h.disk all

all_good : (n : ℕ) (ms : List Message) (h : Here) → Good (handle_all n ms h).outs
all_good n [] h = refl
all_good n (m ∷ ms) h =
    let r = ran_handled n h (taken n h.disk h.parts n m) in
    all_both says_plain r.outs (handle_all n ms r.here).outs
    (handled_good n h (taken n h.disk h.parts n m) (taken_good n h.disk h.parts n m)) (all_good n ms r.here)

rounds_good : (n k : ℕ) (r : Ran) → Good r.outs → Good (rounds n k r).outs
rounds_good n zero r all = all
rounds_good n (suc k) r all = by r.queue
    (rounds_good n k (next_round n r) (all_both says_plain r.outs (handle_all n r.queue r.here).outs all (all_good n r.queue r.here)))
  where
    after : List Message → Ran
    after q = elim q [ [] ↦ r | m ∷ ms ↦ rounds n k (next_round n r) ]

    by : (q : List Message) → Good (rounds n k (next_round n r)).outs → Good (after q).outs
    by [] more = all
    by (m ∷ ms) more = more

did_good : (n : Node) (before : List Effect) (t : Parts) (outs : List Effect) → Good before → Good outs →
    Good (node_did n before t outs).outs
did_good n before t outs first all = all_both says_plain before (whole n.number t outs n.disk).outs first
    (rounds_good n.number most_rounds (ran n.number t outs n.disk) (ran_good n.number t outs n.disk all))

-- both of a step
abbrev pub Both : Step → Type 0
Both s = Good s.outs × Good s.halting

did_both : (n : Node) (before : List Effect) (t : Parts) (outs : List Effect) → Good before → Good outs → Both (node_did n before t outs)
did_both n before t outs first all = (did_good n before t outs first all, did_good n before t outs first all)

void_both : (k : ℕ) (n : Node) (outs : List Effect) → Good outs → Both (void_step k n outs)
void_both k n outs all = (all_both says_plain outs (Say (body.Void k) ∷ []) all refl, all)

frame_both : (k from : ℕ) (n : Node) (t : Parts) (m : Option Message) → Both (frame_step k from n t m)
frame_both k from n t None = void_both k n [] refl
frame_both k from n t (Some m) = by (taken n.number n.disk t from m) (taken_good n.number n.disk t from m)
  where
    by : (v : Handled) → Good (outs_of v) → Both (handled_step k n v)
    by (Void outs) all = void_both k n outs all
    by (Took u outs) all = did_both n (Say (body.Got k) ∷ []) u outs refl all

tick_both : (n : Node) (t : Parts) → Both (tick_step n t)
tick_both n t =
    let d = again_all t.coord.doings t.coord in
    did_both n [] (with_coord t d.part) (d.outs ++ tolds_again t.coord.telling ++ map query_about (holders n.disk t)) refl
    (all_both says_plain (d.outs ++ tolds_again t.coord.telling) (map query_about (holders n.disk t))
    (all_both says_plain d.outs (tolds_again t.coord.telling) (again_good t.coord.doings t.coord) (tolds_again_good t.coord.telling))
    (map_good query_about (holders n.disk t) (λ u. refl)))

pub frame_plain : (hd : Header) (k from : ℕ) (n : Node) (m : Option Message) → Both (step.step hd n (Frame k from m))
frame_plain hd k from n m = by (refusal hd (Frame k from m) n)
  where
    live : (o : Option Parts) → Both (step_of hd (Frame k from m) n o)
    live None = void_both k n [] refl
    live (Some t) = frame_both k from n t m

    by : (r : Option ℕ) → Both (step_unless hd (Frame k from m) n r)
    by (Some c) = (refl, refl)
    by None = live n.live

pub tick_plain : (hd : Header) (n : Node) → Both (step.step hd n Tick)
tick_plain hd n = by (refusal hd Tick n)
  where
    live : (o : Option Parts) → Both (step_of hd Tick n o)
    live None = (refl, refl)
    live (Some t) = tick_both n t

    by : (r : Option ℕ) → Both (step_unless hd Tick n r)
    by (Some c) = (refl, refl)
    by None = live n.live
