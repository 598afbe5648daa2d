-- Ends that are told are few: one, or those that a root lists up to one of them.
use Rattle.arj_law_parts.proofs.Words
use Words.{◌≡◌, ◌≤◌, ◌++◌, ◌+◌, ◌||◌, ◌&&◌, arith, ℕ, Bool, true, false, cond, not, List, [], ◌∷◌, filter, length, map, Option, Some, None}
use Words.{refl, sym}
use Words.{subst, inl, inr, ⊎_elim, ⊤, AllByRecursion, actor, asked_by, next_node, give_up_call, Moved, PutIntent, Ask, Asked, Body, End}
use Words.{Head, Header, Kind, Label, Message, Path, Uid, asks, request, Reply}
use Words.{response, again_all, again_now, asks_all, asks_node, begin_action, call, call_steps, commit_action, commit_open, commit_top}
use Words.{commits_in, end_line, gaveup_lines, give_up, give_up_doing, gives_up, goes_on, heard, heard_by, heard_call, heard_doing}
use Words.{heard_none, heard_now, include, is_serial, last_req, mark_lines, moved_commit, step_call, step_commit, waits_for_call}
use Words.{waits_for_commit, CallStep, Ended, On, Steps, answered, given_up, kept_at, Aborts, Asks, CommitStep, Decides, Marked, Plan}
use Words.{Stays}
use Words.{has_record, nodes_given_up, participants, plan_of, waiting, Calling, Committing, Coord, Doing, Idle, Now, doing_of, is_free}
use Words.{plan_for}
use Words.{root_at, Did, Disk, Do, Effect, Intent, Say, Send, Served, worked, abort_action, aborts_with, acked, acked_by, acked_left}
use Words.{all_aborted}
use Words.{answer_decided, answer_query, answer_recorded, decide, decided_told, ended, ends_with, is_deferred, is_kept_commit, let_go}
use Words.{record_work, root_lost, root_moved, on_root, on_doing, root_or_self, say_for, says, tell, tell_all, tolds_by, tolds_let_go}
use Words.{tolds_of}
use Words.{tolds_of_branch, up_to, nodes_sent, servers_told, at_uid, has, without_number, without_uid, tick_outs, Parts, Took, handle}
use Words.{holders, query_about, with_coord, Input, acts, branch_named, on_branch, parent_of, parts_in, restart_outs, tolds_again, Branch}
use Words.{branch_of, ends_of, is_open, open_below, root_of, uid_eq, Post, Seen, flat_map}
use Words.{asks_step, next_ask, keeping_of, renewed, next_req, with_keeping, uses_object, start, unbound}
use Words.calls
use Words.ask
use Words.body
use Words.cause
use Words.ending
use Words.kind
use Words.message
use Words.commit
use Words.input
use Rattle.arj_law_promise.proofs.Terms
use Terms.{In, KeepsAsked, is_over, Up, Walks, all_append, all_map, given, up, walks_both}
use Rattle.arj_law_lock_view.proofs.running.LeftSteps.{AreSentTo, IsPlain}
use Rattle.arj_law_parts.specs.told.Sends.{HasFewEnds}
use Rattle.arj_law_promise.proofs.meant.Posts.{end_of}
use Rattle.arj_law_serial.proofs.joint.Restarting.{restart_said}
use Rattle.arj_law_serial.proofs.whole.CoordCases.{CoordCase, coord_case}
use Rattle.arj_law_serial.proofs.whole.CoordCases as cases

-- a message tells of few ends, if it tells of some
abbrev pub ToldFew : Message → Type 0
ToldFew (message.Told m) = length m.ends ≤ 255
ToldFew m = ⊤

-- so it is of each message that was sent
abbrev pub ToldsFew : Seen → Type 0
ToldsFew M = (p : Post) → In p M.sent → ToldFew p.message

abbrev Tells : Effect → Type 0
Tells (Send to m) = ToldFew m
Tells (Say b) = ⊤
Tells (Do w) = ⊤

abbrev AllTell : List Effect → Type 0
AllTell outs = AllByRecursion Tells outs

-- ---- pieces

both : (es fs : List Effect) → AllTell es → AllTell fs → AllTell (es ++ fs)
both es fs a b = all_append Tells es fs a b

flat : {A : Type 0} (f : A → List Effect) (xs : List A) → ((x : A) → AllTell (f x)) → AllTell (flat_map f xs)
flat f [] each = tt
flat f (x ∷ xs) each = both (f x) (flat_map f xs) (each x) (flat f xs each)

said : (u : Uid) (f : Label → Body) (c : Coord) → AllTell (says u f c)
said u f c = by (doing_of u c)
  where
    by : (o : Option Doing) → AllTell (say_for f o)
    by None = tt
    by (Some d) = (tt, tt)

requests : (h : Head) (a : Ask) → ToldFew (request h a)
requests h (ask.Bind x include avoid) = tt
requests h (ask.Load x) = tt
requests h (ask.Activate b st) = tt
requests h (ask.Record x b i g) = tt
requests h (ask.Invoke x b i ends op) = tt
requests h (ask.Vote i ties ends) = tt
requests h (ask.Prepare states) = tt
requests h (ask.Confirm grants ex inc) = tt

responses : (a : Asked) (r : Reply) → ToldFew (response a r)
responses a (Reply.Bound r) = tt
responses a (Reply.Loaded r) = tt
responses a (Reply.Activated i) = tt
responses a (Reply.Noted r) = tt
responses a (Reply.Invoked r) = tt
responses a (Reply.Voted r) = tt
responses a (Reply.Prepared r) = tt
responses a (Reply.Confirmed r) = tt

told_all : (root : Uid) (ack : Bool) (ends : List (Uid × End)) (ns : List ℕ) → length ends ≤ 255 → AllTell (tell_all root ack ends ns)
told_all root ack ends [] few = tt
told_all root ack ends (n ∷ ns) few = (few, told_all root ack ends ns few)

one : (u : Uid) (e : End) → length {A = Uid × End} ((u, e) ∷ []) ≤ 255
one u e = omega arith

up_shorter : (u : Uid) (es : List (Uid × End)) → length (up_to u es) ≤ length es
up_shorter u [] = omega arith
up_shorter u (e ∷ es) = by (uid_eq e.0 u) (up_shorter u es)
  where
    by : (b : Bool) → length (up_to u es) ≤ length es → length (cond b (e ∷ []) (e ∷ up_to u es)) ≤ length (e ∷ es)
    by true ih = omega arith
    by false ih = omega (arith, ih)

tolds_few : (intents : List (Uid × Intent)) (c : Coord) (u : Uid) → HasFewEnds c.tree → AllTell (tolds_of intents c u)
tolds_few intents c u few = by (branch_of u c.tree)
  where
    kinds : (p : Path) (k : Kind) → AllTell (tolds_by u k p intents c)
    kinds p kind.Nested =
        let less = up_shorter u (ends_of (root_of p) c.tree) in
        let most = few (root_of p) in
        told_all (root_of p) false (up_to u (ends_of (root_of p) c.tree)) (servers_told u (root_at (root_of p) c) c) (omega (
          arith,
          less,
          most,
        ))
    kinds p kind.Serial = told_all u false ((
      u,
      ending.Abort,
    ) ∷ []) (filter (λ n. not (is_deferred u intents n)) (nodes_sent u (root_at u c)))
        (one u ending.Abort)
    kinds p kind.Top = told_all (root_of p) false ((u, ending.Abort) ∷ []) (nodes_sent u (root_at (root_of p) c)) (one u ending.Abort)
    kinds p kind.Independent =
        told_all (root_of p) false ((u, ending.Abort) ∷ []) (nodes_sent u (root_at (root_of p) c)) (one u ending.Abort)
    kinds p kind.Constituent =
        told_all (root_of p) false ((u, ending.Abort) ∷ []) (nodes_sent u (root_at (root_of p) c)) (one u ending.Abort)

    by : (o : Option Branch) → AllTell (tolds_of_branch u intents c o)
    by None = tt
    by (Some b) = kinds b.path b.kind

-- ---- what a coordinator does

-- where what it comes to lists few ends, it tells of few
abbrev If : Did Coord → Type 0
If d = HasFewEnds (let c = d.part in c.tree) → AllTell d.outs

ends_if : (u : Uid) (e : End) (f : Label → Body) (intents : List (Uid × Intent)) (c : Coord) → If (ends_with u e f intents c)
ends_if u e f intents c few = both (says u f c) (tolds_of intents (ended u e c) u) (said u f c) (tolds_few intents (ended u e c) u few)

decided : (p : Plan) (c : Coord) → AllTell (decide p c).outs
decided p c = both (record_work u p ++ says u body.Committed c) (map (decided_told (root_of p.path) u p) p.sent)
    (both (record_work u p) (says u body.Committed c) (recorded (has_record p)) (said u body.Committed c)) (each p.sent)
  where
    u : Uid
    u = actor p.path

    recorded : (b : Bool) → AllTell (cond b (Do (PutIntent u (record { root = root_of p.path; nodes = participants p })) ∷ []) [])
    recorded true = (tt, tt)
    recorded false = tt

    told : (n : ℕ) (b : Bool) → Tells (cond b (tell (root_of p.path) (has_record p) ((u, ending.Commit) ∷ []) n)
        (tell (root_of p.path) false ((u, ending.Abort) ∷ []) n))
    told n true = one u ending.Commit
    told n false = one u ending.Abort

    each : (ns : List ℕ) → AllTell (map (decided_told (root_of p.path) u p) ns)
    each [] = tt
    each (n ∷ ns) = (told n (has (participants p) n), each ns)

asked : (p : Path) (req : ℕ) (as_asked : List (ℕ × Ask)) (c : Coord) → AllTell (asks_all p req as_asked c).outs
asked p req [] c = tt
asked p req (a ∷ rest) c = (requests (record { path = p; req = req }) a.1, asked p req rest (asks_node p req a c).part)

went : (s : Steps) (c : Coord) → AllTell (asks_step s c).outs
went s c = (requests (record { path = s.path; req = s.req }) (next_ask (ends_of (root_of s.path) c.tree) s), tt)

goes : (s : Steps) (c : Coord) → AllTell (goes_on s c).outs
goes s c = went s (on_doing (actor s.path) (λ (d : Doing). record d { req = s.req; now = Calling s }) c)

step_if : (u : Uid) (s : CommitStep) (intents : List (Uid × Intent)) (c : Coord) → If (step_commit u s intents c)
step_if u (Stays m) intents c few = tt
step_if u (Asks m) intents c few = asked (plan_of m).path (plan_of m).req (waiting m) (commits_in u m c)
step_if u (Decides p) intents c few = decided p c
step_if u (Aborts why p) intents c few = ends_if u ending.Abort (λ l. body.Aborted l why) intents c few

moved_if : (u : Uid) (m : Marked) (intents : List (Uid × Intent)) (c : Coord) → If (moved_commit u m intents c)
moved_if u m intents c few = both (mark_lines u m.marks c) (step_commit u m.step intents c).outs
    (flat (λ (x : ℕ × ℕ). says u (λ l. body.Excluded l x.0 x.1) c) m.marks (λ x. said u (λ l. body.Excluded l x.0 x.1) c))
    (step_if u m.step intents c few)

commit_if : (b : Branch) (intents : List (Uid × Intent)) (c : Coord) → If (commit_action b intents c)
commit_if b intents c = doomed b.doomed
  where
    u : Uid
    u = actor b.path

    plan : Marked
    plan = commit.start (plan_for b.path (last_req (doing_of u c)) (root_at (root_of b.path) c) c)

    top : If (commit_top b.path intents c)
    top few = both (says u body.Committing c) (moved_commit u plan intents c).outs (said u body.Committing c) (moved_if u plan intents c
        few)

    kinds : (k : Kind) → If (commit_open b intents c k)
    kinds kind.Nested few = ends_if u ending.Commit body.Committed intents c few
    kinds kind.Serial few = ends_if u ending.Commit body.Ended intents c few
    kinds kind.Top few = top few
    kinds kind.Independent few = top few
    kinds kind.Constituent few = top few

    doomed : (d : Bool) → If (cond {A = Did Coord} d (aborts_with u cause.Doomed intents c) (commit_open b intents c b.kind))
    doomed true few = ends_if u ending.Abort (λ l. body.Aborted l cause.Doomed) intents c few
    doomed false few = kinds b.kind few

stepped : (s : Steps) (n : CallStep) (c : Coord) → AllTell (step_call s n c).outs
stepped s (On at) c = goes (record s { req = s.req + 1; at = at }) c
stepped s (Ended e) c = said (actor s.path) (end_line s.x s.goal e) c

aborted_lines : (us : List Uid) (c : Coord) → AllTell (all_aborted us c).outs
aborted_lines [] c = tt
aborted_lines (u ∷ us) c = both (says u (λ l. body.Aborted l cause.Asked) c) (all_aborted us (ended u ending.Abort c)).outs
    (said u (λ l. body.Aborted l cause.Asked) c) (aborted_lines us (ended u ending.Abort c))

abort_if : (u : Uid) (intents : List (Uid × Intent)) (c : Coord) → If (abort_action u intents c)
abort_if u intents c few =
    let us = open_below u c.tree ++ u ∷ [] in
    let t = all_aborted us c in
    both t.outs (flat_map (tolds_of intents t.part) us) (aborted_lines us c)
    (flat (tolds_of intents t.part) us (λ w. tolds_few intents t.part w few))

give_if : (u : Uid) (intents : List (Uid × Intent)) (c : Coord) → If (give_up u intents c)
give_if u intents c = by (doing_of u c)
  where
    lines : (ns : List ℕ) → AllTell (gaveup_lines u ns c)
    lines ns = flat (λ n. says u (λ l. body.GaveUp l n) c) ns (λ n. said u (λ l. body.GaveUp l n) c)

    now : (n : Now) → If (gives_up u intents c n)
    now Idle few = tt
    now (Calling s) few = both (gaveup_lines u (next_node s ∷ []) c) (give_up_call s c).outs (lines (next_node s ∷ []))
        (stepped s (given_up s.at) (on_root (root_of s.path) (root_lost s (given_up s.at)) c))
    now (Committing m) few = both (gaveup_lines u (nodes_given_up m) c) (moved_commit u (commit.given_up m) intents c).outs
        (lines (nodes_given_up m)) (moved_if u (commit.given_up m) intents c few)

    by : (o : Option Doing) → If (give_up_doing u intents c o)
    by None few = tt
    by (Some d) few = now d.now few

acts_if : (i : Input) (intents : List (Uid × Intent)) (c : Coord) → If (acts i intents c)
acts_if (input.Begin l k parent) intents c = λ few. (tt, tt)
acts_if (input.Call l x o) intents c = λ few. by (branch_named l c)
  where
    by : (f : Option Branch) → AllTell (on_branch (λ b. call b.path x o c) c f).outs
    by None = tt
    by (Some b) =
        let p = b.path in
        let r = root_at (root_of p) c in
        let old = keeping_of x r in
        let k = renewed (is_free (root_of p) (actor p) x c) old old.kept in
        goes (call_steps p x o (next_req (actor p) c) r c k)
        (on_root (root_of p) (with_keeping x k) (record c { tree = uses_object p x c.tree }))
acts_if (input.Include l x s) intents c = λ few. by (branch_named l c)
  where
    by : (f : Option Branch) → AllTell (on_branch (λ b. include b.path x s c) c f).outs
    by None = tt
    by (Some b) = goes (start b.path x (calls.Include s) None unbound (next_req (actor b.path) c))
        (record c { tree = uses_object b.path x c.tree })
acts_if (input.Commit l) intents c = by (branch_named l c)
  where
    by : (f : Option Branch) → If (on_branch (λ b. commit_action b intents c) c f)
    by None few = tt
    by (Some b) few = commit_if b intents c few
acts_if (input.Abort l) intents c = by (branch_named l c)
  where
    by : (f : Option Branch) → If (on_branch (λ b. abort_action (actor b.path) intents c) c f)
    by None few = tt
    by (Some b) few = abort_if (actor b.path) intents c few
acts_if (input.GiveUp l) intents c = by (branch_named l c)
  where
    by : (f : Option Branch) → If (on_branch (λ b. give_up (actor b.path) intents c) c f)
    by None few = tt
    by (Some b) few = give_if (actor b.path) intents c few
acts_if (input.Frame k from m) intents c = λ few. tt
acts_if input.Tick intents c = λ few. tt
acts_if input.Restart intents c = λ few. tt
acts_if input.Crash intents c = λ few. tt
acts_if (input.Show x) intents c = λ few. tt

heard_if : (from : ℕ) (a : Asked) (r : Reply) (intents : List (Uid × Intent)) (c : Coord) →
    HasFewEnds (let q = heard from a r intents c in let e = q.part in e.tree) → AllTell (heard from a r intents c).outs
heard_if from a r intents c = by (doing_of a.act c)
  where
    Heard : Served Coord (Unit {0}) → Type 0
    Heard q = HasFewEnds (let e = q.part in e.tree) → AllTell q.outs

    now : (n : Now) → HasFewEnds (let q = heard_now from a r intents c n in let e = q.part in e.tree) →
        AllTell (heard_now from a r intents c n).outs
    now Idle few = tt
    now (Calling s) few = one_of (waits_for_call from a r s)
      where
        m : Moved
        m = answered (is_free (root_of s.path) (actor s.path) s.x c) (kept_at s c) s.goal s.at r

        one_of : (w : Bool) → AllTell (cond {A = Served Coord (Unit {0})} w (heard_by (heard_call s r c)) (heard_none c)).outs
        one_of true = stepped s m.step (on_root (root_of s.path) (root_moved s r m) c)
        one_of false = tt
    now (Committing m) few = one_of (waits_for_commit from a r m) few
      where
        one_of : (w : Bool) → HasFewEnds (let q = cond {A = Served Coord (Unit {0})} w
            (heard_by (moved_commit a.act (commit.answered from m r) intents c)) (heard_none c) in let e = q.part in e.tree) →
            AllTell (cond {A = Served Coord (Unit {0})} w (heard_by (moved_commit a.act (commit.answered from m r) intents c)) (heard_none
            c)).outs
        one_of true few_now = moved_if a.act (commit.answered from m r) intents c few_now
        one_of false few_now = tt

    by : (o : Option Doing) → HasFewEnds (let q = heard_doing from a r intents c o in let e = q.part in e.tree) →
        AllTell (heard_doing from a r intents c o).outs
    by None few = tt
    by (Some d) few = now d.now few

acked_few : (from : ℕ) (u : Uid) (intents : List (Uid × Intent)) (c : Coord) → AllTell (acked from u intents c).outs
acked_few from u intents c = by (at_uid u c.telling)
  where
    let_go_few : (b : Bool) (i : Intent) (ns : List ℕ) → AllTell (cond b (tell_all i.root false ((i.root, ending.Abort) ∷ []) ns) [])
    let_go_few true i ns = told_all i.root false ((i.root, ending.Abort) ∷ []) ns (one i.root ending.Abort)
    let_go_few false i ns = tt

    rest : (o : Option Intent) → AllTell (tolds_let_go u (without_uid u intents) c o)
    rest None = tt
    rest (Some i) = let_go_few (not (uid_eq i.root u) && is_over (branch_of i.root c.tree)) i (let_go i.root (without_uid u intents) c
        i.nodes)

    gone : (i : Intent) (ns : List ℕ) → AllTell (acked_left u i intents c ns).outs
    gone i [] = (tt, rest (at_uid u intents))
    gone i (n ∷ ns) = tt

    by : (o : Option Intent) → AllTell (acked_by from u intents c o).outs
    by None = tt
    by (Some i) = one_of (has i.nodes from)
      where
        one_of : (b : Bool) → AllTell (cond {A = Served Coord (Unit {0})} b (acked_left u i intents c (without_number from i.nodes))
            (record { part = c; outs = []; reply = None })).outs
        one_of true = gone i (without_number from i.nodes)
        one_of false = tt

query_few : (from : ℕ) (u : Uid) (intents : List (Uid × Intent)) (c : Coord) → AllTell (answer_query from u intents c)
query_few from u intents c = by (is_open u c.tree || is_deferred u intents from)
  where
    decided_so : (b : Bool) → AllTell (cond b (tell (root_or_self u (branch_of u c.tree)) false ((u, ending.Commit) ∷ []) from ∷ [])
        (tell (root_or_self u (branch_of u c.tree)) false ((u, ending.Abort) ∷ []) from ∷ []))
    decided_so true = (one u ending.Commit, tt)
    decided_so false = (one u ending.Abort, tt)

    listed : (i : Intent) (b : Bool) → AllTell (cond b (tell i.root true ((u, ending.Commit) ∷ []) from ∷ []) (answer_decided from u c))
    listed i true = (one u ending.Commit, tt)
    listed i false = decided_so (is_kept_commit from u c)

    recorded : (o : Option Intent) → AllTell (answer_recorded from u c o)
    recorded None = decided_so (is_kept_commit from u c)
    recorded (Some i) = listed i (has i.nodes from)

    by : (b : Bool) → AllTell (cond b [] (answer_recorded from u c (at_uid u intents)))
    by true = tt
    by false = recorded (at_uid u intents)

again_few : (telling : List (Uid × Intent)) → AllTell (tolds_again telling)
again_few telling = flat (λ (e : Uid × Intent). tell_all e.1.root true ((e.0, ending.Commit) ∷ []) e.1.nodes) telling
    (λ e. told_all e.1.root true ((e.0, ending.Commit) ∷ []) e.1.nodes (one e.0 ending.Commit))

tick_few : (k : ℕ) (d : Disk) (t : Parts) → AllTell (tick_outs (record { number = k; disk = d; live = Some t }) t)
tick_few k d t = both ((again_all t.coord.doings t.coord).outs ++ tolds_again t.coord.telling) (map query_about (holders d t))
    (both (again_all t.coord.doings t.coord).outs (tolds_again t.coord.telling) (asked_again t.coord.doings t.coord)
    (again_few t.coord.telling)) (all_map Tells query_about (holders d t) (λ u. tt))
  where
    now : (c : Coord) (n : Now) → AllTell (again_now c n).outs
    now c Idle = tt
    now c (Calling s) = went s c
    now c (Committing m) = asked (plan_of m).path (plan_of m).req (waiting m) c

    asked_again : (ds : List Doing) (c : Coord) → AllTell (again_all ds c).outs
    asked_again [] c = tt
    asked_again (z ∷ ds) c = both (again_now c z.now).outs (again_all ds (again_now c z.now).part).outs (now c z.now)
        (asked_again ds (again_now c z.now).part)

-- ---- what a node sends

plain_few : (z : Message) → IsPlain z → ToldFew z
plain_few (message.Acked m) is = tt
plain_few (message.Query m) is = tt
plain_few (message.Bind m) is = absurd is
plain_few (message.Bound m) is = absurd is
plain_few (message.Load m) is = absurd is
plain_few (message.Loaded m) is = absurd is
plain_few (message.Activate m) is = absurd is
plain_few (message.Activated m) is = absurd is
plain_few (message.RecordMsg m) is = absurd is
plain_few (message.Recorded m) is = absurd is
plain_few (message.Invoke m) is = absurd is
plain_few (message.Invoked m) is = absurd is
plain_few (message.Vote m) is = absurd is
plain_few (message.Voted m) is = absurd is
plain_few (message.Prepare m) is = absurd is
plain_few (message.Prepared m) is = absurd is
plain_few (message.Confirm m) is = absurd is
plain_few (message.Confirmed m) is = absurd is
plain_few (message.Told m) is = absurd is
plain_few (message.Hello m) is = absurd is

parts_few : (from : ℕ) (q : Option (Head × Ask)) (outs : List Effect) → AreSentTo from q outs → AllTell outs
parts_few from q [] sent = tt
parts_few from q (Say b ∷ es) sent = (tt, parts_few from q es (λ to z i. sent to z (inr i)))
parts_few from q (Do w ∷ es) sent = (tt, parts_few from q es (λ to z i. sent to z (inr i)))
parts_few from None (Send to m ∷ es) sent = (plain_few m (sent to m (inl refl)), parts_few from None es (λ n z i. sent n z (inr i)))
parts_few from (Some q) (Send to m ∷ es) sent = (
  (let s = sent to m (inl refl) in let a = s.1 in subst ToldFew (sym a.1) (responses (asked_by q.0) a.0)),
  parts_few from (Some q) es (λ n z i. sent n z (inr i)),
)

message_few : (k : ℕ) (d : Disk) (t v : Parts) (from : ℕ) (m : Message) (outs : List Effect) → handle k d t from m ≡ Took v outs →
    HasFewEnds (let c = v.coord in c.tree) → AllTell outs
message_few k d t v from m outs is few = by (coord_case k d t v from m outs is)
  where
    by : CoordCase d t from m v outs → AllTell outs
    by (cases.OfParts mine same plain sent_to) = parts_few from (asks m) outs sent_to
    by (cases.Asks u query same outs_are) = subst AllTell outs_are (query_few from u d.intents t.coord)
    by (cases.Heard a r some same outs_are) = subst AllTell outs_are
        (heard_if from a r d.intents t.coord (subst (λ (c : Coord). HasFewEnds c.tree) (sym same) few))
    by (cases.Acks u which same outs_are) = subst AllTell outs_are (acked_few from u d.intents t.coord)

walk : (e k : ℕ) (v : Parts) (outs : List Effect) (d : Disk) (M : Seen) → AllTell outs → ToldsFew M →
    Walks ToldsFew e k outs (Up ToldsFew k v) d M
walk e k v [] d M few all = all
walk e k v (Do x ∷ es) d M few all = ((λ how. all), walk e k v es (worked x d) M few.1 all)
walk e k v (Say b ∷ es) d M few all = walk e k v es d _ few.1 all
walk e k v (Send to m ∷ es) d M few all = λ more quiet. walk e k v es d _ few.1
    (λ p there. ⊎_elim (λ same. subst (λ (q : Post). ToldFew q.message) same few.0) (λ old. all p old) there)

-- beside what is kept by every handler, where that gives few ends of each root
pub tolds_keep : (hd : Header) (R : Seen → Type 0) → KeepsAsked hd R → ((k : ℕ) (d : Disk) (t : Parts) (M : Seen) → R (up k d t M) →
    HasFewEnds (let c = t.coord in c.tree)) → KeepsAsked hd (λ M. R M × ToldsFew M)
tolds_keep hd R keeps room = record {
  quiet = λ e bs M quiet g. (keeps.quiet e bs M quiet g.0, g.1);
  stop = λ e k d live M g. (keeps.stop e k d live M g.0, g.1);
  message = λ e k d t v from m outs M g there meant is.
      beside e k outs v d M (message_few k d t v from m outs is) (keeps.message e k d t v from m outs M g.0 there meant is) g.1;
  act = λ e k d t i M is asks_node_so free g. let did = acts i d.intents t.coord in
      beside e k did.outs (with_coord t did.part) d M (acts_if i d.intents t.coord) (keeps.act e k d t i M is asks_node_so free g.0) g.1;
  begin = λ e k d t l how parent M new may free g. let did = begin_action l how parent (parent_of parent t.coord) t.coord in
      beside e k did.outs (with_coord t did.part) d (given l (record { node = k; serial = is_serial how }) M) (λ few. (tt, tt))
      (keeps.begin e k d t l how parent M new may free g.0) g.1;
  tick = λ e k d t M g. beside e k (tick_outs (record { number = k; disk = d; live = Some t }) t)
      (with_coord t (again_all t.coord.doings t.coord).part) d M (λ few. tick_few k d t) (keeps.tick e k d t M g.0) g.1;
  restart = λ e k d M g. beside e k (restart_outs hd k (d.inc + 1) d) (parts_in k (d.inc + 1) d) d M
      (λ few. restart_said Tells (λ b. tt) hd k (d.inc + 1) d tt tt (again_few d.intents) (λ u. tt) (λ n. tt)) (keeps.restart e k d M g.0)
      g.1;
  first = λ st formed. (keeps.first st formed, λ p there. absurd there);
}
  where
    beside : (e k : ℕ) (outs : List Effect) (v : Parts) (d : Disk) (M : Seen) → (HasFewEnds (let c = v.coord in c.tree) → AllTell outs) →
        Walks R e k outs (Up R k v) d M → ToldsFew M → Walks (λ N. R N × ToldsFew N) e k outs (Up (λ N. R N × ToldsFew N) k v) d M
    beside e k outs v d M tells walked all = let z = end_of R e k v outs d M walked in
        walks_both R ToldsFew e k outs (Up R k v) (Up ToldsFew k v) d M walked
        (walk e k v outs d M (tells (room k z.0 v z.1 z.2)) all)
