-- Behind a request that a node sends it does nothing on its disk.
use Rattle.arj_law_parts.proofs.Words
use Words.{⊤, ◌≡◌, ◌∙◌, ◌⊎◌, ◌++◌, ℕ, zero, suc, Bool, true, false, cond, List, [], ◌∷◌, Option, Some, None, refl, ap, subst, inl, inr}
use Words.{flat_map, map}
use Words.{Ask, Asked, End, Head, Header, Intent, Kind, Message, Path, Reply, Uid, asks, actor, root_of, last_req, plan_for, root_at}
use Words.{heard, heard_by, heard_call, heard_doing, heard_none, heard_now, again_all, again_now, asks_all, call, include}
use Words.{commit_action, commit_open, commit_top, give_up, give_up_doing, gives_up, moved_commit, step_call, step_commit}
use Words.{waits_for_call, waits_for_commit, mark_lines, gaveup_lines, CallStep, Ended, On, Steps, given_up, next_node}
use Words.{Aborts, Asks, CommitStep, Decides, Marked, Stays, plan_of, waiting, Calling, Committing, Coord, Doing, Idle, Now, doing_of}
use Words.{Did, Disk, Do, Effect, Say, Send, aborts_with, abort_action, all_aborted, decide, says, says, tell_all, tolds_of, open_below}
use Words.{tick_outs, Parts, Took, handle, holders, query_about, Input, acts, branch_named, on_branch, parts_in}
use Words.{restart_outs, tolds_again, Node, Branch, at_place, is_own, asked_by}
use Words.body
use Words.cause
use Words.ending
use Words.input
use Words.kind
use Words.message
use Words.commit
use Words.list as members
use Rattle.arj_law_lock_view.proofs.running.LeftSteps.{AreSentTo, IsSentTo}
use Rattle.arj_law_promise.proofs.waiting.Serving.{restart_asks}
use Rattle.arj_law_runs.proofs.calls.CoordOuts.{quiet_acked, quiet_all, quiet_query}
use Rattle.arj_law_runs.proofs.calls.CoordSends.{AllQuiet, AllSo, quiet_both, quiet_decide, quiet_ends, quiet_flat, quiet_gaveup}
use Rattle.arj_law_runs.proofs.calls.CoordSends.{quiet_marks}
use Rattle.arj_law_runs.proofs.calls.CoordSends.{quiet_says, quiet_tolds}
use Rattle.arj_law_runs.proofs.calls.WorldSteps.{no_request}
use Rattle.arj_law_runs.specs.journal.Knows.{AreIdle}
use Rattle.arj_law_serial.proofs.whole.CoordCases.{CoordCase, coord_case}
use Rattle.arj_law_serial.proofs.whole.CoordCases as cases

-- behind each request nothing is done on the disk
abbrev pub Late : List Effect → Type 0
Late [] = ⊤
Late (Send to m ∷ es) = ((asks m ≡ None) ⊎ AreIdle es) × Late es
Late (Say b ∷ es) = Late es
Late (Do w ∷ es) = Late es

late_quiet : (es : List Effect) → AllQuiet es → Late es
late_quiet [] quiet = tt
late_quiet (Send to m ∷ es) quiet = (inl quiet.0, late_quiet es quiet.1)
late_quiet (Say b ∷ es) quiet = late_quiet es quiet.1
late_quiet (Do w ∷ es) quiet = late_quiet es quiet.1

late_idle : (es : List Effect) → AreIdle es → Late es
late_idle [] idle = tt
late_idle (Send to m ∷ es) idle = (inr idle.1, late_idle es idle.1)
late_idle (Say b ∷ es) idle = late_idle es idle.1
late_idle (Do w ∷ es) idle = absurd idle.0

late_behind : (xs ys : List Effect) → AllQuiet xs → Late ys → Late (xs ++ ys)
late_behind [] ys quiet late = late
late_behind (Send to m ∷ xs) ys quiet late = (inl quiet.0, late_behind xs ys quiet.1 late)
late_behind (Say b ∷ xs) ys quiet late = late_behind xs ys quiet.1 late
late_behind (Do w ∷ xs) ys quiet late = late_behind xs ys quiet.1 late

idle_both : (xs ys : List Effect) → AreIdle xs → AreIdle ys → AreIdle (xs ++ ys)
idle_both [] ys a b = b
idle_both (x ∷ xs) ys a b = (a.0, idle_both xs ys a.1 b)

-- ---- a coordinator

asks_idle : (p : Path) (req : ℕ) (asked : List (ℕ × Ask)) (c : Coord) → AreIdle (asks_all p req asked c).outs
asks_idle p req [] c = tt
asks_idle p req (a ∷ rest) c = (tt, asks_idle p req rest _)

call_late : (s : Steps) (n : CallStep) (c : Coord) → Late (step_call s n c).outs
call_late s (On at) c = (inr tt, tt)
call_late s (Ended e) c = late_quiet (step_call s (Ended e) c).outs (quiet_says (actor s.path) _ c)

step_late : (u : Uid) (s : CommitStep) (intents : List (Uid × Intent)) (c : Coord) → Late (step_commit u s intents c).outs
step_late u (Stays m) intents c = tt
step_late u (Asks m) intents c =
    late_idle (step_commit u (Asks m) intents c).outs (asks_idle (plan_of m).path (plan_of m).req (waiting m) _)
step_late u (Decides p) intents c = late_quiet (decide p c).outs (quiet_decide p c)
step_late u (Aborts why p) intents c =
    late_quiet (aborts_with u why intents c).outs (quiet_ends u ending.Abort (λ l. body.Aborted l why) intents c)

moved_late : (u : Uid) (m : Marked) (intents : List (Uid × Intent)) (c : Coord) → Late (moved_commit u m intents c).outs
moved_late u m intents c =
    late_behind (mark_lines u m.marks c) (step_commit u m.step intents c).outs (quiet_marks u m.marks c) (step_late u m.step intents c)

heard_late : (from : ℕ) (a : Asked) (r : Reply) (intents : List (Uid × Intent)) (c : Coord) → Late (heard from a r intents c).outs
heard_late from a r intents c = by (doing_of a.act c)
  where
    now : (n : Now) → Late (heard_now from a r intents c n).outs
    now Idle = tt
    now (Calling s) = one (waits_for_call from a r s)
      where
        one : (b : Bool) → Late (cond b (heard_by (heard_call s r c)) (heard_none c)).outs
        one true = call_late s _ _
        one false = tt
    now (Committing m) = one (waits_for_commit from a r m)
      where
        one : (b : Bool) → Late (cond b (heard_by (moved_commit a.act (commit.answered from m r) intents c)) (heard_none c)).outs
        one true = moved_late a.act (commit.answered from m r) intents c
        one false = tt

    by : (o : Option Doing) → Late (heard_doing from a r intents c o).outs
    by None = tt
    by (Some d) = now d.now

give_late : (u : Uid) (intents : List (Uid × Intent)) (c : Coord) → Late (give_up u intents c).outs
give_late u intents c = by (doing_of u c)
  where
    now : (n : Now) → Late (gives_up u intents c n).outs
    now Idle = tt
    now (Calling s) = late_behind (gaveup_lines u (next_node s ∷ []) c) _ (quiet_gaveup u (next_node s ∷ []) c)
        (call_late s (given_up s.at) _)
    now (Committing m) = late_behind (gaveup_lines u (commit.nodes_given_up m) c) _ (quiet_gaveup u (commit.nodes_given_up m) c)
        (moved_late u (commit.given_up m) intents c)

    by : (o : Option Doing) → Late (give_up_doing u intents c o).outs
    by None = tt
    by (Some d) = now d.now

commit_late : (b : Branch) (intents : List (Uid × Intent)) (c : Coord) → Late (commit_action b intents c).outs
commit_late b intents c = by b.doomed
  where
    top : Late (commit_top b.path intents c).outs
    top = late_behind (says (actor b.path) body.Committing c) _ (quiet_says (actor b.path) body.Committing c)
        (moved_late (actor b.path) (commit.start (plan_for b.path (last_req (doing_of (actor b.path) c)) (root_at (root_of b.path) c) c))
        intents c)

    kinds : (k : Kind) → Late (commit_open b intents c k).outs
    kinds kind.Nested = late_quiet _ (quiet_ends (actor b.path) ending.Commit body.Committed intents c)
    kinds kind.Serial = late_quiet _ (quiet_ends (actor b.path) ending.Commit body.Ended intents c)
    kinds kind.Top = top
    kinds kind.Constituent = top
    kinds kind.Independent = top

    by : (d : Bool) → Late (cond {A = Did Coord} d (aborts_with (actor b.path) cause.Doomed intents c)
        (commit_open b intents c b.kind)).outs
    by true = late_quiet _ (quiet_ends (actor b.path) ending.Abort (λ l. body.Aborted l cause.Doomed) intents c)
    by false = kinds b.kind

pub acts_late : (i : Input) (intents : List (Uid × Intent)) (c : Coord) → Late (acts i intents c).outs
acts_late (input.Begin l how parent) intents c = tt
acts_late (input.Call l x o) intents c = by (branch_named l c)
  where
    by : (o2 : Option Branch) → Late (on_branch (λ b. call b.path x o c) c o2).outs
    by None = tt
    by (Some b) = (inr tt, tt)
acts_late (input.Include l x s) intents c = by (branch_named l c)
  where
    by : (o2 : Option Branch) → Late (on_branch (λ b. include b.path x s c) c o2).outs
    by None = tt
    by (Some b) = (inr tt, tt)
acts_late (input.Commit l) intents c = by (branch_named l c)
  where
    by : (o2 : Option Branch) → Late (on_branch (λ b. commit_action b intents c) c o2).outs
    by None = tt
    by (Some b) = commit_late b intents c
acts_late (input.Abort l) intents c = by (branch_named l c)
  where
    by : (o2 : Option Branch) → Late (on_branch (λ b. abort_action (actor b.path) intents c) c o2).outs
    by None = tt
    by (Some b) =
        let us = open_below (actor b.path) c.tree ++ actor b.path ∷ [] in
        let t = all_aborted us c in
        late_quiet (t.outs ++ flat_map (tolds_of intents t.part) us) (quiet_both t.outs (flat_map (tolds_of intents t.part) us)
        (quiet_all us c)
        (quiet_flat (tolds_of intents t.part) us (λ w. quiet_tolds intents t.part w)))
acts_late (input.GiveUp l) intents c = by (branch_named l c)
  where
    by : (o2 : Option Branch) → Late (on_branch (λ b. give_up (actor b.path) intents c) c o2).outs
    by None = tt
    by (Some b) = give_late (actor b.path) intents c
acts_late (input.Frame n from m) intents c = tt
acts_late input.Tick intents c = tt
acts_late input.Restart intents c = tt
acts_late input.Crash intents c = tt
acts_late (input.Show x) intents c = tt

-- ---- a node

again_idle : (ds : List Doing) (c : Coord) → AreIdle (again_all ds c).outs
again_idle [] c = tt
again_idle (d ∷ ds) c = idle_both (again_now c d.now).outs (again_all ds (again_now c d.now).part).outs (one d.now)
    (again_idle ds (again_now c d.now).part)
  where
    one : (n : Now) → AreIdle (again_now c n).outs
    one Idle = tt
    one (Calling s) = (tt, tt)
    one (Committing m) = asks_idle (plan_of m).path (plan_of m).req (waiting m) c

tolds_idle : (root : Uid) (ack : Bool) (ends : List (Uid × End)) (nodes : List ℕ) → AreIdle (tell_all root ack ends nodes)
tolds_idle root ack ends [] = tt
tolds_idle root ack ends (n ∷ ns) = (tt, tolds_idle root ack ends ns)

telling_idle : (telling : List (Uid × Intent)) → AreIdle (tolds_again telling)
telling_idle [] = tt
telling_idle (e ∷ es) = idle_both (tell_all (let i = e.1 in i.root) true ((e.0, ending.Commit) ∷ []) (let i = e.1 in i.nodes))
    (tolds_again es)
    (tolds_idle (let i = e.1 in i.root) true ((e.0, ending.Commit) ∷ []) (let i = e.1 in i.nodes)) (telling_idle es)

queries_idle : (us : List Uid) → AreIdle (map query_about us)
queries_idle [] = tt
queries_idle (u ∷ us) = (tt, queries_idle us)

pub tick_late : (n : Node) (t : Parts) → Late (tick_outs n t)
tick_late n t =
    let r = again_all t.coord.doings t.coord in
    late_idle (tick_outs n t) (idle_both (r.outs ++ tolds_again t.coord.telling) (map query_about (holders n.disk t))
    (idle_both r.outs (tolds_again t.coord.telling) (again_idle t.coord.doings t.coord) (telling_idle t.coord.telling))
    (queries_idle (holders n.disk t)))

-- what isn't a request, by what each message is
quiet_sent : (es : List Effect) → ((to : ℕ) (m : Message) → members.In (Send to m) es → asks m ≡ None) → AllQuiet es
quiet_sent [] each = tt
quiet_sent (Say b ∷ es) each = (tt, quiet_sent es (λ to m i. each to m (inr i)))
quiet_sent (Do w ∷ es) each = (tt, quiet_sent es (λ to m i. each to m (inr i)))
quiet_sent (Send n k ∷ es) each = (each n k (inl refl), quiet_sent es (λ to m i. each to m (inr i)))

pub parts_quiet : (from : ℕ) (o : Option (Head × Ask)) (es : List Effect) → AreSentTo from o es → AllQuiet es
parts_quiet from o es sent = quiet_sent es (λ to m i. one o to m (sent to m i))
  where
    one : (q : Option (Head × Ask)) (to : ℕ) (m : Message) → IsSentTo from q to m → asks m ≡ None
    one None to (message.Acked m) is = refl
    one None to (message.Query m) is = refl
    one None to m is = absurd is
    one (Some q) to m is = ap asks (let r = is.1 in r.1) ∙ no_request (asked_by q.0) (let r = is.1 in r.0)

pub message_late : (k : ℕ) (d : Disk) (t v : Parts) (from : ℕ) (m : Message) (outs : List Effect) → handle k d t from m ≡ Took v outs →
    Late outs
message_late k d t v from m outs is = by (coord_case k d t v from m outs is)
  where
    by : CoordCase d t from m v outs → Late outs
    by (cases.OfParts mine same plain sent) = late_quiet outs (parts_quiet from (asks m) outs sent)
    by (cases.Asks u query same are) = subst Late are (late_quiet _ (quiet_query from u d.intents t.coord))
    by (cases.Heard a r some same are) = subst Late are (heard_late from a r d.intents t.coord)
    by (cases.Acks u which same are) = subst Late are (late_quiet _ (quiet_acked from u d.intents t.coord))

-- a restart asks nothing
pub restart_quiet : (hd : Header) (k inc : ℕ) (d : Disk) → AllQuiet (restart_outs hd k inc d)
restart_quiet hd k inc d = by (restart_outs hd k inc d) (restart_asks hd k inc d)
  where
    c : Coord
    c = let t = parts_in k inc d in t.coord

    nobody : {A : Type 0} (u : Uid) (q : Doing) → doing_of u c ≡ Some q → A
    nobody {A} u q is = one (is_own u c.tree) u.num is
      where
        one : (b : Bool) (j : ℕ) → cond b (at_place j []) None ≡ Some q → A
        one true zero e = absurd (cc e)
        one true (suc j) e = absurd (cc e)
        one false j e = absurd (cc e)

    by : (es : List Effect) → AllSo c es → AllQuiet es
    by [] so = tt
    by (Say b ∷ es) so = (tt, by es so.1)
    by (Do w ∷ es) so = (tt, by es so.1)
    by (Send to m ∷ es) so = (one (asks m) refl, by es so.1)
      where
        one : (o : Option (Head × Ask)) → asks m ≡ o → asks m ≡ None
        one None is = is
        one (Some q) is = let s = so.0 q.0 q.1 is in nobody (actor (let h = q.0 in h.path)) s.doing s.found

pub restart_late : (hd : Header) (k inc : ℕ) (d : Disk) → Late (restart_outs hd k inc d)
restart_late hd k inc d = late_quiet (restart_outs hd k inc d) (restart_quiet hd k inc d)
