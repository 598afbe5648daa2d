-- A coordinator has effects of its own alone.
use Rattle.std.proofs.Common.{◌≡◌, ℕ, List, [], ◌∷◌, ◌++◌, Bool, true, false, refl, map, filter, Option, Some, None, ◌&&◌}
use Rattle.std.specs.Prelude.{not, ◌||◌, if◌then◌else◌}
use Rattle.std.specs.List.{flat_map}
use Rattle.arj_protocol.specs.Words.{Uid, End, Path, Asked, Body, Label, Kind, uid_eq, Ask, Answer}
use Rattle.arj_protocol.specs.Words.ending
use Rattle.arj_protocol.specs.Words.body
use Rattle.arj_protocol.specs.Words.cause
use Rattle.arj_protocol.specs.Words.kind
use Rattle.arj_protocol.specs.Order.{has, without_number, without_uid, at_uid}
use Rattle.arj_protocol.specs.Effect.{Effect, Do, PutIntent, Intent, Served, Did}
use Rattle.arj_protocol.specs.Ask.{Reply, actor}
use Rattle.arj_protocol.specs.Tree.{Branch, branch_of, is_open, open_below, root_of, ends_of}
use Rattle.arj_protocol.specs.Call.{Steps, Goal, Run, Include, CallEnd, Answered, Included, Conflict, Changed, Lost, CallStep, On, Ended}
use Rattle.arj_protocol.specs.Call.{Moved, given_up, next_node}
use Rattle.arj_protocol.specs.Commit as commit
use Rattle.arj_protocol.specs.Commit.{Machine, CommitStep, Stays, Asks, Decides, Aborts, Marked, Plan, participants, has_record, plan_of}
use Rattle.arj_protocol.specs.Commit.{waiting, nodes_given_up}
use Rattle.arj_protocol.specs.Coord.{Coord, Doing, Now, Idle, Calling, Committing, doing_of, root_at, plan_for, nodes_sent, servers_told}
use Rattle.arj_protocol.specs.Ending.{says, say_for, tell, tell_all, tolds_by, tolds_of, tolds_of_branch, ended, ends_with, aborts_with}
use Rattle.arj_protocol.specs.Ending.{all_aborted, abort_action, decide, decided_told, record_work, acked, acked_by, acked_left}
use Rattle.arj_protocol.specs.Ending.{tolds_let_go, let_go, is_over, answer_query, answer_recorded, answer_decided, is_deferred}
use Rattle.arj_protocol.specs.Ending.{is_kept_commit, root_or_self, up_to}
use Rattle.arj_protocol.specs.Asking.{asks_node, asks_all, call, include, end_line, step_call, moved_call, heard_call, mark_lines}
use Rattle.arj_protocol.specs.Asking.{commits_in, step_commit, moved_commit, commit_top, commit_open, commit_action, heard, heard_doing}
use Rattle.arj_protocol.specs.Asking.{heard_now, heard_by, heard_none, waits_for_call, waits_for_commit, gaveup_lines, gives_up, give_up}
use Rattle.arj_protocol.specs.Asking.{give_up_doing, again_now, again_all, answer_line, last_req}
use Rattle.arj_protocol.specs.Step.{Input, acts, on_branch, parent_of, branch_named, tolds_again}
use Rattle.arj_protocol.specs.Step as input
use Rattle.arj_protocol.specs.Says.{AreAll, is_coord_effect, is_coord_line}
use Rattle.arj_protocol.proofs.PartSays.{all_both, all_flat, all_if}

abbrev Own : List Effect → Type 0
Own outs = AreAll is_coord_effect outs

both_own : (es fs : List Effect) → Own es → Own fs → Own (es ++ fs)
both_own es fs a b = all_both is_coord_effect es fs a b

-- what only sends
pub map_own : {A : Type 0} (f : A → Effect) (items : List A) → ((a : A) → is_coord_effect (f a) ≡ true) → Own (map f items)
map_own f [] each = refl
map_own f (a ∷ rest) each = rw (each a) (map_own f rest each)

tells_own : (root : Uid) (ack : Bool) (ends : List (Uid × End)) (nodes : List ℕ) → Own (tell_all root ack ends nodes)
tells_own root ack ends nodes = map_own (tell root ack ends) nodes (λ n. refl)

says_own : (u : Uid) (f : Label → Body) (c : Coord) → ((l : Label) → is_coord_line (f l) ≡ true) → Own (says u f c)
says_own u f c each = by (doing_of u c)
  where
    by : (o : Option Doing) → Own (say_for f o)
    by None = refl
    by (Some d) = rw (each d.label) refl

-- ---- ends

tolds_own : (u : Uid) (k : Kind) (p : Path) (intents : List (Uid × Intent)) (c : Coord) → Own (tolds_by u k p intents c)
tolds_own u kind.Nested p intents c =
    tells_own (root_of p) false (up_to u (ends_of (root_of p) c.tree)) (servers_told u (root_at (root_of p) c) c)
tolds_own u kind.Serial p intents c =
    tells_own u false ((u, ending.Abort) ∷ []) (filter (λ n. not (is_deferred u intents n)) (nodes_sent u (root_at u c)))
tolds_own u kind.Top p intents c = tells_own (root_of p) false ((u, ending.Abort) ∷ []) (nodes_sent u (root_at (root_of p) c))
tolds_own u kind.Independent p intents c = tells_own (root_of p) false ((u, ending.Abort) ∷ []) (nodes_sent u (root_at (root_of p) c))
tolds_own u kind.Constituent p intents c = tells_own (root_of p) false ((u, ending.Abort) ∷ []) (nodes_sent u (root_at (root_of p) c))

tolds_of_own : (intents : List (Uid × Intent)) (c : Coord) (u : Uid) → Own (tolds_of intents c u)
tolds_of_own intents c u = by (branch_of u c.tree)
  where
    by : (b : Option Branch) → Own (tolds_of_branch u intents c b)
    by None = refl
    by (Some b) = tolds_own u b.kind b.path intents c

ends_own : (u : Uid) (e : End) (f : Label → Body) (intents : List (Uid × Intent)) (c : Coord) → ((l : Label) → is_coord_line (f l) ≡ true) →
    Own (ends_with u e f intents c).outs
ends_own u e f intents c each =
    both_own (says u f c) (tolds_of intents (ended u e c) u) (says_own u f c each) (tolds_of_own intents (ended u e c) u)

aborted_own : (us : List Uid) (c : Coord) → Own (all_aborted us c).outs
aborted_own [] c = refl
aborted_own (u ∷ us) c =
    let t = all_aborted us (ended u ending.Abort c) in
    both_own (says u (λ l. body.Aborted l cause.Asked) c) t.outs (says_own u (λ l. body.Aborted l cause.Asked) c (λ l. refl)) (aborted_own us (ended u ending.Abort c))

abort_own : (u : Uid) (intents : List (Uid × Intent)) (c : Coord) → Own (abort_action u intents c).outs
abort_own u intents c =
    let us = open_below u c.tree ++ u ∷ [] in
    let t = all_aborted us c in
    both_own t.outs (flat_map (tolds_of intents t.part) us) (aborted_own us c) (all_flat is_coord_effect (tolds_of intents t.part) us (tolds_of_own intents t.part))

decided_own : (root u : Uid) (p : Plan) (n : ℕ) → is_coord_effect (decided_told root u p n) ≡ true
decided_own root u p n = by (has (participants p) n)
  where
    by : (b : Bool) →
        is_coord_effect (if b then tell root (has_record p) ((u, ending.Commit) ∷ []) n else tell root false ((u, ending.Abort) ∷ []) n) ≡ true
    by true = refl
    by false = refl

record_own : (u : Uid) (p : Plan) → Own (record_work u p)
record_own u p = by (has_record p)
  where
    by : (b : Bool) → Own (if b then Do (PutIntent u (record { root = root_of p.path; nodes = participants p })) ∷ [] else [])
    by true = refl
    by false = refl

decide_own : (p : Plan) (c : Coord) → Own (decide p c).outs
decide_own p c =
    let u = actor p.path in
    both_own (record_work u p ++ says u body.Committed c) (map (decided_told (root_of p.path) u p) p.sent)
    (both_own (record_work u p) (says u body.Committed c) (record_own u p) (says_own u body.Committed c (λ l. refl)))
    (map_own (decided_told (root_of p.path) u p) p.sent (decided_own (root_of p.path) u p))

-- ---- acknowledgements and queries

let_go_own : (u : Uid) (intents : List (Uid × Intent)) (c : Coord) (o : Option Intent) → Own (tolds_let_go u intents c o)
let_go_own u intents c None = refl
let_go_own u intents c (Some i) =
    all_if is_coord_effect (not (uid_eq i.root u) && is_over (branch_of i.root c.tree)) (tell_all i.root false ((i.root, ending.Abort) ∷ []) (let_go i.root intents c i.nodes)) []
    (tells_own i.root false ((i.root, ending.Abort) ∷ []) (let_go i.root intents c i.nodes)) refl

left_own : (u : Uid) (i : Intent) (intents : List (Uid × Intent)) (c : Coord) (ns : List ℕ) → Own (acked_left u i intents c ns).outs
left_own u i intents c [] = let_go_own u (without_uid u intents) c (at_uid u intents)
left_own u i intents c (n ∷ ns) = refl

pub acked_own : (from : ℕ) (u : Uid) (intents : List (Uid × Intent)) (c : Coord) → Own (acked from u intents c).outs
acked_own from u intents c = by (at_uid u c.telling)
  where
    none : Served Coord (Unit {0})
    none = record { part = c; outs = []; reply = None }

    waited : (i : Intent) (b : Bool) → Own (if b then acked_left u i intents c (without_number from i.nodes) else none).outs
    waited i true = left_own u i intents c (without_number from i.nodes)
    waited i false = refl

    by : (o : Option Intent) → Own (acked_by from u intents c o).outs
    by None = refl
    by (Some i) = waited i (has i.nodes from)

decided_answer_own : (from : ℕ) (u : Uid) (c : Coord) → Own (answer_decided from u c)
decided_answer_own from u c =
    all_if is_coord_effect (is_kept_commit from u c) (tell (root_or_self u (branch_of u c.tree)) false ((u, ending.Commit) ∷ []) from ∷ []) (tell (root_or_self u (branch_of u c.tree)) false ((u, ending.Abort) ∷ []) from ∷ []) refl refl

recorded_answer_own : (from : ℕ) (u : Uid) (c : Coord) (o : Option Intent) → Own (answer_recorded from u c o)
recorded_answer_own from u c None = decided_answer_own from u c
recorded_answer_own from u c (Some i) =
    all_if is_coord_effect (has i.nodes from) (tell i.root true ((u, ending.Commit) ∷ []) from ∷ []) (answer_decided from u c) refl (decided_answer_own from u c)

pub query_own : (from : ℕ) (u : Uid) (intents : List (Uid × Intent)) (c : Coord) → Own (answer_query from u intents c)
query_own from u intents c =
    all_if is_coord_effect (is_open u c.tree || is_deferred u intents from) [] (answer_recorded from u c (at_uid u intents)) refl (recorded_answer_own from u c (at_uid u intents))

-- ---- calls

asks_all_own : (p : Path) (req : ℕ) (asked : List (ℕ × Ask)) (c : Coord) → Own (asks_all p req asked c).outs
asks_all_own p req [] c = refl
asks_all_own p req (a ∷ rest) c =
    let d = asks_node p req a c in
    let t = asks_all p req rest d.part in
    both_own d.outs t.outs refl (asks_all_own p req rest d.part)

answer_line_own : (x : ℕ) (g : Goal) (a : Answer) (l : Label) → is_coord_line (answer_line x g a l) ≡ true
answer_line_own x (Run o) a l = refl
answer_line_own x (Include s) a l = refl

end_line_own : (x : ℕ) (g : Goal) (e : CallEnd) (l : Label) → is_coord_line (end_line x g e l) ≡ true
end_line_own x g (Answered a) l = answer_line_own x g a l
end_line_own x g (Included s) l = refl
end_line_own x g (Conflict holder m n) l = refl
end_line_own x g (Changed n w) l = refl
end_line_own x g (Lost n sent) l = refl

step_call_own : (s : Steps) (t : CallStep) (c : Coord) → Own (step_call s t c).outs
step_call_own s (On at) c = refl
step_call_own s (Ended e) c = says_own (actor s.path) (end_line s.x s.goal e) c (end_line_own s.x s.goal e)

moved_call_own : (s : Steps) (r : Reply) (c : Coord) (m : Moved) → Own (moved_call s r c m).outs
moved_call_own s r c m = step_call_own s m.step _

-- ---- commits

step_commit_own : (u : Uid) (s : CommitStep) (intents : List (Uid × Intent)) (c : Coord) → Own (step_commit u s intents c).outs
step_commit_own u (Stays m) intents c = refl
step_commit_own u (Asks m) intents c = asks_all_own (plan_of m).path (plan_of m).req (waiting m) (commits_in u m c)
step_commit_own u (Decides p) intents c = decide_own p c
step_commit_own u (Aborts why p) intents c = ends_own u ending.Abort (λ l. body.Aborted l why) intents c (λ l. refl)

moved_commit_own : (u : Uid) (m : Marked) (intents : List (Uid × Intent)) (c : Coord) → Own (moved_commit u m intents c).outs
moved_commit_own u m intents c =
    let t = step_commit u m.step intents c in
    both_own (mark_lines u m.marks c) t.outs
    (all_flat is_coord_effect (λ (k : ℕ × ℕ). says u (λ l. body.Excluded l k.0 k.1) c) m.marks (λ k. says_own u (λ l. body.Excluded l k.0 k.1) c (λ l. refl)))
    (step_commit_own u m.step intents c)

commit_top_own : (p : Path) (intents : List (Uid × Intent)) (c : Coord) → Own (commit_top p intents c).outs
commit_top_own p intents c =
    let m : Marked = commit.start (plan_for p (last_req (doing_of (actor p) c)) (root_at (root_of p) c) c) in
    both_own (says (actor p) body.Committing c) (moved_commit (actor p) m intents c).outs (says_own (actor p) body.Committing c (λ l. refl)) (moved_commit_own (actor p) m intents c)

commit_open_own : (b : Branch) (intents : List (Uid × Intent)) (c : Coord) (k : Kind) → Own (commit_open b intents c k).outs
commit_open_own b intents c kind.Nested = ends_own (actor b.path) ending.Commit body.Committed intents c (λ l. refl)
commit_open_own b intents c kind.Serial = ends_own (actor b.path) ending.Commit body.Ended intents c (λ l. refl)
commit_open_own b intents c kind.Top = commit_top_own b.path intents c
commit_open_own b intents c kind.Independent = commit_top_own b.path intents c
commit_open_own b intents c kind.Constituent = commit_top_own b.path intents c

commit_own : (b : Branch) (intents : List (Uid × Intent)) (c : Coord) → Own (commit_action b intents c).outs
commit_own b intents c = by b.doomed
  where
    by : (d : Bool) → Own (if d then aborts_with (actor b.path) cause.Doomed intents c else commit_open b intents c b.kind).outs
    by true = ends_own (actor b.path) ending.Abort (λ l. body.Aborted l cause.Doomed) intents c (λ l. refl)
    by false = commit_open_own b intents c b.kind

-- ---- answers

heard_now_own : (from : ℕ) (a : Asked) (r : Reply) (intents : List (Uid × Intent)) (c : Coord) (n : Now) →
    Own (heard_now from a r intents c n).outs
heard_now_own from a r intents c Idle = refl
heard_now_own from a r intents c (Calling s) = by (waits_for_call from a r s)
  where
    by : (b : Bool) → Own (if b then heard_by (heard_call s r c) else heard_none c).outs
    by true = moved_call_own s r c _
    by false = refl
heard_now_own from a r intents c (Committing m) = by (waits_for_commit from a r m)
  where
    by : (b : Bool) → Own (if b then heard_by (moved_commit a.act (commit.answered from m r) intents c) else heard_none c).outs
    by true = moved_commit_own a.act (commit.answered from m r) intents c
    by false = refl

pub heard_own : (from : ℕ) (a : Asked) (r : Reply) (intents : List (Uid × Intent)) (c : Coord) → Own (heard from a r intents c).outs
heard_own from a r intents c = by (doing_of a.act c)
  where
    by : (o : Option Doing) → Own (heard_doing from a r intents c o).outs
    by None = refl
    by (Some d) = heard_now_own from a r intents c d.now

-- ---- giveup, and what is sent again

gaveup_own : (u : Uid) (nodes : List ℕ) (c : Coord) → Own (gaveup_lines u nodes c)
gaveup_own u nodes c =
    all_flat is_coord_effect (λ n. says u (λ l. body.GaveUp l n) c) nodes (λ n. says_own u (λ l. body.GaveUp l n) c (λ l. refl))

gives_up_own : (u : Uid) (intents : List (Uid × Intent)) (c : Coord) (n : Now) → Own (gives_up u intents c n).outs
gives_up_own u intents c Idle = refl
gives_up_own u intents c (Calling s) =
    both_own (gaveup_lines u (next_node s ∷ []) c) _ (gaveup_own u (next_node s ∷ []) c) (step_call_own s (given_up s.at) _)
gives_up_own u intents c (Committing m) =
    both_own (gaveup_lines u (nodes_given_up m) c) _ (gaveup_own u (nodes_given_up m) c) (moved_commit_own u (commit.given_up m) intents c)

give_up_own : (u : Uid) (intents : List (Uid × Intent)) (c : Coord) → Own (give_up u intents c).outs
give_up_own u intents c = by (doing_of u c)
  where
    by : (o : Option Doing) → Own (give_up_doing u intents c o).outs
    by None = refl
    by (Some d) = gives_up_own u intents c d.now

again_now_own : (c : Coord) (n : Now) → Own (again_now c n).outs
again_now_own c Idle = refl
again_now_own c (Calling s) = refl
again_now_own c (Committing m) = asks_all_own (plan_of m).path (plan_of m).req (waiting m) c

pub again_own : (ds : List Doing) (c : Coord) → Own (again_all ds c).outs
again_own [] c = refl
again_own (d ∷ ds) c =
    let t = again_now c d.now in
    both_own t.outs _ (again_now_own c d.now) (again_own ds t.part)

pub tolds_again_own : (telling : List (Uid × Intent)) → Own (tolds_again telling)
tolds_again_own telling =
    all_flat is_coord_effect (λ (e : Uid × Intent). tell_all e.1.root true ((e.0, ending.Commit) ∷ []) e.1.nodes) telling (λ e. tells_own e.1.root true ((e.0, ending.Commit) ∷ []) e.1.nodes)

-- ---- inputs

on_own : (f : Branch → Did Coord) (c : Coord) (o : Option Branch) → ((b : Branch) → Own (f b).outs) → Own (on_branch f c o).outs
on_own f c None each = refl
on_own f c (Some b) each = each b

pub acts_own : (i : Input) (intents : List (Uid × Intent)) (c : Coord) → Own (acts i intents c).outs
acts_own (input.Begin l k parent) intents c = refl
acts_own (input.Call l x o) intents c = on_own (λ b. call b.path x o c) c (branch_named l c) (λ b. refl)
acts_own (input.Include l x s) intents c = on_own (λ b. include b.path x s c) c (branch_named l c) (λ b. refl)
acts_own (input.Commit l) intents c = on_own (λ b. commit_action b intents c) c (branch_named l c) (λ b. commit_own b intents c)
acts_own (input.Abort l) intents c =
    on_own (λ b. abort_action (actor b.path) intents c) c (branch_named l c) (λ b. abort_own (actor b.path) intents c)
acts_own (input.GiveUp l) intents c =
    on_own (λ b. give_up (actor b.path) intents c) c (branch_named l c) (λ b. give_up_own (actor b.path) intents c)
acts_own (input.Frame k from m) intents c = refl
acts_own input.Tick intents c = refl
acts_own input.Restart intents c = refl
acts_own input.Crash intents c = refl
acts_own (input.Show x) intents c = refl
