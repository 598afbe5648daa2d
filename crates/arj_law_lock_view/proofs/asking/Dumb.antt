-- No call and no include is answered as a coordinator commits, aborts, tells and asks again, nor as a node restarts.
use Rattle.arj_law_parts.proofs.Words
use Words.{ℕ, Bool, true, false, cond, List, [], ◌∷◌, ◌++◌, map, Option, Some, None, refl, ◌≡◌, flat_map, Ask, Body, End, Kind, Label}
use Words.{Path, Uid, actor, again_all, again_now, asks_all, asks_node, commit_action, commit_open, commit_top, commits_in, gaveup_lines}
use Words.{last_req, mark_lines, moved_commit, step_commit, Aborts, Asks, CommitStep, Decides, Marked, Plan, Stays, has_record}
use Words.{participants}
use Words.{plan_of, Calling, Committing, Coord, Doing, Idle, Now, doing_of, plan_for, root_at, Did, Do, Effect, Intent, PutIntent, Say}
use Words.{abort_action, aborts_with, all_aborted, decide, decided_told, ended, ends_with, record_work, say_for, says, tell, tell_all}
use Words.{tolds_by, tolds_of, tolds_of_branch, has, tick_outs, Parts, holders}
use Words.{open_below, root_of, Branch, branch_of, Header, Disk, Look, Named, Naming, PutInc, back_lines, hello_to, naming_at, naming_back}
use Words.{numbers_to, prepared_actions, query_about, recovered_records, restart_outs, tolds_again, uid_set, without_number}
use Words.body
use Words.cause
use Words.ending
use Words.kind
use Words.commit
use Rattle.arj_law_parts.proofs.parts.SaidIncs.{all_both, all_flat, all_map}
use Rattle.arj_law_lock_view.specs.asking.Turns.{AreDumb, IsDumb, is_reply}

pub dumb_both : (es fs : List Effect) → AreDumb es → AreDumb fs → AreDumb (es ++ fs)
dumb_both es fs a b = all_both IsDumb es fs a b

pub says_dumb : (u : Uid) (f : Label → Body) (c : Coord) → ((l : Label) → is_reply (f l) ≡ false) → AreDumb (says u f c)
says_dumb u f c its = by (doing_of u c)
  where
    by : (o : Option Doing) → AreDumb (say_for f o)
    by None = tt
    by (Some d) = (its d.label, tt)

pub tells_dumb : (root : Uid) (ack : Bool) (ends : List (Uid × End)) (ns : List ℕ) → AreDumb (tell_all root ack ends ns)
tells_dumb root ack ends ns = all_map IsDumb (tell root ack ends) ns (λ n. tt)

tolds_dumb : (intents : List (Uid × Intent)) (c : Coord) (u : Uid) → AreDumb (tolds_of intents c u)
tolds_dumb intents c u = by (branch_of u c.tree)
  where
    kinds : (k : Kind) (p : Path) → AreDumb (tolds_by u k p intents c)
    kinds kind.Nested p = tells_dumb _ false _ _
    kinds kind.Serial p = tells_dumb _ false _ _
    kinds kind.Top p = tells_dumb _ false _ _
    kinds kind.Independent p = tells_dumb _ false _ _
    kinds kind.Constituent p = tells_dumb _ false _ _

    by : (o : Option Branch) → AreDumb (tolds_of_branch u intents c o)
    by None = tt
    by (Some b) = kinds b.kind b.path

pub ends_dumb : (u : Uid) (e : End) (f : Label → Body) (intents : List (Uid × Intent)) (c : Coord) →
    ((l : Label) → is_reply (f l) ≡ false) → AreDumb (ends_with u e f intents c).outs
ends_dumb u e f intents c its = dumb_both (says u f c) (tolds_of intents (ended u e c) u) (says_dumb u f c its)
    (tolds_dumb intents (ended u e c) u)

all_dumb : (us : List Uid) (c : Coord) → AreDumb (all_aborted us c).outs
all_dumb [] c = tt
all_dumb (u ∷ us) c = dumb_both (says u (λ l. body.Aborted l cause.Asked) c) (all_aborted us (ended u ending.Abort c)).outs
    (says_dumb u (λ l. body.Aborted l cause.Asked) c (λ l. refl)) (all_dumb us (ended u ending.Abort c))

pub abort_dumb : (u : Uid) (intents : List (Uid × Intent)) (c : Coord) → AreDumb (abort_action u intents c).outs
abort_dumb u intents c =
    let us = open_below u c.tree ++ u ∷ [] in
    let t = all_aborted us c in
    dumb_both t.outs (flat_map (tolds_of intents t.part) us) (all_dumb us c)
    (all_flat IsDumb (tolds_of intents t.part) us (λ w. tolds_dumb intents t.part w))

asks_dumb : (p : Path) (req : ℕ) (asked : List (ℕ × Ask)) (c : Coord) → AreDumb (asks_all p req asked c).outs
asks_dumb p req [] c = tt
asks_dumb p req (a ∷ rest) c = (tt, asks_dumb p req rest (asks_node p req a c).part)

decide_dumb : (p : Plan) (c : Coord) → AreDumb (decide p c).outs
decide_dumb p c = dumb_both (record_work (actor p.path) p ++ says (actor p.path) body.Committed c) (map
    (decided_told (root_of p.path) (actor p.path) p) p.sent)
    (dumb_both (record_work (actor p.path) p) (says (actor p.path) body.Committed c)
    (work (has_record p)) (says_dumb (actor p.path) body.Committed c (λ l. refl)))
    (all_map IsDumb (decided_told (root_of p.path) (actor p.path) p) p.sent (λ n. told n (has (participants p) n)))
  where
    work : (b : Bool) → AreDumb (cond b (Do (PutIntent (actor p.path) (record { root = root_of p.path; nodes = participants p })) ∷ []) [])
    work true = (tt, tt)
    work false = tt

    told : (n : ℕ) (b : Bool) → IsDumb (cond b (tell (root_of p.path) (has_record p) ((actor p.path, ending.Commit) ∷ []) n)
        (tell (root_of p.path) false ((actor p.path, ending.Abort) ∷ []) n))
    told n true = tt
    told n false = tt

step_dumb : (u : Uid) (s : CommitStep) (intents : List (Uid × Intent)) (c : Coord) → AreDumb (step_commit u s intents c).outs
step_dumb u (Stays m) intents c = tt
step_dumb u (Asks m) intents c = asks_dumb (plan_of m).path (plan_of m).req (commit.waiting m) (commits_in u m c)
step_dumb u (Decides p) intents c = decide_dumb p c
step_dumb u (Aborts why p) intents c = ends_dumb u ending.Abort (λ l. body.Aborted l why) intents c (λ l. refl)

pub moved_dumb : (u : Uid) (m : Marked) (intents : List (Uid × Intent)) (c : Coord) → AreDumb (moved_commit u m intents c).outs
moved_dumb u m intents c = dumb_both (mark_lines u m.marks c) (step_commit u m.step intents c).outs
    (all_flat IsDumb (λ (z : ℕ × ℕ). says u (λ l. body.Excluded l z.0 z.1) c) m.marks
    (λ z. says_dumb u (λ l. body.Excluded l z.0 z.1) c (λ l. refl))) (step_dumb u m.step intents c)

pub gaveup_dumb : (u : Uid) (ns : List ℕ) (c : Coord) → AreDumb (gaveup_lines u ns c)
gaveup_dumb u ns c = all_flat IsDumb (λ n. says u (λ l. body.GaveUp l n) c) ns (λ n. says_dumb u (λ l. body.GaveUp l n) c (λ l. refl))

pub top_dumb : (p : Path) (intents : List (Uid × Intent)) (c : Coord) → AreDumb (commit_top p intents c).outs
top_dumb p intents c =
    let m = commit.start (plan_for p (last_req (doing_of (actor p) c)) (root_at (root_of p) c) c) in
    dumb_both (says (actor p) body.Committing c) (moved_commit (actor p) m intents c).outs
    (says_dumb (actor p) body.Committing c (λ l. refl)) (moved_dumb (actor p) m intents c)

pub commit_dumb : (b : Branch) (intents : List (Uid × Intent)) (c : Coord) → AreDumb (commit_action b intents c).outs
commit_dumb b intents c = doomed b.doomed
  where
    kinds : (k : Kind) → AreDumb (commit_open b intents c k).outs
    kinds kind.Nested = ends_dumb (actor b.path) ending.Commit body.Committed intents c (λ l. refl)
    kinds kind.Serial = ends_dumb (actor b.path) ending.Commit body.Ended intents c (λ l. refl)
    kinds kind.Top = top_dumb b.path intents c
    kinds kind.Independent = top_dumb b.path intents c
    kinds kind.Constituent = top_dumb b.path intents c

    Result : Bool → Did Coord
    Result w = cond {A = Did Coord} w (aborts_with (actor b.path) cause.Doomed intents c) (commit_open b intents c b.kind)

    doomed : (w : Bool) → AreDumb (Result w).outs
    doomed true = ends_dumb (actor b.path) ending.Abort (λ l. body.Aborted l cause.Doomed) intents c (λ l. refl)
    doomed false = kinds b.kind

-- the requests that wait are sent again without a line
pub again_dumb : (ds : List Doing) (c : Coord) → AreDumb (again_all ds c).outs
again_dumb [] c = tt
again_dumb (d ∷ ds) c = dumb_both (again_now c d.now).outs (again_all ds (again_now c d.now).part).outs (now d.now)
    (again_dumb ds (again_now c d.now).part)
  where
    now : (n : Now) → AreDumb (again_now c n).outs
    now Idle = tt
    now (Calling s) = (tt, tt)
    now (Committing m) = asks_dumb (plan_of m).path (plan_of m).req (commit.waiting m) c

pub again_tolds : (telling : List (Uid × Intent)) → AreDumb (tolds_again telling)
again_tolds telling = all_flat IsDumb (λ (e : Uid × Intent). tell_all e.1.root true ((e.0, ending.Commit) ∷ []) e.1.nodes) telling
    (λ e. all_map IsDumb _ e.1.nodes (λ n. tt))

pub tick_dumb : (k : ℕ) (d : Disk) (t : Parts) → AreDumb (tick_outs (record { number = k; disk = d; live = Some t }) t)
tick_dumb k d t =
    let r = again_all t.coord.doings t.coord in
    dumb_both (r.outs ++ tolds_again t.coord.telling) (map query_about (holders d t))
    (dumb_both r.outs (tolds_again t.coord.telling) (again_dumb t.coord.doings t.coord) (again_tolds t.coord.telling))
    (all_map IsDumb query_about (holders d t) (λ u. tt))

pub restart_dumb : (hd : Header) (k inc : ℕ) (d : Disk) → AreDumb (restart_outs hd k inc d)
restart_dumb hd k inc d =
    let back = naming_back (naming_at k inc d.names) in
    let records = Do Look ∷ recovered_records k d.intents in
    let asking = map query_about (uid_set (prepared_actions d.store ++ prepared_actions d.names)) in
    let first = Do Look ∷ Do (PutInc inc) ∷ Say (body.Up k inc) ∷ Do Look ∷ back in
    dumb_both (first ++ records ++ tolds_again d.intents ++ asking) (map (hello_to k inc) (without_number k (numbers_to hd.nodes)))
    (dumb_both (first ++ records ++ tolds_again d.intents) asking
    (dumb_both (first ++ records) (tolds_again d.intents)
    (dumb_both first records (tt, (tt, (refl, (tt, backs (naming_at k inc d.names))))) (tt, all_map IsDumb _ d.intents (λ e. refl)))
    (again_tolds d.intents))
    (all_map IsDumb query_about (uid_set (prepared_actions d.store ++ prepared_actions d.names)) (λ u. tt)))
    (all_map IsDumb (hello_to k inc) (without_number k (numbers_to hd.nodes)) (λ n. tt))
  where
    backs : (o : Option Naming) → AreDumb (naming_back o)
    backs None = tt
    backs (Some o) = all_flat IsDumb (λ (e : ℕ × Named). back_lines e.1) o.objects (λ e. all_map IsDumb _ e.1.rows (λ r. refl))
