-- Whatever a node does, it works on its disk before it sends anything.
use Rattle.arj_law_parts.proofs.Words
use Words.{⊤, ◌≡◌, ◌++◌, ◌&&◌, ◌||◌, not, ℕ, Bool, true, false, cond, List, [], ◌∷◌, filter, map, Option, Some, None, refl, option_map}
use Words.{AllByRecursion, and_parts, list_all, flat_map}
use Words.{Ask, Asked, Body, Cause, End, Head, Header, Kind, Label, Message, ObjectState, Path, Uid, asks, object, Reply, actor, answers}
use Words.{asked_by, last_end, response, heard}
use Words.{Coord, Disk, Do, Effect, InDoubt, Intent, Pair, RemoveIntent, Look, Old, Already, Prep, Prepare, Ready, PutInc, PutIntent, Say}
use Words.{Send}
use Words.{held_at, holder_of, is_prepared, prepare_answer, acked, answer_query, tell, tell_all, Named, Naming, Handled, Parts, Took, Void}
use Words.{ack_told, by_reply, confirm, end_states, handle, handle_answer, handle_ask, handle_ends, handle_other, holders, if_naming}
use Words.{is_earlier, load_by, load_held, naming_told, prepare_by, query_about, sends_answer, serve, store_told, with_coord, with_naming}
use Words.{with_server, AreAll, is_naming_effect, is_server_effect, is_naming_line, is_server_line, activate_own, bind_own, confirm_own}
use Words.{ends_own, invoke_own, note_own, told_own, vote_own, at_uid, has, is_open, is_kept_commit, root_or_self, branch_of, acked_by}
use Words.{acked_left, tolds_let_go, let_go, uid_eq, without_uid, without_number, again_all, again_now, asks_all, asks_node, Calling}
use Words.{Committing, Doing, Idle, Now, plan_of, tick_outs, tolds_again, Served, hello_to, naming_at, naming_back, numbers_to}
use Words.{recovered_records, back_lines, restart_outs, prepared_actions, uid_set}
use Words.{abort_action, aborts_with, all_aborted, commit_action, commit_open, commit_top, commits_in, decide, decided_told, end_line}
use Words.{ended, ends_with, gaveup_lines, give_up, give_up_doing, gives_up, has_record, heard_by, heard_call, heard_doing, heard_none}
use Words.{heard_now, last_req, mark_lines, moved_commit, next_node, nodes_given_up, open_below, participants, plan_for, record_work}
use Words.{root_at}
use Words.{root_of, say_for, says, step_call, step_commit, tolds_of, tolds_by, tolds_of_branch, branch_named, on_branch}
use Words.{waits_for_call, waits_for_commit, CallStep, Ended, On, Steps, Aborts, Asks, CommitStep, Decides, Machine, Marked, Plan, Stays}
use Words.{doing_of, Branch, Did, Input, acts, give_up_call, call, include}
use Words.ask
use Words.body
use Words.cause
use Words.commit
use Words.ending
use Words.input
use Words.kind
use Words.loaded
use Words.message
use Words.prepared
use Words.role
use Words.naming
use Words.server
use Rattle.arj_law_parts.proofs.parts.SaidIncs.{all_both, all_flat, all_map}
use Rattle.arj_law_parts.specs.moves.Keeps.{is_act}
use Rattle.arj_law_cause.proofs.waits.commits.Serving.{AreStill}
use Rattle.arj_protocol.specs.Ending.{answer_decided, answer_recorded, is_deferred, is_over}

-- it sends nothing
abbrev pub IsMute : Effect → Type 0
IsMute (Send to m) = ⊥
IsMute e = ⊤

-- it is no work
abbrev pub IsLight : Effect → Type 0
IsLight (Do w) = ⊥
IsLight e = ⊤

-- no work comes behind a message
abbrev pub WorksFirst : List Effect → Type 0
WorksFirst [] = ⊤
WorksFirst (Do w ∷ es) = WorksFirst es
WorksFirst (Say b ∷ es) = WorksFirst es
WorksFirst (Send to m ∷ es) = AreStill IsLight es

-- ---- lists

light_first : (es : List Effect) → AreStill IsLight es → WorksFirst es
light_first [] all = tt
light_first (Do w ∷ es) all = absurd all.0
light_first (Say b ∷ es) all = light_first es all.1
light_first (Send to m ∷ es) all = all.1

front_first : (es fs : List Effect) → AreStill IsMute es → WorksFirst fs → WorksFirst (es ++ fs)
front_first [] fs all first = first
front_first (Do w ∷ es) fs all first = front_first es fs all.1 first
front_first (Say b ∷ es) fs all first = front_first es fs all.1 first
front_first (Send to m ∷ es) fs all first = absurd all.0

-- ---- parts of nodes

server_mute : (n : ℕ) (es : List Effect) → AreAll (is_server_effect n) es → AreStill IsMute es
server_mute n [] own = tt
server_mute n (Say b ∷ es) own = (tt, server_mute n es (and_parts (is_server_line n b) (list_all (is_server_effect n) es) own).1)
server_mute n (Send to m ∷ es) own = absurd (cc own)
server_mute n (Do w ∷ es) own = absurd (cc own)

naming_mute : (es : List Effect) → AreAll is_naming_effect es → AreStill IsMute es
naming_mute [] own = tt
naming_mute (Say b ∷ es) own = (tt, naming_mute es (and_parts (is_naming_line b) (list_all is_naming_effect es) own).1)
naming_mute (Send to m ∷ es) own = absurd (cc own)
naming_mute (Do w ∷ es) own = (tt, naming_mute es (and_parts (is_naming_effect (Do w)) (list_all is_naming_effect es) own).1)

-- ---- messages

tells_light : (root : Uid) (ack : Bool) (ends : List (Uid × End)) (ns : List ℕ) → AreStill IsLight (tell_all root ack ends ns)
tells_light root ack ends ns = all_map IsLight (tell root ack ends) ns (λ n. tt)

asks_light : (p : Path) (req : ℕ) (asked : List (ℕ × Ask)) (c : Coord) → AreStill IsLight (asks_all p req asked c).outs
asks_light p req [] c = tt
asks_light p req (a ∷ rest) c = (tt, asks_light p req rest (asks_node p req a c).part)

again_light : (ds : List Doing) (c : Coord) → AreStill IsLight (again_all ds c).outs
again_light [] c = tt
again_light (d ∷ ds) c = all_both IsLight (again_now c d.now).outs (again_all ds (again_now c d.now).part).outs (now d.now)
    (again_light ds (again_now c d.now).part)
  where
    now : (n : Now) → AreStill IsLight (again_now c n).outs
    now Idle = tt
    now (Calling s) = (tt, tt)
    now (Committing m) = asks_light (plan_of m).path (plan_of m).req (commit.waiting m) c

tolds_light : (telling : List (Uid × Intent)) → AreStill IsLight (tolds_again telling)
tolds_light telling = all_flat IsLight (λ (e : Uid × Intent). tell_all e.1.root true ((e.0, ending.Commit) ∷ []) e.1.nodes) telling
    (λ e. all_map IsLight _ e.1.nodes (λ n. tt))

pub tick_first : (k : ℕ) (d : Disk) (t : Parts) → WorksFirst (tick_outs (record { number = k; disk = d; live = Some t }) t)
tick_first k d t =
    let r = again_all t.coord.doings t.coord in
    light_first (r.outs ++ tolds_again t.coord.telling ++ map query_about (holders d t))
    (all_both IsLight (r.outs ++ tolds_again t.coord.telling) (map query_about (holders d t))
    (all_both IsLight r.outs (tolds_again t.coord.telling) (again_light t.coord.doings t.coord) (tolds_light t.coord.telling))
    (all_map IsLight query_about (holders d t) (λ u. tt)))

pub restart_first : (hd : Header) (k inc : ℕ) (d : Disk) → WorksFirst (restart_outs hd k inc d)
restart_first hd k inc d =
    let back = naming_back (naming_at k inc d.names) in
    let asking = map query_about (uid_set (prepared_actions d.store ++ prepared_actions d.names)) in
    let first = Do Look ∷ Do (PutInc inc) ∷ Say (body.Up k inc) ∷ Do Look ∷ back in
    let records = Do Look ∷ recovered_records k d.intents in
    whole first records (tolds_again d.intents) asking (map (hello_to k inc) (without_number k (numbers_to hd.nodes)))
    (tt, (tt, (tt, (tt, backs (naming_at k inc d.names)))))
    (tt, all_map IsMute _ d.intents (λ e. tt)) (tolds_light d.intents)
    (all_map IsLight query_about (uid_set (prepared_actions d.store ++ prepared_actions d.names)) (λ u. tt))
    (all_map IsLight (hello_to k inc) (without_number k (numbers_to hd.nodes)) (λ n. tt))
  where
    backs : (o : Option Naming) → AreStill IsMute (naming_back o)
    backs None = tt
    backs (Some o) = all_flat IsMute (λ (e : ℕ × Named). back_lines e.1) o.objects (λ e. all_map IsMute _ e.1.rows (λ r. tt))

    then_light : (es fs : List Effect) → WorksFirst es → AreStill IsLight fs → WorksFirst (es ++ fs)
    then_light [] fs first all = light_first fs all
    then_light (Do w ∷ es) fs first all = then_light es fs first all
    then_light (Say b ∷ es) fs first all = then_light es fs first all
    then_light (Send to m ∷ es) fs first all = all_both IsLight es fs first all

    mute_first : (es : List Effect) → AreStill IsMute es → WorksFirst es
    mute_first [] all = tt
    mute_first (Do w ∷ es) all = mute_first es all.1
    mute_first (Say b ∷ es) all = mute_first es all.1
    mute_first (Send to m ∷ es) all = absurd all.0

    whole : (es fs gs hs is : List Effect) → AreStill IsMute es → AreStill IsMute fs → AreStill IsLight gs → AreStill IsLight hs →
        AreStill IsLight is → WorksFirst (es ++ fs ++ gs ++ hs ++ is)
    whole es fs gs hs is a b c d e = then_light (es ++ fs ++ gs ++ hs) is (then_light (es ++ fs ++ gs) hs (then_light (es ++ fs) gs
        (mute_first (es ++ fs) (all_both IsMute es fs a b)) c) d) e

-- ---- a coordinator

says_mute : (u : Uid) (f : Label → Body) (c : Coord) → AreStill IsMute (says u f c)
says_mute u f c = by (doing_of u c)
  where
    by : (o : Option Doing) → AreStill IsMute (say_for f o)
    by None = tt
    by (Some d) = (tt, tt)

says_first : (u : Uid) (f : Label → Body) (c : Coord) → WorksFirst (says u f c)
says_first u f c = by (doing_of u c)
  where
    by : (o : Option Doing) → WorksFirst (say_for f o)
    by None = tt
    by (Some d) = tt

ends_light : (intents : List (Uid × Intent)) (c : Coord) (u : Uid) → AreStill IsLight (tolds_of intents c u)
ends_light intents c u = by (branch_of u c.tree)
  where
    kinds : (k : Kind) (p : Path) → AreStill IsLight (tolds_by u k p intents c)
    kinds kind.Nested p = tells_light _ false _ _
    kinds kind.Serial p = tells_light _ false _ _
    kinds kind.Top p = tells_light _ false _ _
    kinds kind.Independent p = tells_light _ false _ _
    kinds kind.Constituent p = tells_light _ false _ _

    by : (o : Option Branch) → AreStill IsLight (tolds_of_branch u intents c o)
    by None = tt
    by (Some b) = kinds b.kind b.path

marks_mute : (u : Uid) (marks : List (ℕ × ℕ)) (c : Coord) → AreStill IsMute (mark_lines u marks c)
marks_mute u marks c = all_flat IsMute (λ (m : ℕ × ℕ). says u (λ l. body.Excluded l m.0 m.1) c) marks
    (λ m. says_mute u (λ l. body.Excluded l m.0 m.1) c)

gaveup_mute : (u : Uid) (ns : List ℕ) (c : Coord) → AreStill IsMute (gaveup_lines u ns c)
gaveup_mute u ns c = all_flat IsMute (λ n. says u (λ l. body.GaveUp l n) c) ns (λ n. says_mute u (λ l. body.GaveUp l n) c)

all_mute : (us : List Uid) (c : Coord) → AreStill IsMute (all_aborted us c).outs
all_mute [] c = tt
all_mute (u ∷ us) c = all_both IsMute (says u (λ l. body.Aborted l cause.Asked) c) (all_aborted us (ended u ending.Abort c)).outs
    (says_mute u (λ l. body.Aborted l cause.Asked) c) (all_mute us (ended u ending.Abort c))

call_first : (s : Steps) (n : CallStep) (c : Coord) → WorksFirst (step_call s n c).outs
call_first s (On at) c = tt
call_first s (Ended e) c = says_first (actor s.path) (end_line s.x s.goal e) c

decide_first : (p : Plan) (c : Coord) → WorksFirst (decide p c).outs
decide_first p c = front_first (record_work (actor p.path) p ++ says (actor p.path) body.Committed c) (map told p.sent)
    (all_both IsMute (record_work (actor p.path) p) (says (actor p.path) body.Committed c) (work (has_record p))
    (says_mute (actor p.path) body.Committed c))
    (light_first (map told p.sent) (all_map IsLight told p.sent (λ n. each n (has (participants p) n))))
  where
    told : ℕ → Effect
    told = decided_told (root_of p.path) (actor p.path) p

    work : (b : Bool) →
        AreStill IsMute (cond b (Do (PutIntent (actor p.path) (record { root = root_of p.path; nodes = participants p })) ∷ []) [])
    work true = (tt, tt)
    work false = tt

    each : (n : ℕ) (b : Bool) → IsLight (cond b (tell (root_of p.path) (has_record p) ((actor p.path, ending.Commit) ∷ []) n)
        (tell (root_of p.path) false ((actor p.path, ending.Abort) ∷ []) n))
    each n true = tt
    each n false = tt

ends_first : (u : Uid) (e : End) (f : Label → Body) (intents : List (Uid × Intent)) (c : Coord) →
    WorksFirst (ends_with u e f intents c).outs
ends_first u e f intents c = front_first (says u f c) (tolds_of intents (ended u e c) u) (says_mute u f c)
    (light_first (tolds_of intents (ended u e c) u) (ends_light intents (ended u e c) u))

step_first : (u : Uid) (s : CommitStep) (intents : List (Uid × Intent)) (c : Coord) → WorksFirst (step_commit u s intents c).outs
step_first u (Stays m) intents c = tt
step_first u (Asks m) intents c =
    light_first (asks_all (plan_of m).path (plan_of m).req (commit.waiting m) (commits_in u m c)).outs
    (asks_light (plan_of m).path (plan_of m).req (commit.waiting m) (commits_in u m c))
step_first u (Decides p) intents c = decide_first p c
step_first u (Aborts why p) intents c = ends_first u ending.Abort (λ l. body.Aborted l why) intents c

moved_first : (u : Uid) (m : Marked) (intents : List (Uid × Intent)) (c : Coord) → WorksFirst (moved_commit u m intents c).outs
moved_first u m intents c = front_first (mark_lines u m.marks c) (step_commit u m.step intents c).outs (marks_mute u m.marks c)
    (step_first u m.step intents c)

pub heard_first : (from : ℕ) (a : Asked) (r : Reply) (intents : List (Uid × Intent)) (c : Coord) → WorksFirst (heard from a r intents c).outs
heard_first from a r intents c = by (doing_of a.act c)
  where
    now : (n : Now) → WorksFirst (heard_now from a r intents c n).outs
    now Idle = tt
    now (Calling s) = one (waits_for_call from a r s)
      where
        one : (w : Bool) → WorksFirst (cond {A = Served Coord (Unit {0})} w (heard_by (heard_call s r c)) (heard_none c)).outs
        one true = call_first s _ _
        one false = tt
    now (Committing m) = one (waits_for_commit from a r m)
      where
        one : (w : Bool) → WorksFirst (cond {A = Served Coord (Unit {0})} w
            (heard_by (moved_commit a.act (commit.answered from m r) intents c)) (heard_none c)).outs
        one true = moved_first a.act (commit.answered from m r) intents c
        one false = tt

    by : (o : Option Doing) → WorksFirst (heard_doing from a r intents c o).outs
    by None = tt
    by (Some d) = now d.now

give_first : (u : Uid) (intents : List (Uid × Intent)) (c : Coord) → WorksFirst (give_up u intents c).outs
give_first u intents c = by (doing_of u c)
  where
    now : (n : Now) → WorksFirst (gives_up u intents c n).outs
    now Idle = tt
    now (Calling s) = front_first (gaveup_lines u (next_node s ∷ []) c) (give_up_call s c).outs (gaveup_mute u (next_node s ∷ []) c)
        (call_first s _ _)
    now (Committing m) = front_first (gaveup_lines u (nodes_given_up m) c) (moved_commit u (commit.given_up m) intents c).outs
        (gaveup_mute u (nodes_given_up m) c) (moved_first u (commit.given_up m) intents c)

    by : (o : Option Doing) → WorksFirst (give_up_doing u intents c o).outs
    by None = tt
    by (Some d) = now d.now

abort_first : (u : Uid) (intents : List (Uid × Intent)) (c : Coord) → WorksFirst (abort_action u intents c).outs
abort_first u intents c =
    let us = open_below u c.tree ++ u ∷ [] in
    let t = all_aborted us c in
    front_first t.outs (flat_map (tolds_of intents t.part) us) (all_mute us c)
    (light_first (flat_map (tolds_of intents t.part) us) (all_flat IsLight (tolds_of intents t.part) us (λ w. ends_light intents t.part w)))

commit_first : (b : Branch) (intents : List (Uid × Intent)) (c : Coord) → WorksFirst (commit_action b intents c).outs
commit_first b intents c = doomed b.doomed
  where
    u : Uid
    u = actor b.path

    plan : Plan
    plan = plan_for b.path (last_req (doing_of u c)) (root_at (root_of b.path) c) c

    top : WorksFirst (commit_top b.path intents c).outs
    top = front_first (says u body.Committing c) (moved_commit u (commit.start plan) intents c).outs (says_mute u body.Committing c)
        (moved_first u (commit.start plan) intents c)

    kinds : (q : Kind) → WorksFirst (commit_open b intents c q).outs
    kinds kind.Nested = ends_first u ending.Commit body.Committed intents c
    kinds kind.Serial = ends_first u ending.Commit body.Ended intents c
    kinds kind.Top = top
    kinds kind.Independent = top
    kinds kind.Constituent = top

    doomed : (w : Bool) → WorksFirst (cond {A = Did Coord} w (aborts_with u cause.Doomed intents c) (commit_open b intents c b.kind)).outs
    doomed true = ends_first u ending.Abort (λ l. body.Aborted l cause.Doomed) intents c
    doomed false = kinds b.kind

pub acts_first : (i : Input) (intents : List (Uid × Intent)) (c : Coord) → is_act i ≡ true → WorksFirst (acts i intents c).outs
acts_first (input.Call l x o) intents c is = by (branch_named l c)
  where
    by : (f : Option Branch) → WorksFirst (on_branch (λ b. call b.path x o c) c f).outs
    by None = tt
    by (Some b) = tt
acts_first (input.Include l x n) intents c is = by (branch_named l c)
  where
    by : (f : Option Branch) → WorksFirst (on_branch (λ b. include b.path x n c) c f).outs
    by None = tt
    by (Some b) = tt
acts_first (input.Commit l) intents c is = by (branch_named l c)
  where
    by : (f : Option Branch) → WorksFirst (on_branch (λ b. commit_action b intents c) c f).outs
    by None = tt
    by (Some b) = commit_first b intents c
acts_first (input.Abort l) intents c is = by (branch_named l c)
  where
    by : (f : Option Branch) → WorksFirst (on_branch (λ b. abort_action (actor b.path) intents c) c f).outs
    by None = tt
    by (Some b) = abort_first (actor b.path) intents c
acts_first (input.GiveUp l) intents c is = by (branch_named l c)
  where
    by : (f : Option Branch) → WorksFirst (on_branch (λ b. give_up (actor b.path) intents c) c f).outs
    by None = tt
    by (Some b) = give_first (actor b.path) intents c
acts_first i intents c is = absurd (cc is)

-- ---- one message

module _ (k : ℕ) (d : Disk) (t : Parts) (from : ℕ) where
  abbrev GoesFirst : Handled → Type 0
  GoesFirst (Void outs) = ⊤
  GoesFirst (Took v outs) = WorksFirst outs

  answered : (h : Head) (v : Parts) (outs : List Effect) (o : Option Reply) → AreStill IsMute outs → GoesFirst (sends_answer from h v outs o)
  answered h v outs None mute = tt
  answered h v outs (Some r) mute = front_first outs (Send from (response (asked_by h) r) ∷ []) mute tt

  with_it : (f : Naming → Handled) (o : Option Naming) → ((n : Naming) → GoesFirst (f n)) → GoesFirst (if_naming f o)
  with_it f None each = tt
  with_it f (Some n) each = each n

  asked : (h : Head) (a : Ask) → GoesFirst (serve k d t from h a)
  asked h (ask.Bind x include avoid) = with_it _ t.naming (λ n. let r = naming.bind h.path x include avoid d.names n in
      answered h (with_naming t r.part) r.outs (option_map Reply.Bound r.reply) (naming_mute r.outs (bind_own h.path x include avoid d.names n)))
  asked h (ask.Load x) = load (holder_of (object x) d.store)
    where
      held : (s : Option ObjectState) → GoesFirst (load_held from h t s)
      held None = tt
      held (Some s) = answered h t (Do Look ∷ []) (Some (Reply.Loaded (loaded.State s))) (tt, tt)

      load : (o : Option Uid) → GoesFirst (load_by x d.store from h t o)
      load (Some u) = answered h t [] (Some (Reply.Loaded (loaded.InDoubt u))) tt
      load None = held (held_at (object x) d.store)
  asked h (ask.Activate b st) = let r = server.activate k h.path b st t.server in
      answered h (with_server t r.part) r.outs (option_map Reply.Activated r.reply)
      (server_mute k r.outs (activate_own k h.path b st t.server))
  asked h (ask.Record x b i g) = with_it _ t.naming (λ n. let r = naming.note h.path x b i g n in
      answered h (with_naming t r.part) r.outs (option_map Reply.Noted r.reply) (naming_mute r.outs (note_own h.path x b i g n)))
  asked h (ask.Invoke x b i ends o) = let r = server.invoke k h x b i ends o t.server in
      answered h (with_server t r.part) r.outs (option_map Reply.Invoked r.reply)
      (server_mute k r.outs (invoke_own k h x b i ends o t.server))
  asked h (ask.Vote i ties ends) = let r = server.vote k h.path i ties ends t.server in
      answered h (with_server t r.part) r.outs (option_map Reply.Voted r.reply)
      (server_mute k r.outs (vote_own k h.path i ties ends t.server))
  asked h (ask.Prepare states) = each (is_prepared (actor h.path) d.store)
    where
      new : (a : Prep) → GoesFirst (prepare_by k states from h t a)
      new Ready = answered h t (Do Look ∷ Do (Prepare role.Store (actor h.path) states) ∷ Say
          (body.Prepared k (actor h.path) role.Store) ∷ []) (Some (Reply.Prepared prepared.Yes)) (tt, (tt, (tt, tt)))
      new (Already u) = tt
      new (Old u v) = answered h t (Do Look ∷ []) (Some (Reply.Prepared (prepared.Old u.num v))) (tt, tt)
      new (InDoubt u holder) = answered h t (Do Look ∷ []) (Some (Reply.Prepared (prepared.InDoubt u.num holder))) (tt, tt)

      each : (b : Bool) → GoesFirst (cond b (sends_answer from h t [] (Some (Reply.Prepared prepared.Yes)))
          (prepare_by k states from h t (prepare_answer (actor h.path) states d.store)))
      each true = answered h t [] (Some (Reply.Prepared prepared.Yes)) tt
      each false = new (prepare_answer (actor h.path) states d.store)
  asked h (ask.Confirm grants excluded included) =
      with_it _ t.naming (λ n. let r = confirm h.path grants excluded included d.names n in
      answered h (with_naming t r.part) r.outs (option_map Reply.Confirmed r.reply)
      (naming_mute r.outs (confirm_own h.path grants excluded included d.names n)))

  coord_goes : (c : Coord) (outs : List Effect) (r : Option (Unit {0})) → WorksFirst outs → GoesFirst (by_reply (with_coord t c) outs r)
  coord_goes c outs None first = tt
  coord_goes c outs (Some u) first = first

  ends_go : (ack : Bool) (ends : List (Uid × End)) (o : Option (Uid × End)) → GoesFirst (handle_ends k d t from ack ends o)
  ends_go ack ends None = tt
  ends_go ack ends (Some e) =
      let s = server.told k ends t.server in
      let o = naming_told e.0 e.1 d.names t.naming in
      front_first (store_told k e.0 e.1 d.store ++ o.outs ++ s.outs) (ack_told from e.0 ack)
      (all_both IsMute (store_told k e.0 e.1 d.store ++ o.outs) s.outs
      (all_both IsMute (store_told k e.0 e.1 d.store) o.outs (stored (is_prepared e.0 d.store) e.1) (named t.naming))
      (server_mute k s.outs (ends_own k ends t.server))) (acks ack)
    where
      stored : (b : Bool) (how : End) → AreStill IsMute (cond b (end_states k e.0 how) [])
      stored false how = tt
      stored true ending.Commit = (tt, (tt, tt))
      stored true ending.Abort = (tt, (tt, tt))

      named : (o : Option Naming) → AreStill IsMute (let r = naming_told e.0 e.1 d.names o in r.outs)
      named None = tt
      named (Some o) = naming_mute (naming.told e.0 e.1 d.names o).outs (told_own e.0 e.1 d.names o)

      acks : (b : Bool) → WorksFirst (ack_told from e.0 b)
      acks true = tt
      acks false = tt

  query_light : (u : Uid) (intents : List (Uid × Intent)) (c : Coord) → AreStill IsLight (answer_query from u intents c)
  query_light u intents c = by (is_open u c.tree || is_deferred u intents from)
    where
      decided : AreStill IsLight (answer_decided from u c)
      decided = one (is_kept_commit from u c)
        where
          one : (b : Bool) → AreStill IsLight (cond b (tell (root_or_self u (branch_of u c.tree)) false ((u, ending.Commit) ∷ []) from ∷ [])
              (tell (root_or_self u (branch_of u c.tree)) false ((u, ending.Abort) ∷ []) from ∷ []))
          one true = (tt, tt)
          one false = (tt, tt)

      recorded : (o : Option Intent) → AreStill IsLight (answer_recorded from u c o)
      recorded None = decided
      recorded (Some i) = one (has i.nodes from)
        where
          one : (b : Bool) → AreStill IsLight (cond b (tell i.root true ((u, ending.Commit) ∷ []) from ∷ []) (answer_decided from u c))
          one true = (tt, tt)
          one false = decided

      by : (b : Bool) → AreStill IsLight (cond b [] (answer_recorded from u c (at_uid u intents)))
      by true = tt
      by false = recorded (at_uid u intents)

  acked_first : (u : Uid) (intents : List (Uid × Intent)) (c : Coord) → WorksFirst (acked from u intents c).outs
  acked_first u intents c = by (at_uid u c.telling)
    where
      gone : (o : Option Intent) → AreStill IsLight (tolds_let_go u (without_uid u intents) c o)
      gone None = tt
      gone (Some i) = one (not (uid_eq i.root u) && is_over (branch_of i.root c.tree))
        where
          one : (b : Bool) → AreStill IsLight
              (cond b (tell_all i.root false ((i.root, ending.Abort) ∷ []) (let_go i.root (without_uid u intents) c i.nodes)) [])
          one true = tells_light i.root false ((i.root, ending.Abort) ∷ []) (let_go i.root (without_uid u intents) c i.nodes)
          one false = tt

      left : (i : Intent) (ns : List ℕ) → WorksFirst (acked_left u i intents c ns).outs
      left i [] = light_first (tolds_let_go u (without_uid u intents) c (at_uid u intents)) (gone (at_uid u intents))
      left i (n ∷ ns) = tt

      waited : (i : Intent) (b : Bool) →
          WorksFirst (cond {A = Served Coord (Unit {0})} b (acked_left u i intents c (without_number from i.nodes))
          (record { part = c; outs = []; reply = None })).outs
      waited i true = left i (without_number from i.nodes)
      waited i false = tt

      by : (o : Option Intent) → WorksFirst (acked_by from u intents c o).outs
      by None = tt
      by (Some i) = waited i (has i.nodes from)

  other_goes : (m : Message) → GoesFirst (handle_other k d t from m)
  other_goes (message.Told m) = ends_go m.ack m.ends (last_end m.ends)
  other_goes (message.Acked m) = let r = acked from m.act d.intents t.coord in
      coord_goes r.part r.outs r.reply (acked_first m.act d.intents t.coord)
  other_goes (message.Query m) = light_first (answer_query from m.act d.intents t.coord) (query_light m.act d.intents t.coord)
  other_goes (message.Hello m) = light_first (map query_about (filter (is_earlier m.node m.inc) (holders d t)))
      (all_map IsLight query_about (filter (is_earlier m.node m.inc) (holders d t)) (λ u. tt))
  other_goes m = tt

  goes_first : (m : Message) → GoesFirst (handle k d t from m)
  goes_first m = by (asks m)
    where
      by_answer : (o : Option (Asked × Reply)) → GoesFirst (handle_answer k d t from m o)
      by_answer None = other_goes m
      by_answer (Some a) = let r = heard from a.0 a.1 d.intents t.coord in
          coord_goes r.part r.outs r.reply (heard_first from a.0 a.1 d.intents t.coord)

      by : (o : Option (Head × Ask)) → GoesFirst (handle_ask k d t from m o)
      by None = by_answer (answers m)
      by (Some a) = asked a.0 a.1

  pub message_first : (m : Message) (v : Parts) (outs : List Effect) → handle k d t from m ≡ Took v outs → WorksFirst outs
  message_first m v outs is = Words.subst GoesFirst is (goes_first m)
