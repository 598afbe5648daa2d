-- The nodes for which a commit waits, those that it tells of its end, and those of records stand in increasing order, each once, and what
-- an action is at is its own: at each node of a run, and after each message that a node takes.
use Rattle.arj_law_parts.proofs.Words
use Words.{◌≡◌, ◌∙◌, ◌+◌, ◌==◌, ◌||◌, ℕ, Bool, true, false, cond, List, [], ◌∷◌, ◌++◌, map, refl, sym, ap, subst, ⊤, and_parts, list_all}
use Words.{AllByRecursion, Option, Some, None, Uid, Header, End, Ask, Path, again_all, again_now, asks_all, asks_node}
use Words.{begin_action, acts}
use Words.{tick_outs, with_coord, Coord, Doing, Now, Idle, Calling, Committing, Plan, plan_of}
use Words.{Disk, Do, Effect, Say, Send, Intent, Look, PutInc, Prepare, Commit, Abort, PutIntent, RemoveIntent, Work, Stop, Before, After}
use Words.{InPart}
use Words.{worked, stopped, Parts, Took, handle, Node, parent_of, parts_in, Input, restart_outs, Seen, is_serial, participants}
use Words.{servers_of}
use Words.{naming_node, at_uid, Message, waiting, tolds_again, query_about}
use Words.{holders}
use Words.{answer_query, answer_decided, answer_recorded, is_deferred, is_kept_commit, is_open, branch_of, root_or_self, tell, tell_all}
use Words.{has}
use Words.{new_coord, root_at, root_of, actor, is_on, Went, filter, AreAll}
use Words.ending
use Words.role
use Rattle.arj_law_runs.proofs.Terms
use Terms.{Keeps, at, given, posted, said, up, Up, Walks, halted}
use Rattle.arj_law_parts.proofs.coordinator
use coordinator.{Works.KeepsTelling, Works.KeepsWorks, Works.Works, Works.telling_move, Works.works_begun, Works.works_move}
use coordinator.{Works.works_new}
use coordinator.Trace.{Came, Confirms, GoesFurther, Marks, NewPlan, OldPlan, Out, PlanFrom, PlanMove, Plans, Prepares, PutsRecord, Trace}
use coordinator.Trace.{Votes, plan_keeps}
use coordinator.Trace.{trace_keeps, trace_says}
use coordinator.Walks.{acts_trace, heard_trace, acked_trace, again_keeps}
use Rattle.arj_law_lock_view.proofs.running.WalkSteps.{leaves}
use Rattle.arj_law_parts.proofs.parts.Numbered.{AreUp, set_up}
use Rattle.arj_law_runs.proofs.addresses.Lists.{all_at_uid, all_put, all_without}
use Rattle.arj_law_runs.proofs.kept.{Starts.first_at, Starts.first_up, Walked.other_number, Walked.same_number}
use Rattle.arj_law_serial.proofs.Terms.{all_append, all_flat, all_map}
use Rattle.arj_law_serial.proofs.joint.Restarting.{restart_said}
use Rattle.arj_law_serial.proofs.whole.CoordCases.{CoordCase, coord_case}
use Rattle.arj_law_serial.proofs.whole.CoordCases as cases
use Rattle.arj_law_cause.proofs.follow.lines.Rising.{AreRising, IsRising, rises, without_up}

-- ---- records, and commits under way

abbrev UpIntent : Intent → Type 0
UpIntent i = AreUp i.nodes

abbrev UpRecord : Uid × Intent → Type 0
UpRecord e = UpIntent e.1

-- so it is of the nodes of each record
abbrev pub UpRecords : List (Uid × Intent) → Type 0
UpRecords es = AllByRecursion UpRecord es

-- and of those that a commit under way was sent to
abbrev pub IsSentUp : Now → Type 0
IsSentUp Idle = ⊤
IsSentUp (Calling s) = ⊤
IsSentUp (Committing m) = AreUp (let p = plan_of m in p.sent)

abbrev Its : Uid → Doing → Type 0
Its u d = IsSentUp d.now

abbrev Left : Uid → Doing → Type 0
Left u d = IsRising d.now

-- what an action is at is its own call or commit
abbrev pub IsOwnNow : Uid → Now → Type 0
IsOwnNow u Idle = ⊤
IsOwnNow u (Calling s) = actor s.path ≡ u
IsOwnNow u (Committing m) = actor (plan_of m).path ≡ u

abbrev Home : Uid → Doing → Type 0
Home u d = IsOwnNow u d.now

-- so it is of all that a coordinator has
abbrev pub UpCoord : Coord → Type 0
UpCoord c = AreRising c × Works Its c × UpRecords c.telling × Works Home c

sent_up : {came : Came} (p q : Plan) → Plans came p q → AreUp p.sent → AreUp q.sent
sent_up p q plans up = plan_keeps (λ (r : Plan). AreUp r.sent) move plans up
  where
    move : {came : Came} (r s : Plan) → PlanMove came r s → AreUp r.sent → AreUp s.sent
    move r _ (GoesFurther ns _ asked) up = set_up (r.sent ++ ns)
    move _ _ _ up = up

works_up : {c : Coord} {came : Came} {e : Coord} {outs : List Effect} → Works Its c → Trace c came c outs e → Works Its e
works_up {c} {came} n t = trace_keeps (Works Its) (works_move Its keeps) t n
  where
    before : {came : Came} {u : Uid} {p : Plan} {left : List ℕ} → PlanFrom c came u p left → AreUp p.sent
    before (NewPlan l b intents named) = set_up (map (λ (w : Went). w.node)
        (filter (λ (w : Went). is_on w.path (actor b.path)) (let r = root_at (root_of b.path) c in r.went)))
    before (OldPlan u d m found is) = subst IsSentUp is (n u d found)

    keeps : KeepsWorks Its c came
    keeps = record {
      fresh = λ u l. tt;
      rests = λ u d h. tt;
      takes = λ u d ns h. h;
      calls = λ s d e is h. tt;
      commits = λ u m d on h. sent_up on.before (plan_of m) on.plans (before on.from);
    }

home_trace : {c : Coord} {came : Came} {e : Coord} {outs : List Effect} → Works Home c → Trace c came c outs e → Works Home e
home_trace {c} {came} n t = trace_keeps (Works Home) (works_move Home keeps) t n
  where
    still : {came : Came} (u : Uid) (p q : Plan) → PlanMove came p q → actor p.path ≡ u → actor q.path ≡ u
    still u _ _ (Votes from a intents p states) is = is
    still u _ _ (Prepares from a intents p) is = is
    still u _ _ (Confirms from a intents p) is = is
    still u _ _ (Marks m p) is = is
    still u _ _ (GoesFurther ns p asked) is = is

    before : {came : Came} {u : Uid} {p : Plan} {left : List ℕ} → PlanFrom c came u p left → actor p.path ≡ u
    before (NewPlan l b intents named) = refl
    before (OldPlan u d m found is) = subst (IsOwnNow u) is (n u d found)

    keeps : KeepsWorks Home c came
    keeps = record {
      fresh = λ u l. tt;
      rests = λ u d h. tt;
      takes = λ u d ns h. h;
      calls = λ s d e is h. refl;
      commits = λ u m d on h. plan_keeps (λ (p : Plan). actor p.path ≡ u) (λ p q. still u p q) on.plans (before on.from);
    }

pub found_up : (u : Uid) (es : List (Uid × Intent)) (i : Intent) → UpRecords es → at_uid u es ≡ Some i → AreUp i.nodes
found_up u es i all is = all_at_uid UpIntent u i es all is

telling_up : {c : Coord} {came : Came} {e : Coord} {outs : List Effect} → UpRecords c.telling → Trace c came c outs e → UpRecords e.telling
telling_up {c} {came} n t = trace_keeps (λ (f : Coord). UpRecords f.telling) (telling_move UpRecords keeps) t n
  where
    keeps : KeepsTelling UpRecords c came
    keeps = record {
      awaits = λ u p ends is m all. all_put UpRecord (actor p.path) (record { root = root_of p.path; nodes = participants p }) m
          (λ w. set_up (servers_of p ++ p.prepared ++ naming_node p)) all;
      last = λ from u intents i is found all. all_without UpRecord u c.telling all;
      some = λ from u intents i m ns is found left all. all_put UpRecord u (record i { nodes = m ∷ ns }) c.telling
          (λ w. subst AreUp left (without_up from i.nodes (found_up u c.telling i all found))) all;
    }

up_trace : {c : Coord} {came : Came} {e : Coord} {outs : List Effect} → UpCoord c → Trace c came c outs e → UpCoord e
up_trace h t = (rises h.0 t, works_up h.1 t, telling_up h.2 t, home_trace h.3 t)

up_new : (node inc : ℕ) (records : List (Uid × Intent)) → UpRecords records → UpCoord (record (new_coord node inc) { telling = records })
up_new node inc records all = (works_new Left node inc records, works_new Its node inc records, all, works_new Home node inc records)

-- ---- what is put on a disk

-- a record that is put has such nodes
abbrev pub PutsUp : Effect → Type 0
PutsUp (Do (PutIntent u i)) = AreUp i.nodes
PutsUp e = ⊤

abbrev pub AllPut : List Effect → Type 0
AllPut es = AllByRecursion PutsUp es

puts_trace : {c : Coord} {came : Came} {e : Coord} {outs : List Effect} → Trace c came c outs e → AllPut outs
puts_trace {c} {came} t = (trace_says (λ f. ⊤) (λ f g m h. tt) PutsUp (λ f x o h. out f x o) t tt).1
  where
    out : {when : Came} (f : Coord) (x : Effect) → Out c when f x → PutsUp x
    out _ _ (PutsRecord u p ends is) = set_up (servers_of p ++ p.prepared ++ naming_node p)
    out _ _ _ = tt

parts_up : (es : List Effect) → AreAll leaves es → AllPut es
parts_up [] all = tt
parts_up (Say b ∷ es) all = (tt, parts_up es (and_parts (leaves (Say b)) (list_all leaves es) all).1)
parts_up (Send to m ∷ es) all = (tt, parts_up es all)
parts_up (Do Look ∷ es) all = (tt, parts_up es all)
parts_up (Do (PutInc i) ∷ es) all = absurd (cc all)
parts_up (Do (Prepare r u s) ∷ es) all = (tt, parts_up es all)
parts_up (Do (Commit r u) ∷ es) all = (tt, parts_up es all)
parts_up (Do (Abort r u) ∷ es) all = (tt, parts_up es all)
parts_up (Do (PutIntent u i) ∷ es) all = absurd (cc all)
parts_up (Do (RemoveIntent u) ∷ es) all = absurd (cc all)

query_up : (from : ℕ) (u : Uid) (intents : List (Uid × Intent)) (c : Coord) → AllPut (answer_query from u intents c)
query_up from u intents c = by (is_open u c.tree || is_deferred u intents from)
  where
    decided_so : (b : Bool) → AllPut (cond b (tell (root_or_self u (branch_of u c.tree)) false ((u, ending.Commit) ∷ []) from ∷ [])
        (tell (root_or_self u (branch_of u c.tree)) false ((u, ending.Abort) ∷ []) from ∷ []))
    decided_so true = (tt, tt)
    decided_so false = (tt, tt)

    listed : (i : Intent) (b : Bool) → AllPut (cond b (tell i.root true ((u, ending.Commit) ∷ []) from ∷ []) (answer_decided from u c))
    listed i true = (tt, tt)
    listed i false = decided_so (is_kept_commit from u c)

    recorded : (o : Option Intent) → AllPut (answer_recorded from u c o)
    recorded None = decided_so (is_kept_commit from u c)
    recorded (Some i) = listed i (has i.nodes from)

    by : (b : Bool) → AllPut (cond b [] (answer_recorded from u c (at_uid u intents)))
    by true = tt
    by false = recorded (at_uid u intents)

-- what a node makes of a message
pub message_up : (k : ℕ) (d : Disk) (t v : Parts) (from : ℕ) (m : Message) (outs : List Effect) → handle k d t from m ≡ Took v outs →
    UpCoord t.coord → UpCoord v.coord × AllPut outs
message_up k d t v from m outs is h = by (coord_case k d t v from m outs is)
  where
    by : CoordCase d t from m v outs → UpCoord v.coord × AllPut outs
    by (cases.OfParts mine same plain sent_to) = (subst UpCoord (sym same) h, parts_up outs plain)
    by (cases.Asks u query same outs_are) = (subst UpCoord (sym same) h, subst AllPut outs_are (query_up from u d.intents t.coord))
    by (cases.Heard a r some same outs_are) =
        let w = heard_trace t.coord from a r d.intents in
        (subst UpCoord same (up_trace h w), subst AllPut outs_are (puts_trace w))
    by (cases.Acks u which same outs_are) =
        let w = acked_trace t.coord from u d.intents in
        (subst UpCoord same (up_trace h w), subst AllPut outs_are (puts_trace w))

pub worked_up : (w : Work) (d : Disk) → PutsUp (Do w) → UpRecords d.intents → UpRecords (worked w d).intents
worked_up Look d its all = all
worked_up (PutInc i) d its all = all
worked_up (Prepare role.Store u s) d its all = all
worked_up (Prepare role.Names u s) d its all = all
worked_up (Commit role.Store u) d its all = all
worked_up (Commit role.Names u) d its all = all
worked_up (Abort role.Store u) d its all = all
worked_up (Abort role.Names u) d its all = all
worked_up (PutIntent u i) d its all = all_put UpRecord u i d.intents (λ w. its) all
worked_up (RemoveIntent u) d its all = all_without UpRecord u d.intents all

stopped_up : (how : Stop) (w : Work) (d : Disk) → PutsUp (Do w) → UpRecords d.intents → UpRecords (stopped how w d).intents
stopped_up Before w d its all = all
stopped_up After w d its all = worked_up w d its all
stopped_up (InPart which) Look d its all = all
stopped_up (InPart which) (PutInc i) d its all = all
stopped_up (InPart which) (Prepare r u s) d its all = all
stopped_up (InPart which) (Commit role.Store u) d its all = all
stopped_up (InPart which) (Commit role.Names u) d its all = all
stopped_up (InPart which) (Abort r u) d its all = all
stopped_up (InPart which) (PutIntent u i) d its all = all
stopped_up (InPart which) (RemoveIntent u) d its all = all

-- what the script asks of an action
pub acts_up : (i : Input) (intents : List (Uid × Intent)) (c : Coord) → UpCoord c →
    UpCoord (acts i intents c).part × AllPut (acts i intents c).outs
acts_up i intents c h = let w = acts_trace c i intents in (up_trace h w, puts_trace w)

-- ---- what a tick and a restart send

told_up : (root : Uid) (ack : Bool) (ends : List (Uid × End)) (ns : List ℕ) → AllPut (tell_all root ack ends ns)
told_up root ack ends [] = tt
told_up root ack ends (n ∷ ns) = (tt, told_up root ack ends ns)

tolds_up : (telling : List (Uid × Intent)) → AllPut (tolds_again telling)
tolds_up telling = all_flat PutsUp (λ (e : Uid × Intent). tell_all e.1.root true ((e.0, ending.Commit) ∷ []) e.1.nodes) telling
    (λ e. told_up e.1.root true ((e.0, ending.Commit) ∷ []) e.1.nodes)

asked_up : (p : Path) (req : ℕ) (as_asked : List (ℕ × Ask)) (c : Coord) → AllPut (asks_all p req as_asked c).outs
asked_up p req [] c = tt
asked_up p req (a ∷ rest) c = (tt, asked_up p req rest (asks_node p req a c).part)

pub tick_up : (k : ℕ) (d : Disk) (t : Parts) → AllPut (tick_outs (record { number = k; disk = d; live = Some t }) t)
tick_up k d t = all_append PutsUp ((again_all t.coord.doings t.coord).outs ++ tolds_again t.coord.telling) (map query_about (holders d t))
    (all_append PutsUp (again_all t.coord.doings t.coord).outs (tolds_again t.coord.telling) (again t.coord.doings t.coord)
    (tolds_up t.coord.telling)) (all_map PutsUp query_about (holders d t) (λ u. tt))
  where
    now : (c : Coord) (n : Now) → AllPut (again_now c n).outs
    now c Idle = tt
    now c (Calling s) = (tt, tt)
    now c (Committing m) = asked_up (plan_of m).path (plan_of m).req (waiting m) c

    again : (ds : List Doing) (c : Coord) → AllPut (again_all ds c).outs
    again [] c = tt
    again (z ∷ ds) c = all_append PutsUp (again_now c z.now).outs (again_all ds (again_now c z.now).part).outs (now c z.now)
        (again ds (again_now c z.now).part)

pub again_up : (c : Coord) → UpCoord c → UpCoord (again_all c.doings c).part
again_up c h = again_keeps UpCoord (λ root w e n. n) c.doings c h

pub restart_up : (hd : Header) (k inc : ℕ) (d : Disk) → UpRecords d.intents →
    UpCoord (let t = parts_in k inc d in t.coord) × AllPut (restart_outs hd k inc d)
restart_up hd k inc d all = (
  up_new k inc d.intents all,
  restart_said PutsUp (λ b. tt) hd k inc d tt tt (tolds_up d.intents) (λ u. tt) (λ n. tt),
)

-- ---- all nodes

-- so it is of a node's disk and memory
abbrev pub UpNode : Node → Type 0
UpNode n = UpRecords (let d = n.disk in d.intents) × ((t : Parts) → n.live ≡ Some t → UpCoord t.coord)

abbrev pub AllUp : Seen → Type 0
AllUp M = (j : ℕ) (n : Node) → M.nodes j ≡ Some n → UpNode n

abbrev Others : ℕ → Seen → Type 0
Others k M = (j : ℕ) (n : Node) → (j ≡ k → ⊥) → M.nodes j ≡ Some n → UpNode n

others : (k : ℕ) (d : Disk) (live : Option Parts) (M : Seen) → AllUp (at k d live M) → Others k M
others k d live M all j n other is =
    all j n ((λ i. cond (other_number j k other i) (Some (record { number = k; disk = d; live = live })) (M.nodes j)) ∙ is)

own : (k : ℕ) (d : Disk) (live : Option Parts) (M : Seen) → AllUp (at k d live M) →
    UpNode (record { number = k; disk = d; live = live })
own k d live M all = all k (record { number = k; disk = d; live = live })
    (λ i. cond (same_number k i) (Some (record { number = k; disk = d; live = live })) (M.nodes k))

back : (k : ℕ) (d : Disk) (live : Option Parts) (M : Seen) → UpNode (record { number = k; disk = d; live = live }) → Others k M →
    AllUp (at k d live M)
back k d live M its rest j n is = by (j == k) refl is
  where
    x : Node
    x = record { number = k; disk = d; live = live }

    by : (b : Bool) → (j == k) ≡ b → cond b (Some x) (M.nodes j) ≡ Some n → UpNode n
    by true same there = let here : x ≡ n = cc in subst UpNode here its
    by false apart there =
        rest j n (λ same. let no_way : true ≡ false = sym (same_number k) ∙ ap (λ h. h == k) (sym same) ∙ apart in cc) there

up_is : (v t : Parts) → ◌≡◌ {A = Option Parts} (Some v) (Some t) → UpCoord v.coord → UpCoord t.coord
up_is v t is h = let same : v ≡ t = cc in subst (λ (x : Parts). UpCoord x.coord) same h

down_so : (e k : ℕ) (d : Disk) (M : Seen) → UpRecords d.intents → Others k M → AllUp (halted e k d M)
down_so e k d M disk rest = back k d None M (disk, λ t is. absurd (cc is)) rest

walk : (e k : ℕ) (outs : List Effect) (v : Parts) (d : Disk) (M : Seen) → UpCoord v.coord → UpRecords d.intents → AllPut outs → Others k M →
    Walks AllUp e k outs (Up AllUp k v) d M
walk e k [] v d M its disk puts rest = back k d (Some v) M (disk, λ t is. up_is v t is its) rest
walk e k (Do w ∷ es) v d M its disk puts rest = (
  λ how. down_so e k (stopped how w d) M (stopped_up how w d puts.0 disk) rest,
  walk e k es v (worked w d) M its (worked_up w d puts.0 disk) puts.1 rest,
)
walk e k (Say b ∷ es) v d M its disk puts rest = walk e k es v d (said e (b ∷ []) M) its disk puts.1 rest
walk e k (Send to m ∷ es) v d M its disk puts rest =
    λ more quiet. walk e k es v d (said e more (posted (record { from = k; to = to; message = m }) M)) its disk puts.1 rest

pub ordered_keep : (hd : Header) → Keeps hd AllUp
ordered_keep hd = record {
  quiet = λ e bs M quiet all. all;
  stop = λ e k d live M all. down_so e k d M (own k d live M all).0 (others k d live M all);
  message = λ e k d t v from m outs M all there meant is.
      let its = own k d (Some t) M all in
      let h = message_up k d t v from m outs is (its.1 t refl) in
      walk e k outs v d M h.0 its.0 h.1 (others k d (Some t) M all);
  act = λ e k d t i M is none all.
      let its = own k d (Some t) M all in
      let did = acts i d.intents t.coord in
      let h = acts_up i d.intents t.coord (its.1 t refl) in
      walk e k did.outs (with_coord t did.part) d M h.0 its.0 h.1 (others k d (Some t) M all);
  begin = λ e k d t l how parent M new may none all.
      let its = own k d (Some t) M all in
      let h = its.1 t refl in
      let did = begin_action l how parent (parent_of parent t.coord) t.coord in
      let N = given l (record { node = k; serial = is_serial how }) M in
      walk e k did.outs (with_coord t did.part) d N (
        works_begun Left l how parent (parent_of parent t.coord) t.coord (λ u. tt) h.0,
        works_begun Its l how parent (parent_of parent t.coord) t.coord (λ u. tt) h.1,
        h.2,
        works_begun Home l how parent (parent_of parent t.coord) t.coord (λ u. tt) h.3,
      ) its.0 (tt, tt) (others k d (Some t) M all);
  tick = λ e k d t M all.
      let its = own k d (Some t) M all in
      let r = again_all t.coord.doings t.coord in
      walk e k (tick_outs (record { number = k; disk = d; live = Some t }) t) (with_coord t r.part) d M
      (again_up t.coord (its.1 t refl)) its.0 (tick_up k d t) (others k d (Some t) M all);
  restart = λ e k d M all.
      let its = own k d None M all in
      let h = restart_up hd k (d.inc + 1) d its.0 in
      walk e k (restart_outs hd k (d.inc + 1) d) (parts_in k (d.inc + 1) d) d M h.0 its.0 h.1 (others k d None M all);
  first = λ st formed j n is. (
    subst (λ (x : Node). UpRecords (let d = x.disk in d.intents)) (first_at hd st j n is) tt,
    λ t live. subst (λ (x : Parts). UpCoord x.coord) (first_up hd st j n t is live) (up_new j (st.incs j + 1) [] tt),
  );
}
