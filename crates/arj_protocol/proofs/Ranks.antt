-- What a node sends to itself stands further on in the protocol each time, so the rounds of a step leave nothing.
use Rattle.std.proofs.Common.{◌≡◌, ◌≤◌, ℕ, suc, ◌+◌, List, [], ◌∷◌, ◌++◌, Bool, true, false, refl, subst, map, Option, Some, None, ◌==◌}
use Rattle.std.proofs.Common.{◌&&◌, arith}
use Rattle.std.proofs.lemmas.Bool.{and_parts}
use Rattle.std.specs.Prelude.{nat_lt, if◌then◌else◌, ⊤, not, ◌||◌}
use Rattle.std.specs.List.{list_all, AllByRecursion}
use Rattle.arj_protocol.specs.Words.{Uid, End, Head, Asked, Ask, request, Body, Label, Kind, Path, uid_eq}
use Rattle.arj_protocol.specs.Words.ask
use Rattle.arj_protocol.specs.Words.ending
use Rattle.arj_protocol.specs.Words.body
use Rattle.arj_protocol.specs.Words.kind
use Rattle.arj_protocol.specs.Words.bound
use Rattle.arj_protocol.specs.Words.loaded
use Rattle.arj_protocol.specs.Words.recorded
use Rattle.arj_protocol.specs.Words.invoked
use Rattle.arj_protocol.specs.Words.voted
use Rattle.arj_protocol.specs.Words.prepared
use Rattle.arj_protocol.specs.Words.confirmed
use Rattle.arj_protocol.specs.Order.{has, with_number, without_number, without_uid, at_uid, binding_eq, binding_less}
use Rattle.arj_protocol.specs.Effect.{Effect, Say, Send, Do, PutIntent, Intent, Served}
use Rattle.arj_protocol.specs.Ask.{Reply, actor, response, ask_kind, reply_kind}
use Rattle.arj_protocol.specs.Tree.{Branch, branch_of, is_open, root_of, ends_of}
use Rattle.arj_protocol.specs.Call.{Known, Steps, Goal, Run, Include, At, AtBind, AtLoad, AtActivate, AtNote, AtInvoke, CallEnd, CallStep}
use Rattle.arj_protocol.specs.Call.{On, Ended, Moved, moves, finds, answered, bound_by, same_binding, other_binding, with_inc, named_again}
use Rattle.arj_protocol.specs.Call.{live_known, made_known, next_ask, next_node, ask_at, two_bindings, two_incs}
use Rattle.arj_protocol.specs.Commit as commit
use Rattle.arj_protocol.specs.Commit.{Machine, Voting, Preparing, Confirming, CommitStep, Stays, Asks, Decides, Aborts, Marked, Plan, Used}
use Rattle.arj_protocol.specs.Commit.{begin_confirm, begin_prepare, votes_left, stores_left, targets_of, waiting, plan_of, left_of, ask_of}
use Rattle.arj_protocol.specs.Commit.{participants, has_record, further}
use Rattle.arj_protocol.specs.Coord.{Coord, Doing, Now, Idle, Calling, Committing, doing_of, on_doing, on_root, is_free}
use Rattle.arj_protocol.specs.Ending.{says, say_for, tell, tell_all, tolds_of, tolds_by, tolds_of_branch, ended, ends_with, decide}
use Rattle.arj_protocol.specs.Ending.{decided_told, record_work, acked, acked_by, acked_left, tolds_let_go, let_go, is_over, answer_query}
use Rattle.arj_protocol.specs.Ending.{answer_recorded, answer_decided, is_deferred, is_kept_commit, root_or_self}
use Rattle.arj_protocol.specs.Asking.{asks_all, asks_node, step_call, heard_call, end_line, mark_lines, step_commit, moved_commit, heard}
use Rattle.arj_protocol.specs.Asking.{heard_doing, heard_now, heard_by, heard_none, waits_for_call, waits_for_commit, commits_in}
use Rattle.arj_protocol.specs.Asking.{root_moved, kept_at}
use Rattle.arj_protocol.specs.Rank.{rank, is_above}
use Rattle.arj_protocol.specs.Says.{AreAll, is_server_effect, is_naming_effect}
use Rattle.arj_protocol.proofs.PartSays.{all_both, all_flat, all_if}

abbrev pub Above : ℕ → List Effect → Type 0
Above k outs = AreAll (is_above k) outs

pub both_above : (k : ℕ) (es fs : List Effect) → Above k es → Above k fs → Above k (es ++ fs)
both_above k es fs a b = all_both (is_above k) es fs a b

-- effects of one kind are of another that has it
pub weaker : (a b : Effect → Bool) → ((e : Effect) → a e ≡ true → b e ≡ true) → (es : List Effect) → AreAll a es → AreAll b es
weaker a b more [] all = refl
weaker a b more (e ∷ es) all =
    let q = and_parts (a e) (list_all a es) all in
    rw (more e q.0) (weaker a b more es q.1)

pub server_above : (k n : ℕ) (e : Effect) → is_server_effect n e ≡ true → is_above k e ≡ true
server_above k n (Say b) is = refl
server_above k n (Do w) is = refl
server_above k n (Send to m) is = absurd (cc is)

pub naming_above : (k : ℕ) (e : Effect) → is_naming_effect e ≡ true → is_above k e ≡ true
naming_above k (Say b) is = refl
naming_above k (Do w) is = refl
naming_above k (Send to m) is = absurd (cc is)

pub map_above : {A : Type 0} (k : ℕ) (f : A → Effect) (items : List A) → ((a : A) → is_above k (f a) ≡ true) → Above k (map f items)
map_above k f [] each = refl
map_above k f (a ∷ rest) each = rw (each a) (map_above k f rest each)

says_above : (k : ℕ) (u : Uid) (f : Label → Body) (c : Coord) → Above k (says u f c)
says_above k u f c = by (doing_of u c)
  where
    by : (o : Option Doing) → Above k (say_for f o)
    by None = refl
    by (Some d) = refl

-- a told, with or without acknowledgement, stands behind all requests and their answers
tell_above : (k : ℕ) (root : Uid) (ack : Bool) (ends : List (Uid × End)) (n : ℕ) → k ≤ 17 → is_above k (tell root ack ends n) ≡ true
tell_above k root true ends n low = grind arith
tell_above k root false ends n low = grind arith

untold_above : (k : ℕ) (root : Uid) (ends : List (Uid × End)) (n : ℕ) → k ≤ 19 → is_above k (tell root false ends n) ≡ true
untold_above k root ends n low = grind arith

tells_above : (k : ℕ) (root : Uid) (ends : List (Uid × End)) (nodes : List ℕ) → k ≤ 19 → Above k (tell_all root false ends nodes)
tells_above k root ends nodes low = map_above k (tell root false ends) nodes (λ n. untold_above k root ends n low)

tolds_by_above : (k : ℕ) (u : Uid) (q : Kind) (p : Path) (intents : List (Uid × Intent)) (c : Coord) → k ≤ 19 →
    Above k (tolds_by u q p intents c)
tolds_by_above k u kind.Nested p intents c low = tells_above k _ _ _ low
tolds_by_above k u kind.Serial p intents c low = tells_above k _ _ _ low
tolds_by_above k u kind.Top p intents c low = tells_above k _ _ _ low
tolds_by_above k u kind.Independent p intents c low = tells_above k _ _ _ low
tolds_by_above k u kind.Constituent p intents c low = tells_above k _ _ _ low

tolds_above : (k : ℕ) (intents : List (Uid × Intent)) (c : Coord) (u : Uid) → k ≤ 19 → Above k (tolds_of intents c u)
tolds_above k intents c u low = by (branch_of u c.tree)
  where
    by : (b : Option Branch) → Above k (tolds_of_branch u intents c b)
    by None = refl
    by (Some b) = tolds_by_above k u b.kind b.path intents c low

ends_above : (k : ℕ) (u : Uid) (e : End) (f : Label → Body) (intents : List (Uid × Intent)) (c : Coord) → k ≤ 19 →
    Above k (ends_with u e f intents c).outs
ends_above k u e f intents c low =
    both_above k (says u f c) (tolds_of intents (ended u e c) u) (says_above k u f c) (tolds_above k intents (ended u e c) u low)

decide_above : (k : ℕ) (p : Plan) (c : Coord) → k ≤ 17 → Above k (decide p c).outs
decide_above k p c low =
    both_above k (record_work u p ++ says u body.Committed c) (map (decided_told (root_of p.path) u p) p.sent)
    (both_above k (record_work u p) (says u body.Committed c) (by (has_record p)) (says_above k u body.Committed c))
    (map_above k (decided_told (root_of p.path) u p) p.sent each)
  where
    u : Uid
    u = actor p.path

    by : (b : Bool) → Above k (if b then Do (PutIntent u (record { root = root_of p.path; nodes = participants p })) ∷ [] else [])
    by true = refl
    by false = refl

    pick : (n : ℕ) (b : Bool) →
        is_above k (if b then tell (root_of p.path) (has_record p) ((u, ending.Commit) ∷ []) n else tell (root_of p.path) false ((u, ending.Abort) ∷ []) n) ≡ true
    pick n true = tell_above k (root_of p.path) (has_record p) ((u, ending.Commit) ∷ []) n low
    pick n false = tell_above k (root_of p.path) false ((u, ending.Abort) ∷ []) n low

    each : (n : ℕ) → is_above k (decided_told (root_of p.path) u p n) ≡ true
    each n = pick n (has (participants p) n)

-- ---- acknowledgements and queries

let_go_above : (k : ℕ) (u : Uid) (intents : List (Uid × Intent)) (c : Coord) (o : Option Intent) → k ≤ 19 →
    Above k (tolds_let_go u intents c o)
let_go_above k u intents c None low = refl
let_go_above k u intents c (Some i) low =
    all_if (is_above k) (not (uid_eq i.root u) && is_over (branch_of i.root c.tree)) (tell_all i.root false ((i.root, ending.Abort) ∷ []) (let_go i.root intents c i.nodes)) []
    (tells_above k i.root ((i.root, ending.Abort) ∷ []) (let_go i.root intents c i.nodes) low) refl

pub acked_above : (k from : ℕ) (u : Uid) (intents : List (Uid × Intent)) (c : Coord) → k ≤ 19 → Above k (acked from u intents c).outs
acked_above k from u intents c low = by (at_uid u c.telling)
  where
    none : Served Coord (Unit {0})
    none = record { part = c; outs = []; reply = None }

    left : (i : Intent) (ns : List ℕ) → Above k (acked_left u i intents c ns).outs
    left i [] = let_go_above k u (without_uid u intents) c (at_uid u intents) low
    left i (n ∷ ns) = refl

    waited : (i : Intent) (b : Bool) → Above k (if b then acked_left u i intents c (without_number from i.nodes) else none).outs
    waited i true = left i (without_number from i.nodes)
    waited i false = refl

    by : (o : Option Intent) → Above k (acked_by from u intents c o).outs
    by None = refl
    by (Some i) = waited i (has i.nodes from)

pub query_above : (from : ℕ) (u : Uid) (intents : List (Uid × Intent)) (c : Coord) → Above 1 (answer_query from u intents c)
query_above from u intents c = by (is_open u c.tree || is_deferred u intents from) (at_uid u intents)
  where
    decided : (b : Bool) →
        Above 1 (if b then tell (root_or_self u (branch_of u c.tree)) false ((u, ending.Commit) ∷ []) from ∷ [] else tell (root_or_self u (branch_of u c.tree)) false ((u, ending.Abort) ∷ []) from ∷ [])
    decided true = refl
    decided false = refl

    listed : (i : Intent) (b : Bool) → Above 1 (if b then tell i.root true ((u, ending.Commit) ∷ []) from ∷ [] else answer_decided from u c)
    listed i true = refl
    listed i false = decided (is_kept_commit from u c)

    by : (b : Bool) (o : Option Intent) → Above 1 (if b then [] else answer_recorded from u c o)
    by true o = refl
    by false None = decided (is_kept_commit from u c)
    by false (Some i) = listed i (has i.nodes from)

-- ---- the next step of a call

-- the kind of what a step asks
abbrev at_kind : At → ℕ
at_kind (AtBind avoid) = 1
at_kind (AtLoad k s rest) = 2
at_kind (AtActivate k st) = 3
at_kind (AtNote k i) = 4
at_kind (AtInvoke k i) = 5

abbrev Higher : ℕ → CallStep → Type 0
Higher k (On at) = nat_lt k (at_kind at) ≡ true
Higher k (Ended e) = ⊤

abbrev NextIs : ℕ → Moved → Type 0
NextIs k m = Higher k m.step

inc_next : (k i : ℕ) (old : Known) (at : At) (o : Option ℕ) → nat_lt k (at_kind at) ≡ true → NextIs k (with_inc i old at o)
inc_next k i old at None high = high
inc_next k i old at (Some first) high = by (first == i)
  where
    by : (b : Bool) → NextIs k (if b then moves (Some old) at else finds (Some old) (CallEnd.Changed old.server (two_incs first i)))
    by true = high
    by false = tt

bound_next : (k : ℕ) (free : Bool) (n : Known) (at : At) (o : Option Known) → nat_lt k (at_kind at) ≡ true → NextIs k (bound_by free n at o)
bound_next k free n at None high = high
bound_next k free n at (Some old) high = by (binding_eq old.binding n.binding)
  where
    same : (i : Option ℕ) → NextIs k (same_binding old n at i)
    same None = high
    same (Some i) = inc_next k i (named_again old n) at old.inc high

    other : (b : Bool) →
        NextIs k (if b then moves (Some n) at else finds (Some old) (CallEnd.Changed 1 (two_bindings old.binding n.binding)))
    other true = high
    other false = tt

    by : (b : Bool) → NextIs k (if b then same_binding old n at n.inc else other_binding free old n at)
    by true = same n.inc
    by false = other (free && binding_less old.binding n.binding)

reply_next : (free : Bool) (kept : Option Known) (g : Goal) (at : At) (r : Reply) → (reply_kind r == at_kind at) ≡ true →
    NextIs (reply_kind r) (answered free kept g at r)
reply_next free kept g (AtBind avoid) (Reply.Bound (bound.Live b s i n ss)) is =
    bound_next 1 free (live_known b s i n ss) (AtInvoke (live_known b s i n ss) i) kept refl
reply_next free kept g (AtBind avoid) (Reply.Bound (bound.Make b s n [])) is = tt
reply_next free kept g (AtBind avoid) (Reply.Bound (bound.Make b s n (t ∷ ts))) is =
    bound_next 1 free (made_known b s n (t ∷ ts)) (AtLoad (made_known b s n (t ∷ ts)) t ts) kept refl
reply_next free kept g (AtBind avoid) (Reply.Bound (bound.Write n [])) is = tt
reply_next free kept g (AtBind avoid) (Reply.Bound (bound.Write n (t ∷ ts))) is = refl
reply_next free kept g (AtBind avoid) (Reply.Bound (bound.Conflict q m)) is = tt
reply_next free kept (Run o) (AtLoad k s rest) (Reply.Loaded (loaded.State st)) is = refl
reply_next free kept (Include t) (AtLoad k s rest) (Reply.Loaded (loaded.State st)) is = tt
reply_next free kept g (AtLoad k s rest) (Reply.Loaded (loaded.InDoubt q)) is = tt
reply_next free None g (AtActivate k st) (Reply.Activated i) is = refl
reply_next free (Some old) g (AtActivate k st) (Reply.Activated i) is = by (binding_eq old.binding k.binding)
  where
    by : (b : Bool) → NextIs 3 (if b then with_inc i old (AtNote k i) old.inc else moves (Some old) (AtNote k i))
    by true = inc_next 3 i old (AtNote k i) old.inc refl
    by false = refl
reply_next free kept g (AtNote k i) (Reply.Noted recorded.Yes) is = refl
reply_next free kept g (AtNote k i) (Reply.Noted (recorded.Changed w)) is = tt
reply_next free kept g (AtInvoke k i) (Reply.Invoked (invoked.Answered a)) is = tt
reply_next free kept g (AtInvoke k i) (Reply.Invoked (invoked.Conflict q m)) is = tt
reply_next free kept g (AtInvoke k i) (Reply.Invoked (invoked.Changed w)) is = tt
reply_next free kept g at r is = absurd (cc is)

-- ---- a call goes on

-- the kind of a request tells where its message stands
pub ask_rank : (h : Head) (a : Ask) → rank (request h a) ≡ ask_kind a + ask_kind a
ask_rank h (ask.Bind x include avoid) = refl
ask_rank h (ask.Load x) = refl
ask_rank h (ask.Activate b s) = refl
ask_rank h (ask.Record x b i g) = refl
ask_rank h (ask.Invoke x b i ends o) = refl
ask_rank h (ask.Vote i ties ends) = refl
ask_rank h (ask.Prepare states) = refl
ask_rank h (ask.Confirm grants excluded included) = refl

pub reply_rank : (a : Asked) (r : Reply) → rank (response a r) ≡ suc (reply_kind r + reply_kind r)
reply_rank a (Reply.Bound r) = refl
reply_rank a (Reply.Loaded r) = refl
reply_rank a (Reply.Activated i) = refl
reply_rank a (Reply.Noted r) = refl
reply_rank a (Reply.Invoked r) = refl
reply_rank a (Reply.Voted r) = refl
reply_rank a (Reply.Prepared r) = refl
reply_rank a (Reply.Confirmed r) = refl

step_kind : (x : ℕ) (g : Goal) (ends : List (Uid × End)) (at : At) → ask_kind (ask_at x g ends at) ≡ at_kind at
step_kind x g ends (AtBind avoid) = refl
step_kind x g ends (AtLoad k s rest) = refl
step_kind x g ends (AtActivate k st) = refl
step_kind x g ends (AtNote k i) = refl
step_kind x g ends (AtInvoke k i) = refl

twice : (k m n : ℕ) → nat_lt k m ≡ true → n ≡ m + m → nat_lt (suc (k + k)) n ≡ true
twice k m n less is = grind arith

asked_above : (k : ℕ) (p : Path) (req : ℕ) (a : ℕ × Ask) (c : Coord) → nat_lt k (ask_kind a.1) ≡ true →
    Above (suc (k + k)) (asks_node p req a c).outs
asked_above k p req a c less =
    rw (twice k (ask_kind a.1) (rank (request (record { path = p; req = req }) a.1)) less (ask_rank (record {
      path = p;
      req =
          req;
    }) a.1)) refl

call_above : (k : ℕ) (s : Steps) (t : CallStep) (c : Coord) → Higher k t → Above (suc (k + k)) (step_call s t c).outs
call_above k s (On at) c high =
    let q : Steps = record s { req = s.req + 1; at = at } in
    let here : Coord = on_doing (actor s.path) (λ (d : Doing). record d { req = q.req; now = Calling q }) c in
    asked_above k s.path q.req (next_node q, next_ask (ends_of (root_of s.path) here.tree) q) here (rw (step_kind s.x s.goal (ends_of (root_of s.path) here.tree) at) high)
call_above k s (Ended e) c high = says_above (suc (k + k)) (actor s.path) (end_line s.x s.goal e) c

-- ---- a commit goes on

all_asked_above : (k : ℕ) (p : Path) (req : ℕ) (asked : List (ℕ × Ask)) (c : Coord) →
    AllByRecursion (λ (a : ℕ × Ask). nat_lt k (ask_kind a.1) ≡ true) asked → Above (suc (k + k)) (asks_all p req asked c).outs
all_asked_above k p req [] c all = refl
all_asked_above k p req (a ∷ rest) c all =
    let d = asks_node p req a c in
    both_above (suc (k + k)) d.outs (asks_all p req rest d.part).outs (asked_above k p req a c all.0) (all_asked_above k p req rest d.part all.1)

abbrev machine_kind : Machine → ℕ
machine_kind (Voting p left) = 6
machine_kind (Preparing p left) = 7
machine_kind (Confirming p) = 8

machine_asks : (k : ℕ) (m : Machine) (ns : List ℕ) → nat_lt k (machine_kind m) ≡ true →
    AllByRecursion (λ (a : ℕ × Ask). nat_lt k (ask_kind a.1) ≡ true) (map {A = ℕ} {B = ℕ × Ask} (λ n. (n, ask_of m n)) ns)
machine_asks k m [] high = tt
machine_asks k m (n ∷ ns) high = (by m high, machine_asks k m ns high)
  where
    by : (m : Machine) → nat_lt k (machine_kind m) ≡ true → nat_lt k (ask_kind (ask_of m n)) ≡ true
    by (Voting p left) high = high
    by (Preparing p left) high = high
    by (Confirming p) high = high

-- a step of a commit that asks asks further on
abbrev NextCommit : ℕ → CommitStep → Type 0
NextCommit k (Asks m) = nat_lt k (machine_kind m) ≡ true
NextCommit k _ = ⊤

confirm_next : (us : List Used) (p : Plan) → NextCommit 7 (begin_confirm us p)
confirm_next [] p = tt
confirm_next (u ∷ us) p = refl

confirm_after_vote : (us : List Used) (p : Plan) → NextCommit 6 (begin_confirm us p)
confirm_after_vote [] p = tt
confirm_after_vote (u ∷ us) p = refl

prepare_next : (ns : List ℕ) (p : Plan) → NextCommit 6 (begin_prepare ns p)
prepare_next [] p = confirm_after_vote p.used p
prepare_next (n ∷ ns) p = refl

votes_next : (ns : List ℕ) (p : Plan) → NextCommit 6 (votes_left ns p)
votes_next [] p = prepare_next (targets_of p) p
votes_next (n ∷ ns) p = tt

stores_next : (ns : List ℕ) (p : Plan) → NextCommit 7 (stores_left ns p).step
stores_next [] p = confirm_next p.used p
stores_next (n ∷ ns) p = tt

commit_next : (from : ℕ) (m : Machine) (r : Reply) → NextCommit (reply_kind r) (commit.answered from m r).step
commit_next from (Voting p left) (Reply.Voted (voted.Yes states)) =
    votes_next (without_number from left) (record p { changed = commit.with_states states p.changed })
commit_next from (Voting p left) (Reply.Voted (voted.Changed w)) = tt
commit_next from (Preparing p left) (Reply.Prepared prepared.Yes) =
    stores_next (without_number from left) (record p { prepared = with_number from p.prepared })
commit_next from (Preparing p left) (Reply.Prepared (prepared.InDoubt x q)) =
    stores_next (without_number from left) (commit.marks_store from p)
commit_next from (Preparing p left) (Reply.Prepared (prepared.Old x v)) = tt
commit_next from (Confirming p) (Reply.Confirmed confirmed.Yes) = tt
commit_next from (Confirming p) (Reply.Confirmed (confirmed.Conflict q m)) = tt
commit_next from (Confirming p) (Reply.Confirmed (confirmed.Changed w)) = tt
commit_next from (Confirming p) (Reply.Confirmed (confirmed.NoStores x)) = tt
commit_next from (Confirming p) (Reply.Confirmed (confirmed.Listed x s)) = tt
commit_next from m r = tt

low_kind : (r : Reply) → suc (reply_kind r + reply_kind r) ≤ 17
low_kind (Reply.Bound r) = omega arith
low_kind (Reply.Loaded r) = omega arith
low_kind (Reply.Activated i) = omega arith
low_kind (Reply.Noted r) = omega arith
low_kind (Reply.Invoked r) = omega arith
low_kind (Reply.Voted r) = omega arith
low_kind (Reply.Prepared r) = omega arith
low_kind (Reply.Confirmed r) = omega arith

step_commit_above : (k : ℕ) (u : Uid) (s : CommitStep) (intents : List (Uid × Intent)) (c : Coord) → suc (k + k) ≤ 17 → NextCommit k s →
    Above (suc (k + k)) (step_commit u s intents c).outs
step_commit_above k u (Stays m) intents c low next = refl
step_commit_above k u (Asks m) intents c low next =
    all_asked_above k (plan_of m).path (plan_of m).req (waiting m) (commits_in u m c) (machine_asks k m (left_of m) next)
step_commit_above k u (Decides p) intents c low next = decide_above (suc (k + k)) p c low
step_commit_above k u (Aborts why p) intents c low next =
    ends_above (suc (k + k)) u ending.Abort (λ l. body.Aborted l why) intents c (omega arith)

moved_commit_above : (k : ℕ) (u : Uid) (m : Marked) (intents : List (Uid × Intent)) (c : Coord) → suc (k + k) ≤ 17 → NextCommit k m.step →
    Above (suc (k + k)) (moved_commit u m intents c).outs
moved_commit_above k u m intents c low next =
    both_above (suc (k + k)) (mark_lines u m.marks c) (step_commit u m.step intents c).outs
    (all_flat (is_above (suc (k + k))) (λ (q : ℕ × ℕ). says u (λ l. body.Excluded l q.0 q.1) c) m.marks (λ q. says_above (suc (k + k)) u (λ l. body.Excluded l q.0 q.1) c))
    (step_commit_above k u m.step intents c low next)

-- ---- answers

heard_now_above : (from : ℕ) (a : Asked) (r : Reply) (intents : List (Uid × Intent)) (c : Coord) (n : Now) →
    Above (suc (reply_kind r + reply_kind r)) (heard_now from a r intents c n).outs
heard_now_above from a r intents c Idle = refl
heard_now_above from a r intents c (Calling s) = by (waits_for_call from a r s) refl
  where
    kinds : (e f : Bool) → (e && ((reply_kind r == ask_kind (next_ask [] s)) && f)) ≡ true → (reply_kind r == at_kind s.at) ≡ true
    kinds e f is =
        let q = and_parts e ((reply_kind r == ask_kind (next_ask [] s)) && f) is in
        subst (λ k. (reply_kind r == k) ≡ true) (step_kind s.x s.goal [] s.at) (and_parts (reply_kind r == ask_kind (next_ask [] s)) f q.1).0

    by : (b : Bool) → waits_for_call from a r s ≡ b →
        Above (suc (reply_kind r + reply_kind r)) (if b then heard_by (heard_call s r c) else heard_none c).outs
    by true is = call_above (reply_kind r) s (answered (is_free (root_of s.path) (actor s.path) s.x c) (kept_at s c) s.goal s.at r).step (on_root (root_of s.path) (root_moved s r (answered (is_free (root_of s.path) (actor s.path) s.x c) (kept_at s c) s.goal s.at r)) c)
        (reply_next (is_free (root_of s.path) (actor s.path) s.x c) (kept_at s c) s.goal s.at r (kinds (s.req == a.req) (next_node s == from) is))
    by false is = refl
heard_now_above from a r intents c (Committing m) = by (waits_for_commit from a r m)
  where
    by : (b : Bool) →
        Above (suc (reply_kind r + reply_kind r)) (if b then heard_by (moved_commit a.act (commit.answered from m r) intents c) else heard_none c).outs
    by true = moved_commit_above (reply_kind r) a.act (commit.answered from m r) intents c (low_kind r) (commit_next from m r)
    by false = refl

pub heard_above : (from : ℕ) (a : Asked) (r : Reply) (intents : List (Uid × Intent)) (c : Coord) →
    Above (suc (reply_kind r + reply_kind r)) (heard from a r intents c).outs
heard_above from a r intents c = by (doing_of a.act c)
  where
    by : (o : Option Doing) → Above (suc (reply_kind r + reply_kind r)) (heard_doing from a r intents c o).outs
    by None = refl
    by (Some d) = heard_now_above from a r intents c d.now
