-- A coordinator sends a Bind where a call or an include begins, and at a tick again for each that waits; and at no answer.
use Rattle.arj_law_parts.proofs.Words
use Words.{◌≡◌, ◌≤◌, ◌==◌, ◌+◌, ◌&&◌, ℕ, suc, Bool, true, false, cond, List, [], ◌∷◌, ◌++◌, length, map, Option, Some, None, refl, ◌∙◌, ap}
use Words.{arith, ⊤, if◌then◌else◌, AllByRecursion, flat_map, and_parts, Uid, Asked, Ask, BoundReply, End, Head, InvokedReply, Kind}
use Words.{LoadedReply, Op, Path, RecordedReply, request, Reply, actor, ask_kind, reply_kind, again_all, again_now, asks_all, asks_machine}
use Words.{asks_node, call, commit_action, commit_open, commit_top, commits_in, end_line, gaveup_lines, give_up, give_up_doing, gives_up}
use Words.{heard, heard_by, heard_call, heard_doing, heard_none, heard_now, include, kept_at, last_req, mark_lines, moved_commit, next_req}
use Words.{root_lost, step_call, step_commit, waits_for_call, waits_for_commit, At, AtActivate, AtBind, AtInvoke, AtLoad, AtNote, CallStep}
use Words.{Changed, Ended, Goal, Include, Known, On, Run, Steps, activated_by, answered, ask_at, bound_answer, bound_by, finds, given_up}
use Words.{invoked_answer, live_known, loaded_answer, made_known, moves, named_again, next_ask, next_node, node_at, recorded_answer}
use Words.{same_binding, two_bindings, two_incs, with_inc, Aborts, Asks, CommitStep, Confirming, Decides, Machine, Marked, Preparing, Stays}
use Words.{Voting, ask_of, left_of, nodes_given_up, plan_of, waiting, Calling, Committing, Coord, Doing, Idle, Now, doing_of, is_free}
use Words.{on_root, plan_for, root_at, Did, Do, Effect, Intent, Say, Send, Served, abort_action, acked, all_aborted, answer_query}
use Words.{aborts_with, decide, ends_with, says, tolds_of, binding_eq, binding_less, unbound, AreAll, is_coord_effect, is_coord_line, Input}
use Words.{acts, branch_named, on_branch, tolds_again, Branch, ends_of, open_below, root_of, acked_own, acts_own, heard_own, query_own}
use Words.{tolds_again_own}
use Words.ask
use Words.bound
use Words.body
use Words.cause
use Words.ending
use Words.invoked
use Words.kind
use Words.loaded
use Words.recorded
use Words.commit
use Words.input
use Rattle.arj_law_runs.proofs.bindings
use bindings.Weights.{AllLight, IsNoBind, NoBinds, bind_ask, bind_by, class_light, every_both, light_weighs, request_no_bind, sent_few}
use bindings.Weights.{weigh, weigh_both, weighs_less}
use Rattle.arj_law_runs.proofs.calls
use calls.CoordOuts.{quiet_acked, quiet_again, quiet_all, quiet_query}
use calls.CoordSends.{AllQuiet, quiet_both, quiet_decide, quiet_ends, quiet_flat, quiet_gaveup, quiet_marks, quiet_says, quiet_tolds}

no_both : (es fs : List Effect) → NoBinds es → NoBinds fs → NoBinds (es ++ fs)
no_both es fs a b = every_both IsNoBind es fs a b

-- what asks nothing binds nothing
quiet_none : (outs : List Effect) → AllQuiet outs → NoBinds outs
quiet_none [] q = tt
quiet_none (Send to m ∷ es) q = (ap bind_by q.0, quiet_none es q.1)
quiet_none (Say b ∷ es) q = (tt, quiet_none es q.1)
quiet_none (Do w ∷ es) q = (tt, quiet_none es q.1)

coord_light : (outs : List Effect) → AreAll is_coord_effect outs → NoBinds outs → AllLight outs
coord_light outs own none = class_light is_coord_effect is_coord_line (λ b. refl) (λ x b s. refl) outs own none

-- ---- commits

ask_none : (m : Machine) (n : ℕ) → bind_ask (ask_of m n) ≡ 0
ask_none (Voting p left) n = refl
ask_none (Preparing p left) n = refl
ask_none (Confirming p) n = refl

all_none : (p : _) (req : ℕ) (asked : List (ℕ × Ask)) (c : Coord) → AllByRecursion (λ (a : ℕ × Ask). bind_ask a.1 ≡ 0) asked →
    NoBinds (asks_all p req asked c).outs
all_none p req [] c none = tt
all_none p req (a ∷ rest) c none =
    (request_no_bind (record { path = p; req = req }) a.1 none.0, all_none p req rest (asks_node p req a c).part none.1)

machine_none : (m : Machine) (c : Coord) → NoBinds (asks_machine m c).outs
machine_none m c = all_none (plan_of m).path (plan_of m).req (waiting m) c (each (left_of m))
  where
    each : (ns : List ℕ) → AllByRecursion (λ (a : ℕ × Ask). bind_ask a.1 ≡ 0) (map {A = ℕ} {B = ℕ × Ask} (λ n. (n, ask_of m n)) ns)
    each [] = tt
    each (n ∷ ns) = (ask_none m n, each ns)

commit_step_none : (u : Uid) (s : CommitStep) (intents : List (Uid × Intent)) (c : Coord) → NoBinds (step_commit u s intents c).outs
commit_step_none u (Stays m) intents c = tt
commit_step_none u (Asks m) intents c = machine_none m (commits_in u m c)
commit_step_none u (Decides p) intents c = quiet_none (decide p c).outs (quiet_decide p c)
commit_step_none u (Aborts why p) intents c =
    quiet_none (aborts_with u why intents c).outs (quiet_ends u ending.Abort (λ l. body.Aborted l why) intents c)

moved_none : (u : Uid) (m : Marked) (intents : List (Uid × Intent)) (c : Coord) → NoBinds (moved_commit u m intents c).outs
moved_none u m intents c = no_both (mark_lines u m.marks c) (step_commit u m.step intents c).outs
    (quiet_none (mark_lines u m.marks c) (quiet_marks u m.marks c)) (commit_step_none u m.step intents c)

-- ---- calls

-- the step asks something else
abbrev IsOther : At → Type 0
IsOther (AtBind avoid) = ⊥
IsOther _ = ⊤

abbrev GoesToOther : CallStep → Type 0
GoesToOther (On at) = IsOther at
GoesToOther (Ended e) = ⊤

at_none : (x : ℕ) (g : Goal) (ends : List (Uid × End)) (at : At) → IsOther at → bind_ask (ask_at x g ends at) ≡ 0
at_none x g ends (AtBind avoid) other = absurd other
at_none x g ends (AtLoad k s rest) other = refl
at_none x g ends (AtActivate k st) other = refl
at_none x g ends (AtNote k i) other = refl
at_none x g ends (AtInvoke k i) other = refl

step_none : (s : Steps) (t : CallStep) (c : Coord) → GoesToOther t → NoBinds (step_call s t c).outs
step_none s (On at) c other = (request_no_bind (record { path = s.path; req = s.req + 1 }) _ (at_none s.x s.goal _ at other), tt)
step_none s (Ended e) c other =
    quiet_none (says (actor s.path) (end_line s.x s.goal e) c) (quiet_says (actor s.path) (end_line s.x s.goal e) c)

inc_other : (i : ℕ) (kept : Known) (at : At) (o : Option ℕ) → IsOther at → GoesToOther (with_inc i kept at o).step
inc_other i kept at None other = other
inc_other i kept at (Some first) other = by (first == i)
  where
    by : (b : Bool) → GoesToOther (cond b (moves (Some kept) at) (finds (Some kept) (Changed kept.server (two_incs first i)))).step
    by true = other
    by false = tt

bound_other : (free : Bool) (k : Known) (at : At) (kept : Option Known) → IsOther at → GoesToOther (bound_by free k at kept).step
bound_other free k at None other = other
bound_other free k at (Some old) other = by (binding_eq old.binding k.binding) (free && binding_less old.binding k.binding)
  where
    same : (o : Option ℕ) → GoesToOther (same_binding old k at o).step
    same None = other
    same (Some i) = inc_other i (named_again old k) at old.inc other

    by : (b greater : Bool) → GoesToOther (cond b (same_binding old k at k.inc)
        (cond greater (moves (Some k) at) (finds (Some old) (Changed 1 (two_bindings old.binding k.binding))))).step
    by true greater = same k.inc
    by false true = other
    by false false = tt

naming_other : (free : Bool) (kept : Option Known) (r : BoundReply) → GoesToOther (bound_answer free kept r).step
naming_other free kept (bound.Live b server i g stores) =
    bound_other free (live_known b server i g stores) (AtInvoke (live_known b server i g stores) i) kept tt
naming_other free kept (bound.Make b server g []) = tt
naming_other free kept (bound.Make b server g (s ∷ ss)) =
    bound_other free (made_known b server g (s ∷ ss)) (AtLoad (made_known b server g (s ∷ ss)) s ss) kept tt
naming_other free kept (bound.Write g []) = tt
naming_other free kept (bound.Write g (s ∷ ss)) = tt
naming_other free kept (bound.Conflict holder m) = tt

loaded_other : (kept : Option Known) (k : Known) (s : ℕ) (g : Goal) (r : LoadedReply) → GoesToOther (loaded_answer kept k s g r).step
loaded_other kept k s (Run o) (loaded.State st) = tt
loaded_other kept k s (Include n) (loaded.State st) = tt
loaded_other kept k s (Run o) (loaded.InDoubt holder) = tt
loaded_other kept k s (Include n) (loaded.InDoubt holder) = tt

activated_other : (k : Known) (i : ℕ) (kept : Option Known) → GoesToOther (activated_by k i kept).step
activated_other k i None = tt
activated_other k i (Some old) = by (binding_eq old.binding k.binding)
  where
    by : (b : Bool) → GoesToOther (cond b (with_inc i old (AtNote k i) old.inc) (moves (Some old) (AtNote k i))).step
    by true = inc_other i old (AtNote k i) old.inc tt
    by false = tt

noted_other : (kept : Option Known) (k : Known) (i : ℕ) (r : RecordedReply) → GoesToOther (recorded_answer kept k i r).step
noted_other kept k i recorded.Yes = tt
noted_other kept k i (recorded.Changed w) = tt

invoked_other : (kept : Option Known) (k : Known) (r : InvokedReply) → GoesToOther (invoked_answer kept k r).step
invoked_other kept k (invoked.Answered a) = tt
invoked_other kept k (invoked.Conflict holder m) = tt
invoked_other kept k (invoked.Changed w) = tt

-- an answer of the kind that the step waits for leads to no Bind
answered_other : (free : Bool) (kept : Option Known) (x : ℕ) (g : Goal) (at : At) (r : Reply) →
    (reply_kind r == ask_kind (ask_at x g [] at)) ≡ true → GoesToOther (answered free kept g at r).step
answered_other free kept x g (AtBind avoid) (Reply.Bound r) is = naming_other free kept r
answered_other free kept x g (AtBind avoid) (Reply.Loaded r) is = absurd (cc is)
answered_other free kept x g (AtBind avoid) (Reply.Activated r) is = absurd (cc is)
answered_other free kept x g (AtBind avoid) (Reply.Noted r) is = absurd (cc is)
answered_other free kept x g (AtBind avoid) (Reply.Invoked r) is = absurd (cc is)
answered_other free kept x g (AtBind avoid) (Reply.Voted r) is = absurd (cc is)
answered_other free kept x g (AtBind avoid) (Reply.Prepared r) is = absurd (cc is)
answered_other free kept x g (AtBind avoid) (Reply.Confirmed r) is = absurd (cc is)
answered_other free kept x g (AtLoad k s rest) (Reply.Loaded r) is = loaded_other kept k s g r
answered_other free kept x g (AtLoad k s rest) (Reply.Bound r) is = tt
answered_other free kept x g (AtLoad k s rest) (Reply.Activated r) is = tt
answered_other free kept x g (AtLoad k s rest) (Reply.Noted r) is = tt
answered_other free kept x g (AtLoad k s rest) (Reply.Invoked r) is = tt
answered_other free kept x g (AtLoad k s rest) (Reply.Voted r) is = tt
answered_other free kept x g (AtLoad k s rest) (Reply.Prepared r) is = tt
answered_other free kept x g (AtLoad k s rest) (Reply.Confirmed r) is = tt
answered_other free kept x g (AtActivate k st) (Reply.Activated i) is = activated_other k i kept
answered_other free kept x g (AtActivate k st) (Reply.Bound r) is = tt
answered_other free kept x g (AtActivate k st) (Reply.Loaded r) is = tt
answered_other free kept x g (AtActivate k st) (Reply.Noted r) is = tt
answered_other free kept x g (AtActivate k st) (Reply.Invoked r) is = tt
answered_other free kept x g (AtActivate k st) (Reply.Voted r) is = tt
answered_other free kept x g (AtActivate k st) (Reply.Prepared r) is = tt
answered_other free kept x g (AtActivate k st) (Reply.Confirmed r) is = tt
answered_other free kept x g (AtNote k i) (Reply.Noted r) is = noted_other kept k i r
answered_other free kept x g (AtNote k i) (Reply.Bound r) is = tt
answered_other free kept x g (AtNote k i) (Reply.Loaded r) is = tt
answered_other free kept x g (AtNote k i) (Reply.Activated r) is = tt
answered_other free kept x g (AtNote k i) (Reply.Invoked r) is = tt
answered_other free kept x g (AtNote k i) (Reply.Voted r) is = tt
answered_other free kept x g (AtNote k i) (Reply.Prepared r) is = tt
answered_other free kept x g (AtNote k i) (Reply.Confirmed r) is = tt
answered_other free kept x g (AtInvoke k i) (Reply.Invoked r) is = invoked_other kept k r
answered_other free kept x g (AtInvoke k i) (Reply.Bound r) is = tt
answered_other free kept x g (AtInvoke k i) (Reply.Loaded r) is = tt
answered_other free kept x g (AtInvoke k i) (Reply.Activated r) is = tt
answered_other free kept x g (AtInvoke k i) (Reply.Noted r) is = tt
answered_other free kept x g (AtInvoke k i) (Reply.Voted r) is = tt
answered_other free kept x g (AtInvoke k i) (Reply.Prepared r) is = tt
answered_other free kept x g (AtInvoke k i) (Reply.Confirmed r) is = tt

given_up_other : (at : At) → GoesToOther (given_up at)
given_up_other (AtBind avoid) = tt
given_up_other (AtLoad k n []) = tt
given_up_other (AtLoad k n (m ∷ ms)) = tt
given_up_other (AtActivate k st) = tt
given_up_other (AtNote k i) = tt
given_up_other (AtInvoke k i) = tt

-- ---- answers, acknowledgements, questions

heard_none_bound : (from : ℕ) (a : Asked) (r : Reply) (intents : List (Uid × Intent)) (c : Coord) → NoBinds (heard from a r intents c).outs
heard_none_bound from a r intents c = by (doing_of a.act c)
  where
    now : (n : Now) → NoBinds (heard_now from a r intents c n).outs
    now Idle = tt
    now (Calling s) = one (waits_for_call from a r s) refl
      where
        one : (w : Bool) → waits_for_call from a r s ≡ w →
            NoBinds (cond {A = Served Coord (Unit {0})} w (heard_by (heard_call s r c)) (heard_none c)).outs
        one true waits = step_none s (answered (is_free (root_of s.path) (actor s.path) s.x c) (kept_at s c) s.goal s.at r).step _
            (answered_other (is_free (root_of s.path) (actor s.path) s.x c) (kept_at s c) s.x s.goal s.at r
            (and_parts (reply_kind r == ask_kind (next_ask [] s)) (next_node s == from)
            (and_parts (s.req == a.req) ((reply_kind r == ask_kind (next_ask [] s)) && (next_node s == from)) waits).1).0)
        one false waits = tt
    now (Committing m) = one (waits_for_commit from a r m)
      where
        one : (w : Bool) → NoBinds
            (cond {A = Served Coord (Unit {0})} w (heard_by (moved_commit a.act (commit.answered from m r) intents c)) (heard_none c)).outs
        one true = moved_none a.act (commit.answered from m r) intents c
        one false = tt

    by : (o : Option Doing) → NoBinds (heard_doing from a r intents c o).outs
    by None = tt
    by (Some d) = now d.now

pub heard_light : (from : ℕ) (a : Asked) (r : Reply) (intents : List (Uid × Intent)) (c : Coord) → AllLight (heard from a r intents c).outs
heard_light from a r intents c =
    coord_light (heard from a r intents c).outs (heard_own from a r intents c) (heard_none_bound from a r intents c)

pub acked_light : (from : ℕ) (u : Uid) (intents : List (Uid × Intent)) (c : Coord) → AllLight (acked from u intents c).outs
acked_light from u intents c = coord_light (acked from u intents c).outs (acked_own from u intents c)
    (quiet_none (acked from u intents c).outs (quiet_acked from u intents c))

pub query_light : (from : ℕ) (u : Uid) (intents : List (Uid × Intent)) (c : Coord) → AllLight (answer_query from u intents c)
query_light from u intents c = coord_light (answer_query from u intents c) (query_own from u intents c)
    (quiet_none (answer_query from u intents c) (quiet_query from u intents c))

pub tolds_light : (telling : List (Uid × Intent)) → AllLight (tolds_again telling)
tolds_light telling = coord_light (tolds_again telling) (tolds_again_own telling) (quiet_none (tolds_again telling) (quiet_again telling))

-- ---- inputs

give_up_none : (u : Uid) (intents : List (Uid × Intent)) (c : Coord) → NoBinds (give_up u intents c).outs
give_up_none u intents c = by (doing_of u c)
  where
    now : (n : Now) → NoBinds (gives_up u intents c n).outs
    now Idle = tt
    now (Calling s) = no_both (gaveup_lines u (next_node s ∷ []) c) (step_call s (given_up s.at) (on_root (root_of s.path)
        (root_lost s (given_up s.at)) c)).outs (quiet_none (gaveup_lines u (next_node s ∷ []) c) (quiet_gaveup u (next_node s ∷ []) c))
        (step_none s (given_up s.at) (on_root (root_of s.path) (root_lost s (given_up s.at)) c) (given_up_other s.at))
    now (Committing m) = no_both (gaveup_lines u (nodes_given_up m) c) (moved_commit u (commit.given_up m) intents c).outs (quiet_none
        (gaveup_lines u (nodes_given_up m) c) (quiet_gaveup u (nodes_given_up m) c)) (moved_none u (commit.given_up m) intents c)

    by : (o : Option Doing) → NoBinds (give_up_doing u intents c o).outs
    by None = tt
    by (Some d) = now d.now

commit_none : (b : Branch) (intents : List (Uid × Intent)) (c : Coord) → NoBinds (commit_action b intents c).outs
commit_none b intents c = by b.doomed
  where
    top : NoBinds (commit_top b.path intents c).outs
    top = let m : Marked = commit.start (plan_for b.path (last_req (doing_of (actor b.path) c)) (root_at (root_of b.path) c) c) in
        no_both (says (actor b.path) body.Committing c) (moved_commit (actor b.path) m intents c).outs (quiet_none
        (says (actor b.path) body.Committing c) (quiet_says (actor b.path) body.Committing c)) (moved_none (actor b.path) m intents c)

    kinds : (k : Kind) → NoBinds (commit_open b intents c k).outs
    kinds kind.Nested = quiet_none (ends_with (actor b.path) ending.Commit body.Committed intents c).outs
        (quiet_ends (actor b.path) ending.Commit body.Committed intents c)
    kinds kind.Serial = quiet_none (ends_with (actor b.path) ending.Commit body.Ended intents c).outs
        (quiet_ends (actor b.path) ending.Commit body.Ended intents c)
    kinds kind.Top = top
    kinds kind.Independent = top
    kinds kind.Constituent = top

    by : (d : Bool) →
        NoBinds (cond {A = Did Coord} d (aborts_with (actor b.path) cause.Doomed intents c) (commit_open b intents c b.kind)).outs
    by true = quiet_none (aborts_with (actor b.path) cause.Doomed intents c).outs
        (quiet_ends (actor b.path) ending.Abort (λ l. body.Aborted l cause.Doomed) intents c)
    by false = kinds b.kind

abort_none : (u : Uid) (intents : List (Uid × Intent)) (c : Coord) → NoBinds (abort_action u intents c).outs
abort_none u intents c =
    let us : List Uid = open_below u c.tree ++ u ∷ [] in
    let t = all_aborted us c in
    quiet_none (t.outs ++ flat_map (tolds_of intents t.part) us) (quiet_both t.outs (flat_map (tolds_of intents t.part) us) (quiet_all us c)
    (quiet_flat (tolds_of intents t.part) us (quiet_tolds intents t.part)))

call_few : (n : ℕ) (p : Path) (x : ℕ) (o : Op) (c : Coord) → weigh n (call p x o c).outs ≤ 1
call_few n p x o c = sent_few n _ _

include_few : (n : ℕ) (p : Path) (x s : ℕ) (c : Coord) → weigh n (include p x s c).outs ≤ 1
include_few n p x s c = sent_few n 1 (request (record { path = p; req = next_req (actor p) c }) (ask.Bind x true unbound))

-- an input sends one Bind at most
pub acts_weigh : (n : ℕ) (i : Input) (intents : List (Uid × Intent)) (c : Coord) → weigh n (acts i intents c).outs ≤ 1
acts_weigh n i intents c = by i
  where
    light : (i : Input) → NoBinds (acts i intents c).outs → weigh n (acts i intents c).outs ≤ 1
    light i none = weighs_less n 1 (acts i intents c).outs (coord_light (acts i intents c).outs (acts_own i intents c) none)

    none_of : (f : Branch → Did Coord) (o : Option Branch) → ((b : Branch) → NoBinds (f b).outs) → NoBinds (on_branch f c o).outs
    none_of f None each = tt
    none_of f (Some b) each = each b

    some_of : (f : Branch → Did Coord) (o : Option Branch) → ((b : Branch) → weigh n (f b).outs ≤ 1) → weigh n (on_branch f c o).outs ≤ 1
    some_of f None each = omega arith
    some_of f (Some b) each = each b

    by : (i : Input) → weigh n (acts i intents c).outs ≤ 1
    by (input.Begin l k parent) = light (input.Begin l k parent) (tt, tt)
    by (input.Call l x o) = some_of (λ b. call b.path x o c) (branch_named l c) (λ b. call_few n b.path x o c)
    by (input.Include l x s) = some_of (λ b. include b.path x s c) (branch_named l c) (λ b. include_few n b.path x s c)
    by (input.Commit l) =
        light (input.Commit l) (none_of (λ b. commit_action b intents c) (branch_named l c) (λ b. commit_none b intents c))
    by (input.Abort l) = light (input.Abort l)
        (none_of (λ b. abort_action (actor b.path) intents c) (branch_named l c) (λ b. abort_none (actor b.path) intents c))
    by (input.GiveUp l) = light (input.GiveUp l)
        (none_of (λ b. give_up (actor b.path) intents c) (branch_named l c) (λ b. give_up_none (actor b.path) intents c))
    by (input.Frame k from m) = omega arith
    by input.Tick = omega arith
    by input.Restart = omega arith
    by input.Crash = omega arith
    by (input.Show x) = omega arith

-- ---- what a tick sends again

-- at naming's node one for each action at work, elsewhere none: Binds go to naming
abbrev pub at_naming : ℕ → ℕ → ℕ
at_naming n k = if n == 1 then k else 0

again_one : (n : ℕ) (c : Coord) (o : Now) → weigh n (again_now c o).outs ≤ at_naming n 1
again_one n c Idle = some (n == 1)
  where
    some : (b : Bool) → 0 ≤ cond b 1 0
    some true = omega arith
    some false = omega arith
again_one n c (Committing m) =
    some (n == 1) (light_weighs n (asks_machine m c).outs (machine_light (plan_of m).path (plan_of m).req (waiting m) c (machine_none m c)))
  where
    machine_light : (p : _) (req : ℕ) (asked : List (ℕ × Ask)) (c : Coord) → NoBinds (asks_all p req asked c).outs →
        AllLight (asks_all p req asked c).outs
    machine_light p req [] c none = tt
    machine_light p req (a ∷ rest) c none = (none.0, machine_light p req rest (asks_node p req a c).part none.1)

    some : (b : Bool) → weigh n (asks_machine m c).outs ≡ 0 → weigh n (asks_machine m c).outs ≤ cond b 1 0
    some true is = less (weigh n (asks_machine m c).outs) is
      where
        less : (a : ℕ) → a ≡ 0 → a ≤ 1
        less a is = omega (arith, is)
    some false is = less (weigh n (asks_machine m c).outs) is
      where
        less : (a : ℕ) → a ≡ 0 → a ≤ 0
        less a is = omega (arith, is)
again_one n c (Calling s) = by (n == 1) refl
  where
    h : Head
    h = record { path = s.path; req = s.req }

    flip : (1 == n) ≡ (n == 1)
    flip = grind arith

    elsewhere : (n == 1) ≡ false → (at : At) →
        weigh n (Send (node_at at) (request h (ask_at s.x s.goal (ends_of (root_of s.path) c.tree) at)) ∷ []) ≤ 0
    elsewhere off (AtBind avoid) = none (1 == n) (flip ∙ off)
      where
        none : (b : Bool) → b ≡ false → cond b 1 0 + 0 ≤ 0
        none true is = absurd (cc is)
        none false is = omega arith
    elsewhere off (AtLoad k st rest) = none (st == n)
      where
        none : (b : Bool) → cond b 0 0 + 0 ≤ 0
        none true = omega arith
        none false = omega arith
    elsewhere off (AtActivate k st) = none (k.server == n)
      where
        none : (b : Bool) → cond b 0 0 + 0 ≤ 0
        none true = omega arith
        none false = omega arith
    elsewhere off (AtNote k i) = none (1 == n)
      where
        none : (b : Bool) → cond b 0 0 + 0 ≤ 0
        none true = omega arith
        none false = omega arith
    elsewhere off (AtInvoke k i) = none (k.server == n)
      where
        none : (b : Bool) → cond b 0 0 + 0 ≤ 0
        none true = omega arith
        none false = omega arith

    by : (b : Bool) → (n == 1) ≡ b → weigh n (again_now c (Calling s)).outs ≤ cond b 1 0
    by true on = sent_few n (next_node s) (request h (next_ask (ends_of (root_of s.path) c.tree) s))
    by false off = elsewhere off s.at

pub again_weigh : (n : ℕ) (ds : List Doing) (c : Coord) → weigh n (again_all ds c).outs ≤ at_naming n (length ds)
again_weigh n [] c = by (n == 1)
  where
    by : (b : Bool) → 0 ≤ cond b 0 0
    by true = omega arith
    by false = omega arith
again_weigh n (d ∷ ds) c =
    let t = again_now c d.now in
    let q = again_all ds t.part in
    by (n == 1) (weigh n t.outs) (weigh n q.outs) (weigh n (t.outs ++ q.outs)) (length ds) (again_one n c d.now) (again_weigh n ds t.part)
    (weigh_both n t.outs q.outs)
  where
    by : (b : Bool) (x y z k : ℕ) → x ≤ cond b 1 0 → y ≤ cond b k 0 → z ≡ x + y → z ≤ cond b (suc k) 0
    by true x y z k one rest is = omega (arith, one, rest, is)
    by false x y z k one rest is = omega (arith, one, rest, is)
