-- What a coordinator does when actions begin, call, include, commit and give up, and when they are answered.
use Rattle.arj_protocol.specs.Words.ask
use Rattle.std.specs.Prelude.{ℕ, ◌+◌, Bool, true, false, ◌&&◌, ◌||◌, ◌==◌, if◌then◌else◌, List, [], ◌∷◌, ◌++◌, Option, Some, None}
use Rattle.std.specs.List.{flat_map, list_any}
use Rattle.arj_protocol.specs.Words.{Uid, Binding, Path, Asked, Op, Answer, Body, Label, Kind, uids_of, answer_text, Ask, request}
use Rattle.arj_protocol.specs.Words.ending
use Rattle.arj_protocol.specs.Words.body
use Rattle.arj_protocol.specs.Words.cause
use Rattle.arj_protocol.specs.Words.kind
use Rattle.arj_protocol.specs.Words.bound
use Rattle.arj_protocol.specs.Order.{has, binding_eq, is_binding, unbound}
use Rattle.arj_protocol.specs.Effect.{Effect, Say, Send, Intent, Served, Did}
use Rattle.arj_protocol.specs.Ask.{Reply, actor, top_of, ask_kind, reply_kind, differs}
use Rattle.arj_protocol.specs.Tree.{Branch, begun, next_uid, doomed_at, uses_object, root_of, ends_of}
use Rattle.arj_protocol.specs.Call.{Known, Steps, Goal, Run, Include, CallEnd, Answered, Included, Conflict, Changed, Lost, CallStep, On}
use Rattle.arj_protocol.specs.Call.{Ended, Moved, start, answered, given_up, next_ask, next_node, spoils, has_changed}
use Rattle.arj_protocol.specs.Commit.{Machine, CommitStep, Stays, Asks, Decides, Aborts, Marked, Plan, plan_of, left_of, waiting, ask_of}
use Rattle.arj_protocol.specs.Commit.{nodes_given_up}
use Rattle.arj_protocol.specs.Commit as commit
use Rattle.arj_protocol.specs.Coord.{Coord, Doing, Now, Idle, Calling, Committing, Root, Keeping, Grant, doing_of, on_doing, root_at}
use Rattle.arj_protocol.specs.Coord.{on_root, with_label, keeping_of, with_keeping, with_went, with_said, with_join, with_grant}
use Rattle.arj_protocol.specs.Coord.{is_grant_of, retains, is_call, is_free, plan_for}
use Rattle.arj_protocol.specs.Ending.{says, ends_with, aborts_with, decide}

-- ---- an action begins

-- the line of an action that begins
abbrev pub began_line : Label → Kind → Uid → Option Label → Body
began_line l k u parent = body.Began l k u parent

-- an action begins with the next Uid, and the label is its
abbrev pub begin_action : Label → Kind → Option Label → Option Branch → Coord → Did Coord
begin_action l k parent above c =
    let u = next_uid c.tree in
    record {
      part = with_label l u.num (record c {
        tree = begun k above c.tree;
        doings =
            c.doings ++ record { label = l; req = 0; now = Idle; took = [] } ∷ [];
      });
      outs = Say (began_line l k u parent) ∷ [];
    }

-- ---- requests

-- an Invoke
abbrev pub is_invoke_ask : Ask → Bool
is_invoke_ask (ask.Invoke x b i ends op) = true
is_invoke_ask _ = false

-- a request goes to a node, of which the root takes note
abbrev pub asks_node : Path → ℕ → ℕ × Ask → Coord → Did Coord
asks_node p req a c = record {
  part = on_root (root_of p) (with_went (record { path = uids_of p; node = a.0; invoke = is_invoke_ask a.1 })) c;
  outs = Send a.0 (request (record { path = p; req = req }) a.1) ∷ [];
}

-- a request to each of these nodes, in order
abbrev pub asks_all : Path → ℕ → List (ℕ × Ask) → Coord → Did Coord
asks_all p req [] c = record { part = c; outs = [] }
asks_all p req (a ∷ rest) c =
    let d = asks_node p req a c in
    let t = asks_all p req rest d.part in
    record { part = t.part; outs = d.outs ++ t.outs }

-- ---- calls and includes

-- the request of the step that waits, with the ends of the root so far
abbrev pub asks_step : Steps → Coord → Did Coord
asks_step s c = asks_node s.path s.req (next_node s, next_ask (ends_of (root_of s.path) c.tree) s) c

-- the action waits in this step from now on
abbrev pub goes_on : Steps → Coord → Did Coord
goes_on s c = asks_step s (on_doing (actor s.path) (λ (d : Doing). record d { req = s.req; now = Calling s }) c)

-- Where a call starts while the root is free of a spoiled binding, the root gives it up and avoids it from then on.
abbrev pub given_away : Keeping → Known → Keeping
given_away k old = record { kept = None; spoiled = false; avoid = old.binding }

-- where the root is free and the kept binding is spoiled it is given up, and else kept
abbrev pub renewed : Bool → Keeping → Option Known → Keeping
renewed free k None = k
renewed free k (Some old) = if free && k.spoiled then given_away k old else k

-- this top's last answer to a call on the object named the binding
abbrev pub was_named : Uid → ℕ → Binding → Root → Bool
was_named top x b r = list_any (λ (g : Grant). is_grant_of top x g && is_binding b g.named) r.grants

-- A call goes without a Bind where the kept binding is known to be recorded, and this top's last answer named it or its
-- serializing action retains the object.
abbrev pub known_at_start : Uid → ℕ → Root → Coord → Option Known → Option Known
known_at_start top x r c None = None
known_at_start top x r c (Some k) = if k.recorded && (was_named top x k.binding r || retains x r c) then Some k else None

-- the steps of a call, from the Bind or from what is known
abbrev pub call_steps : Path → ℕ → Op → ℕ → Root → Coord → Keeping → Steps
call_steps p x op req r c k = start p x (Run op) (known_at_start (top_of p) x r c k.kept) k.avoid req

-- the last request number of an action
abbrev pub last_req : Option Doing → ℕ
last_req None = 0
last_req (Some d) = d.req

-- the number of an action's next request
abbrev pub next_req : Uid → Coord → ℕ
next_req u c = last_req (doing_of u c) + 1

-- an action calls an object
abbrev pub call : Path → ℕ → Op → Coord → Did Coord
call p x op c =
    let r = root_at (root_of p) c in
    let old = keeping_of x r in
    let k = renewed (is_free (root_of p) (actor p) x c) old old.kept in
    let t = on_root (root_of p) (with_keeping x k) (record c { tree = uses_object p x c.tree }) in
    goes_on (call_steps p x op (next_req (actor p) c) r c k) t

-- an action includes a store
abbrev pub include : Path → ℕ → ℕ → Coord → Did Coord
include p x s c = goes_on (start p x (Include s) None unbound (next_req (actor p) c)) (record c { tree = uses_object p x c.tree })

-- ---- a call is answered

-- an answer of naming that grants a lock: the naming incarnation, and the binding that it names
abbrev pub granted_by : Uid → ℕ → Reply → Option Grant
granted_by top x (Reply.Bound (bound.Live b server i g stores)) = Some (record { top = top; x = x; least = g; named = Some b })
granted_by top x (Reply.Bound (bound.Make b server g stores)) = Some (record { top = top; x = x; least = g; named = Some b })
granted_by top x (Reply.Bound (bound.Write g stores)) = Some (record { top = top; x = x; least = g; named = None })
granted_by top x _ = None

-- the root notes what was granted, where something was
abbrev pub notes_grant : Option Grant → Root → Root
notes_grant None r = r
notes_grant (Some g) r = with_grant g r

-- both are there and of one binding
abbrev pub same_kept : Option Known → Option Known → Bool
same_kept (Some k) (Some old) = binding_eq k.binding old.binding
same_kept _ _ = false

-- what the root keeps after a step of a call; an include changes nothing of it
abbrev pub keeps_after : Goal → Bool → Option Known → Keeping → Keeping
keeps_after g spoilt kept k = if is_call g then record k { kept = kept; spoiled = (same_kept kept k.kept && k.spoiled) || spoilt } else k

-- the line of an answer, to a call or an include
abbrev pub answer_line : ℕ → Goal → Answer → Label → Body
answer_line x (Run o) a l = body.Ok l x o (answer_text a)
answer_line x (Include s) a l = body.Includes l x s

-- the store that an include is about
abbrev pub store_of : Goal → ℕ
store_of (Run o) = 0
store_of (Include s) = s

-- the line that answers a call or an include
abbrev pub end_line : ℕ → Goal → CallEnd → Label → Body
end_line x g (Answered a) l = answer_line x g a l
end_line x g (Included s) l = body.Includes l x (store_of g)
end_line x g (Conflict holder m n) l = body.Conflict l holder m n
end_line x g (Changed n w) l = body.Changed l n (differs w)
end_line x g (Lost n sent) l = body.Lost l n

-- what the root takes note of
abbrev pub root_heard : Steps → CallEnd → Root → Root
root_heard s (Answered a) r = with_said (record { path = uids_of s.path; x = s.x }) r
root_heard s (Included st) r = with_join (record { path = uids_of s.path; x = s.x; store = store_of s.goal; loaded = st }) r
root_heard s _ r = r

-- a call that was given up after its Invoke was sent dooms its action
abbrev pub doomed_by : Uid → CallEnd → Coord → Coord
doomed_by u (Lost n true) c = record c { tree = doomed_at u c.tree }
doomed_by u _ c = c

-- a call or an include ends: what the root notes, and the line
abbrev pub ends_call : Steps → CallEnd → Coord → Did Coord
ends_call s e c = record {
  part = doomed_by (actor s.path) e (on_root (root_of s.path) (root_heard s e) (on_doing (actor s.path) (λ (d : Doing). record d {
    now =
        Idle;
  }) c));
  outs = says (actor s.path) (end_line s.x s.goal e) c;
}

-- a call or an include goes on with its next request, or ends
abbrev pub step_call : Steps → CallStep → Coord → Did Coord
step_call s (On at) c = goes_on (record s { req = s.req + 1; at = at }) c
step_call s (Ended e) c = ends_call s e c

-- what is kept after the answer, and what the answer granted
abbrev pub root_moved : Steps → Reply → Moved → Root → Root
root_moved s r m root =
    let k = keeping_of s.x root in
    with_keeping s.x (keeps_after s.goal (has_changed m.step) m.kept k) (notes_grant (granted_by (top_of s.path) s.x r) root)

-- so it goes, with what the root keeps after the answer
abbrev pub moved_call : Steps → Reply → Coord → Moved → Did Coord
moved_call s r c m = step_call s m.step (on_root (root_of s.path) (root_moved s r m) c)

-- what the root of the call keeps of its object
abbrev pub kept_at : Steps → Coord → Option Known
kept_at s c = let k = keeping_of s.x (root_at (root_of s.path) c) in k.kept

-- a call or an include takes an answer
abbrev pub heard_call : Steps → Reply → Coord → Did Coord
heard_call s r c = moved_call s r c (answered (is_free (root_of s.path) (actor s.path) s.x c) (kept_at s c) s.goal s.at r)

-- ---- commits

-- a line for each store that the commit marks for exclusion
abbrev pub mark_lines : Uid → List (ℕ × ℕ) → Coord → List Effect
mark_lines u marks c = flat_map (λ (m : ℕ × ℕ). says u (λ l. body.Excluded l m.0 m.1) c) marks

-- the commit of this action waits in this step
abbrev pub commits_in : Uid → Machine → Coord → Coord
commits_in u m c = on_doing u (λ (d : Doing). record d { req = (plan_of m).req; now = Committing m }) c

-- the requests that the commit waits with
abbrev pub asks_machine : Machine → Coord → Did Coord
asks_machine m c = asks_all (plan_of m).path (plan_of m).req (waiting m) c

-- the commit waits further, asks the next requests, is decided, or is aborted
abbrev pub step_commit : Uid → CommitStep → List (Uid × Intent) → Coord → Did Coord
step_commit u (Stays m) intents c = record { part = commits_in u m c; outs = [] }
step_commit u (Asks m) intents c = asks_machine m (commits_in u m c)
step_commit u (Decides p) intents c = decide p c
step_commit u (Aborts why p) intents c = aborts_with u why intents c

-- the exclusions that the commit sets out to make, and then the next step
abbrev pub moved_commit : Uid → Marked → List (Uid × Intent) → Coord → Did Coord
moved_commit u m intents c =
    let t = step_commit u m.step intents c in
    record { part = t.part; outs = mark_lines u m.marks c ++ t.outs }

-- the commit of a top is called: its plan is made, and its first requests go
abbrev pub commit_top : Path → List (Uid × Intent) → Coord → Did Coord
commit_top p intents c =
    let t = moved_commit (actor p) (commit.start (plan_for p (last_req (doing_of (actor p) c)) (root_at (root_of p) c) c)) intents c in
    record { part = t.part; outs = says (actor p) body.Committing c ++ t.outs }

-- the commit of an action that isn't doomed, by its kind
abbrev pub commit_open : Branch → List (Uid × Intent) → Coord → Kind → Did Coord
commit_open b intents c kind.Nested = ends_with (actor b.path) ending.Commit body.Committed intents c
commit_open b intents c kind.Serial = ends_with (actor b.path) ending.Commit body.Ended intents c
commit_open b intents c _ = commit_top b.path intents c

-- A doomed action can only abort. A nested action's commit is decided at once, and so is the end of a serializing action; a
-- top's goes its steps.
abbrev pub commit_action : Branch → List (Uid × Intent) → Coord → Did Coord
commit_action b intents c = if b.doomed then aborts_with (actor b.path) cause.Doomed intents c else commit_open b intents c b.kind

-- ---- answers

-- the step waits for this answer: of its kind, to its request, from its node
abbrev pub waits_for_call : ℕ → Asked → Reply → Steps → Bool
waits_for_call from a r s = (s.req == a.req) && ((reply_kind r == ask_kind (next_ask [] s)) && (next_node s == from))

-- the commit waits for this answer: of its kind, to its request, from a node that hasn't answered
abbrev pub waits_for_commit : ℕ → Asked → Reply → Machine → Bool
waits_for_commit from a r m = ((plan_of m).req == a.req) && ((reply_kind r == ask_kind (ask_of m from)) && has (left_of m) from)

-- nobody waits for the answer: it is void
abbrev pub heard_none : Coord → Served Coord (Unit {0})
heard_none c = record { part = c; outs = []; reply = None }

-- the answer was taken
abbrev pub heard_by : Did Coord → Served Coord (Unit {0})
heard_by d = record { part = d.part; outs = d.outs; reply = Some tt }

-- what an action is at takes the answer, where it waits for it
abbrev pub heard_now : ℕ → Asked → Reply → List (Uid × Intent) → Coord → Now → Served Coord (Unit {0})
heard_now from a r intents c Idle = heard_none c
heard_now from a r intents c (Calling s) = if waits_for_call from a r s then heard_by (heard_call s r c) else heard_none c
heard_now from a r intents c (Committing m) =
    if waits_for_commit from a r m then heard_by (moved_commit a.act (commit.answered from m r) intents c) else heard_none c

-- an action whose doing is known takes the answer, where it waits for it
abbrev pub heard_doing : ℕ → Asked → Reply → List (Uid × Intent) → Coord → Option Doing → Served Coord (Unit {0})
heard_doing from a r intents c None = heard_none c
heard_doing from a r intents c (Some d) = heard_now from a r intents c d.now

-- an answer: void where no action waits for it
abbrev pub heard : ℕ → Asked → Reply → List (Uid × Intent) → Coord → Served Coord (Unit {0})
heard from a r intents c = heard_doing from a r intents c (doing_of a.act c)

-- ---- giveup

-- a line for each node of which an answer was given up
abbrev pub gaveup_lines : Uid → List ℕ → Coord → List Effect
gaveup_lines u nodes c = flat_map (λ n. says u (λ l. body.GaveUp l n) c) nodes

-- the step ends the call
abbrev pub is_ended : CallStep → Bool
is_ended (On at) = false
is_ended (Ended e) = true

-- a call that is lost in one of the steps that spoil a binding spoils the one that is kept
abbrev pub root_lost : Steps → CallStep → Root → Root
root_lost s step r = let k = keeping_of s.x r in with_keeping s.x (keeps_after s.goal (is_ended step && spoils s.at) k.kept k) r

-- a call or an include is given up in the step in which it waits
abbrev pub give_up_call : Steps → Coord → Did Coord
give_up_call s c = step_call s (given_up s.at) (on_root (root_of s.path) (root_lost s (given_up s.at)) c)

-- what an action is at is given up, with a line for each node that it waited for
abbrev pub gives_up : Uid → List (Uid × Intent) → Coord → Now → Did Coord
gives_up u intents c Idle = record { part = c; outs = [] }
gives_up u intents c (Calling s) =
    let t = give_up_call s c in
    record { part = t.part; outs = gaveup_lines u (next_node s ∷ []) c ++ t.outs }
gives_up u intents c (Committing m) =
    let t = moved_commit u (commit.given_up m) intents c in
    record { part = t.part; outs = gaveup_lines u (nodes_given_up m) c ++ t.outs }

-- an action whose doing is known gives up what it waits for
abbrev pub give_up_doing : Uid → List (Uid × Intent) → Coord → Option Doing → Did Coord
give_up_doing u intents c None = record { part = c; outs = [] }
give_up_doing u intents c (Some d) = gives_up u intents c d.now

-- an action gives up what it waits for
abbrev pub give_up : Uid → List (Uid × Intent) → Coord → Did Coord
give_up u intents c = give_up_doing u intents c (doing_of u c)

-- ---- what a tick sends again

-- the requests that an action waits with are sent again
abbrev pub again_now : Coord → Now → Did Coord
again_now c Idle = record { part = c; outs = [] }
again_now c (Calling s) = asks_step s c
again_now c (Committing m) = asks_machine m c

-- the requests that wait, in order of beginning
abbrev pub again_all : List Doing → Coord → Did Coord
again_all [] c = record { part = c; outs = [] }
again_all (d ∷ ds) c =
    let t = again_now c d.now in
    let q = again_all ds t.part in
    record { part = q.part; outs = t.outs ++ q.outs }
