-- Which messages are void: the table of causes, kind by kind. A void message changes nothing and sends nothing.
use Rattle.std.specs.Prelude.{◌≡◌, ℕ, Bool, true, false, not, ◌&&◌, ◌||◌, ◌==◌, List, [], ◌∷◌, ◌++◌, map, Option, Some, None, is_some}
use Rattle.std.specs.List.{list_all, list_any}
use Rattle.arj_protocol.specs.Words.{Ask, Asked, Binding, Head, Header, Message, Path, Uid, asks, object}
use Rattle.arj_protocol.specs.Words.ask
use Rattle.arj_protocol.specs.Words.body
use Rattle.arj_protocol.specs.Words.message
use Rattle.arj_protocol.specs.Ask.{Reply, actor, answers, ask_kind, reply_kind, top_of}
use Rattle.arj_protocol.specs.Call.{next_ask, next_node}
use Rattle.arj_protocol.specs.Commit.{plan_of, waiting}
use Rattle.arj_protocol.specs.Coord.{Calling, Committing, Coord, Doing, Idle, Now, doing_of}
use Rattle.arj_protocol.specs.Effect.{Already, Disk, Effect, Intent, Pair, Prep, Say, held_at, holder_of, is_prepared, prepare_answer}
use Rattle.arj_protocol.specs.Named.{Made, Named}
use Rattle.arj_protocol.specs.Order.{is_binding}
use Rattle.arj_protocol.specs.Naming.{Naming, is_over}
use Rattle.arj_protocol.specs.Node.{Handled, Parts, Took, Void, handle}
use Rattle.arj_protocol.specs.Order.{at_number, at_uid, binding_less, has}
use Rattle.arj_protocol.specs.Server.{active_binding, has_ended, is_below}
use Rattle.arj_protocol.specs.Step.{Node, Step, class_at}
use Rattle.arj_law_parts.proofs.moves.Rounds.{AreLooks}

-- ---- answers

-- the requests that an action waits with, each with the node that is asked
abbrev pub requests_of : Now → List (ℕ × Ask)
requests_of Idle = []
requests_of (Calling s) = (next_node s, next_ask [] s) ∷ []
requests_of (Committing m) = waiting m

-- the number of these requests
abbrev pub request_number : Now → ℕ
request_number Idle = 0
request_number (Calling s) = s.req
request_number (Committing m) = (plan_of m).req

-- the request was asked of this node, and this answers its kind
abbrev pub is_to : ℕ → Reply → ℕ × Ask → Bool
is_to from r q = (q.0 == from) && (reply_kind r == ask_kind q.1)

-- what an action is at waits for this answer from this node
abbrev pub awaits_now : ℕ → Asked → Reply → Now → Bool
awaits_now from a r now = (request_number now == a.req) && list_any (is_to from r) (requests_of now)

-- so does an action whose doing is known
abbrev pub awaits_doing : ℕ → Asked → Reply → Option Doing → Bool
awaits_doing from a r None = false
awaits_doing from a r (Some d) = awaits_now from a r d.now

-- an action of that Uid waits, at that request number, for an answer of that kind from this node
abbrev pub awaits : ℕ → Asked → Reply → Coord → Bool
awaits from a r c = awaits_doing from a r (doing_of a.act c)

-- ---- acknowledgements

-- the record lists the node
abbrev pub lists_node : ℕ → Option Intent → Bool
lists_node from None = false
lists_node from (Some i) = has i.nodes from

-- a told to this node about the action waits to be acknowledged
abbrev pub awaits_ack : ℕ → Uid → Coord → Bool
awaits_ack from u c = lists_node from (at_uid u c.telling)

-- ---- requests to naming

-- naming was told of the end of the path's root or top
abbrev pub is_over_there : Path → Option Naming → Bool
is_over_there p None = false
is_over_there p (Some n) = is_over p n

-- naming isn't here, was told of the end, or lacks one of these objects
abbrev pub is_unnamed : Option Naming → Path → List ℕ → Bool
is_unnamed None p xs = true
is_unnamed (Some n) p xs = is_over p n || not (list_all (λ x. is_some (at_number x n.objects)) xs)

-- The same by the header: the node isn't 1, naming was told of the end, or the header lacks one of these objects.
abbrev pub is_unnamed_by : Header → ℕ → Option Naming → Path → List ℕ → Bool
is_unnamed_by hd n o p xs = not (n == 1) || (is_over_there p o || not (list_all (λ x. is_some (class_at x hd)) xs))

-- the binding was made
abbrev pub is_made : Binding → Option Made → Bool
is_made b None = false
is_made b (Some m) = is_binding b (Some m.binding)

-- the binding is neither the one last recorded for the object, nor the last one that naming made for this top
abbrev pub is_another : Uid → Binding → Named → Bool
is_another top b o = not (is_binding b o.recorded || is_made b (at_uid top o.made))

-- so it is of an object that naming has
abbrev pub is_another_of : Uid → Binding → Option Named → Bool
is_another_of top b None = false
is_another_of top b (Some o) = is_another top b o

-- the naming incarnation is the present one, and the binding another one
abbrev pub is_unknown : Path → ℕ → Binding → ℕ → Option Naming → Bool
is_unknown p x b g None = false
is_unknown p x b g (Some n) = (g == n.inc) && is_another_of (top_of p) b (at_number x n.objects)

-- ---- requests to a store

-- no state of the object is committed, and none is prepared
abbrev pub is_absent : ℕ → Pair → Bool
is_absent x d = not (is_some (holder_of (object x) d) || is_some (held_at (object x) d))

-- the store's answer to a prepare is that the action has committed one of the states
abbrev pub is_already : Prep → Bool
is_already (Already u) = true
is_already _ = false

-- ---- the table

-- a request, with when naming doesn't serve a path and these objects
abbrev pub ask_is_void : (Path → List ℕ → Bool) → Disk → Parts → Head → Ask → Bool
ask_is_void unnamed d t h (ask.Bind x include avoid) = unnamed h.path (x ∷ [])
ask_is_void unnamed d t h (ask.Load x) = is_absent x d.store
ask_is_void unnamed d t h (ask.Activate b st) = has_ended h.path t.server || binding_less b (active_binding st.uid.num t.server)
ask_is_void unnamed d t h (ask.Record x b i g) = unnamed h.path (x ∷ []) || is_unknown h.path x b g t.naming
ask_is_void unnamed d t h (ask.Invoke x b i ends op) = has_ended h.path t.server || is_below h.req (at_uid (actor h.path) t.server.kept)
ask_is_void unnamed d t h (ask.Vote i ties ends) = has_ended h.path t.server
ask_is_void unnamed d t h (ask.Prepare states) = not (is_prepared (actor h.path) d.store) && is_already
    (prepare_answer (actor h.path) states d.store)
ask_is_void unnamed d t h (ask.Confirm grants excluded included) = unnamed h.path (map (λ (g : ℕ × ℕ). g.0) grants)

-- an acknowledgement that nobody awaits; told, query and hello never
abbrev pub other_is_void : ℕ → Parts → Message → Bool
other_is_void from t (message.Acked m) = not (awaits_ack from m.act t.coord)
other_is_void from t m = false

-- an answer that nobody awaits
abbrev pub answer_is_void : ℕ → Parts → Message → Option (Asked × Reply) → Bool
answer_is_void from t m None = other_is_void from t m
answer_is_void from t m (Some a) = not (awaits from a.0 a.1 t.coord)

-- a request, an answer, or another message
abbrev pub is_void_by : (Path → List ℕ → Bool) → Disk → Parts → ℕ → Message → Option (Head × Ask) → Bool
is_void_by unnamed d t from m None = answer_is_void from t m (answers m)
is_void_by unnamed d t from m (Some a) = ask_is_void unnamed d t a.0 a.1

-- the message is void at this disk and memory
abbrev pub is_void : Disk → Parts → ℕ → Message → Bool
is_void d t from m = is_void_by (is_unnamed t.naming) d t from m (asks m)

-- the same by the header, at the node of this number
abbrev pub is_void_in : Header → ℕ → Disk → Parts → ℕ → Message → Bool
is_void_in hd n d t from m = is_void_by (is_unnamed_by hd n t.naming) d t from m (asks m)

-- ---- what void means

-- the message is void exactly where the test holds; then it changes nothing, sends nothing, and looks at the disk at most
abbrev pub IsVoidWhere : Bool → Handled → Type 0
IsVoidWhere test (Void outs) = (test ≡ true) × AreLooks outs
IsVoidWhere test (Took t outs) = test ≡ false

-- a frame is void at a node that is down, as bytes that are no message, and by the table
abbrev pub frame_is_void : Header → ℕ → Disk → Option Parts → ℕ → Option Message → Bool
frame_is_void hd n d None from m = true
frame_is_void hd n d (Some t) from None = true
frame_is_void hd n d (Some t) from (Some m) = is_void_in hd n d t from m

-- the step of a void frame: the node stays as it is, has looked at its disk at most, and says the line `void`
pub record SaysVoid (k : ℕ) (n : Node) (s : Step) : Type 0 where
  pub looks : List Effect
  pub look : AreLooks looks
  pub outs : s.outs ≡ looks ++ Say (body.Void k) ∷ []
  pub after : s.after ≡ n

-- the step of one that isn't: the line `got` comes first
pub record SaysGot (k : ℕ) (s : Step) : Type 0 where
  pub rest : List Effect
  pub outs : s.outs ≡ Say (body.Got k) ∷ rest

-- it is the one or the other by the test
abbrev pub SaysVoidWhere : ℕ → Node → Step → Bool → Type 0
SaysVoidWhere k n s true = SaysVoid k n s
SaysVoidWhere k n s false = SaysGot k s

-- whatever message comes to whatever disk and memory, what a node makes of what it says is void by the table
abbrev pub HandlersAreVoidExactly : Type 0
HandlersAreVoidExactly = (n : ℕ) (d : Disk) (t : Parts) (from : ℕ) (m : Message) → IsVoidWhere (is_void d t from m) (handle n d t from m)
