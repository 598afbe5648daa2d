-- The steps of a call or an include: bind, load, activate, record, invoke. One request waits at a time. And what a root
-- keeps of an object: one binding with one incarnation of its server.
use Rattle.arj_protocol.specs.Words.ask
use Rattle.arj_protocol.specs.Words.op
use Rattle.std.specs.Prelude.{ℕ, Bool, true, false, ◌&&◌, ◌||◌, ◌==◌, nat_lt, if◌then◌else◌, List, [], ◌∷◌, Option, Some, None, unwrap_or}
use Rattle.arj_protocol.specs.Words.{Uid, Binding, Path, Mode, End, Op, Answer, ObjectState, What, BoundReply, LoadedReply, RecordedReply}
use Rattle.arj_protocol.specs.Words.{InvokedReply, Ask}
use Rattle.arj_protocol.specs.Words.mode
use Rattle.arj_protocol.specs.Words.what
use Rattle.arj_protocol.specs.Words.bound
use Rattle.arj_protocol.specs.Words.loaded
use Rattle.arj_protocol.specs.Words.recorded
use Rattle.arj_protocol.specs.Words.invoked
use Rattle.arj_protocol.specs.Order.{binding_eq, binding_less, lesser_binding, greater_binding, unbound}
use Rattle.arj_protocol.specs.Ask.{Reply}

-- What a Bound answer told: the binding, its server and, once it is known, the server's incarnation; the naming incarnation
-- of the grant; the stores; whether the binding is recorded.
pub record Known : Type 0 where
  pub binding : Binding
  pub server : ℕ
  pub inc : Option ℕ
  pub grant : ℕ
  pub stores : List ℕ
  pub recorded : Bool

-- What is wanted: to run an operation, or to include a store.
pub data Goal : Type 0 where
  Run : Op → Goal
  Include : ℕ → Goal

-- The step that waits, with what it stands on: the store that is asked and those that are left; the server's incarnation.
pub data At : Type 0 where
  AtBind : Binding → At
  AtLoad : Known → ℕ → List ℕ → At
  AtActivate : Known → ObjectState → At
  AtNote : Known → ℕ → At
  AtInvoke : Known → ℕ → At

-- A call or an include under way: who asks, for which object, by which request, and the step in which it waits.
pub record Steps : Type 0 where
  pub path : Path
  pub x : ℕ
  pub goal : Goal
  pub req : ℕ
  pub at : At

-- `Lost` with whether the Invoke was sent
pub data CallEnd : Type 0 where
  Answered : Answer → CallEnd
  Included : ObjectState → CallEnd
  Conflict : Uid → Mode → ℕ → CallEnd
  Changed : ℕ → What → CallEnd
  Lost : ℕ → Bool → CallEnd

-- It goes on in this step, or has ended.
pub data CallStep : Type 0 where
  On : At → CallStep
  Ended : CallEnd → CallStep

-- The next step or the end, with what the root keeps from then on.
pub record Moved : Type 0 where
  pub step : CallStep
  pub kept : Option Known

-- it goes on, and the root keeps this
abbrev pub moves : Option Known → At → Moved
moves kept at = record { step = On at; kept = kept }

-- it ends, and the root keeps this
abbrev pub finds : Option Known → CallEnd → Moved
finds kept e = record { step = Ended e; kept = kept }

-- a call begins with its Invoke where the binding is known, else with a Bind
abbrev pub start_at : Option Known → Binding → At
start_at None avoid = AtBind avoid
start_at (Some k) avoid = AtInvoke k (unwrap_or k.inc 0)

-- a call or an include begins
abbrev pub start : Path → ℕ → Goal → Option Known → Binding → ℕ → Steps
start p x g known avoid req = record { path = p; x = x; goal = g; req = req; at = start_at known avoid }

-- an include, and no call
abbrev pub is_include : Goal → Bool
is_include (Run o) = false
is_include (Include s) = true

-- ---- the request that waits

-- an include has no operation; it never comes so far
abbrev pub invoked_op : Goal → Op
invoked_op (Run o) = o
invoked_op (Include s) = op.Get

-- the request of each step
abbrev pub ask_at : ℕ → Goal → List (Uid × End) → At → Ask
ask_at x g ends (AtBind avoid) = ask.Bind x (is_include g) avoid
ask_at x g ends (AtLoad k s rest) = ask.Load x
ask_at x g ends (AtActivate k st) = ask.Activate k.binding st
ask_at x g ends (AtNote k i) = ask.Record x k.binding i k.grant
ask_at x g ends (AtInvoke k i) = ask.Invoke x k.binding i ends (invoked_op g)

-- the node that is asked in each step
abbrev pub node_at : At → ℕ
node_at (AtBind avoid) = 1
node_at (AtLoad k s rest) = s
node_at (AtActivate k st) = k.server
node_at (AtNote k i) = 1
node_at (AtInvoke k i) = k.server

-- the request that waits
abbrev pub next_ask : List (Uid × End) → Steps → Ask
next_ask ends s = ask_at s.x s.goal ends s.at

-- the node that is asked
abbrev pub next_node : Steps → ℕ
next_node s = node_at s.at

-- the step is the Invoke
abbrev pub is_invoke : At → Bool
is_invoke (AtInvoke k i) = true
is_invoke _ = false

-- ---- one binding per root

-- two incarnations, the lesser one first, as an answer says them
abbrev pub two_incs : ℕ → ℕ → What
two_incs i j = if nat_lt j i then what.Inc j i else what.Inc i j

-- two bindings, the lesser one first, as an answer says them
abbrev pub two_bindings : Binding → Binding → What
two_bindings b c = what.Bind (lesser_binding b c) (greater_binding b c)

-- the answer names the binding that is kept: its list counts from now on
abbrev pub named_again : Known → Known → Known
named_again old k = record old { stores = k.stores; recorded = old.recorded || k.recorded }

-- an incarnation is named for the kept binding: the first one stays
abbrev pub with_inc : ℕ → Known → At → Option ℕ → Moved
with_inc i kept at None = moves (Some (record kept { inc = Some i })) at
with_inc i kept at (Some first) = if first == i then moves (Some kept) at else finds (Some kept) (Changed kept.server (two_incs first i))

-- the answer names the kept binding, and perhaps an incarnation of its server
abbrev pub same_binding : Known → Known → At → Option ℕ → Moved
same_binding old k at None = moves (Some (named_again old k)) at
same_binding old k at (Some i) = with_inc i (named_again old k) at old.inc

-- A greater binding replaces the kept one where the root is free of it. Otherwise the call has changed.
abbrev pub other_binding : Bool → Known → Known → At → Moved
other_binding free old k at =
    if free && binding_less old.binding k.binding then moves (Some k) at
    else finds (Some old) (Changed 1 (two_bindings old.binding k.binding))

-- the answer names a binding: the first one is kept
abbrev pub bound_by : Bool → Known → At → Option Known → Moved
bound_by free k at None = moves (Some k) at
bound_by free k at (Some old) = if binding_eq old.binding k.binding then same_binding old k at k.inc else other_binding free old k at

-- ---- answers

-- what an answer tells of a live binding
abbrev pub live_known : Binding → ℕ → ℕ → ℕ → List ℕ → Known
live_known b server i g stores = record { binding = b; server = server; inc = Some i; grant = g; stores = stores; recorded = true }

-- what an answer tells of a binding that was made: it isn't recorded, and no incarnation of the server is known
abbrev pub made_known : Binding → ℕ → ℕ → List ℕ → Known
made_known b server g stores = record { binding = b; server = server; inc = None; grant = g; stores = stores; recorded = false }

-- what an answer to an include tells: no binding
abbrev pub write_known : ℕ → List ℕ → Known
write_known g stores = record { binding = unbound; server = 0; inc = None; grant = g; stores = stores; recorded = false }

-- The stores are asked in their order. An empty list doesn't come.
abbrev pub load_from : Known → List ℕ → Option At
load_from k [] = None
load_from k (s ∷ ss) = Some (AtLoad k s ss)

-- the include goes on with its first store
abbrev pub or_lost : Option Known → Option At → Moved
or_lost kept None = finds kept (Lost 1 false)
or_lost kept (Some at) = moves kept at

-- the call goes on with the first store of a binding that was made, where the binding can be kept
abbrev pub made_by : Bool → Known → Option Known → Option At → Moved
made_by free k kept None = finds kept (Lost 1 false)
made_by free k kept (Some at) = bound_by free k at kept

-- naming answered
abbrev pub bound_answer : Bool → Option Known → BoundReply → Moved
bound_answer free kept (bound.Live b server i g stores) =
    bound_by free (live_known b server i g stores) (AtInvoke (live_known b server i g stores) i) kept
bound_answer free kept (bound.Make b server g stores) =
    made_by free (made_known b server g stores) kept (load_from (made_known b server g stores) stores)
bound_answer free kept (bound.Write g stores) = or_lost kept (load_from (write_known g stores) stores)
bound_answer free kept (bound.Conflict holder m) = finds kept (Conflict holder m 1)

-- a store answered
abbrev pub loaded_state : Option Known → Known → ObjectState → Goal → Moved
loaded_state kept k st (Run o) = moves kept (AtActivate k st)
loaded_state kept k st (Include s) = finds kept (Included st)

-- a state, or the holder of one in doubt, by which the call conflicts
abbrev pub loaded_answer : Option Known → Known → ℕ → Goal → LoadedReply → Moved
loaded_answer kept k s g (loaded.State st) = loaded_state kept k st g
loaded_answer kept k s g (loaded.InDoubt holder) = finds kept (Conflict holder mode.Write s)

-- the server took the copy
abbrev pub activated_by : Known → ℕ → Option Known → Moved
activated_by k i None = moves None (AtNote k i)
activated_by k i (Some old) =
    if binding_eq old.binding k.binding then with_inc i old (AtNote k i) old.inc else moves (Some old) (AtNote k i)

-- the binding is recorded
abbrev pub recorded_kept : Known → Option Known → Option Known
recorded_kept k None = None
recorded_kept k (Some old) = if binding_eq old.binding k.binding then Some (record old { recorded = true }) else Some old

-- naming recorded the binding, or is of another incarnation
abbrev pub recorded_answer : Option Known → Known → ℕ → RecordedReply → Moved
recorded_answer kept k i recorded.Yes = moves (recorded_kept k kept) (AtInvoke k i)
recorded_answer kept k i (recorded.Changed w) = finds kept (Changed 1 w)

-- the server answered
abbrev pub invoked_answer : Option Known → Known → InvokedReply → Moved
invoked_answer kept k (invoked.Answered a) = finds kept (Answered a)
invoked_answer kept k (invoked.Conflict holder m) = finds kept (Conflict holder m k.server)
invoked_answer kept k (invoked.Changed w) = finds kept (Changed k.server w)

-- The next step after an answer to the one that waits. An answer of another kind is none to it.
abbrev pub answered : Bool → Option Known → Goal → At → Reply → Moved
answered free kept g (AtBind avoid) (Reply.Bound r) = bound_answer free kept r
answered free kept g (AtLoad k s rest) (Reply.Loaded r) = loaded_answer kept k s g r
answered free kept g (AtActivate k st) (Reply.Activated i) = activated_by k i kept
answered free kept g (AtNote k i) (Reply.Noted r) = recorded_answer kept k i r
answered free kept g (AtInvoke k i) (Reply.Invoked r) = invoked_answer kept k r
answered free kept g at r = moves kept at

-- a Load that is given up goes to the next store, and the last one is lost
abbrev pub load_given_up : Known → ℕ → List ℕ → CallStep
load_given_up k s [] = Ended (Lost s false)
load_given_up k s (t ∷ ts) = On (AtLoad k t ts)

-- Given up: a Load goes to the next store; any other step is lost.
abbrev pub given_up : At → CallStep
given_up (AtBind avoid) = Ended (Lost 1 false)
given_up (AtLoad k s rest) = load_given_up k s rest
given_up (AtActivate k st) = Ended (Lost k.server false)
given_up (AtNote k i) = Ended (Lost 1 false)
given_up (AtInvoke k i) = Ended (Lost k.server true)

-- the binding that the root keeps is spoiled where a call on it was lost in one of these steps
abbrev pub spoils : At → Bool
spoils (AtActivate k st) = true
spoils (AtNote k i) = true
spoils (AtInvoke k i) = true
spoils _ = false

-- or where it was answered Changed
abbrev pub has_changed : CallStep → Bool
has_changed (Ended (Changed node w)) = true
has_changed _ = false
