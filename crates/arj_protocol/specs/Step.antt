-- What a node does at each input: the refusals that it finds itself, calls, commits and ends, frames, ticks, restarts.
use Rattle.std.specs.Prelude.{ℕ, zero, suc, ◌+◌, Bool, true, false, not, ◌&&◌, ◌||◌, ◌==◌, if◌then◌else◌, List, [], ◌∷◌, ◌++◌, map, filter}
use Rattle.std.specs.Prelude.{find, Option, Some, None, is_some}
use Rattle.std.specs.List.{flat_map, list_any}
use Rattle.arj_start.specs.Start.{Mark, Marks, Start, format_at, fresh, none_written, unwritten}
use Rattle.arj_protocol.specs.Words.{Uid, Kind, Op, Label, Class, Format, Header, ObjectLine, ObjectState, Body, Message, uid_eq, uids_of, object}
use Rattle.arj_protocol.specs.Words.{entry, class_of, own_class, has_op, payload_of, entry_payload, nobody}
use Rattle.arj_protocol.specs.Words.ending
use Rattle.arj_protocol.specs.Words.body
use Rattle.arj_protocol.specs.Words.kind
use Rattle.arj_protocol.specs.Words.class
use Rattle.arj_protocol.specs.Words.message
use Rattle.arj_protocol.specs.Order.{uid_set, put_uid, has, is_empty, without_number}
use Rattle.arj_protocol.specs.Effect.{Effect, Say, Send, Do, Look, PutInc, Disk, Pair, Intent, Did, held_at, holder_of}
use Rattle.arj_protocol.specs.Values.{state_entry}
use Rattle.arj_protocol.specs.Ask.{actor}
use Rattle.arj_protocol.specs.Server.{new_server}
use Rattle.arj_protocol.specs.Naming.{Naming}
use Rattle.arj_protocol.specs.Confirm.{recovered_naming, recovered_lines}
use Rattle.arj_protocol.specs.Tree.{Branch, at_place, has_open_child, is_too_deep, has_many_actions, has_many_objects, is_open_below}
use Rattle.arj_protocol.specs.Tree.{root_of}
use Rattle.arj_protocol.specs.Coord.{Coord, Doing, Now, Idle, Committing, new_coord, number_of, doing_of, of_root}
use Rattle.arj_protocol.specs.Asking.{begin_action, call, include, commit_action, give_up, again_all}
use Rattle.arj_protocol.specs.Ending.{abort_action, tell_all}
use Rattle.arj_protocol.specs.Node.{Parts, Handled, Void, Took, taken, holders, query_about, prepared_actions, with_coord, whole, Ran}
use Rattle.arj_start.specs.Kinds.{is_constituent, is_serial}

-- A node: its number, its disk, and its parts in memory where it is up.
pub record Node : Type 0 where
  pub number : ℕ
  pub disk : Disk
  pub live : Option Parts

-- What a node takes: inputs about actions, a frame with its number and sender, ticks, restarts, crashes, and the question what it holds.
pub data Input : Type 0 where
  Begin : Label → Kind → Option Label → Input
  Call : Label → ℕ → Op → Input
  Include : Label → ℕ → ℕ → Input
  Commit : Label → Input
  Abort : Label → Input
  GiveUp : Label → Input
  Frame : ℕ → ℕ → Option Message → Input
  Tick : Input
  Restart : Input
  Crash : Input
  Show : ℕ → Input

-- ---- refusals

-- the first number whose condition holds
abbrev pub first_reason : List (ℕ × Bool) → Option ℕ
first_reason [] = None
first_reason (r ∷ rs) = if r.1 then Some r.0 else first_reason rs

-- it waits for an answer
abbrev pub is_waiting_now : Now → Bool
is_waiting_now Idle = false
is_waiting_now _ = true

-- an action whose doing is known waits for an answer
abbrev pub is_waiting : Option Doing → Bool
is_waiting None = false
is_waiting (Some d) = is_waiting_now d.now

-- the action waits for an answer
abbrev pub waits : Coord → Uid → Bool
waits c u = is_waiting (doing_of u c)

-- the action or an ancestor of it waits
abbrev pub waits_above : Branch → Coord → Bool
waits_above b c = list_any (waits c) (uids_of b.path)

-- an open descendant waits
abbrev pub waits_below : Branch → Coord → Bool
waits_below b c = list_any (λ w. is_open_below (actor b.path) w && waits c (actor w.path)) c.tree.branches

-- it waits for answers to its commit
abbrev pub is_committing_now : Now → Bool
is_committing_now (Committing m) = true
is_committing_now _ = false

-- an action whose doing is known waits for answers to its commit
abbrev pub is_committing : Option Doing → Bool
is_committing None = false
is_committing (Some d) = is_committing_now d.now

-- another constituent of the root, whose commit waits
abbrev pub is_sibling : Branch → Coord → Branch → Bool
is_sibling b c w = is_constituent w.kind && (not (uid_eq (actor w.path) (actor b.path)) && is_committing (doing_of (actor w.path) c))

-- a constituent, while the commit of another one of its root waits
abbrev pub sibling_waits : Branch → Coord → Bool
sibling_waits b c = is_constituent b.kind && list_any (is_sibling b c) (filter (of_root (root_of b.path)) c.tree.branches)

-- the kinds that count against the limits of their root and path
abbrev pub is_below_16 : Kind → Bool
is_below_16 kind.Independent = false
is_below_16 _ = true

-- an independent action may not begin in a serializing one, and a constituent in no other
abbrev pub is_misplaced : Kind → Branch → Bool
is_misplaced kind.Independent b = is_serial b.kind
is_misplaced kind.Constituent b = not (is_serial b.kind)
is_misplaced _ b = false

-- an action begins in another one; an independent one isn't its descendant
abbrev pub begin_reasons : Kind → Branch → Coord → List (ℕ × Bool)
begin_reasons k b c =
    (6, is_some b.ended) ∷ (7, waits_above b c) ∷ (10, is_misplaced k b) ∷ (12, b.doomed)
    ∷ (15, is_below_16 k && is_too_deep b) ∷ (16, is_below_16 k && has_many_actions b c.tree) ∷ []

-- the header's class of an object, also of one that is gone
abbrev pub class_in : Option ObjectLine → Option Class
class_in None = None
class_in (Some o) = Some (own_class o.value)

-- the class of the object by the header
abbrev pub class_at : ℕ → Header → Option Class
class_at x hd = class_in (find (λ (o : ObjectLine). o.x == x) hd.objects)

-- the class has no such operation
abbrev pub lacks_op : Op → Option Class → Bool
lacks_op o None = false
lacks_op o (Some k) = not (has_op k o)

-- why a call is refused, in increasing order of numbers
abbrev pub call_reasons : Header → ℕ → Op → Branch → Coord → List (ℕ × Bool)
call_reasons hd x o b c =
    (6, is_some b.ended) ∷ (7, waits_above b c || waits_below b c) ∷ (11, is_serial b.kind) ∷ (12, b.doomed)
    ∷ (13, not (is_some (class_at x hd))) ∷ (14, lacks_op o (class_at x hd)) ∷ (16, has_many_objects b x c.tree) ∷ []

-- why an include is refused
abbrev pub include_reasons : Header → ℕ → Branch → Coord → List (ℕ × Bool)
include_reasons hd x b c =
    (6, is_some b.ended) ∷ (7, waits_above b c || waits_below b c) ∷ (11, is_serial b.kind) ∷ (12, b.doomed)
    ∷ (13, not (is_some (class_at x hd))) ∷ (16, has_many_objects b x c.tree) ∷ []

-- why a commit is refused
abbrev pub commit_reasons : Branch → Coord → List (ℕ × Bool)
commit_reasons b c =
    (6, is_some b.ended) ∷ (7, waits_above b c || waits_below b c || sibling_waits b c) ∷ (9, has_open_child (actor b.path) c.tree) ∷ []

-- why an abort is refused
abbrev pub abort_reasons : Branch → Coord → List (ℕ × Bool)
abort_reasons b c = (6, is_some b.ended) ∷ (7, waits_above b c || waits_below b c) ∷ []

-- why a giveup is refused
abbrev pub giveup_reasons : Branch → Coord → List (ℕ × Bool)
giveup_reasons b c = (6, is_some b.ended) ∷ (8, not (waits c (actor b.path))) ∷ []

-- the action of a label; one that the node doesn't know has ended with an earlier incarnation
abbrev pub branch_numbered : Coord → Option ℕ → Option Branch
branch_numbered c None = None
branch_numbered c (Some k) = at_place k c.tree.branches

-- the action that the label was given to in this incarnation
abbrev pub branch_named : Label → Coord → Option Branch
branch_named l c = branch_numbered c (number_of l c)

-- an action that isn't there has ended; else the first reason that holds
abbrev pub refused_by : (Branch → Coord → List (ℕ × Bool)) → Coord → Option Branch → Option ℕ
refused_by reasons c None = Some 6
refused_by reasons c (Some b) = first_reason (reasons b c)

-- why the beginning of an action is refused: a top-level one of its own never is
abbrev pub begin_refusal : Kind → Coord → Option Label → Option ℕ
begin_refusal k c None = None
begin_refusal k c (Some l) = refused_by (begin_reasons k) c (branch_named l c)

-- the refusal that a node which is up finds
abbrev pub refusal_up : Header → Input → Coord → Option ℕ
refusal_up hd (Begin l k parent) c = begin_refusal k c parent
refusal_up hd (Call l x o) c = refused_by (call_reasons hd x o) c (branch_named l c)
refusal_up hd (Include l x s) c = refused_by (include_reasons hd x) c (branch_named l c)
refusal_up hd (Commit l) c = refused_by commit_reasons c (branch_named l c)
refusal_up hd (Abort l) c = refused_by abort_reasons c (branch_named l c)
refusal_up hd (GiveUp l) c = refused_by giveup_reasons c (branch_named l c)
refusal_up hd _ c = None

-- the inputs about an action: at a node that is down it has ended
abbrev pub is_about_action : Input → Bool
is_about_action (Begin l k parent) = true
is_about_action (Call l x o) = true
is_about_action (Include l x s) = true
is_about_action (Commit l) = true
is_about_action (Abort l) = true
is_about_action (GiveUp l) = true
is_about_action _ = false

-- the refusal that a node finds, up or down
abbrev pub refusal_at : Header → Input → Option Parts → Option ℕ
refusal_at hd i None = if is_about_action i then Some 6 else None
refusal_at hd i (Some t) = refusal_up hd i t.coord

-- the refusal that the node finds at the input
abbrev pub refusal : Header → Input → Node → Option ℕ
refusal hd i n = refusal_at hd i n.live

-- ---- what a step is

-- The effects of a step in order, and the node after it. Where a stop falls into the step, what is done is a front of
-- `halting`: the same effects, but at a void delivery, which is taken as got then.
pub record Step : Type 0 where
  pub outs : List Effect
  pub halting : List Effect
  pub after : Node

-- the effects of a node that is up, with all messages to itself
abbrev pub steps_to : Node → List Effect → Ran → Step
steps_to n before r =
    record { outs = before ++ r.outs; halting = before ++ r.outs; after = record n { disk = r.here.disk; live = Some r.here.parts } }

-- the effects of a node that is up, and what its messages to itself lead to
abbrev pub node_did : Node → List Effect → Parts → List Effect → Step
node_did n before t outs = steps_to n before (whole n.number t outs n.disk)

-- what its coordinator did, as a step of the node
abbrev pub coord_did : Node → Parts → Did Coord → Step
coord_did n t d = node_did n [] (with_coord t d.part) d.outs

-- nothing but a line
abbrev pub only_says : Node → Body → Step
only_says n b = record { outs = Say b ∷ []; halting = Say b ∷ []; after = n }

-- the node stays as it is
abbrev pub does_nothing : Node → Step
does_nothing n = record { outs = []; halting = []; after = n }

-- ---- actions

-- the action that a new one begins in
abbrev pub parent_of : Option Label → Coord → Option Branch
parent_of None c = None
parent_of (Some l) c = branch_named l c

-- what is done with an action, where it is there
abbrev pub on_branch : (Branch → Did Coord) → Coord → Option Branch → Did Coord
on_branch f c None = record { part = c; outs = [] }
on_branch f c (Some b) = f b

-- what the coordinator does at an input that isn't refused
abbrev pub acts : Input → List (Uid × Intent) → Coord → Did Coord
acts (Begin l k parent) intents c = begin_action l k parent (parent_of parent c) c
acts (Call l x o) intents c = on_branch (λ b. call b.path x o c) c (branch_named l c)
acts (Include l x s) intents c = on_branch (λ b. include b.path x s c) c (branch_named l c)
acts (Commit l) intents c = on_branch (λ b. commit_action b intents c) c (branch_named l c)
acts (Abort l) intents c = on_branch (λ b. abort_action (actor b.path) intents c) c (branch_named l c)
acts (GiveUp l) intents c = on_branch (λ b. give_up (actor b.path) intents c) c (branch_named l c)
acts _ intents c = record { part = c; outs = [] }

-- ---- frames

-- a void delivery is taken as got where its read is stopped
abbrev pub void_step : ℕ → Node → List Effect → Step
void_step k n outs = record { outs = outs ++ Say (body.Void k) ∷ []; halting = Say (body.Got k) ∷ outs; after = n }

-- a message that was taken or was void, as a step
abbrev pub handled_step : ℕ → Node → Handled → Step
handled_step k n (Void outs) = void_step k n outs
handled_step k n (Took t outs) = node_did n (Say (body.Got k) ∷ []) t outs

-- bytes that are no message are void
abbrev pub frame_step : ℕ → ℕ → Node → Parts → Option Message → Step
frame_step k from n t None = void_step k n []
frame_step k from n t (Some m) = handled_step k n (taken n.number n.disk t from m)

-- ---- tick

-- the tolds that aren't acknowledged
abbrev pub tolds_again : List (Uid × Intent) → List Effect
tolds_again telling = flat_map (λ (e : Uid × Intent). tell_all e.1.root true ((e.0, ending.Commit) ∷ []) e.1.nodes) telling

-- requests that wait, tolds that aren't acknowledged, queries
abbrev pub tick_step : Node → Parts → Step
tick_step n t =
    let d = again_all t.coord.doings t.coord in
    node_did n [] (with_coord t d.part) (d.outs ++ tolds_again t.coord.telling ++ map query_about (holders n.disk t))

-- ---- restart

-- a line for each record on the disk: its commit is resumed
abbrev pub recovered_records : ℕ → List (Uid × Intent) → List Effect
recovered_records n intents = map (λ (e : Uid × Intent). Say (body.Recovered n e.0)) intents

-- the message to another node that this one is back, in this incarnation
abbrev pub hello_to : ℕ → ℕ → ℕ → Effect
hello_to n inc to = Send to (message.Hello (record { node = n; inc = inc }))

-- the numbers of the nodes
abbrev pub numbers_to : ℕ → List ℕ
numbers_to zero = []
numbers_to (suc n) = numbers_to n ++ suc n ∷ []

-- naming's part, which only node 1 has, after a restart
abbrev pub naming_at : ℕ → ℕ → Pair → Option Naming
naming_at n inc d = if n == 1 then Some (recovered_naming inc d) else None

-- the lines of locks that naming gives back to prepared entries
abbrev pub naming_back : Option Naming → List Effect
naming_back None = []
naming_back (Some o) = recovered_lines o

-- the parts of a node that comes up in this incarnation, with its records to be told
abbrev pub parts_in : ℕ → ℕ → Disk → Parts
parts_in n inc d =
    record { server = new_server inc; naming = naming_at n inc d.names; coord = record (new_coord n inc) { telling = d.intents } }

-- the effects of a restart, in order
abbrev pub restart_outs : Header → ℕ → ℕ → Disk → List Effect
restart_outs hd n inc d =
    Do Look ∷ Do (PutInc inc) ∷ Say (body.Up n inc) ∷ Do Look ∷ naming_back (naming_at n inc d.names)
    ++ Do Look ∷ recovered_records n d.intents
    ++ tolds_again d.intents
    ++ map query_about (uid_set (prepared_actions d.store ++ prepared_actions d.names))
    ++ map (hello_to n inc) (without_number n (numbers_to hd.nodes))

-- The incarnation rises on disk first; then prepared entries get their locks back; records are resumed by tolds, prepared
-- actions asked about by queries, and hello goes last.
abbrev pub restart_step : Header → Node → Step
restart_step hd n =
    let inc = n.disk.inc + 1 in
    node_did n [] (parts_in n.number inc n.disk) (restart_outs hd n.number inc n.disk)

-- ---- show

-- the line of an entry that is held
abbrev pub entry_line : ℕ → Option ObjectState → List Effect
entry_line x None = []
entry_line x (Some s) = let e = state_entry s in Say (body.Entry x s.version e.servers e.stores) ∷ []

-- the line of a state that is held
abbrev pub copy_line : ℕ → ℕ → Option ObjectState → List Effect
copy_line n x None = []
copy_line n x (Some s) = Say (body.Copy n x s.version s.writer s.payload) ∷ []

-- a state that is in doubt isn't read
abbrev pub shown : (Option ObjectState → List Effect) → Uid → Pair → Option Uid → List Effect
shown line u d (Some holder) = []
shown line u d None = Do Look ∷ line (held_at u d)

-- what node 1 shows of the entry
abbrev pub show_entry : ℕ → ℕ → Pair → List Effect
show_entry n x d = if n == 1 then shown (entry_line x) (entry x) d (holder_of (entry x) d) else []

-- what a node shows of an object: its entry, and the state at its store
abbrev pub show_outs : ℕ → ℕ → Disk → List Effect
show_outs n x d = show_entry n x d.names ++ shown (copy_line n x) (object x) d.store (holder_of (object x) d.store)

-- a node shows what it holds of the object
abbrev pub show_step : ℕ → Node → Step
show_step x n = record { outs = show_outs n.number x n.disk; halting = show_outs n.number x n.disk; after = n }

-- ---- a step

-- a node crashes: it is down, with its disk as it is
abbrev pub crash_step : Node → Step
crash_step n =
    record { outs = Say (body.Halted n.number) ∷ []; halting = Say (body.Halted n.number) ∷ []; after = record n { live = None } }

-- the step of a node that is up
abbrev pub step_up : Input → Node → Parts → Step
step_up (Frame k from m) n t = frame_step k from n t m
step_up Tick n t = tick_step n t
step_up Restart n t = does_nothing n
step_up Crash n t = crash_step n
step_up (Show x) n t = show_step x n
step_up i n t = coord_did n t (acts i n.disk.intents t.coord)

-- the step of a node that is down: frames are void, and a restart brings it up
abbrev pub step_down : Header → Input → Node → Step
step_down hd (Frame k from m) n = void_step k n []
step_down hd Restart n = restart_step hd n
step_down hd i n = does_nothing n

-- the step of a node, up or down
abbrev pub step_of : Header → Input → Node → Option Parts → Step
step_of hd i n None = step_down hd i n
step_of hd i n (Some t) = step_up i n t

-- a refused input writes its refusal alone
abbrev pub step_unless : Header → Input → Node → Option ℕ → Step
step_unless hd i n (Some c) = only_says n (body.Refused c)
step_unless hd i n None = step_of hd i n n.live

-- the step of a node
abbrev pub step : Header → Node → Input → Step
step hd n i = step_unless hd i n (refusal hd i n)

-- ---- as a run begins

-- the state of an object in the header's value, with this mark, where the header has this format
abbrev pub state_by : Format → Mark → ObjectLine → ObjectState
state_by first m o = record {
  uid = object o.x;
  class = class_of o.value;
  version = m.version;
  writer = m.writer;
  payload = payload_of o.value;
  format = format_at first m.version;
}

-- the state of an object as the header has it: version 0, written by nobody
abbrev pub first_state : Format → ObjectLine → ObjectState
first_state first o = state_by first unwritten o

-- the entry of an object with the header's servers and stores, with this mark
abbrev pub entry_by : Format → Mark → ObjectLine → ObjectState
entry_by first m o = record {
  uid = entry o.x;
  class = class.Entry;
  version = m.version;
  writer = m.writer;
  payload = entry_payload (record { servers = o.servers; stores = o.stores });
  format = format_at first m.version;
}

-- the entry of an object as the header has it
abbrev pub first_entry : Format → ObjectLine → ObjectState
first_entry first o = entry_by first unwritten o

-- each state is held under its Uid
abbrev pub put_states : List ObjectState → List (Uid × ObjectState) → List (Uid × ObjectState)
put_states [] held = held
put_states (s ∷ ss) held = put_states ss (put_uid s.uid s held)

-- a pair that holds these states, with nothing prepared
abbrev pub pair_with : List ObjectState → Pair
pair_with states = record { held = put_states states []; pend = [] }

-- the entries are at node 1
abbrev pub entries_from : ℕ → Header → Marks → List ObjectState
entries_from n hd marks = if n == 1 then map (λ (o : ObjectLine). entry_by hd.format (marks.entries o.x) o) hd.objects else []

-- the entries as a format leaves them
abbrev pub entries_at : ℕ → Header → List ObjectState
entries_at n hd = entries_from n hd none_written

-- the older states at this node
abbrev pub older_at : ℕ → List (ℕ × ObjectState) → List ObjectState
older_at n [] = []
older_at n (s ∷ ss) = if s.0 == n then s.1 ∷ older_at n ss else older_at n ss

-- the states at this node: those of the objects that it stores, and older ones
abbrev pub states_from : ℕ → Header → Start → List ObjectState
states_from n hd st =
    older_at n st.older ++ map (λ (o : ObjectLine). state_by hd.format (st.marks.states o.x) o) (filter (λ (o : ObjectLine). has o.stores n) hd.objects)

-- The disk of a node as a run begins: states of the objects that it stores, and older ones, and at node 1 all entries; nothing is prepared,
-- and no record stands.
abbrev pub disk_by : Header → Start → ℕ → Disk
disk_by hd st n = record {
  inc = st.incs n + 1;
  store = pair_with (states_from n hd st);
  names = pair_with (entries_from n hd st.marks);
  intents = [];
}

-- the node with this disk: up in its incarnation, or down
abbrev pub node_by : Header → Start → ℕ → Node
node_by hd st n = record {
  number = n;
  disk = disk_by hd st n;
  live = if st.up n then Some (parts_in n (st.incs n + 1) (disk_by hd st n)) else None;
}

-- the disk of a node as it is formatted: states of the objects that it stores, and at node 1 all entries
abbrev pub first_disk : Header → ℕ → Disk
first_disk hd n = disk_by hd fresh n

-- a node with an empty disk formatted, up in incarnation 1
abbrev pub first_node : Header → ℕ → Node
first_node hd n = node_by hd fresh n

-- ---- idle

-- no action of the coordinator waits
abbrev pub waits_for_nothing : Coord → Bool
waits_for_nothing c = not (list_any (λ (d : Doing). is_waiting_now d.now) c.doings)

-- no prepared action and no record
abbrev pub is_settled : Disk → Bool
is_settled d = is_empty d.store.pend && (is_empty d.names.pend && is_empty d.intents)

-- a node with this disk and memory is idle
abbrev pub is_idle_with : Disk → Option Parts → Bool
is_idle_with d None = false
is_idle_with d (Some t) = waits_for_nothing t.coord && is_settled d

-- up, with no action that waits, no prepared action and no record
abbrev pub is_idle : Node → Bool
is_idle n = is_idle_with n.disk n.live
