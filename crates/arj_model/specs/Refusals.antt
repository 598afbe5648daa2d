-- Which events are refused: the nodes that are up, the actions that wait, and the causes by number.
use Rattle.std.specs.Prelude.{ℕ, ◌+◌, List, [], ◌∷◌, ◌++◌, length, filter, Bool, true, false, ◌==◌, ◌&&◌, ◌||◌, not, nat_lt, nat_le}
use Rattle.std.specs.Prelude.{if◌then◌else◌, Option, Some, None, is_some, is_none, Result, Ok, Err}
use Rattle.std.specs.List.{list_any}
use Rattle.std.specs.Option.{option_map}
use Rattle.std.specs.Str.{bytes_eq}
use Rattle.arj_base.specs.declared.uid.Uid.{Uid}
use Rattle.arj_class.specs.declared.op.Op.{Op}
use Rattle.arj_class.specs.Table.{own_class, has_op}
use Rattle.arj_journal.specs.declared.body.Body.{Body}
use Rattle.arj_journal.specs.declared.body.Body.TheVariants as body
use Rattle.arj_journal.specs.declared.body.Kind.{Kind}
use Rattle.arj_journal.specs.declared.body.Kind.TheVariants as kind
use Rattle.arj_journal.specs.declared.body.Line.{Line}
use Rattle.arj_journal.specs.declared.event.Event.{Event}
use Rattle.arj_journal.specs.declared.event.Event.TheVariants as event
use Rattle.arj_journal.specs.declared.event.FrameNo.{FrameNo}
use Rattle.arj_journal.specs.declared.event.FrameNo.TheVariants.{Number, Last}
use Rattle.arj_journal.specs.declared.header.Header.{Header}
use Rattle.arj_journal.specs.declared.header.ObjectLine.{ObjectLine}
use Rattle.arj_msg.specs.declared.message.Message.{Message}
use Rattle.arj_msg.specs.Layout.{message}
use Rattle.arj_text.specs.Label.{name}
use Rattle.arj_model.specs.Actions.{Act, Placed, acts, act_in, is_begun, is_over, root_in, top_in, path}
use Rattle.arj_model.specs.Calls.{committings}
use Rattle.arj_start.specs.Limits.{most_objects, most_actions, most_on_path}
use Rattle.arj_model.specs.Last.{object_line, is_among, insert_number}
use Rattle.arj_model.specs.Past.{Past, Asked}
use Rattle.arj_start.specs.Kinds.{is_constituent, is_serial}
use Rattle.arj_start.specs.Start.{Start}

-- Nodes.

-- the header has this node
abbrev pub is_node : Header → ℕ → Bool
is_node header n = nat_le 1 n && nat_le n header.nodes

-- a node is down from its `halted` line to its next `up` line
abbrev pub down_step : ℕ → Body → Bool → Bool
down_step n (body.Halted m) down = if m == n then true else down
down_step n (body.Up m i) down = if m == n then false else down
down_step n _ down = down

-- whether the node is down after these lines
abbrev pub down_from : ℕ → Bool → List Line → Bool
down_from n down [] = down
down_from n down (line ∷ lines) = down_from n (down_step n line.body down) lines

-- whether the node is down after the journal of a run that began with this
abbrev pub is_down : Start → List Line → ℕ → Bool
is_down st lines n = down_from n (not (st.up n)) lines

-- a node's incarnation is that of its last `up` line, or the one in which it began
abbrev pub inc_step : ℕ → Body → ℕ → ℕ
inc_step n (body.Up m i) inc = if m == n then i else inc
inc_step n _ inc = inc

-- the incarnation after these lines
abbrev pub inc_from : ℕ → ℕ → List Line → ℕ
inc_from n inc [] = inc
inc_from n inc (line ∷ lines) = inc_from n (inc_step n line.body inc) lines

-- the incarnation after the journal of a run that began with this
abbrev pub incarnation : Start → List Line → ℕ → ℕ
incarnation st lines n = inc_from n (st.incs n + 1) lines

-- an action's Uid: its node, the node's incarnation, and the count of actions begun there in it
abbrev pub next_uid : Start → List Line → ℕ → Uid
next_uid st lines n =
    let inc = incarnation st lines n in
    record { node = n; inc = inc; num = length (filter (λ a. (a.uid.node == n) && (a.uid.inc == inc)) (acts lines)) + 1 }

-- Refusals.

-- the label was given before the run began
abbrev pub was_given : Start → List ℕ → Bool
was_given st l = list_any (λ g. bytes_eq (name g) l) st.given

-- the label was given, in this run or before it
abbrev pub is_known : Past → List ℕ → Bool
is_known past l = was_given past.start l || is_begun past.lines l

-- the action, if there is one, is over
abbrev pub is_over_act : List Line → Option Act → Bool
is_over_act lines None = false
is_over_act lines (Some a) = is_over lines a

-- the action with this label has ended, or its node halted since it began
abbrev pub has_ended : List Line → List ℕ → Bool
has_ended lines l = is_over_act lines (act_in (acts lines) l)

-- Answers, and what waits for one.

-- a call or include of the action with this label
abbrev pub is_ask_by : List ℕ → Event → Bool
is_ask_by l (event.Call m x op) = bytes_eq (name m) l
is_ask_by l (event.Include m x n) = bytes_eq (name m) l
is_ask_by l _ = false

-- a line that answers one
abbrev pub is_answer_to : List ℕ → Body → Bool
is_answer_to l (body.Ok m x op answer) = bytes_eq (name m) l
is_answer_to l (body.Includes m x n) = bytes_eq (name m) l
is_answer_to l (body.Conflict m holder mode n) = bytes_eq (name m) l
is_answer_to l (body.Lost m n) = bytes_eq (name m) l
is_answer_to l (body.Changed m n difference) = bytes_eq (name m) l
is_answer_to l _ = false

-- the last of these
abbrev pub last_asked : List Asked → Option Asked
last_asked [] = None
last_asked (a ∷ []) = Some a
last_asked (a ∷ b ∷ rest) = last_asked (b ∷ rest)

-- the accepted calls and includes of the action
abbrev pub asks_by : List Asked → List ℕ → List Asked
asks_by accepted l = filter (λ a. is_ask_by l a.event) accepted

-- the lines that answer one
abbrev pub answers_to : List Line → List ℕ → List Line
answers_to lines l = filter (λ line. is_answer_to l line.body) lines

-- the accepted call or include of the action that isn't answered yet
abbrev pub unanswered : List Asked → List Line → List ℕ → Option Asked
unanswered accepted lines l =
    if nat_lt (length (answers_to lines l)) (length (asks_by accepted l)) then last_asked (asks_by accepted l) else None

-- what it asks
abbrev pub pending : List Asked → List Line → List ℕ → Option Event
pending accepted lines l = option_map (λ a. a.event) (unanswered accepted lines l)

-- A Bool of an action, false where there is none.
abbrev pub holds_of : (Act → Bool) → Option Act → Bool
holds_of test None = false
holds_of test (Some a) = test a

-- the commit of the action with this number was called
abbrev pub was_called : List (Placed (List Act)) → ℕ → Bool
was_called called id = list_any (λ m. holds_of (λ top. top.id == id) (top_in m.it)) called

-- the commit of the action with this label was called, and the action isn't over since
abbrev pub is_committing : List Line → List ℕ → Bool
is_committing lines l = holds_of (λ a. was_called (committings lines) a.id && not (is_over lines a)) (act_in (acts lines) l)

-- what the action waits for, while it is open: a call or include of its own
abbrev pub waits_for : List Asked → List Line → List ℕ → Option Event
waits_for accepted lines l = if has_ended lines l then None else pending accepted lines l

-- the action waits: its call or include, or its commit, isn't answered
abbrev pub is_waiting : Past → List ℕ → Bool
is_waiting past l = is_some (waits_for past.accepted past.lines l) || is_committing past.lines l

-- the action or one above it on its path waits
abbrev pub waits_above : Past → List ℕ → Bool
waits_above past l = list_any (λ a. is_waiting past a.label) (path (acts past.lines) l)

-- the action or one with it on its path waits
abbrev pub waits_below : Past → List ℕ → Bool
waits_below past l =
    list_any (λ a. list_any (λ b. bytes_eq b.label l) (path (acts past.lines) a.label) && is_waiting past a.label) (acts past.lines)

-- the same, or one with it on its path: what a call, an include, a commit and an abort must not meet
abbrev pub waits_near : Past → List ℕ → Bool
waits_near past l = waits_above past l || waits_below past l

-- two roots are the same
abbrev pub is_root : Option ℕ → Option ℕ → Bool
is_root (Some a) (Some b) = a == b
is_root _ _ = false

-- the action is a constituent, and the commit of one of its serializing action's constituents waits
abbrev pub commits_beside : Past → List ℕ → Bool
commits_beside past l =
    holds_of (λ a. is_constituent a.kind) (act_in (acts past.lines) l)
    && list_any (λ b. is_constituent b.kind && (is_root (root_in (path (acts past.lines) b.label)) (root_in (path (acts past.lines) l)) && is_committing past.lines b.label)) (acts past.lines)

-- the parent of a nested action or of a constituent
abbrev pub is_parent : List ℕ → Kind → Option (List ℕ) → Bool
is_parent l kind.Independent parent = false
is_parent l k None = false
is_parent l k (Some p) = bytes_eq p l

-- a nested action or constituent that was begun in the action is open
abbrev pub has_children : List Line → List ℕ → Bool
has_children lines l = list_any (λ b. is_parent l b.kind b.parent && not (is_over lines b)) (acts lines)

-- What is used.

-- the object that an accepted event of this root used
abbrev pub object_used : Event → Option ℕ
object_used (event.Call l x op) = Some x
object_used (event.Include l x n) = Some x
object_used _ = None

-- the list with the object in its place, if it isn't there yet
abbrev pub with_object : List ℕ → Option ℕ → List ℕ
with_object used None = used
with_object used (Some x) = insert_number x used

-- the objects that a root used, with that of one event more
abbrev pub used_by : Option ℕ → Asked → List ℕ → List ℕ
used_by root a used = if is_root (root_in a.path) root then with_object used (object_used a.event) else used

-- the same, of accepted events
abbrev pub objects_from : Option ℕ → List ℕ → List Asked → List ℕ
objects_from root used [] = used
objects_from root used (a ∷ rest) = objects_from root (used_by root a used) rest

-- the objects that a root's accepted calls and includes have used, whatever was answered, in increasing order
abbrev pub objects_of : Past → Option ℕ → List ℕ
objects_of past root = objects_from root [] past.accepted

-- the object would be the root's seventeenth
abbrev pub is_too_many : Past → List ℕ → ℕ → Bool
is_too_many past l x =
    let used = objects_of past (root_in (path (acts past.lines) l)) in
    not (is_among used x) && nat_le most_objects (length used)

-- the class of the object, which may be gone, lacks the operation
abbrev pub lacks_op : Option ObjectLine → Op → Bool
lacks_op None op = false
lacks_op (Some o) op = not (has_op (own_class o.value) op)

-- the action with this label is a serializing one
abbrev pub is_serializing : List Line → List ℕ → Bool
is_serializing lines l = holds_of (λ a. is_serial a.kind) (act_in (acts lines) l)

-- the path of the action with this label has as many actions as a path may have
abbrev pub is_deep : List Line → List ℕ → Bool
is_deep lines l = nat_le most_on_path (length (path (acts lines) l))

-- the root of this action has begun as many actions as it may, itself among them; an independent one is a root of its own
abbrev pub has_all_actions : List Line → List ℕ → Bool
has_all_actions lines l =
    nat_le most_actions (length (filter (λ a. is_root (root_in (path (acts lines) a.label)) (root_in (path (acts lines) l))) (acts lines)))

-- the line sends the frame with this number
abbrev pub is_sent : ℕ → Body → Bool
is_sent k (body.Sent j from to carried) = j == k
is_sent k _ = false

-- the frame was sent
abbrev pub has_frame : List Line → ℕ → Bool
has_frame lines k = list_any (λ line. is_sent k line.body) lines

-- the number of the frame that a line sends, or the last one before it
abbrev pub frame_step : Body → ℕ → ℕ
frame_step (body.Sent j from to carried) last = j
frame_step _ last = last

-- the same over lines
abbrev pub frame_from : ℕ → List Line → ℕ
frame_from last [] = last
frame_from last (line ∷ lines) = frame_from (frame_step line.body last) lines

-- the number of the last frame, 0 before the first
abbrev pub last_frame : List Line → ℕ
last_frame lines = frame_from 0 lines

-- the frames that are open after a line, in their order, by those that were open before: sent, and neither delivered nor lost
abbrev pub open_step : Body → List ℕ → List ℕ
open_step (body.Sent k from to carried) pending = pending ++ k ∷ []
open_step (body.Got k) pending = filter (λ j. not (j == k)) pending
open_step (body.Void k) pending = filter (λ j. not (j == k)) pending
open_step (body.Dropped k) pending = filter (λ j. not (j == k)) pending
open_step _ pending = pending

-- the same over lines
abbrev pub open_from : List ℕ → List Line → List ℕ
open_from pending [] = pending
open_from pending (line ∷ lines) = open_from (open_step line.body pending) lines

-- the open frames of a journal, in their order
abbrev pub open_frames : List Line → List ℕ
open_frames lines = open_from [] lines

-- the first of these is this frame
abbrev pub is_first : ℕ → List ℕ → Bool
is_first k [] = false
is_first k (j ∷ rest) = j == k

-- the number of the frame that a script names
abbrev pub frame_no : List Line → FrameNo → ℕ
frame_no lines (Number k) = k
frame_no lines Last = last_frame lines

-- What is a message.

-- a message was read, and no byte is left behind it
abbrev pub is_whole : Result (Message × List ℕ) ℕ → Bool
is_whole (Ok read) = length read.1 == 0
is_whole (Err left) = false

-- the bytes are the spelling of a message
abbrev pub is_message : List ℕ → Bool
is_message bytes = is_whole (message.read bytes)

-- Causes.

-- The conditions of the causes 5 and 6: the label wasn't given; its action is over, as one that began before the run is.
abbrev pub asks_known : Past → List ℕ → List (ℕ × Bool) → List (ℕ × Bool)
asks_known past l rest = (5, not (is_known past l)) ∷ (6, was_given past.start l || has_ended past.lines l) ∷ rest

-- The causes for which an event may be refused, by number, each with its condition on the run so far: 1 unknown node,
-- 2 node down, 3 node up, 4 label used, 5 unknown label, 6 ended, 7 waiting, 8 not waiting, 9 open children, 10 wrong
-- parent, 11 no calls, 13 unknown object, 14 wrong operation, 15 too deep, 16 too many, 17 no message, 18 a message. Cause
-- 12, doomed, is told apart.
abbrev pub causes : Header → Past → Event → List (ℕ × Bool)
causes header past (event.Begin l n) = (1, not (is_node header n)) ∷ (2, is_down past.start past.lines n) ∷ (4, is_known past (name l)) ∷ []
causes header past (event.Serial l n) =
    (1, not (is_node header n)) ∷ (2, is_down past.start past.lines n) ∷ (4, is_known past (name l)) ∷ []
causes header past (event.BeginIn l p) =
    (4, is_known past (name l))
    ∷ asks_known past (name p) ((7, waits_above past (name p)) ∷ (15, is_deep past.lines (name p)) ∷ (16, has_all_actions past.lines (name p)) ∷ [])
causes header past (event.Top l p) =
    (4, is_known past (name l)) ∷ asks_known past (name p) ((7, waits_above past (name p)) ∷ (10, is_serializing past.lines (name p)) ∷ [])
causes header past (event.Call l x op) =
    asks_known past (name l) (
    (7, waits_near past (name l)) ∷ (11, is_serializing past.lines (name l)) ∷ (13, is_none (object_line header x)) ∷ (14, lacks_op (object_line header x) op)
    ∷ (16, is_too_many past (name l) x) ∷ [])
causes header past (event.Include l x n) =
    (1, not (is_node header n))
    ∷ asks_known past (name l) (
    (7, waits_near past (name l)) ∷ (11, is_serializing past.lines (name l)) ∷ (13, is_none (object_line header x)) ∷ (16, is_too_many past (name l) x) ∷ [])
causes header past (event.Commit l) =
    asks_known past (name l) ((7, waits_near past (name l) || commits_beside past (name l)) ∷ (9, has_children past.lines (name l)) ∷ [])
causes header past (event.Abort l) = asks_known past (name l) ((7, waits_near past (name l)) ∷ [])
causes header past (event.GiveUp l) = asks_known past (name l) ((8, not (is_waiting past (name l))) ∷ [])
causes header past (event.Deliver k) = (17, not (has_frame past.lines (frame_no past.lines k))) ∷ []
causes header past (event.Lose k) = (17, not (has_frame past.lines (frame_no past.lines k))) ∷ []
causes header past (event.Tick n) = (1, not (is_node header n)) ∷ (2, is_down past.start past.lines n) ∷ []
causes header past (event.Crash n) = (1, not (is_node header n)) ∷ (2, is_down past.start past.lines n) ∷ []
causes header past (event.Restart n) = (1, not (is_node header n)) ∷ (3, not (is_down past.start past.lines n)) ∷ []
causes header past (event.Stop n calls k) = (1, not (is_node header n)) ∷ []
causes header past (event.Junk n bytes) = (1, not (is_node header n)) ∷ (18, is_message bytes) ∷ []
causes header past (event.Show x) = (13, is_none (object_line header x)) ∷ []
causes header past event.Settle = []
causes header past event.Quiesce = []

-- the first of these numbers whose condition holds
abbrev pub first_cause : List (ℕ × Bool) → Option ℕ
first_cause [] = None
first_cause (c ∷ cs) = if c.1 then Some c.0 else first_cause cs

-- the cause for which the event is refused: the first number whose condition holds
abbrev pub refusal : Header → Past → Event → Option ℕ
refusal header past e = first_cause (causes header past e)
