-- All nodes under a script: frames by number, the journal, disks that stop, and the refusals that no node finds.
use Rattle.std.specs.Prelude.{ℕ, zero, suc, ◌+◌, ◌-◌, Bool, true, false, not, ◌&&◌, ◌||◌, ◌==◌, nat_lt, nat_le, if◌then◌else◌, List, []}
use Rattle.std.specs.Prelude.{◌∷◌, ◌++◌, length, map, filter, take, Option, Some, None, is_some, Result, Ok, Err}
use Rattle.std.specs.List.{list_all, list_any}
use Rattle.std.specs.Map.{lookup}
use Rattle.std.specs.BTreeMap.{insert_entry, is_at}
use Rattle.arj_start.specs.Start.{Start, fresh}
use Rattle.arj_protocol.specs.Words.{Kind, Label, label_cmp, Header, Event, FrameNo, Body, Line, Message, FrameKind, read_message}
use Rattle.arj_protocol.specs.Words.body
use Rattle.arj_protocol.specs.Words.kind
use Rattle.arj_protocol.specs.Words.event
use Rattle.arj_protocol.specs.Words.frame
use Rattle.arj_protocol.specs.Words.frame_no
use Rattle.arj_protocol.specs.Words.which
use Rattle.arj_start.specs.{Limits.most_frames, Limits.most_labels}
use Rattle.arj_start.specs.Kinds.{is_serial}
use Rattle.arj_protocol.specs.Order.{at_number, is_empty, put_number}
use Rattle.arj_protocol.specs.Effect.{Effect, Say, Send, Do, Disk, Stop, worked, stopped}
use Rattle.arj_protocol.specs.Ask.{frame_kind}
use Rattle.arj_protocol.specs.Tree.{at_place, set_place}
use Rattle.arj_protocol.specs.Step.{Node, Input, Step, refusal, step, node_by, numbers_to, first_reason, is_idle, class_at}
use Rattle.arj_protocol.specs.Step as input

-- A frame. One from nobody, node 0, holds no message.
pub record Frame : Type 0 where
  pub from : ℕ
  pub to : ℕ
  pub message : Option Message
  pub delivered : Bool
  pub lost : Bool

-- A disk that will stop: at which of its node's works from now on, and how the stop leaves it.
pub record Arm : Type 0 where
  pub works : ℕ
  pub how : Stop

-- the node of a label, and whether its action is serializing
pub record Labelled : Type 0 where
  pub node : ℕ
  pub serial : Bool

-- `start` is what the run began with, `event` the number of the last event that was run, `full` says that a frame didn't fit, `over` that a
-- limit ended the run.
pub record World : Type 0 where
  pub header : Header
  pub start : Start
  pub nodes : List Node
  pub frames : List Frame
  pub lines : List Line
  pub labels : List (Label × Labelled)
  pub arms : List (ℕ × Arm)
  pub event : ℕ
  pub full : Bool
  pub over : Bool

-- ---- effects as frames and lines

-- a frame as it is sent
abbrev pub new_frame : ℕ → ℕ → Option Message → Frame
new_frame from to m = record { from = from; to = to; message = m; delivered = false; lost = false }

-- what a node sends, in order
abbrev pub sends : ℕ → List Effect → List Frame
sends n [] = []
sends n (Send to m ∷ es) = new_frame n to (Some m) ∷ sends n es
sends n (Say b ∷ es) = sends n es
sends n (Do w ∷ es) = sends n es

-- the line of a frame with this number, where it is within the limit
abbrev pub sent_line : ℕ → ℕ → ℕ → FrameKind → List Body
sent_line k from to what = if nat_le k most_frames then body.Sent k from to what ∷ [] else []

-- what the lines of effects say, where so many frames are there already; a frame past the limit has none
abbrev pub bodies : ℕ → ℕ → List Effect → List Body
bodies n k [] = []
bodies n k (Say b ∷ es) = b ∷ bodies n k es
bodies n k (Send to m ∷ es) = sent_line (k + 1) n to (frame_kind m) ++ bodies n (k + 1) es
bodies n k (Do w ∷ es) = bodies n k es

-- lines of this event
abbrev pub numbered : ℕ → List Body → List Line
numbered k bs = map (λ b. record { event = k; body = b }) bs

-- Frames that don't fit are lost.
abbrev pub frames_with : List Frame → List Frame → List Frame
frames_with frames new = frames ++ take (most_frames - length frames) new

-- with the new frames there are more than a run may have
abbrev pub overflows : List Frame → List Frame → Bool
overflows frames new = nat_lt most_frames (length frames + length new)

-- what a node did becomes frames and lines
abbrev pub put : ℕ → List Effect → World → World
put n outs w = record w {
  frames = frames_with w.frames (sends n outs);
  lines = w.lines ++ numbered w.event (bodies n (length w.frames) outs);
  full = w.full || overflows w.frames (sends n outs);
}

-- lines of the world's own
abbrev pub says : List Body → World → World
says bs w = record w { lines = w.lines ++ numbered w.event bs }

-- ---- stops

-- an effect on the disk
abbrev pub is_work : Effect → Bool
is_work (Do w) = true
is_work _ = false

-- how many effects are on the disk
abbrev pub count_works : List Effect → ℕ
count_works es = length (filter is_work es)

-- what was done until a stop, and the disk then
pub record Cut : Type 0 where
  pub outs : List Effect
  pub disk : Disk

-- the effect was done before
abbrev pub behind_effect : Effect → Cut → Cut
behind_effect e c = record c { outs = e ∷ c.outs }

-- The effects up to the k-th work, counted from 0, on which a stop falls.
abbrev pub cut : ℕ → Stop → List Effect → Disk → Cut
cut k how [] d = record { outs = []; disk = d }
cut zero how (Do w ∷ es) d = record { outs = []; disk = stopped how w d }
cut (suc k) how (Do w ∷ es) d = behind_effect (Do w) (cut k how es (worked w d))
cut k how (Say b ∷ es) d = behind_effect (Say b) (cut k how es d)
cut k how (Send to m ∷ es) d = behind_effect (Send to m) (cut k how es d)

-- ---- a step of one node

-- the node of this number is that one now
abbrev pub set_node : ℕ → Node → World → World
set_node k n w = record w { nodes = set_place k n w.nodes }

-- a step that went through: what it put out, and the node after it
abbrev pub done_step : ℕ → Step → World → World
done_step k s w = put k s.outs (set_node k s.after w)

-- a node that stopped is down, with the disk as the stop left it
abbrev pub halted_outs : ℕ → Cut → List Effect
halted_outs k c = c.outs ++ Say (body.Halted k) ∷ []

-- the node stopped: what it put out is sent and said, and it is down
abbrev pub halted_at : ℕ → Node → Cut → World → World
halted_at k n c w = put k (halted_outs k c) (set_node k (record n { disk = c.disk; live = None }) w)

-- no stop is armed at this node any more
abbrev pub disarmed : ℕ → World → World
disarmed n w = record w { arms = filter (λ (a : ℕ × Arm). not (a.0 == n)) w.arms }

-- this stop is armed at the node, in place of one that was
abbrev pub armed : ℕ → Arm → World → World
armed n a w = record w { arms = put_number n a w.arms }

-- an arm counts the works that are done
abbrev pub step_armed : ℕ → Node → Step → World → Arm → World
step_armed k n s w a =
    if nat_lt (count_works s.halting) a.works then done_step k s (armed k (record a { works = a.works - count_works s.halting }) w)
    else halted_at k n (cut (a.works - 1) a.how s.halting n.disk) (disarmed k w)

-- the step goes through where no stop is armed, and else until the stop
abbrev pub step_with : ℕ → Node → Step → World → Option Arm → World
step_with k n s w None = done_step k s w
step_with k n s w (Some a) = step_armed k n s w a

-- a node that is there takes the input
abbrev pub step_node : ℕ → Input → World → Option Node → World
step_node k i w None = w
step_node k i w (Some n) = step_with k n (step w.header n i) w (at_number k w.arms)

-- the node at this place takes the input
abbrev pub steps : ℕ → Input → World → World
steps k i w = step_node k i w (at_place k w.nodes)

-- ---- frames

-- the frame was delivered
abbrev pub as_delivered : Frame → Frame
as_delivered f = record f { delivered = true }

-- the frame was lost
abbrev pub as_lost : Frame → Frame
as_lost f = record f { lost = true }

-- the frame of this number is changed
abbrev pub change_frame : ℕ → (Frame → Frame) → Frame → World → World
change_frame k f x w = record w { frames = set_place k (f x) w.frames }

-- a frame that is there is delivered: its node takes it
abbrev pub deliver_frame : ℕ → World → Option Frame → World
deliver_frame k w None = w
deliver_frame k w (Some f) = steps f.to (input.Frame k f.from f.message) (change_frame k as_delivered f w)

-- the frame of this number is delivered, also when it was delivered or lost before
abbrev pub deliver : ℕ → World → World
deliver k w = deliver_frame k w (at_place k w.frames)

-- a frame that is there is lost, with a line
abbrev pub lose_frame : ℕ → World → Option Frame → World
lose_frame k w None = w
lose_frame k w (Some f) = says (body.Dropped k ∷ []) (change_frame k as_lost f w)

-- the frame of this number is lost
abbrev pub lose : ℕ → World → World
lose k w = lose_frame k w (at_place k w.frames)

-- neither delivered nor lost
abbrev pub is_open_frame : Frame → Bool
is_open_frame f = not (f.delivered || f.lost)

-- the lowest number of a frame that was neither delivered nor lost
abbrev pub lowest_from : ℕ → List Frame → Option ℕ
lowest_from k [] = None
lowest_from k (f ∷ fs) = if is_open_frame f then Some k else lowest_from (k + 1) fs

-- the frame that a settle delivers next: none where one didn't fit
abbrev pub lowest : World → Option ℕ
lowest w = if w.full then None else lowest_from 1 w.frames

-- Frames are delivered, the lowest number first, until there is none or one doesn't fit.
abbrev pub settle_for : ℕ → World → World
settle_for zero w = w
settle_for (suc fuel) w = elim (lowest w) [ None ↦ w | Some k ↦ settle_for fuel (deliver k w) ]

-- each delivery uses up a frame
abbrev pub settle : World → World
settle w = settle_for most_frames w

-- ---- quiesce

-- a node that is there and runs
abbrev pub is_up : Option Node → Bool
is_up None = false
is_up (Some n) = is_some n.live

-- the node of this number runs
abbrev pub is_up_at : ℕ → World → Bool
is_up_at n w = is_up (at_place n w.nodes)

-- a node that is up takes a tick, unless a frame didn't fit
abbrev pub tick_up : ℕ → World → World
tick_up n w = if w.full || not (is_up_at n w) then w else steps n input.Tick w

-- these nodes take a tick, one after another
abbrev pub tick_all : List ℕ → World → World
tick_all [] w = w
tick_all (n ∷ ns) w = tick_all ns (tick_up n w)

-- every node is up and idle
abbrev pub is_quiet : World → Bool
is_quiet w = list_all is_idle w.nodes

-- the numbers of the world's nodes
abbrev pub node_numbers : World → List ℕ
node_numbers w = numbers_to w.header.nodes

-- the line that says whether the world is quiet, unless a frame didn't fit
abbrev pub quiet_line : World → World
quiet_line w = if w.full then w else says (body.Quiet (is_quiet w) ∷ []) w

-- all frames are delivered, every node that is up ticks once, all frames are delivered again, and a line says whether it is quiet
abbrev pub quiesce : World → World
quiesce w = quiet_line (settle (tick_all (node_numbers w) (settle w)))

-- ---- show

-- a node that is up says what it holds of the object
abbrev pub show_up : ℕ → ℕ → World → World
show_up x n w = if is_up_at n w then steps n (input.Show x) w else w

-- so do these nodes, one after another
abbrev pub show_all : ℕ → List ℕ → World → World
show_all x [] w = w
show_all x (n ∷ ns) w = show_all x ns (show_up x n w)

-- ---- junk

-- a frame from nobody that holds no message is sent, where there is room
abbrev pub junk_fits : ℕ → World → Bool → World
junk_fits n w true = says (body.Sent (length w.frames + 1) 0 n frame.Junk ∷ []) (record w { frames = w.frames ++ new_frame 0 n None ∷ [] })
junk_fits n w false = record w { full = true }

-- such a frame is sent to the node
abbrev pub junk : ℕ → World → World
junk n w = junk_fits n w (nat_lt (length w.frames) most_frames)

-- ---- refusals

-- the number of a node
abbrev pub is_node : ℕ → World → Bool
is_node n w = nat_le 1 n && nat_le n w.header.nodes

-- the node of a label, and whether its action is serializing, where it was given
abbrev pub labelled : Label → World → Option Labelled
labelled l w = lookup (is_at (label_cmp l)) w.labels

-- the label was given
abbrev pub is_given : Label → World → Bool
is_given l w = is_some (labelled l w)

-- the label was given before the run began
abbrev pub was_given : Label → World → Bool
was_given l w = list_any (is_at (label_cmp l)) w.start.given

-- the label was given, in this run or before it
abbrev pub is_known : Label → World → Bool
is_known l w = was_given l w || is_given l w

-- the number that an event names a frame by: the last one's is the count of frames
abbrev pub frame_number : FrameNo → World → ℕ
frame_number (frame_no.Number k) w = k
frame_number frame_no.Last w = length w.frames

-- a frame has this number
abbrev pub is_frame : FrameNo → World → Bool
is_frame k w = is_some (at_place (frame_number k w) w.frames)

-- the bytes decode as a message, and nothing is behind it
abbrev pub reads_whole : Result (Message × List ℕ) ℕ → Bool
reads_whole (Ok r) = is_empty r.1
reads_whole (Err left) = false

-- The conditions that the world tests, in increasing order of their numbers. An action whose label was given before the run began has ended.
abbrev pub reasons : Event → World → List (ℕ × Bool)
reasons (event.Begin l n) w = (1, not (is_node n w)) ∷ (2, not (is_up_at n w)) ∷ (4, is_known l w) ∷ []
reasons (event.Serial l n) w = (1, not (is_node n w)) ∷ (2, not (is_up_at n w)) ∷ (4, is_known l w) ∷ []
reasons (event.BeginIn l p) w = (4, is_known l w) ∷ (5, not (is_known p w)) ∷ (6, was_given p w) ∷ []
reasons (event.Top l p) w = (4, is_known l w) ∷ (5, not (is_known p w)) ∷ (6, was_given p w) ∷ []
reasons (event.Call l x o) w = (5, not (is_known l w)) ∷ (6, was_given l w) ∷ []
reasons (event.Include l x n) w = (1, not (is_node n w)) ∷ (5, not (is_known l w)) ∷ (6, was_given l w) ∷ []
reasons (event.Commit l) w = (5, not (is_known l w)) ∷ (6, was_given l w) ∷ []
reasons (event.Abort l) w = (5, not (is_known l w)) ∷ (6, was_given l w) ∷ []
reasons (event.GiveUp l) w = (5, not (is_known l w)) ∷ (6, was_given l w) ∷ []
reasons (event.Deliver k) w = (17, not (is_frame k w)) ∷ []
reasons (event.Lose k) w = (17, not (is_frame k w)) ∷ []
reasons (event.Tick n) w = (1, not (is_node n w)) ∷ (2, not (is_up_at n w)) ∷ []
reasons event.Settle w = []
reasons event.Quiesce w = []
reasons (event.Crash n) w = (1, not (is_node n w)) ∷ (2, not (is_up_at n w)) ∷ []
reasons (event.Restart n) w = (1, not (is_node n w)) ∷ (3, is_up_at n w) ∷ []
reasons (event.Stop n c how) w = (1, not (is_node n w)) ∷ []
reasons (event.Junk n bytes) w = (1, not (is_node n w)) ∷ (18, reads_whole (read_message bytes)) ∷ []
reasons (event.Show x) w = (13, not (is_some (class_at x w.header))) ∷ []

-- ---- events

-- the node of what is known of a label, and 0 of one that wasn't given
abbrev pub node_in : Option Labelled → ℕ
node_in None = 0
node_in (Some g) = g.node

-- the node of a label
abbrev pub node_of : Label → World → ℕ
node_of l w = node_in (labelled l w)

-- the kind of an action that begins in an action of this label
abbrev pub kind_in : Option Labelled → Kind
kind_in None = kind.Nested
kind_in (Some g) = if g.serial then kind.Constituent else kind.Nested

-- a nested action, or a constituent where the parent is serializing
abbrev pub kind_below : Label → World → Kind
kind_below l w = kind_in (labelled l w)

-- the label that an event gives to a new action, with its kind, its parent and its node
pub record Giving : Type 0 where
  pub label : Label
  pub kind : Kind
  pub parent : Option Label
  pub node : ℕ

-- what an event gives a label to: only those that begin an action
abbrev pub giving : Event → World → Option Giving
giving (event.Begin l n) w = Some (record { label = l; kind = kind.Top; parent = None; node = n })
giving (event.Serial l n) w = Some (record { label = l; kind = kind.Serial; parent = None; node = n })
giving (event.BeginIn l p) w = Some (record { label = l; kind = kind_below p w; parent = Some p; node = node_of p w })
giving (event.Top l p) w = Some (record { label = l; kind = kind.Independent; parent = Some p; node = node_of p w })
giving _ w = None

-- the label is that of the new action from now on
abbrev pub gives_label : Giving → World → World
gives_label g w = record w { labels = insert_entry label_cmp w.labels g.label (record { node = g.node; serial = is_serial g.kind }) }

-- the label is given where the node doesn't refuse
abbrev pub labels_unless : Giving → World → Option ℕ → World
labels_unless g w None = gives_label g w
labels_unless g w (Some c) = w

-- the refusal that a node which is there finds at the input
abbrev pub refused_at : Input → World → Option Node → Option ℕ
refused_at i w None = None
refused_at i w (Some n) = refusal w.header i n

-- the node begins the action, and the label is given, unless the node refuses
abbrev pub begins : Giving → World → World
begins g w =
    let i = input.Begin g.label g.kind g.parent in
    steps g.node i (labels_unless g w (refused_at i w (at_place g.node w.nodes)))

-- an action begins where the event begins one
abbrev pub begins_any : Event → World → Option Giving → World
begins_any e w None = w
begins_any e w (Some g) = begins g w

-- an event that the world doesn't refuse
abbrev pub happens : Event → Arm → World → World
happens (event.Call l x o) a w = steps (node_of l w) (input.Call l x o) w
happens (event.Include l x n) a w = steps (node_of l w) (input.Include l x n) w
happens (event.Commit l) a w = steps (node_of l w) (input.Commit l) w
happens (event.Abort l) a w = steps (node_of l w) (input.Abort l) w
happens (event.GiveUp l) a w = steps (node_of l w) (input.GiveUp l) w
happens (event.Deliver k) a w = deliver (frame_number k w) w
happens (event.Lose k) a w = lose (frame_number k w) w
happens (event.Tick n) a w = steps n input.Tick w
happens event.Settle a w = settle w
happens event.Quiesce a w = quiesce w
happens (event.Crash n) a w = steps n input.Crash w
happens (event.Restart n) a w = steps n input.Restart w
happens (event.Stop n c how) a w = says (body.Armed n ∷ []) (armed n a w)
happens (event.Junk n bytes) a w = junk n w
happens (event.Show x) a w = show_all x (node_numbers w) w
happens e a w = begins_any e w (giving e w)

-- a frame that didn't fit ends the run
abbrev pub limited : World → World
limited w = if w.full then says (body.Limit which.Frames ∷ []) (record w { over = true }) else w

-- one more event was run
abbrev pub counted : World → World
counted w = record w { event = w.event + 1 }

-- no label is left: the event isn't run, and the run ends
abbrev pub no_labels : World → World
no_labels w = says (body.Limit which.Labels ∷ []) (record w { over = true })

-- the event gives a label, and all were given
abbrev pub lacks_labels : Option Giving → World → Bool
lacks_labels None w = false
lacks_labels (Some g) w = nat_le most_labels (length w.labels)

-- an event that the world doesn't refuse is run, where a label is left if it gives one
abbrev pub run_accepted : Event → Arm → World → World
run_accepted e a w = if lacks_labels (giving e w) w then no_labels w else limited (happens e a (counted w))

-- a refused event writes its refusal alone
abbrev pub run_unless : Event → Arm → World → Option ℕ → World
run_unless e a w (Some c) = says (body.Refused c ∷ []) (counted w)
run_unless e a w None = run_accepted e a w

-- An event, with the way in which the disk that it arms will stop, where it arms one.
pub record Asked : Type 0 where
  pub event : Event
  pub arm : Arm

-- an event after the run has ended does nothing; the world refuses by the first condition that holds, and else it is run
abbrev pub run_event : Asked → World → World
run_event e w = if w.over then w else run_unless e.event e.arm w (first_reason (reasons e.event w))

-- one event after another
abbrev pub run_all : List Asked → World → World
run_all [] w = w
run_all (e ∷ es) w = run_all es (run_event e w)

-- the world as a run begins with this
abbrev pub world_from : Header → Start → World
world_from hd st = record {
  header = hd;
  start = st;
  nodes = map (node_by hd st) (numbers_to hd.nodes);
  frames = [];
  lines = [];
  labels = [];
  arms = [];
  event = 0;
  full = false;
  over = false;
}

-- all nodes formatted, up in incarnation 1
abbrev pub format : Header → World
format hd = world_from hd fresh

-- the journal of a script
abbrev pub journal : Header → List Asked → List Line
journal hd es = let w = run_all es (format hd) in w.lines
