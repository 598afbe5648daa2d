-- Which line an event writes.
use Rattle.std.specs.Prelude.{◌≡◌, ◌⊎◌, ◌+◌, ℕ, Bool, true, false, ⊤, nat_lt, List, ◌∷◌, ◌++◌, length, IfSome, Option, None, Some, is_some}
use Rattle.std.specs.List.{AllByRecursion}
use Rattle.arj_protocol.specs.Step.{Input, Node, first_reason}
use Rattle.arj_protocol.specs.Step as input
use Rattle.arj_protocol.specs.Tree.{at_place}
use Rattle.arj_protocol.specs.Words.{Body, Event, FrameNo, Header, Label, Line, Uid}
use Rattle.arj_protocol.specs.Words.body
use Rattle.arj_protocol.specs.Words.event
use Rattle.arj_protocol.specs.Words.frame
use Rattle.arj_protocol.specs.Words.which
use Rattle.arj_protocol.specs.World.{Asked, Frame, Giving, Labelled, World, frame_number, giving, is_node, kind_below, lacks_labels}
use Rattle.arj_protocol.specs.World.{node_of, reasons, refused_at, run_event, was_given, world_from}
use Rattle.arj_protocol.specs.Words.kind
use Rattle.arj_start.specs.Start.{Start}
use Rattle.arj_promise.specs.Runs.{Run, world_by}
use Rattle.arj_start.specs.Limits.{most_frames}

-- the world has each node of its header at its number's place, and labels are of actions of these, none of them given before the run
pub record IsWhole (w : World) : Type 0 where
  pub nodes : (n : ℕ) → is_node n w ≡ true → is_some (at_place n w.nodes) ≡ true
  pub numbers : (n : ℕ) (m : Node) → at_place n w.nodes ≡ Some m → m.number ≡ n
  pub labels : AllByRecursion (λ (e : Label × Labelled). is_node e.1.node w ≡ true) w.labels
  pub new : AllByRecursion (λ (e : Label × Labelled). was_given e.0 w ≡ false) w.labels

-- the frame of this number, where there is one, is for a node of the world
abbrev pub IsForNode : FrameNo → World → Type 0
IsForNode k w = IfSome (at_place (frame_number k w) w.frames) (λ (f : Frame). is_node f.to w ≡ true)

-- The line is the event's own. Events that may have none, or many, are left out: calls and includes, which may wait, ticks, settles
-- and shows; and so are ends and giveups, whose lines go by the labels that a coordinator keeps.
abbrev pub IsOwn : Event → World → Body → Type 0
IsOwn (event.Begin l n) w b = (u : Uid) × (b ≡ body.Began l kind.Top u None)
IsOwn (event.Serial l n) w b = (u : Uid) × (b ≡ body.Began l kind.Serial u None)
IsOwn (event.BeginIn l p) w b = (u : Uid) × (b ≡ body.Began l (kind_below p w) u (Some p))
IsOwn (event.Top l p) w b = (u : Uid) × (b ≡ body.Began l kind.Independent u (Some p))
IsOwn (event.Deliver k) w b = (b ≡ body.Got (frame_number k w)) ⊎ (b ≡ body.Void (frame_number k w))
IsOwn (event.Lose k) w b = b ≡ body.Dropped (frame_number k w)
IsOwn (event.Stop n c how) w b = b ≡ body.Armed n
IsOwn event.Quiesce w b = (q : Bool) × (b ≡ body.Quiet q)
IsOwn (event.Crash n) w b = b ≡ body.Halted n
IsOwn (event.Restart n) w b = (i : ℕ) × (b ≡ body.Up n i)
IsOwn (event.Junk n bytes) w b = b ≡ body.Sent (length w.frames + 1) 0 n frame.Junk
IsOwn _ w b = ⊥

-- the event has a line of its own
abbrev pub has_own : Event → Bool
has_own (event.Begin l n) = true
has_own (event.Serial l n) = true
has_own (event.BeginIn l p) = true
has_own (event.Top l p) = true
has_own (event.Deliver k) = true
has_own (event.Lose k) = true
has_own (event.Stop n c how) = true
has_own event.Quiesce = true
has_own (event.Crash n) = true
has_own (event.Restart n) = true
has_own (event.Junk n bytes) = true
has_own _ = false

-- an event of a kind with a line of its own owes it; a delivery, where its frame is for a node
abbrev pub Owes : Event → World → Type 0
Owes (event.Deliver k) w = IsForNode k w
Owes e w = has_own e ≡ true

-- the node whose halt may come in the line's place; a delivery's line comes before it
abbrev pub halts_for : Event → World → ℕ → Type 0
halts_for (event.Begin l n) w m = m ≡ n
halts_for (event.Serial l n) w m = m ≡ n
halts_for (event.BeginIn l p) w m = m ≡ node_of p w
halts_for (event.Top l p) w m = m ≡ node_of p w
halts_for (event.Crash n) w m = m ≡ n
halts_for (event.Restart n) w m = m ≡ n
halts_for _ w m = ⊥

-- ---- why an event isn't done

-- the node of an action that begins, and what is asked of it
abbrev pub begun_by : Option Giving → Option (ℕ × Input)
begun_by None = None
begun_by (Some g) = Some (g.node, input.Begin g.label g.kind g.parent)

-- the node that an event about an action asks, which may refuse it, and what it asks
abbrev pub asks : Event → World → Option (ℕ × Input)
asks (event.Call l x o) w = Some (node_of l w, input.Call l x o)
asks (event.Include l x n) w = Some (node_of l w, input.Include l x n)
asks (event.Commit l) w = Some (node_of l w, input.Commit l)
asks (event.Abort l) w = Some (node_of l w, input.Abort l)
asks (event.GiveUp l) w = Some (node_of l w, input.GiveUp l)
asks e w = begun_by (giving e w)

-- the number with which that node refuses it, if it does
abbrev pub refused_to : World → Option (ℕ × Input) → Option ℕ
refused_to w None = None
refused_to w (Some a) = refused_at a.1 w (at_place a.0 w.nodes)

-- so it is of the node that the event asks
abbrev pub node_refusal : Event → World → Option ℕ
node_refusal e w = refused_to w (asks e w)

-- The world doesn't refuse the event, and has a label for it.
pub record IsRun (e : Event) (w : World) : Type 0 where
  pub accepted : first_reason (reasons e w) ≡ None
  pub labels : lacks_labels (giving e w) w ≡ false

-- Nor does the node refuse it that is asked.
pub record IsDone (e : Event) (w : World) : Type 0 where
  pub run : IsRun e w
  pub granted : node_refusal e w ≡ None

-- the event is refused with this number: by the world, or else by the node that is asked
abbrev pub IsRefusedWith : Event → World → ℕ → Type 0
IsRefusedWith e w c = (first_reason (reasons e w) ≡ Some c) ⊎ (IsRun e w × (node_refusal e w ≡ Some c))

-- No label is left for the action that the event begins.
pub record HasNoLabelLeft (e : Event) (w : World) : Type 0 where
  pub accepted : first_reason (reasons e w) ≡ None
  pub full : lacks_labels (giving e w) w ≡ true

-- a frame too many may come in the place of its line: where bytes that are no message are sent, exactly if the frames are full,
-- and in a quiesce, which sends frames before its line; the frames of any other event come behind its line
abbrev pub may_lack_frames : Event → World → Type 0
may_lack_frames (event.Junk n bytes) w = nat_lt (length w.frames) most_frames ≡ false
may_lack_frames event.Quiesce w = ⊤
may_lack_frames _ w = ⊥

-- The line answers the event, behind which the run is over or not: where the event was done it is its own, or says that its node
-- halted, or that a frame was too many; and where it wasn't, with which number it is refused, or that a label is too many.
pub data Answers (e : Event) (w : World) (over : Bool) (b : Body) : Type 0 where
  Own : IsDone e w → IsOwn e w b → Answers e w over b
  HasHalted : (m : ℕ) → IsDone e w → halts_for e w m → b ≡ body.Halted m → Answers e w over b
  IsFrames : IsDone e w → may_lack_frames e w → over ≡ true → b ≡ body.Limit which.Frames → Answers e w over b
  IsRefused : (c : ℕ) → IsRefusedWith e w c → b ≡ body.Refused c → Answers e w over b
  IsLabels : HasNoLabelLeft e w → over ≡ true → b ≡ body.Limit which.Labels → Answers e w over b

-- among the lines that the event added is one that answers it
pub record IsAnswered (e : Event) (old : World) (over : Bool) (lines : List Line) : Type 0 where
  pub before : List Line
  pub line : Line
  pub after : List Line
  pub are : lines ≡ old.lines ++ (before ++ line ∷ after)
  pub answers : Answers e old over line.body

-- the event wrote a line that answers it, where the run goes on
abbrev pub Writes : Event → World → World → Type 0
Writes e old new = IsAnswered e old new.over new.lines

-- each event that owes a line writes it
abbrev pub EventsWriteTheirLines : Type 0
EventsWriteTheirLines = (e : Asked) (w : World) → IsWhole w → w.over ≡ false → Owes e.event w → Writes e.event w (run_event e w)

-- an event leaves a world whole
abbrev pub EventsKeepWhole : Type 0
EventsKeepWhole = (e : Asked) (w : World) → IsWhole w → IsWhole (run_event e w)

-- a world as a run begins is whole
abbrev pub StartsAreWhole : Type 0
StartsAreWhole = (hd : Header) (st : Start) → IsWhole (world_from hd st)

-- in every run, whatever stops fall in it
abbrev pub RunsAreWhole : Type 0
RunsAreWhole = (hd : Header) (r : Run hd) → IsWhole (world_by hd r)
