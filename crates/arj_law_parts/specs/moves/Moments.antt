-- What is seen at a moment of a run, with its history: the run before the event under way, that event, what was asked of actions by then,
-- and how many frames were sent. The history is a function of the moves alone: no node has it.
use Rattle.std.specs.Prelude.{◌≡◌, ℕ, ◌+◌, ◌==◌, nat_lt, Bool, true, false, if◌then◌else◌, List, [], ◌∷◌, Option, Some, None}
use Rattle.arj_model.specs.Past.{Asked, Past, asked_of, next, nothing_yet}
use Rattle.arj_start.specs.Start.{Start}
use Rattle.arj_promise.specs.Runs.{Post, Seen}
use Rattle.arj_protocol.specs.Words.{Body, Event, FrameKind, Label, Message, Uid, asks, nobody}
use Rattle.arj_protocol.specs.Words.body
use Rattle.arj_protocol.specs.Words.event
use Rattle.arj_protocol.specs.Ask.{actor, answers, frame_kind}
use Rattle.arj_protocol.specs.Asking.{next_req}
use Rattle.arj_protocol.specs.Coord.{Coord}
use Rattle.arj_protocol.specs.Effect.{Disk}
use Rattle.arj_protocol.specs.Node.{Parts}
use Rattle.arj_protocol.specs.Step.{Input, Node, branch_named}
use Rattle.arj_protocol.specs.Step as input
use Rattle.arj_protocol.specs.Tree.{Branch}
use Rattle.arj_protocol.specs.World.{Labelled}
use Rattle.arj_start.specs.Limits.{most_frames}
use Rattle.arj_law_parts.specs.moves.Seen as seen

-- An accepted event that asks an action to call, to include or to commit, with the action, and the number that its next request had then.
pub record Asking : Type 0 where
  pub asked : Asked
  pub act : Uid
  pub first : ℕ

-- The run before the event under way, that event and its number, what was asked, the newest first, and how many frames were sent. Between
-- events it is the last event, and the run so far.
pub record History : Type 0 where
  pub run : Past
  pub event : Event
  pub number : ℕ
  pub askings : List Asking
  pub frames : ℕ

-- before the first event of a run that begins with this
abbrev pub no_history : Start → History
no_history st = record { run = nothing_yet; event = event.Settle; number = 0; askings = []; frames = 0 }

-- what is seen, and what came before
pub record Moment : Type 0 where
  pub past : History
  pub seen : Seen

-- ---- events

-- an event comes
abbrev pub come : Event → History → History
come e g = record g { event = e; number = g.number + 1 }

-- the event restarts a node
abbrev pub is_restart : Event → Bool
is_restart (event.Restart n) = true
is_restart e = false

-- while a node restarts no request and no answer is taken
abbrev pub MayTake : Event → Message → Type 0
MayTake e m = is_restart e ≡ true → (asks m ≡ None) × (answers m ≡ None)

-- the event has written these lines, and is over
abbrev pub gone : List Body → History → History
gone bodies g = record g { run = next g.run g.event bodies }

-- the action that a coordinator finds by a label
abbrev pub found_act : Option Branch → Uid
found_act None = nobody
found_act (Some b) = actor b.path

-- the event asks the action with this label, whose requests go on with its next number
abbrev pub asking_of : Label → Coord → Past → Event → Asking
asking_of l c run e = let u = found_act (branch_named l c) in record { asked = asked_of run e; act = u; first = next_req u c }

-- it asks an action to call, to include or to commit
abbrev pub is_asking : Input → Bool
is_asking (input.Call l x o) = true
is_asking (input.Include l x s) = true
is_asking (input.Commit l) = true
is_asking i = false

-- what was asked, with what a coordinator is asked now
abbrev pub with_asking : Input → Coord → Past → Event → List Asking → List Asking
with_asking (input.Call l x o) c run e before = asking_of l c run e ∷ before
with_asking (input.Include l x s) c run e before = asking_of l c run e ∷ before
with_asking (input.Commit l) c run e before = asking_of l c run e ∷ before
with_asking i c run e before = before

-- so it is, where the node is up and doesn't refuse it
abbrev pub with_taken : Input → Option Parts → Option ℕ → Past → Event → List Asking → List Asking
with_taken i (Some t) None run e before = with_asking i t.coord run e before
with_taken i live refused run e before = before

-- an input comes to a node with this memory, which refuses it or not
abbrev pub taken_by : Input → Option Parts → Option ℕ → History → History
taken_by i live refused g = record g { askings = with_taken i live refused g.run g.event g.askings }

-- the event comes
abbrev pub opened : Event → Moment → Moment
opened e M = record M { past = come e M.past }

-- the event is over
abbrev pub closed : List Body → Moment → Moment
closed bodies M = record M { past = gone bodies M.past }

-- a coordinator takes the input
abbrev pub asks_now : Input → Coord → Moment → Moment
asks_now i c M = record M { past = record M.past { askings = with_asking i c M.past.run M.past.event M.past.askings } }

-- ---- what is seen changes

-- a node in another state
abbrev pub with_node : ℕ → Node → Moment → Moment
with_node k n M = record M { seen = seen.with_node k n M.seen }

-- the node with this disk and this memory; up, and down
abbrev pub at : ℕ → Disk → Option Parts → Moment → Moment
at k d live M = record M { seen = seen.at k d live M.seen }

-- the node is up with this disk and memory
abbrev pub up : ℕ → Disk → Parts → Moment → Moment
up k d t M = at k d (Some t) M

-- the node is down with this disk
abbrev pub down : ℕ → Disk → Moment → Moment
down k d M = at k d None M

-- lines of the event
abbrev pub said : List Body → Moment → Moment
said bs M = record M { seen = seen.said M.past.number bs M.seen }

-- the node has stopped
abbrev pub halted : ℕ → Disk → Moment → Moment
halted k d M = said (body.Halted k ∷ []) (down k d M)

-- a message is sent
abbrev pub posted : Post → Moment → Moment
posted p M = record M { seen = seen.posted p M.seen }

-- all that was sent, and more
abbrev pub with_sent : List Post → Moment → Moment
with_sent sent M = record M { seen = seen.with_sent sent M.seen }

-- a label is given
abbrev pub given : Label → Labelled → Moment → Moment
given l g M = record M { seen = seen.given l g M.seen }

-- one more frame is sent, with its line
abbrev pub lined : ℕ → ℕ → FrameKind → Moment → Moment
lined from to what M = record (said (body.Sent (M.past.frames + 1) from to what ∷ []) M)
    { past = record M.past { frames = M.past.frames + 1 } }

-- a frame fits
abbrev pub fits : Moment → Bool
fits M = nat_lt M.past.frames most_frames

-- a message goes to another node in a frame: with its line, where the frame fits, and else it is lost
abbrev pub framed_if : Bool → Post → Moment → Moment
framed_if true p M = posted p (lined p.from p.to (frame_kind p.message) M)
framed_if false p M = M

-- so it is
abbrev pub framed : Post → Moment → Moment
framed p M = framed_if (fits M) p M

-- a message is sent: by a node to itself without a frame
abbrev pub sent : Post → Moment → Moment
sent p M = if p.to == p.from then posted p M else framed p M
