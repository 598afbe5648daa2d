-- What has to be shown of a relation on what is seen at a moment and on its history, so that it holds at each moment of each run.
use Rattle.std.specs.Prelude.{◌≡◌, ℕ, ◌+◌, Bool, true, false, if◌then◌else◌, List, [], ◌∷◌, ◌++◌, drop, length, map, Option, Some, None}
use Rattle.std.specs.List.{list_all}
use Rattle.arj_model.specs.Past.{block}
use Rattle.arj_start.specs.Start.{Start}
use Rattle.arj_promise.specs.Runs.{Move, Post, Run, moved, see}
use Rattle.arj_promise.specs.Starts.{IsFormed}
use Rattle.arj_protocol.specs.Words.{Header, Label, Kind, Body, Event, Message}
use Rattle.arj_protocol.specs.Words.body
use Rattle.arj_protocol.specs.Words.event
use Rattle.arj_protocol.specs.Words.frame
use Rattle.arj_protocol.specs.Words.kind
use Rattle.arj_protocol.specs.Effect.{Effect, Disk, Did, Say, Send, Do, Stop, Work, worked, stopped}
use Rattle.arj_protocol.specs.Coord.{Coord}
use Rattle.arj_protocol.specs.Asking.{again_all, begin_action}
use Rattle.arj_protocol.specs.Node.{Parts, Took, handle, is_meant, with_coord}
use Rattle.arj_protocol.specs.Follow.{tick_outs}
use Rattle.arj_protocol.specs.Step.{Input, Node, acts, begin_refusal, first_reason, refusal_at, refusal_up, parent_of, parts_in}
use Rattle.arj_protocol.specs.Step.{restart_outs}
use Rattle.arj_protocol.specs.Step as input
use Rattle.arj_protocol.specs.World.{Asked, World, giving, lacks_labels, numbered, reasons, run_event, world_from}
use Rattle.arj_start.specs.Kinds.{is_serial}
use Rattle.arj_law_parts.specs.moves.Keeps.{AsksNode, MayGive, Stands, is_act, label_at}
use Rattle.arj_law_parts.specs.moves.Moments.{History, MayTake, Moment, asks_now, at, closed, come, down, fits, given, gone, halted}
use Rattle.arj_law_parts.specs.moves.Moments.{lined, no_history, opened, taken_by}
use Rattle.arj_law_parts.specs.moves.Moments.{said, sent, up}
use Rattle.arj_law_parts.specs.moves.Seen.{In, is_quiet_line}
use Rattle.arj_law_parts.specs.steps.Writes.{asks}
use Rattle.arj_protocol.specs.Tree.{at_place}

-- ---- a node's effects, one by one

-- the relation holds however a stop falls on the work
abbrev pub StopsWith : (Moment → Type 0) → ℕ → Work → Disk → Moment → Type 0
StopsWith P k w d M = (how : Stop) → P (halted k (stopped how w d) M)

-- Node k does these effects one after another, from this disk on. A message to another node has its frame's line.
abbrev pub WalksWith : (Moment → Type 0) → ℕ → List Effect → (Disk → Moment → Type 0) → Disk → Moment → Type 0
WalksWith P k [] end d M = end d M
WalksWith P k (Do w ∷ es) end d M = StopsWith P k w d M × WalksWith P k es end (worked w d) M
WalksWith P k (Say b ∷ es) end d M = WalksWith P k es end d (said (b ∷ []) M)
WalksWith P k (Send to m ∷ es) end d M = WalksWith P k es end d (sent (record { from = k; to = to; message = m }) M)

-- at the end the node is up with these parts, and the relation holds
abbrev pub UpWith : (Moment → Type 0) → ℕ → Parts → Disk → Moment → Type 0
UpWith P k t d M = P (up k d t M)

-- the coordinator's part of a step, as effects and what it leaves
abbrev pub DidWith : (Moment → Type 0) → ℕ → Disk → Parts → Did Coord → Moment → Type 0
DidWith P k d t did M = WalksWith P k did.outs (UpWith P k (with_coord t did.part)) d M

-- ---- which event brings a node an input about an action

-- the event brings the input
abbrev pub Brings : Event → Input → Type 0
Brings (event.Begin l n) i = i ≡ input.Begin l kind.Top None
Brings (event.Serial l n) i = i ≡ input.Begin l kind.Serial None
Brings (event.BeginIn l p) i = (how : Kind) × (i ≡ input.Begin l how (Some p))
Brings (event.Top l p) i = i ≡ input.Begin l kind.Independent (Some p)
Brings (event.Call l x o) i = i ≡ input.Call l x o
Brings (event.Include l x n) i = i ≡ input.Include l x n
Brings (event.Commit l) i = i ≡ input.Commit l
Brings (event.Abort l) i = i ≡ input.Abort l
Brings (event.GiveUp l) i = i ≡ input.GiveUp l
Brings e i = ⊥

-- ---- the relation

-- a quiet line that isn't of a frame which is sent
abbrev pub is_plain_line : Body → Bool
is_plain_line (body.Sent k from to what) = false
is_plain_line b = is_quiet_line b

-- so it is of all lines
abbrev pub ArePlain : List Body → Type 0
ArePlain bs = list_all is_plain_line bs ≡ true

-- all lines are of the run before the event
abbrev pub IsFirst : Moment → Type 0
IsFirst M = (let r = M.past.run in r.lines) ≡ (let s = M.seen in s.lines)

-- The relation is kept within an event: by lines at which it doesn't look; by a frame of bytes that are no message;
-- by a node that stops; by each message that can be meant and is taken, each input about an action, and the beginning of
-- one; by a tick, and by a restart, in an event of its own.
pub record KeepsSteps (hd : Header) (P : Moment → Type 0) : Type 0 where
  pub quiet : (bs : List Body) (M : Moment) → ArePlain bs → P M → P (said bs M)
  pub junk : (n : ℕ) (M : Moment) → fits M ≡ true → P M → P (lined 0 n frame.Junk M)
  pub stop : (k : ℕ) (d : Disk) (live : Option Parts) (M : Moment) → P (at k d live M) → P (halted k d M)
  pub message : (k : ℕ) (d : Disk) (t v : Parts) (from : ℕ) (m : Message) (outs : List Effect) (M : Moment)
      → P (up k d t M) → In (record { from = from; to = k; message = m }) M.seen.sent → is_meant t m ≡ true →
      MayTake M.past.event m → handle k d t from m ≡ Took v outs → WalksWith P k outs (UpWith P k v) d M
  pub act : (k : ℕ) (d : Disk) (t : Parts) (i : Input) (M : Moment) → is_act i ≡ true → Brings M.past.event i → IsFirst M → AsksNode hd i →
      refusal_up hd i t.coord ≡ None → P (up k d t M) → DidWith P k d t (acts i d.intents t.coord) (asks_now i t.coord M)
  pub begin : (k : ℕ) (d : Disk) (t : Parts) (l : Label) (how : Kind) (parent : Option Label) (M : Moment)
      → Brings M.past.event (input.Begin l how parent) → IsFirst M → label_at l M.seen.labels ≡ None → MayGive M.seen.labels k how parent →
      begin_refusal how t.coord parent ≡ None → P (up k d t M)
      → DidWith P k d t (begin_action l how parent (parent_of parent t.coord) t.coord)
      (given l (record { node = k; serial = is_serial how }) M)
  pub tick : (k : ℕ) (d : Disk) (t : Parts) (M : Moment) → P (up k d t M)
      → WalksWith P k (tick_outs (record { number = k; disk = d; live = Some t }) t)
      (UpWith P k (with_coord t (again_all t.coord.doings t.coord).part)) d M
  pub restart : (k : ℕ) (d : Disk) (M : Moment) → M.past.event ≡ event.Restart k → IsFirst M → P (down k d M) →
      WalksWith P k (restart_outs hd k (d.inc + 1) d) (UpWith P k (parts_in k (d.inc + 1) d)) d M

-- an event comes
abbrev pub Opens : (Moment → Type 0) → (Moment → Type 0) → Type 0
Opens P Q = (e : Event) (M : Moment) → IsFirst M → M.past.number ≡ M.past.run.count → P M → Q (opened e M)

-- it is over, with the lines that it wrote
abbrev pub Closes : (Moment → Type 0) → (Moment → Type 0) → Type 0
Closes P Q = (bodies : List Body) (M : Moment) → M.past.number ≡ M.past.run.count + 1
    → M.seen.lines ≡ M.past.run.lines ++ block M.past.number bodies → P M → Q (closed bodies M)

-- It is kept within events, as an event comes, and as it is over; and so much holds at first.
pub record KeepsWith (hd : Header) (F : Type 0) (P : Moment → Type 0) : Type 0 where
  pub opens : Opens P P
  pub closes : Closes P P
  pub steps : KeepsSteps hd P
  pub first : F

-- it holds wherever a run of the header may begin
abbrev pub IsAtFirst : Header → (Moment → Type 0) → Type 0
IsAtFirst hd P = (st : Start) → IsFormed hd st → P (record { past = no_history st; seen = see [] (world_from hd st) })

-- the relation is kept, and it holds at first
abbrev pub KeepsAll : Header → (Moment → Type 0) → Type 0
KeepsAll hd P = KeepsWith hd (IsAtFirst hd P) P

-- ---- of worlds

-- what is seen of a world in an event with this history
abbrev pub look : History → List Post → World → Moment
look g sent w = record { past = record g { number = w.event; frames = length w.frames }; seen = see sent w }

-- what the input to a node that is there, or isn't, adds to the history
abbrev pub asked_at : Header → Input → Option Node → History → History
asked_at hd i None g = g
asked_at hd i (Some n) g = taken_by i n.live (refusal_at hd i n.live) g

-- the lines of a world are those before the event, and lines of the event
abbrev pub Wrote : History → World → Type 0
Wrote g w = (bs : List Body) × (w.lines ≡ (let r = g.run in r.lines) ++ numbered w.event bs)

-- in an event with this history the relation holds of what is seen of the world
pub record HoldsAt (hd : Header) (P : Moment → Type 0) (g : History) (w : World) : Type 0 where
  pub sent : List Post
  pub stands : Stands hd sent w
  pub number : g.number ≡ w.event
  pub wrote : Wrote g w
  pub holds : P (look g sent w)

-- what the world's event adds to the history: where the world doesn't refuse it, and has a label for it, what it asks of a node
abbrev pub asked_of_node : Option (ℕ × Input) → World → History → History
asked_of_node None w g = g
asked_of_node (Some a) w g = asked_at w.header a.1 (at_place a.0 w.nodes) g

-- the lines behind those of this world
abbrev pub written : World → World → List Body
written w v = map (λ line. line.body) (drop (length w.lines) v.lines)

-- the history behind an event that the world refuses, or doesn't: where no label is left for it the event isn't run
abbrev pub past_unless : Event → World → World → History → Option ℕ → History
past_unless e w v g (Some c) = gone (written w v) (come e g)
past_unless e w v g None = if lacks_labels (giving e w) w then g else gone (written w v) (asked_of_node (asks e w) w (come e g))

-- the history behind an event that came to this world
abbrev pub past_event : Asked → World → History → History
past_event e w g = if w.over then g else past_unless e.event w (run_event e w) g (first_reason (reasons e.event w))

-- the history behind moves from this world on
abbrev pub past_moves : List Move → World → History → History
past_moves [] w g = g
past_moves (m ∷ ms) w g = past_moves ms (moved m w) (past_event m.asked (record w { arms = m.falls }) g)

-- the history of a run
abbrev pub past_of : (hd : Header) → Run hd → History
past_of hd r = past_moves r.moves (world_from hd r.start) (no_history r.start)

-- between events: the run so far is that of the history
pub record HoldsWith (hd : Header) (P : Moment → Type 0) (g : History) (w : World) : Type 0 where
  pub now : HoldsAt hd P g w
  pub count : g.number ≡ (let r = g.run in r.count)
  pub lines : w.over ≡ false → (let r = g.run in r.lines) ≡ w.lines
