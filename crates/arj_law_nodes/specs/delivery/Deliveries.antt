-- Deliveries in whole runs: each frame is for a node, and what is said of it.
use Rattle.std.specs.Prelude.{◌≡◌, ◌⊎◌, ℕ, true, false, List, ◌∷◌, ◌++◌}
use Rattle.std.specs.List.{AllByRecursion}
use Rattle.arj_protocol.specs.Words.{Event, FrameNo, Header, Line}
use Rattle.arj_protocol.specs.Words.body
use Rattle.arj_protocol.specs.Words.event
use Rattle.arj_protocol.specs.World.{Frame, World, format, frame_number, is_frame, is_node}
use Rattle.arj_law_parts.specs.steps.Writes.{Owes, Writes, has_own}
use Rattle.arj_promise.specs.Runs.{HeaderFits, Move, Run, moved, world_by}
use Rattle.arj_world.specs.Turns.{Turn, all_turned, turned}

-- each frame is for a node of the world
abbrev pub AreForNodes : World → Type 0
AreForNodes w = AllByRecursion (λ (f : Frame). is_node f.to w ≡ true) w.frames

-- among the lines that were added is one that says that the frame was got or void
pub record IsTaken (k : ℕ) (old new : World) : Type 0 where
  pub before : List Line
  pub line : Line
  pub after : List Line
  pub are : new.lines ≡ old.lines ++ (before ++ line ∷ after)
  pub taken : (line.body ≡ body.Got k) ⊎ (line.body ≡ body.Void k)

-- the event delivers a frame that is there, in a run that isn't over
pub record Delivers (e : Event) (k : FrameNo) (w : World) : Type 0 where
  pub delivery : e ≡ event.Deliver k
  pub frame : is_frame k w ≡ true
  pub running : w.over ≡ false

-- In each world that a run of events leaves, whatever stops fall, a delivery is said to be taken.
abbrev pub RunsTake : Type 0
RunsTake = (hd : Header) → HeaderFits hd → (r : Run hd) (m : Move) (k : FrameNo) →
    (let w = world_by hd r in Delivers m.asked.event k w → IsTaken (frame_number k w) w (moved m w))

-- and so it is in each that turns of nodes leave, with the stops that disks make
abbrev pub TurnsTake : Type 0
TurnsTake = (hd : Header) → HeaderFits hd → (ts : List Turn) (t : Turn) (k : FrameNo) →
    (let w = all_turned ts (format hd) in Delivers t.event k w → IsTaken (frame_number k w) w (turned t w))

-- each event of a kind with a line of its own writes it, or why it didn't
abbrev pub RunsWriteTheirLines : Type 0
RunsWriteTheirLines = (hd : Header) → HeaderFits hd → (r : Run hd) (m : Move) → has_own m.asked.event ≡ true →
    (let w = world_by hd r in w.over ≡ false → Writes m.asked.event w (moved m w))

-- and it owes that line whatever stops fell where in turns of nodes
abbrev pub TurnsOweTheirLines : Type 0
TurnsOweTheirLines = (hd : Header) → HeaderFits hd → (ts : List Turn) (e : Event) → has_own e ≡ true → Owes e (all_turned ts (format hd))

-- in which each frame is for a node
abbrev pub TurnsGoToNodes : Type 0
TurnsGoToNodes = (hd : Header) → HeaderFits hd → (ts : List Turn) → AreForNodes (all_turned ts (format hd))
