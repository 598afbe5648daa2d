-- What all nodes have run of a script.
use Rattle.std.specs.Prelude.{ℕ, ◌≡◌, ◌<◌, Bool, true, false, All, List, [], ◌∷◌, ◌++◌, length, map, None}
use Rattle.std.specs.List.{AllByRecursion}
use Rattle.arj_core.specs.declared.node.Core as core
use Rattle.arj_disk.specs.declared.disk.Disk as disk
use Rattle.arj_disk.specs.declared.slot.Slot.{Slot}
use Rattle.arj_journal.specs.declared.event.Event.{Event}
use Rattle.arj_journal.specs.declared.header.Header.{Header}
use Rattle.arj_protocol.specs.Step.{first_reason}
use Rattle.arj_protocol.specs.World.{World, giving, lacks_labels, reasons, world_from}
use Rattle.arj_start.specs.Start.{Start, fresh}
use Rattle.arj_world.specs.Disks.{HaveMoved, HaveNotStopped}
use Rattle.arj_world.specs.Stands.{Hand, Keeps, Kept, Stands}
use Rattle.arj_world.specs.Tells.{TellsStops, crashed_by}
use Rattle.arj_world.specs.Turns.{FallsAtWorks, Turn, all_turned, turned}

-- the disks on which a run may begin: empty, and not armed often so far
abbrev pub AreFresh : {D : Type 0} → disk.Ghosts D → List D → Type 0
AreFresh d rack = All (λ one. (slot : Slot) → d.file one slot ≡ None) rack × All (λ one. d.arms one < 1000) rack

-- the world that the protocol makes of these turns, from a start on
abbrev pub world_after : Header → Start → List Turn → World
world_after header st turns = all_turned turns (world_from header st)

-- Turn by turn, from this world and these disks on: the lines that a turn added tell the stops that the disks made in it. So a
-- stop that halted a node in a turn is one that its disk counted.
abbrev pub TellTurns : {D : Type 0} → disk.Ghosts D → World → List Turn → List D → List D → Type 0
TellTurns d w [] before after = after ≡ before
TellTurns d w (t ∷ ts) before after =
    (between : List _) × TellsStops d w.header.nodes (crashed_by t.event) before between w.lines (let v =
    turned t w in v.lines) × TellTurns d (turned t w) ts between after

-- What is run: the disks on which it begins, its header, with what it begins, and its events.
pub record Task (D : Type 0) : Type 0 where
  pub first : List D
  pub header : Header
  pub start : Start
  pub events : List Event

-- first disks, a header, a start and events, as one
abbrev pub task_from : {D : Type 0} → List D → Header → Start → List Event → Task D
task_from first header st events = record { first = first; header = header; start = st; events = events }

-- what is run from a format
abbrev pub task : {D : Type 0} → List D → Header → List Event → Task D
task first header events = task_from first header fresh events

-- a task, and an event behind its own
abbrev pub with_event : {D : Type 0} → Task D → Event → Task D
with_event t e = record t { events = t.events ++ e ∷ [] }

-- The events of a task were run on its disks, under its header, from its start on: the world in hand is what the protocol makes of a turn
-- for each of them, which says what stops fell in it, as the disks counted them. The disks of its nodes were armed as the events ask for it,
-- and all others are as they were. No disk was stopped before the first event. Whether the run is over, since a frame didn't fit, is
-- told beside.
pub record RanAll {C D : Type 0} (c : core.Ghosts C) (d : disk.Ghosts D) (t : Task D) (over : Bool) (now : Hand C D) : Type 0 where
  pub turns : List Turn
  pub are : map (λ s. s.event) turns ≡ t.events
  pub works : AllByRecursion FallsAtWorks turns
  -- but for the mark that a limit ended the run
  pub stands : Stands c d.file now (record (world_after t.header t.start turns) { over = false })
  pub is_over : (let w = world_after t.header t.start turns in w.over) ≡ over
  -- the nodes' own header and count of events
  pub header : now.kept.header ≡ t.header
  pub counted : now.kept.event ≡ length t.events
  -- what became of the disks' arms
  pub disks : HaveMoved d t.header.nodes t.events t.first now.disks
  pub fresh : All (λ one. d.arms one < 1000) t.first
  -- the disks as the first event found them, by calls of which none was stopped, and the stops that they made since, turn by turn
  pub formed : List D
  pub unstopped : HaveNotStopped d t.first formed
  pub told : TellTurns d (world_from t.header t.start) turns formed now.disks

-- wherever the nodes are those of a world, it doesn't refuse the event, which would give one label too many
abbrev pub LacksLabels : {C : Type 0} → core.Ghosts C → Kept C → Event → Type 0
LacksLabels c kept e = (w : World) → Keeps c kept w → (None ≡ first_reason (reasons e w)) × (lacks_labels (giving e w) w ≡ true)
