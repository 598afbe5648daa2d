-- What a run of the protocol is: moves, events with the stops that fall in each; when it is in form; and what is seen of a world.
use Rattle.std.specs.Prelude.{List, Option, [], length, ℕ, ◌++◌, ◌∷◌, ◌≡◌, ◌≤◌}
use Rattle.std.specs.List.{AllByRecursion}
use Rattle.arj_class.specs.Forms.{FormatHolds}
use Rattle.arj_journal.specs.ScriptForm.{EventInForm, HeaderInForm, ObjectsInForm}
use Rattle.arj_journal.specs.declared.body.Line.{Line}
use Rattle.arj_journal.specs.declared.header.Header.{Header}
use Rattle.arj_journal.specs.declared.header.ObjectLine.{ObjectLine}
use Rattle.arj_journal.specs.declared.limits.TheConstants.{NODES}
pub use Rattle.arj_start.specs.Limits.{most_events}
use Rattle.arj_start.specs.Start.{Marks, Start, fresh}
use Rattle.arj_msg.specs.declared.message.Message.{Message}
use Rattle.arj_promise.specs.Starts.{IsFormed, fresh_is_formed}
use Rattle.arj_protocol.specs.Step.{Node}
use Rattle.arj_protocol.specs.Tree.{at_place}
use Rattle.arj_protocol.specs.World.{Arm, Asked, Labelled, World, format, run_event, world_from}
use Rattle.arj_text.specs.Fields.{IsWithin}
use Rattle.arj_text.specs.declared.label.Label.{Label}

-- a message that was sent, also by a node to itself
pub record Post : Type 0 where
  pub from : ℕ
  pub to : ℕ
  pub message : Message

-- What is seen of a world: what it began with, all that was sent, the journal, the labels, and each node.
pub record Seen : Type 0 where
  pub start : Start
  pub sent : List Post
  pub lines : List Line
  pub labels : List (Label × Labelled)
  pub nodes : ℕ → Option Node

-- a world, with all that was sent
abbrev pub see : List Post → World → Seen
see sent w = record { start = w.start; sent = sent; lines = w.lines; labels = w.labels; nodes = λ m. at_place m w.nodes }

-- An event with the stops that may fall into it: whose disk stops, at which work of its node, counted from the event's first, and how it
-- leaves that work.
pub record Move : Type 0 where
  pub asked : Asked
  pub falls : List (ℕ × Arm)

-- the world after a move, of whose stops none is left to fall
abbrev pub moved : Move → World → World
moved m w = record (run_event m.asked (record w { arms = m.falls })) { arms = [] }

-- the world after moves, first to last
abbrev pub all_moved : List Move → World → World
all_moved [] w = w
all_moved (m ∷ ms) w = all_moved ms (moved m w)

-- A run over a header's nodes: what it begins with, and its moves.
pub record Run (hd : Header) : Type 0 where
  pub start : Start
  pub formed : IsFormed hd start
  pub moves : List Move

-- the run, and these moves behind it
abbrev pub then : {hd : Header} → Run hd → List Move → Run hd
then r ms = record r { moves = r.moves ++ ms }

-- the run from a format with these moves
abbrev pub from_format : (hd : Header) → List Move → Run hd
from_format hd ms = record { start = fresh; formed = fresh_is_formed hd; moves = ms }

-- the world that a run makes
abbrev pub world_by : (hd : Header) → Run hd → World
world_by hd r = all_moved r.moves (world_from hd r.start)

-- the journal of a run
abbrev pub journal_by : (hd : Header) → Run hd → List Line
journal_by hd r = let w = world_by hd r in w.lines

-- so it is of this world, and after each of these moves
abbrev pub AfterMoves : (World → Type 0) → World → List Move → Type 0
AfterMoves P w [] = P w
AfterMoves P w (m ∷ ms) = P w × AfterMoves P (moved m w) ms

-- the moves of a script from a world on: into each event the stops may fall that are armed as it comes
abbrev pub as_moves : List Asked → World → List Move
as_moves [] w = []
as_moves (e ∷ es) w = record { asked = e; falls = w.arms } ∷ as_moves es (run_event e w)

-- the run of a script
abbrev pub run_of : (hd : Header) → List Asked → Run hd
run_of hd es = from_format hd (as_moves es (format hd))

-- a stop falls at one of the works that a disk does from now on, counted from 1
abbrev pub HasWork : Arm → Type 0
HasWork a = 1 ≤ a.works

-- each event of the script is in form, and so is the stop that it may arm
abbrev pub AreEventsInForm : List Asked → Type 0
AreEventsInForm es = AllByRecursion (λ (e : Asked). EventInForm e.event × HasWork e.arm) es

-- each event of these moves is in form
abbrev pub AreMovesInForm : List Move → Type 0
AreMovesInForm ms = AllByRecursion (λ (m : Move). let e = m.asked in EventInForm e.event) ms

-- the stops of a move are in form: the one that its event may arm, and each that may fall in it
abbrev pub IsStoppedInForm : Move → Type 0
IsStoppedInForm m = (let e = m.asked in HasWork e.arm) × AllByRecursion (λ (a : ℕ × Arm). HasWork a.1) m.falls

-- so are those of each of these moves
abbrev pub AreStopsInForm : List Move → Type 0
AreStopsInForm ms = AllByRecursion IsStoppedInForm ms

-- a header of 1 to 16 nodes, and objects in form among them, with any values in form
pub record HeaderFits (hd : Header) : Type 0 where
  pub nodes : IsWithin 1 NODES hd.nodes
  pub objects : ObjectsInForm hd.nodes hd.objects

-- so it is of a header in form
abbrev pub header_fits : (hd : Header) → HeaderInForm hd → HeaderFits hd
header_fits hd form = record { nodes = form.nodes; objects = form.objects }

-- states of the header's format hold the values of those of these objects that nobody has written
abbrev pub FirstsAreHeld : Header → Marks → Type 0
FirstsAreHeld hd marks =
    AllByRecursion (λ (o : ObjectLine). (let m = marks.states o.x in m.version) ≡ 0 → FormatHolds hd.format o.value) hd.objects

-- A run is in form: its header, with values that the states it begins with hold, and each of its events, of which there are at most
-- 1,000,000. A stop that falls in them falls at a work of its node; which stops these are is nothing to it.
pub record IsInForm (hd : Header) (r : Run hd) : Type 0 where
  pub header : HeaderFits hd
  pub held : FirstsAreHeld hd r.start.marks
  pub events : AreMovesInForm r.moves
  pub few : length r.moves ≤ most_events
  pub stops : AreStopsInForm r.moves
