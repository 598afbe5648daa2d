-- Which readings are those of nodes' disks, and what they show of them.
use Rattle.std.specs.Prelude.{◌≡◌, ◌&&◌, ℕ, true, List, Contains, is_some, nat_le}
use Rattle.arj_model.specs.Actions.{Placed}
use Rattle.arj_model.specs.Disks.{Disks}
use Rattle.arj_model.specs.Last.{Inclusion, included, is_among, listed, object_line}
use Rattle.arj_protocol.specs.Words.{Header, Line}
use Rattle.arj_protocol.specs.World.{World}
use Rattle.arj_law_parts.specs.moves.Keeps.{Stands}
use Rattle.arj_promise.specs.Runs.{HeaderFits, Post, see}
use Rattle.arj_law_serial.specs.order.Readings.{AreShown}
use Rattle.arj_promise.specs.Disks.{DisksAre}

-- the header has the object, and the node
abbrev pub AreThere : Header → ℕ → ℕ → Type 0
AreThere hd x s = ((nat_le 1 s && nat_le s hd.nodes) ≡ true) × (is_some (object_line hd x) ≡ true)

-- so it is of each answered include of the journal
abbrev pub IncludesAreThere : Header → List Line → Type 0
IncludesAreThere hd lines = (i : Placed Inclusion) → Contains (included lines) i →
    AreThere hd (let k = i.it in k.x) (let k = i.it in k.node)

-- and so it is of each store that an object lists
abbrev pub ListedAreThere : Header → List Line → Type 0
ListedAreThere hd lines = (x s : ℕ) → is_among (listed hd lines x) s ≡ true → AreThere hd x s

-- where included stores are nodes of the header each store that an object lists is
abbrev pub IncludesAreListed : Type 0
IncludesAreListed = (hd : Header) (lines : List Line) → HeaderFits hd → IncludesAreThere hd lines → ListedAreThere hd lines

-- Readings of the disks of a world that stands show its pairs.
abbrev pub ReadingsShowPairs : Type 0
ReadingsShowPairs = (hd : Header) (sent : List Post) (w : World) (disks : Disks) → HeaderFits hd → Stands hd sent w →
    IncludesAreThere hd w.lines → DisksAre (see sent w) disks → AreShown hd w.lines (see sent w) disks
