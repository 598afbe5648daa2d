-- What a journal tells of the stops and the arms of the disks on which its events were run.
use Rattle.std.specs.Prelude.{ℕ, ◌≡◌, ◌+◌, ◌-◌, ◌≤◌, ◌&&◌, Bool, false, not, if◌then◌else◌, List, [], ◌∷◌, ◌++◌, length, filter, nat_le}
use Rattle.std.specs.Prelude.{Option, Some, None, is_some, slice_get}
use Rattle.arj_disk.specs.declared.disk.Disk as disk
use Rattle.arj_law_parts.specs.steps.Halts.{armed_node, halted_node}
use Rattle.arj_journal.specs.declared.event.Event.{Event}
use Rattle.arj_protocol.specs.Words.{Line}
use Rattle.arj_protocol.specs.Words.body
use Rattle.arj_protocol.specs.Words.event
use Rattle.arj_nodes.specs.AllNodes.{Task}
use Rattle.arj_world.specs.Tells.{IsToldBy, crashed_by, halts, is_this}

-- ---- stops

-- the event of this number crashes the node
abbrev pub crashed_in : List Event → ℕ → ℕ → Bool
crashed_in events n number = elim (slice_get events (number - 1)) [ None ↦ false | Some e ↦ crashed_by e n ]

-- the line says that the node halted, and isn't of an event that crashes it
abbrev pub tells_stop : List Event → ℕ → Line → Bool
tells_stop events n l = is_this n (halted_node l.body) && not (crashed_in events n l.event)

-- how many such lines a journal of these events has
abbrev pub stops_told : List Event → ℕ → List Line → ℕ
stops_told events n lines = length (filter (tells_stop events n) lines)

-- Each stop that a journal tells of is one that its node's disk counted since the first, and a disk of whose node it tells none counted none;
-- and nobody halts but nodes of the header.
pub record HaltsHaveCause {D : Type 0} (d : disk.Ghosts D) (t : Task D) (journal : List Line) (now : List D) : Type 0 where
  pub each : (i : ℕ) (was is : D) → slice_get t.first i ≡ Some was → slice_get now i ≡ Some is →
      IsToldBy (stops_told t.events (i + 1) journal) (d.stops was) (d.stops is)
  pub others : (n : ℕ) → (1 ≤ n → n ≤ t.header.nodes → ⊥) → halts n journal ≡ 0

-- ---- arms

-- the line says that a disk was armed
abbrev pub tells_arm : Line → Bool
tells_arm l = is_some (armed_node l.body)

-- the line of an event of this number, where it asks for an arm of one of so many nodes
abbrev pub arm_line : ℕ → ℕ → Event → List Line
arm_line nodes number (event.Stop n calls kind) =
    if nat_le 1 n && nat_le n nodes then record { event = number; body = body.Armed n } ∷ [] else []
arm_line nodes number _ = []

-- the lines of events, of which the first has this number
abbrev pub arm_lines : ℕ → ℕ → List Event → List Line
arm_lines nodes number [] = []
arm_lines nodes number (e ∷ es) = arm_line nodes number e ++ arm_lines nodes (number + 1) es

-- a journal of these events tells of each arm that they ask for, one after another, and of no other
abbrev pub ArmsAreTold : ℕ → List Event → List Line → Type 0
ArmsAreTold nodes events journal = filter tells_arm journal ≡ arm_lines nodes 1 events
