-- The lines that an event owes, and what a settle leaves.
use Rattle.std.specs.Prelude.{ℕ, ◌≡◌, Bool, false, List}
use Rattle.arj_core.specs.declared.node.Core.{Ghosts}
use Rattle.arj_disk.specs.FileMap.{FileMap}
use Rattle.arj_law_parts.specs.steps.Named.{AreNamed, IsEndAnswered, ends_label}
use Rattle.arj_law_parts.specs.steps.Writes.{IsAnswered, IsWhole, Owes}
use Rattle.arj_journal.specs.declared.body.Line.{Line}
use Rattle.arj_net.specs.Net.{is_open}
use Rattle.arj_net.specs.declared.net.Sent.{Sent}
use Rattle.arj_protocol.specs.Words.{Event, Label}
use Rattle.arj_protocol.specs.World.{World}
use Rattle.arj_world.specs.Stands.{Hand, Stands}

-- An event of a kind with a line of its own wrote it, or that its node halted, that it is refused, and with which number, or, if the
-- run is then over, that a limit was met, and only where the protocol says so: in each whole world that it was run in, and in which
-- a frame that it delivers is for a node.
abbrev pub AnswersEvent : {C D : Type 0} → Ghosts C → (D → FileMap) → Event → Hand C D → Bool → List Line → Type 0
AnswersEvent core file e old over journal = (w : World) → Stands core file old w → IsWhole w → Owes e w → IsAnswered e w over journal

-- A commit, an abort and a giveup wrote the line that answers them, or that the action's node halted, or that they are refused, and
-- with which number: in each whole world whose coordinators know their labels, and whom their commits wait for.
abbrev pub EndsEvent : {C D : Type 0} → Ghosts C → (D → FileMap) → Event → Hand C D → List Line → Type 0
EndsEvent core file e old journal =
    (l : Label) (w : World) → Stands core file old w → IsWhole w → AreNamed w → ends_label e l → IsEndAnswered e l w journal

-- each frame was delivered or lost
abbrev pub HasNoOpen : List Sent → Type 0
HasNoOpen sent = (k : ℕ) → is_open sent k ≡ false
