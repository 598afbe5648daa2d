-- Cores whose files say what their nodes have on disk.
use Rattle.std.specs.Prelude.{ℕ}
use Rattle.arj_core.specs.declared.node.Core as core
use Rattle.arj_disk.specs.FileMap.{FileMap}
use Rattle.arj_node.specs.declared.parts.Parts as parts
use Rattle.arj_protocol.specs.Effect.{Disk}
use Rattle.arj_protocol.specs.Node.{Here}
use Rattle.arj_protocol.specs.Step.{Node}
use Rattle.arj_protocol.specs.Words.{Header}
use Rattle.arj_promise.specs.Disks.{IsReadingOf}
use Rattle.arj_law_nodes.specs.nodes.Readings.{Reads}

-- where a core with some files is a node, the files, read so, say that node's disk
abbrev pub SaysReadings : {C : Type 0} → core.Ghosts C → Reads → Type 0
SaysReadings {C} c read = (header : Header) (one : C) (file : FileMap) (n : Node) → c.stands header one file n →
    IsReadingOf (read file) (let m = n in m.disk)

-- The same of parts: of a node that is down, which has files alone, and of one that is up, the files, read so, say its disk.
pub record PartsSayReadings {P : Type 0} (p : parts.Ghosts P) (read : Reads) : Type 0 where
  pub down : (header : Header) (k : ℕ) (file : FileMap) (d : Disk) → p.rests header k file d → IsReadingOf (read file) d
  pub up : (header : Header) (k : ℕ) (one : P) (file : FileMap) (h : Here) → p.stands header k one file h →
      IsReadingOf (read file) (let g = h in g.disk)
