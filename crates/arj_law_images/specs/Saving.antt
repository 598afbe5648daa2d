-- Cores whose files an image says, and runs that end at rest.
use Rattle.std.specs.Prelude.{◌≡◌, ℕ, false, true, List, [], Some, length}
use Rattle.arj_audit.specs.Calm.{IsCalm}
use Rattle.arj_base.specs.declared.uid.Uid.{Uid}
use Rattle.arj_core.specs.declared.node.Core as core
use Rattle.arj_disk.specs.FileMap.{FileMap}
use Rattle.arj_disk.specs.Formed.{IsIncarnation}
use Rattle.arj_disk.specs.Says as disks
use Rattle.arj_disk.specs.declared.disk.Disk as disk
use Rattle.arj_disk.specs.declared.slot.Role.{Role}
use Rattle.arj_disk.specs.declared.slot.Slot.TheVariants as slot
use Rattle.arj_image.specs.declared.image.NodeFile.{NodeFile}
use Rattle.arj_law_nodes.specs.nodes.Readings.{Reads}
use Rattle.arj_law_nodes.specs.nodes.Turns.{IsTaskInForm}
use Rattle.arj_model.specs.Disks.{Reading}
use Rattle.arj_nodes.specs.AllNodes.{RanAll, task}
use Rattle.arj_protocol.specs.Step.{Node}
use Rattle.arj_protocol.specs.Words.{Event, Header}
use Rattle.arj_saved.specs.Files.{is_quiet}
use Rattle.arj_saving.specs.Gathered.{AreFilesOf, node_files}
use Rattle.arj_saving.specs.Saved.{image_of}
use Rattle.arj_saving.specs.Stops.{up_nodes}
use Rattle.arj_segment.specs.Formed.{IsFormed}
use Rattle.arj_segment.specs.Says.{held, pend}
use Rattle.arj_world.specs.Stands.{Hand}

-- The files are those of a segment store in both roles, with the incarnation, and what is read of them is what they say.
pub record AreSaved (file : FileMap) (read : Reading) : Type 0 where
  pub formed : (r : Role) → IsFormed file r
  pub incarnation : (bytes : List ℕ) × (file slot.Incarnation ≡ Some bytes) × IsIncarnation bytes
  pub held : (r : Role) (u : Uid) → (let m = read in m.held r u) ≡ held file r u
  pub pend : (r : Role) (a : Uid) → (let m = read in m.pend r a) ≡ pend file r a
  pub records : (top : Uid) → (let m = read in m.records top) ≡ disks.records file top
  pub inc : (let m = read in m.inc) ≡ disks.inc file

-- so are the files of each node, read so
abbrev pub SavesFiles : {C : Type 0} → core.Ghosts C → Reads → Type 0
SavesFiles {C} c read = (header : Header) (one : C) (file : FileMap) (n : Node) → c.stands header one file n → AreSaved file (read file)

-- What all nodes ran from a format that are down behind it by the journal, with no frame too many: where nothing prepared is among the files of their disks,
-- and no record, the image of these is calm.
abbrev pub RestingRunsMakeCalmImages : {C D : Type 0} → core.Ghosts C → disk.Ghosts D → Type 0
RestingRunsMakeCalmImages {C} {D} c d = (first : List D) (hd : Header) (events : List Event) (now : Hand C D) (files : List NodeFile) →
    IsTaskInForm (task first hd events) → RanAll c d (task first hd events) false now → up_nodes now.journal hd.nodes ≡ [] →
    AreFilesOf (node_files d.file now.disks) hd.nodes files → is_quiet files ≡ true →
    IsCalm (image_of hd (length events) now.journal files)
