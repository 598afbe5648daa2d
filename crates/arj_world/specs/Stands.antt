-- What a world has in memory and on its disks, as the protocol's world.
use Rattle.std.specs.Prelude.{ℕ, ◌≡◌, ◌+◌, ◌≤◌, Bool, false, List, [], length, map, Some, slice_get}
use Rattle.arj_core.specs.declared.node.Core.{Ghosts}
use Rattle.arj_disk.specs.FileMap.{FileMap}
use Rattle.arj_journal.specs.declared.body.Line.{Line}
use Rattle.arj_journal.specs.declared.header.Header.{Header}
use Rattle.arj_net.specs.declared.net.Sent.{Sent}
use Rattle.arj_protocol.specs.Step.{Node}
use Rattle.arj_protocol.specs.Words.{Label}
use Rattle.arj_protocol.specs.World.{World, Labelled}
use Rattle.arj_world.specs.Wire.{frame_of}

-- the header, the cores, first that of node 1, the frames, the labels that were given, those that were given before the run began,
-- how many events were run, and whether a frame didn't fit
pub record Kept (C : Type 0) : Type 0 where
  pub header : Header
  pub cores : List C
  pub net : List Sent
  pub labels : List (Label × Labelled)
  pub given : List Label
  pub event : ℕ
  pub full : Bool

-- each core with the files of its disk is the node at its place, whose number is that of the place
pub record AreNodes {C D : Type 0} (core : Ghosts C) (file : D →
    FileMap) (header : Header) (cores : List C) (disks : List D) (nodes : List Node) : Type 0 where
  pub cores_count : length cores ≡ header.nodes
  pub nodes_count : length nodes ≡ header.nodes
  pub disks_count : header.nodes ≤ length disks
  pub numbers : (i : ℕ) (n : Node) → slice_get nodes i ≡ Some n → n.number ≡ i + 1
  pub each : (i : ℕ) (c : C) (d : D) (n : Node) → slice_get cores i ≡ Some c → slice_get disks i ≡ Some d → slice_get nodes i ≡ Some n
      → core.stands header c (file d) n

-- each core is the node at its place, with some files
pub record AreSomeNodes {C : Type 0} (core : Ghosts C) (header : Header) (cores : List C) (nodes : List Node) : Type 0 where
  pub count : length nodes ≡ length cores
  pub each : (i : ℕ) (c : C) (n : Node) → slice_get cores i ≡ Some c → slice_get nodes i ≡ Some n →
      (file : FileMap) × core.stands header c file n

-- what is kept is what this world of the protocol has, with some files
pub record Keeps {C : Type 0} (core : Ghosts C) (k : Kept C) (w : World) : Type 0 where
  pub header : w.header ≡ k.header
  pub given : (let st = w.start in st.given) ≡ k.given
  pub frames : w.frames ≡ map frame_of k.net
  pub labels : w.labels ≡ k.labels
  pub nodes : AreSomeNodes core k.header k.cores w.nodes
  pub count : length k.cores ≡ k.header.nodes

-- a world in hand: what it keeps, its disks, and the journal so far
pub record Hand (C D : Type 0) : Type 0 where
  pub kept : Kept C
  pub disks : List D
  pub journal : List Line

-- a world in hand, of these
abbrev pub hand : {C D : Type 0} → Kept C → List D → List Line → Hand C D
hand k disks journal = record { kept = k; disks = disks; journal = journal }

-- A world with its disks and its journal is this world of the protocol, before or after an event: no stop is due in it.
pub record Stands {C D : Type 0} (core : Ghosts C) (file : D → FileMap) (h : Hand C D) (w : World) : Type 0 where
  pub header : w.header ≡ h.kept.header
  pub given : (let st = w.start in st.given) ≡ h.kept.given
  pub frames : w.frames ≡ map frame_of h.kept.net
  pub lines : w.lines ≡ h.journal
  pub labels : w.labels ≡ h.kept.labels
  pub arms : w.arms ≡ []
  pub event : w.event ≡ h.kept.event
  pub full : w.full ≡ h.kept.full
  pub over : w.over ≡ false
  pub nodes : AreNodes core file h.kept.header h.kept.cores h.disks w.nodes

-- it is some world of the protocol
abbrev pub StandsSome : {C D : Type 0} → Ghosts C → (D → FileMap) → Hand C D → Type 0
StandsSome core file h = (w : World) × Stands core file h w
