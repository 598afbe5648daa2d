-- Nodes as they are formatted, and as a run goes on from their disks.
use Rattle.std.specs.Prelude.{ℕ, ◌≡◌, ◌+◌, ◌-◌, ◌≤◌, ◌<◌, false, List, length, Some, slice_get, slice_set}
use Rattle.arj_core.specs.declared.node.Core.{Ghosts}
use Rattle.arj_disk.specs.FileMap.{FileMap}
use Rattle.arj_journal.specs.declared.header.Header.{Header}
use Rattle.arj_protocol.specs.Step.{disk_by, first_node}
use Rattle.arj_start.specs.Start.{Start}
use Rattle.arj_protocol.specs.Words.{Label}

-- The node's disk was formatted, and no other one has changed.
pub record Formatted {C D : Type 0} (core : Ghosts C) (file : D →
    FileMap) (header : Header) (node : ℕ) (c : C) (old new : List D) : Type 0 where
  pub was : D
  pub disk : D
  pub there : slice_get old (node - 1) ≡ Some was
  pub are : new ≡ slice_set old (node - 1) disk
  pub stands : core.stands header c (file disk) (first_node header node)

-- The disks of a header's nodes, which are all there, are those of this start, before which these labels were given: each node is down, over
-- a disk that these files say.
pub record AreAtRest {C D : Type 0} (core : Ghosts C) (file : D →
    FileMap) (header : Header) (st : Start) (given : List Label) (disks : List D) : Type 0 where
  pub labels : st.given ≡ given
  pub there : header.nodes ≤ length disks
  pub down : (n : ℕ) → 1 ≤ n → n ≤ header.nodes → st.up n ≡ false
  pub each : (i : ℕ) (d : D) → i < header.nodes → slice_get disks i ≡ Some d → core.rests header (i + 1) (file d) (disk_by header st (i + 1))
