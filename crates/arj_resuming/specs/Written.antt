-- Files that are written on disks.
use Rattle.std.specs.Prelude.{◌≡◌, ◌≤◌, ◌-◌, List, [], ◌∷◌, Some, slice_get, slice_set}
use Rattle.arj_disk.specs.Disk.{Writes}
use Rattle.arj_disk.specs.FileMap.{FileMap}
use Rattle.arj_image.specs.declared.image.NodeFile.{NodeFile}

-- the node of a file has a disk
abbrev pub IsPlaced : NodeFile → Type 0
IsPlaced f = (1 ≤ f.node) × (f.node ≤ 16)

-- A file was written once on its node's disk, and no other disk has changed.
pub record IsWritten {D : Type 0} (file : D → FileMap) (f : NodeFile) (old new : List D) : Type 0 where
  pub was : D
  pub disk : D
  pub there : slice_get old (f.node - 1) ≡ Some was
  pub are : new ≡ slice_set old (f.node - 1) disk
  pub writes : Writes (file was) (file disk) f.slot f.bytes

-- these files were written so, one after another
abbrev pub AreWritten : {D : Type 0} → (D → FileMap) → List NodeFile → List D → List D → Type 0
AreWritten file [] old new = new ≡ old
AreWritten {D} file (f ∷ fs) old new = (mid : List D) × IsWritten file f old mid × AreWritten file fs mid new
