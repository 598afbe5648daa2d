-- The files of nodes.
use Rattle.std.specs.Prelude.{◌≡◌, ◌-◌, ℕ, zero, suc, List, [], ◌++◌, Option, Some, None, slice_get}
use Rattle.std.specs.List.{filter_map}
use Rattle.std.specs.Option.{option_map}
use Rattle.arj_disk.specs.Disk.{Lists, Same}
use Rattle.arj_disk.specs.FileMap.{FileMap}
use Rattle.arj_disk.specs.declared.disk.Disk as disk
use Rattle.arj_disk.specs.declared.slot.Slot.{Slot}
use Rattle.arj_image.specs.declared.image.NodeFile.{NodeFile}
use Rattle.arj_world.specs.Disks.{HaveMoved}

-- a file of this node, if there is one of this name
abbrev pub file_at : ℕ → FileMap → Slot → Option NodeFile
file_at n file q = option_map (λ bytes. record { node = n; slot = q; bytes = bytes }) (file q)

-- the files of these names
abbrev pub files_at : ℕ → FileMap → List Slot → List NodeFile
files_at n file names = filter_map (file_at n file) names

-- Behind these files stand those of this node: one for each name that has a file, in the order of names.
abbrev pub AreBehind : ℕ → FileMap → List NodeFile → List NodeFile → Type 0
AreBehind n file before all = (names : List Slot) × Lists file names × (all ≡ before ++ files_at n file names)

-- no file is there
abbrev pub no_files : FileMap
no_files q = None

-- the files of a disk, if there is one
abbrev pub files_in : {D : Type 0} → (D → FileMap) → Option D → FileMap
files_in file None = no_files
files_in file (Some d) = file d

-- the files of the disk of a node, of which the first is node 1's
abbrev pub node_files : {D : Type 0} → (D → FileMap) → List D → ℕ → FileMap
node_files file rack n = files_in file (slice_get rack (n - 1))

-- These are the files of so many nodes, by nodes, and of each node in the order of names.
abbrev pub AreFilesOf : (ℕ → FileMap) → ℕ → List NodeFile → Type 0
AreFilesOf files zero all = all ≡ []
AreFilesOf files (suc n) all = (before : List NodeFile) × AreFilesOf files n before × AreBehind (suc n) (files (suc n)) before all

-- each node's files are as before
abbrev pub HaveSameFiles : {D : Type 0} → (D → FileMap) → List D → List D → Type 0
HaveSameFiles file old new = (n : ℕ) → Same (node_files file old n) (node_files file new n)

-- The disks of so many nodes were read: their files are as they were, and none of them was armed, nor any other disk touched.
pub record HaveBeenRead {D : Type 0} (d : disk.Ghosts D) (nodes : ℕ) (before after : List D) : Type 0 where
  pub files : HaveSameFiles d.file before after
  pub moved : HaveMoved d nodes [] before after
