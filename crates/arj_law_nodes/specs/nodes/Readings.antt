-- How files are read: the one place where the files of a disk become what it says.
use Rattle.std.specs.Prelude.{List, Option, None, Some}
use Rattle.arj_disk.specs.FileMap.{FileMap}
use Rattle.arj_disk.specs.Says as files
use Rattle.arj_disk.specs.declared.disk.Disk as disk
use Rattle.arj_model.specs.Disks.{Disks, Reading}
use Rattle.arj_protocol.specs.Tree.{at_place}
use Rattle.arj_store.specs.declared.store.ObjectStore as store

-- a way to read files
abbrev pub Reads : Type 0
Reads = FileMap → Reading

-- With an object store: each role's pair as the store has it by the files, and the records and the incarnation as every disk has them.
abbrev pub reading_of : {O : Type 0} → store.Ghosts O → Reads
reading_of o file = record {
  held = λ role u. (let p = o.pair file role in p.held u);
  pend = λ role a. (let p = o.pair file role in p.pend a);
  records = files.records file;
  inc = files.inc file;
}

-- the files of a disk, if one is there
abbrev pub files_at : {D : Type 0} → disk.Ghosts D → Option D → FileMap
files_at d None slot = None
files_at d (Some one) slot = d.file one slot

-- what the disk of each node says, the first of which is node 1's
abbrev pub readings_of : {D : Type 0} → disk.Ghosts D → Reads → List D → Disks
readings_of d read rack n = read (files_at d (at_place n rack))
