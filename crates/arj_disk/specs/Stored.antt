-- The files that a disk in memory keeps.
use Rattle.std.specs.BTreeMap.{get}
use Rattle.std.specs.declared.cmp.Ordering.{Ordering}
use Rattle.arj_disk.specs.contracts.slot.SlotOrd.TheImpl as slot_ord
use Rattle.arj_disk.specs.declared.files.Files.{Files}
use Rattle.arj_disk.specs.declared.slot.Slot.{Slot}
use Rattle.arj_disk.specs.FileMap.{FileMap}

-- the comparison by which the map of a disk in memory finds names
abbrev pub slot_cmp : Slot → Slot → Ordering
slot_cmp = (slot_ord.ghosts).cmp

-- the files by their names
abbrev pub stored : Files → FileMap
stored files q = get slot_cmp files.map q
