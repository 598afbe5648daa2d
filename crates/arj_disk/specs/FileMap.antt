-- The files of a disk.
use Rattle.std.specs.Prelude.{ℕ, List, Option}
use Rattle.arj_disk.specs.declared.slot.Slot.{Slot}

-- the bytes under each name; `None` where there is no file
abbrev pub FileMap : Type 0
FileMap = Slot → Option (List ℕ)
