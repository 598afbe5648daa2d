-- What the disk of a node says, whichever files say it. All that is promised of disks is said by such readings alone; how
-- files are read is the object store's.
use Rattle.std.specs.Prelude.{ℕ, List, Option}
use Rattle.arj_base.specs.declared.uid.Uid.{Uid}
use Rattle.arj_disk.specs.Says.{Record, names}
use Rattle.arj_disk.specs.declared.slot.Role.{Role}

-- A reading of a disk: of each role the committed states, packed, and what each action has prepared, its new states, packed,
-- under their Uids; the record of each decided top that isn't acknowledged by all; and how often the node was started.
pub record Reading : Type 0 where
  pub held : Role → Uid → Option (List ℕ)
  pub pend : Role → Uid → Option (List (Uid × List ℕ))
  pub records : Uid → Option Record
  pub inc : ℕ

-- that of each node's disk
abbrev pub Disks : Type 0
Disks = ℕ → Reading

-- the committed state of an object or entry, by its disk's reading
abbrev pub held : Reading → Role → Uid → Option (List ℕ)
held read role u = read.held role u

-- An object or entry is in doubt where an action that is prepared names it.
abbrev pub InDoubt : Reading → Role → Uid → Type 0
InDoubt read role u = (a : Uid) × names (read.pend role a) u
