-- The records of commits: those that a disk has, those of the protocol, and the protocol's work on them.
use Rattle.std.specs.Prelude.{◌≡◌, ◌<◌, List, [], length, Option, IfSome, option_map}
use Rattle.std.specs.List.Sorted.{IsStrictlySortedBy}
use Rattle.std.specs.Map.{keys_of}
use Rattle.std.specs.Option.{option_to_list}
use Rattle.std.specs.Ordering.{nat_cmp}
use Rattle.arj_base.specs.Order.{uid_order}
use Rattle.arj_base.specs.declared.uid.Uid.{Uid}
use Rattle.arj_disk.specs.FileMap.{FileMap}
use Rattle.arj_disk.specs.Formed.{IsIntentOf}
use Rattle.arj_disk.specs.Says.{Record, records}
use Rattle.arj_disk.specs.declared.slot.Slot.{Slot}
use Rattle.arj_disk.specs.declared.slot.Slot.TheVariants as slot
use Rattle.arj_intent.specs.declared.intent.Intent.{Intent}
use Rattle.arj_protocol.specs.Effect as protocol
use Rattle.arj_protocol.specs.Order.{at_uid}

-- A record can be written: its nodes increase, and one byte has their count.
pub record IsInForm (i : Intent) : Type 0 where
  pub increasing : IsStrictlySortedBy nat_cmp i.nodes
  pub few : length i.nodes < 256

-- each record on the disk is in its grammar, and of its name
abbrev pub AreInForm : FileMap → Type 0
AreInForm file = (top : Uid) → IfSome (file (slot.Intent top)) (IsIntentOf top)

-- a record as the protocol has it, and under its top
abbrev pub shown : Intent → protocol.Intent
shown i = record { root = i.root; nodes = i.nodes }

-- a record under its top
abbrev pub entry_of : Intent → Uid × protocol.Intent
entry_of i = (i.top, shown i)

-- what a disk says of a top, as the protocol has it
abbrev pub said : Record → protocol.Intent
said r = record { root = r.root; nodes = r.nodes }

-- the record of a top on a disk, if it has one
abbrev pub record_at : FileMap → Uid → Option protocol.Intent
record_at file top = option_map said (records file top)

-- a record under this top
abbrev pub under : Uid → protocol.Intent → Uid × protocol.Intent
under top i = (top, i)

-- the record, if there is one, that the file of this name is
abbrev pub entries_at : FileMap → Slot → List (Uid × protocol.Intent)
entries_at file (slot.Intent top) = option_to_list (option_map (under top) (record_at file top))
entries_at file _ = []

-- The entries are the records that the disk has, by their tops.
pub record AreRecords (file : FileMap) (entries : List (Uid × protocol.Intent)) : Type 0 where
  pub there : (top : Uid) → at_uid top entries ≡ record_at file top
  pub rises : IsStrictlySortedBy uid_order (keys_of entries)

-- The entries are those of each disk of the protocol that has the records of these files.
abbrev pub IsTheList : FileMap → List (Uid × protocol.Intent) → Type 0
IsTheList file entries = (d : protocol.Disk) → AreRecords file d.intents → d.intents ≡ entries

-- The work is done: a disk of the protocol that has the records of the first files has those of the second, once it is
-- worked on.
abbrev pub Does : protocol.Work → FileMap → FileMap → Type 0
Does work old new = (d : protocol.Disk) → AreRecords old d.intents → AreRecords new (protocol.worked work d).intents

-- The work was stopped, and left what a stop leaves of it.
abbrev pub IsCut : protocol.Work → FileMap → FileMap → Type 0
IsCut work old new =
    (how : protocol.Stop) × ((d : protocol.Disk) → AreRecords old d.intents → AreRecords new (protocol.stopped how work d).intents)
