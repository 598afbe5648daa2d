-- A node's services in memory, and with its disk.
use Rattle.std.specs.Prelude.{◌≡◌, ◌≢◌, ℕ, Bool, true, false, [], Option, Some, None, option_map}
use Rattle.arj_disk.specs.FileMap.{FileMap}
use Rattle.arj_disk.specs.Disk.{Same}
use Rattle.arj_disk.specs.Says.{OnlyOfRole, slot_role}
use Rattle.arj_disk.specs.declared.slot.Role.{Role}
use Rattle.arj_disk.specs.declared.slot.Role.TheVariants as role
use Rattle.arj_disk.specs.declared.slot.Slot.{Slot}
use Rattle.arj_disk.specs.declared.slot.Slot.TheVariants as slot
use Rattle.arj_naming.specs.Files.{GivesEntries}
use Rattle.arj_law_store.specs.store.Files.{IsPairOf}
use Rattle.arj_naming.specs.Kept as naming
use Rattle.arj_protocol.specs.Coord.{Coord}
use Rattle.arj_protocol.specs.Effect.{Disk, Pair}
use Rattle.arj_protocol.specs.Naming.{Naming}
use Rattle.arj_protocol.specs.Node.{Parts}
use Rattle.arj_protocol.specs.Server.{Server}
use Rattle.arj_serve.specs.Objects.{AreObjects}
use Rattle.arj_store.specs.declared.store.ObjectStore.{Ghosts}

-- the node's number, its server, naming where it has it, and its store of objects
pub record Kept (O : Type 0) : Type 0 where
  pub number : ℕ
  pub server : Server
  pub naming : Option (naming.Kept O)
  pub store : O

-- naming's part
abbrev pub part_of : {O : Type 0} → naming.Kept O → Naming
part_of n = n.part

-- a node's parts, with any coordinator
abbrev pub parts_with : {O : Type 0} → Kept O → Coord → Parts
parts_with s c = record { server = s.server; naming = option_map part_of s.naming; coord = c }

-- ---- what the disk says

-- The pair of entries: as the files of a node with naming say it, which give entries alone. Without naming no entry is
-- prepared.
abbrev pub NamesOn : {O : Type 0} → Bool → Ghosts O → FileMap → Pair → Type 0
NamesOn true o file p = IsPairOf (o.pair file role.Names) p × GivesEntries (o.pair file role.Names)
NamesOn false o file p = p.pend ≡ []

-- These files say of states what this disk of the protocol has: the states of objects, and of entries where there is
-- naming.
pub record IsDiskOf {O : Type 0} (o : Ghosts O) (named : Bool) (file : FileMap) (d : Disk) : Type 0 where
  pub store : IsPairOf (o.pair file role.Store) d.store
  pub objects : AreObjects d.store
  pub names : NamesOn named o file d.names

-- the files are formed
abbrev pub IsFormed : {O : Type 0} → Ghosts O → Bool → FileMap → Type 0
IsFormed o true file = o.formed file role.Store × o.formed file role.Names
IsFormed o false file = o.formed file role.Store

-- What is no file of a role is as before, but for Tmp; without naming the files of entries are too.
abbrev pub OnlyStates : Bool → FileMap → FileMap → Type 0
OnlyStates true old new = (q : Slot) → slot_role q ≡ None → q ≢ slot.Tmp → new q ≡ old q
OnlyStates false old new = OnlyOfRole role.Store old new

-- ---- standing on a disk

-- Naming, where the node has it, stands on these files, this is the pair of entries, and the files give entries alone.
abbrev pub NamingStands : {O : Type 0} → Ghosts O → Option (naming.Kept O) → FileMap → Pair → Type 0
NamingStands o None file p = p.pend ≡ []
NamingStands o (Some n) file p = naming.StandsOn o n file × (n.pair ≡ p) × GivesEntries (o.pair file role.Names)

-- The services answer by these files, and this is what the files say: the store is of objects, its files are formed, and
-- each state is one of an object.
pub record StandsOn {O : Type 0} (o : Ghosts O) (s : Kept O) (file : FileMap) (d : Disk) : Type 0 where
  pub role_is : o.own_role s.store ≡ role.Store
  pub keeps : o.keeps s.store file
  pub formed : o.formed file role.Store
  pub pair : IsPairOf (o.pair file role.Store) d.store
  pub objects : AreObjects d.store
  pub naming : NamingStands o s.naming file d.names

-- the services answer by these files, whatever these say
abbrev pub Stands : {O : Type 0} → Ghosts O → Kept O → FileMap → Type 0
Stands o s file = (d : Disk) × StandsOn o s file d

-- What a call leaves of the files, at each exit: they are formed, and what is no file of a role is as before.
pub record Leaves {O : Type 0} (o : Ghosts O) (named : Bool) (old new : FileMap) : Type 0 where
  pub formed : IsFormed o named new
  pub others : OnlyStates named old new

-- What a call on files of one role leaves of the files, at each exit: those of the role changed alone, and they are formed.
pub record LeavesRole {O : Type 0} (o : Ghosts O) (r : Role) (old new : FileMap) : Type 0 where
  pub only : OnlyOfRole r old new
  pub formed : o.formed new r

-- and so for the entries at a node with naming; without it no file changed
abbrev pub LeavesNames : {O : Type 0} → Ghosts O → Bool → FileMap → FileMap → Type 0
LeavesNames o true old new = LeavesRole o role.Names old new
LeavesNames o false old new = Same old new
