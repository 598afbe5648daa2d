-- The disk of a node as the protocol has it, and the files that say it.
use Rattle.std.specs.Prelude.{◌≡◌, ◌⊎◌, ◌<◌, ◌≤◌, ◌+◌, Some, ℕ, List, [], filter, map}
use Rattle.arj_disk.specs.FileMap.{FileMap}
use Rattle.arj_disk.specs.Disk.{PutsOrNot, Same}
use Rattle.arj_disk.specs.Formed.{incarnation_bytes, IsIncarnation}
use Rattle.arj_disk.specs.Says.{inc}
use Rattle.arj_disk.specs.declared.slot.Role.TheVariants as role
use Rattle.arj_disk.specs.declared.slot.Slot.TheVariants as slot
use Rattle.arj_intent.specs.Records.{AreInForm, AreRecords}
use Rattle.arj_protocol.specs.Effect.{Disk, Pair, Work, worked}
use Rattle.arj_protocol.specs.Order.{has}
use Rattle.arj_protocol.specs.Step.{first_state}
use Rattle.arj_protocol.specs.Words.{Header, ObjectLine, ObjectState}
use Rattle.arj_store.specs.declared.store.ObjectStore.{Ghosts}
use Rattle.arj_law_store.specs.store.Files.{IsPairOf}

-- the file of the incarnation is there, and in its grammar
abbrev pub HasIncarnation : FileMap → Type 0
HasIncarnation file = (bytes : List ℕ) × (file slot.Incarnation ≡ Some bytes) × IsIncarnation bytes

-- the next incarnation may be put in the place of this one, which isn't the last
abbrev pub MayRaise : FileMap → FileMap → Type 0
MayRaise old new = Same old new ⊎ ((inc old < 4294967295) × PutsOrNot old new slot.Incarnation (incarnation_bytes (inc old + 1)))

-- the incarnation stays, or is the next one
abbrev pub MayRise : FileMap → FileMap → Type 0
MayRise old new = (inc old ≤ inc new) × (inc new ≤ inc old + 1)

-- The files of a node with a store are formed, those of both roles, the incarnation and the records.
pub record IsFormed {O : Type 0} (o : Ghosts O) (file : FileMap) : Type 0 where
  pub store : o.formed file role.Store
  pub names : o.formed file role.Names
  pub incarnation : HasIncarnation file
  pub intents : AreInForm file

-- The files say this disk of the protocol: its incarnation, both its pairs, and its records.
pub record IsDiskOf {O : Type 0} (o : Ghosts O) (file : FileMap) (d : Disk) : Type 0 where
  pub inc : d.inc ≡ inc file
  pub store : IsPairOf (o.pair file role.Store) d.store
  pub names : IsPairOf (o.pair file role.Names) d.names
  pub intents : AreRecords file d.intents

-- both say the same disks
abbrev pub SaysSame : {O : Type 0} → Ghosts O → FileMap → FileMap → Type 0
SaysSame o old new = (d : Disk) → IsDiskOf o old d → IsDiskOf o new d

-- work is done: whatever disk the files said before, they say what the work makes of it
abbrev pub IsWorked : {O : Type 0} → Ghosts O → Work → FileMap → FileMap → Type 0
IsWorked o work old new = (d : Disk) → IsDiskOf o old d → IsDiskOf o new (worked work d)

-- the first states of the objects that a node stores
abbrev pub states_at : ℕ → Header → List ObjectState
states_at n hd = map (first_state hd.format) (filter (λ (o : ObjectLine). has o.stores n) hd.objects)

-- a disk in the first incarnation, with these pairs and no record
abbrev pub first_with : Pair → Pair → Disk
first_with store names = record { inc = 1; store = store; names = names; intents = [] }

-- the files say the first disk with the pairs that they said before
abbrev pub IsFirst : {O : Type 0} → Ghosts O → FileMap → FileMap → Type 0
IsFirst o old new =
    (store names : Pair) → IsPairOf (o.pair old role.Store) store → IsPairOf (o.pair old role.Names) names →
    IsDiskOf o new (first_with store names)
