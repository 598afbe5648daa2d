-- What the disks hold of the bank.
use Rattle.std.specs.Prelude.{ℕ, zero, suc, ◌≡◌, ◌+◌, ◌-◌, ◌&&◌, Bool, List, [], ◌∷◌, Option, Some, None, slice_get, nat_le, nat_lt}
use Rattle.std.specs.Prelude.{if◌then◌else◌}
use Rattle.arj_base.specs.Uid.{entry, object}
use Rattle.arj_base.specs.declared.state.ObjectState.{ObjectState}
use Rattle.arj_base.specs.declared.uid.Uid.{Uid}
use Rattle.arj_class.specs.Forms.{FormatHolds, ValueInForm, payload_of}
use Rattle.arj_class.specs.Table.{class_of}
use Rattle.arj_class.specs.declared.value.Value.{Value}
use Rattle.arj_class.specs.declared.value.Value.TheVariants.{Account}
use Rattle.arj_disk.specs.FileMap.{FileMap}
use Rattle.arj_disk.specs.declared.disk.Disk as disk
use Rattle.arj_disk.specs.declared.slot.Role.{Role}
use Rattle.arj_disk.specs.declared.slot.Role.TheVariants as role
use Rattle.arj_entry.specs.Entry.{EntryInForm, entry_payload}
use Rattle.arj_entry.specs.declared.entry.Entry.{Entry}
use Rattle.arj_gen.specs.declared.bank.TheConstants.{NODES}
use Rattle.arj_store.specs.Pair.{Packs}
use Rattle.arj_store.specs.declared.store.ObjectStore as store
use Rattle.arj_text.specs.Fields.{IsRead}

-- ---- files

-- none at all
abbrev pub no_files : FileMap
no_files slot = None

-- those of a disk, if there is one
abbrev pub files_in : {D : Type 0} → (D → FileMap) → Option D → FileMap
files_in file None = no_files
files_in file (Some disk) = file disk

-- the bank's nodes are numbered from 1 on
abbrev pub is_number : ℕ → Bool
is_number node = nat_le 1 node && nat_le node NODES

-- the files of the disk of a node, the first of which is node 1's; none for a number that is no node of the bank
abbrev pub node_files : {D : Type 0} → (D → FileMap) → List D → ℕ → FileMap
node_files file rack node = if is_number node then files_in file (slice_get rack (node - 1)) else no_files

-- ---- states

-- what files hold: the committed states of both roles, packed, by their Uids
abbrev pub Holds : Type 0
Holds = FileMap → Role → Uid → Option (List ℕ)

-- as an object store reads them
abbrev pub held_by : {O : Type 0} → store.Ghosts O → Holds
held_by o file r uid = (let p = o.pair file r in p.held uid)

-- Disks that are read: what is said of a disk, and what its files hold.
pub record Reader (D : Type 0) : Type 1 where
  pub disk : disk.Ghosts D
  pub holds : Holds

-- those, of these
abbrev pub reader : {D : Type 0} → disk.Ghosts D → Holds → Reader D
reader d holds = record { disk = d; holds = holds }

-- what the disk of each node holds
abbrev pub Held : Type 0
Held = ℕ → Role → Uid → Option (List ℕ)

-- with these disks
abbrev pub node_holds : {D : Type 0} → Reader D → List D → Held
node_holds r rack node = r.holds (node_files (let d = r.disk in d.file) rack node)

-- ---- entries

-- the first of these nodes, 0 where there is none
abbrev pub first_node : List ℕ → ℕ
first_node [] = 0
first_node (node ∷ nodes) = node

-- the first store of an entry, 0 where there is no entry or it lists none
abbrev pub first_listed : Option Entry → ℕ
first_listed None = 0
first_listed (Some e) = first_node e.stores

-- the first store that an entry's state lists: 0 where there is no state, or it is no entry's, or it lists no store
abbrev pub ListsFirst : Option ObjectState → ℕ → Type 0
ListsFirst None store = store ≡ 0
ListsFirst (Some state) store = (found : Option Entry) × IsRead EntryInForm entry_payload state.payload found × (store ≡ first_listed found)

-- ---- balances

-- the balance of a value, 0 where it is no account
abbrev pub number_in : Value → ℕ
number_in (Account balance) = balance
number_in _ = 0

-- the same, 0 where there is no value
abbrev pub balance_in : Option Value → ℕ
balance_in None = 0
balance_in (Some value) = number_in value

-- a value in form, of the state's class, that its format holds
abbrev pub IsOfState : ObjectState → Value → Type 0
IsOfState state value = (class_of value ≡ state.class) × ValueInForm value × FormatHolds state.format value

-- the balance of an object's state: 0 where there is no state, or it is no account's
abbrev pub HasBalance : Option ObjectState → ℕ → Type 0
HasBalance None balance = balance ≡ 0
HasBalance (Some state) balance =
    (found : Option Value) × IsRead (IsOfState state) payload_of state.payload found × (balance ≡ balance_in found)

-- The balance of account x: that of its committed state on the first store that its entry, committed at node 1, lists. It is
-- 0 where one of these isn't there.
pub record IsBalance (held : Held) (x balance : ℕ) : Type 0 where
  pub named : Option ObjectState
  pub named_is : Packs (held 1 role.Names (entry x)) named
  pub store : ℕ
  pub listed : ListsFirst named store
  pub state : Option ObjectState
  pub state_is : Packs (held store role.Store (object x)) state
  pub balance_is : HasBalance state balance

-- a sum of 64 bits: it stands still at the largest number
abbrev pub capped : ℕ → ℕ
capped n = if nat_lt n 18446744073709551616 then n else 18446744073709551615

-- the balances of the first so many accounts add up to this sum
abbrev pub AddUpTo : Held → ℕ → ℕ → Type 0
AddUpTo held zero sum = sum ≡ 0
AddUpTo held (suc k) sum =
    (before : ℕ) × (balance : ℕ) × AddUpTo held k before × IsBalance held (k + 1) balance × (sum ≡ capped (before + balance))
