-- Entries at naming, in each run: what is held and prepared there is of entries, the object's among them, and naming's memory fits.
use Rattle.std.specs.Prelude.{⊤, ◌≡◌, ℕ, true, List, Option, Some, None, is_some, Contains}
use Rattle.arj_protocol.specs.Words.{Uid, ObjectState, entry, is_on}
use Rattle.arj_protocol.specs.Words.role
use Rattle.arj_protocol.specs.Effect.{Effect, Do, Pair, Prepare, held_at, is_prepared}
use Rattle.arj_protocol.specs.Naming.{Naming}
use Rattle.arj_protocol.specs.Node.{Parts}
use Rattle.arj_protocol.specs.Order.{at_number, at_uid}
use Rattle.arj_protocol.specs.Step.{Node}
use Rattle.arj_promise.specs.Runs.{Seen}
use Rattle.arj_law_disk_view.specs.view.Pairs.{AreSorted}
use Rattle.arj_law_disk_view.specs.names.Restarts.{AreEntries}

-- each state is of the entry of its number
abbrev pub AreOfEntries : List ObjectState → Type 0
AreOfEntries states = (s : ObjectState) → Contains states s → s.uid ≡ entry s.uid.num

-- Entries are held under their names, the object's among them, and what is prepared is of entries.
pub record HasEntries (x : ℕ) (d : Pair) : Type 0 where
  pub sorted : AreSorted d.pend
  pub held : AreEntries d
  pub there : is_some (held_at (entry x) d) ≡ true
  pub states : (a : Uid) (states : List ObjectState) → at_uid a d.pend ≡ Some states → AreOfEntries states

-- Naming knows as confirmed whoever has an entry prepared, and has the object.
pub record IsInStep (x : ℕ) (n : Naming) (d : Pair) : Type 0 where
  pub taken : (a : Uid) → is_prepared a d ≡ true → is_on n.confirmed a ≡ true
  pub there : is_some (at_number x n.objects) ≡ true

-- so it is while naming is up
abbrev pub KnowsEntries : ℕ → Option Naming → Pair → Type 0
KnowsEntries x None d = ⊤
KnowsEntries x (Some n) d = IsInStep x n d

-- so it is at the naming node, up or down
pub record IsEntryNode (x : ℕ) (n : Node) : Type 0 where
  pub disk : HasEntries x (let d = n.disk in d.names)
  pub live : (t : Parts) → n.live ≡ Some t → KnowsEntries x t.naming (let d = n.disk in d.names)

-- so it is of node 1
abbrev pub HaveEntries : ℕ → Seen → Type 0
HaveEntries x M = (n : Node) → M.nodes 1 ≡ Some n → IsEntryNode x n

-- what naming prepares is of entries
abbrev pub PreparesEntries : Effect → Type 0
PreparesEntries (Do (Prepare role.Names u states)) = AreOfEntries states
PreparesEntries _ = ⊤
