-- Entries as payloads of packed states, and stores as a plain list.
use Rattle.std.specs.Prelude.{ℕ, ◌≤◌, List, [], ◌∷◌, ◌++◌, length, Bool, ◌==◌, if◌then◌else◌, filter, not}
use Rattle.std.specs.List.{list_any}
use Rattle.arj_entry.specs.declared.entry.Entry.{Entry}

-- a list of nodes: how many they are, then one byte for each
abbrev pub nodes_bytes : List ℕ → List ℕ
nodes_bytes nodes = length nodes ∷ nodes

-- the payload of an entry's packed state: servers, then stores
abbrev pub entry_payload : Entry → List ℕ
entry_payload e = nodes_bytes e.servers ++ nodes_bytes e.stores

-- an entry is in form: one byte counts the nodes of each list
pub record EntryInForm (e : Entry) : Type 0 where
  pub servers : length e.servers ≤ 255
  pub stores : length e.stores ≤ 255

-- whether a node is among the stores
abbrev pub is_listed : ℕ → List ℕ → Bool
is_listed s stores = list_any (λ node. node == s) stores

-- the stores with this one: a new one goes last
abbrev pub with_store : ℕ → List ℕ → List ℕ
with_store s stores = if is_listed s stores then stores else stores ++ s ∷ []

-- the stores without this one
abbrev pub without_store : ℕ → List ℕ → List ℕ
without_store s stores = filter (λ node. not (node == s)) stores
