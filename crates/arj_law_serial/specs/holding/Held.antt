-- Held and entry held at the end of each event of each run, by what nodes have in memory.
use Rattle.std.specs.Prelude.{ℕ, List, [], Option, Some, None}
use Rattle.arj_protocol.specs.Words.{Row}
use Rattle.arj_protocol.specs.Laws.{naming_rows, server_rows}
use Rattle.arj_protocol.specs.Naming.{Naming}
use Rattle.arj_protocol.specs.Node.{Parts}
use Rattle.arj_protocol.specs.Step.{Node}

-- ---- locks of nodes

-- a node's memory, while it is up
abbrev pub memory_of : Option Node → Option Parts
memory_of None = None
memory_of (Some n) = n.live

-- the locks on the object in this memory: none in that of a node that is down
abbrev pub locks_in : ℕ → Option Parts → List Row
locks_in x None = []
locks_in x (Some t) = server_rows x t.server

-- the locks on its entry, where there is naming
abbrev pub named_locks : ℕ → Option Naming → List Row
named_locks x None = []
named_locks x (Some n) = naming_rows x n

-- the same, of a node's memory
abbrev pub entry_locks_in : ℕ → Option Parts → List Row
entry_locks_in x None = []
entry_locks_in x (Some t) = named_locks x t.naming
