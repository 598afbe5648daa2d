-- The tables of a journal against the locks of nodes.
use Rattle.std.specs.Prelude.{◌≡◌, ◌==◌, ℕ, true, List, Option}
use Rattle.arj_base.specs.Uid.{entry, object}
use Rattle.arj_model.specs.Table.{table}
use Rattle.arj_protocol.specs.Words.{Header, Line}
use Rattle.arj_protocol.specs.Node.{Parts}
use Rattle.arj_protocol.specs.Tree.{at_place}
use Rattle.arj_protocol.specs.World.{World, world_from}
use Rattle.arj_promise.specs.Runs.{AfterMoves, Run}
use Rattle.arj_law_serial.specs.holding.Held.{entry_locks_in, locks_in, memory_of}
use Rattle.arj_law_serial.specs.tables.Tables.{rows_on}

-- In the journal's table of a node with this memory the rows on each object are the server's locks, and at node 1 those on each entry are
-- naming's: none while the node is down.
pub record ShowsLocks (n : ℕ) (lines : List Line) (live : Option Parts) : Type 0 where
  pub server : (x : ℕ) → rows_on (object x) (table n lines) ≡ locks_in x live
  pub naming : (x : ℕ) → (n == 1) ≡ true → rows_on (entry x) (table n lines) ≡ entry_locks_in x live

-- so it is of all nodes
abbrev pub AreShown : World → Type 0
AreShown w = (n : ℕ) → ShowsLocks n w.lines (memory_of (at_place n w.nodes))

-- so it is at first, and after each event of each run, wherever disks stop
abbrev pub TablesShowLocks : Type 0
TablesShowLocks = (hd : Header) (r : Run hd) → AfterMoves AreShown (world_from hd r.start) r.moves
