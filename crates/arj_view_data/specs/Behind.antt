-- How things stand behind a journal's lines, as it is kept while they are read.
use Rattle.std.specs.Prelude.{◌≡◌, ◌+◌, ℕ, List, length, Some, slice_get}
use Rattle.arj_journal.specs.declared.body.Line.{Line}
use Rattle.arj_model.specs.Actions.{acts}
use Rattle.arj_changes.specs.Kept.{AreKept}
use Rattle.arj_standing.specs.Begun.{AreBegun}
use Rattle.arj_standing.specs.Doubts.{doubts}
use Rattle.arj_standing.specs.Node.{IsTable}
use Rattle.arj_standing.specs.declared.node.NodeLocks.{NodeLocks}
use Rattle.arj_view_data.specs.declared.standing.Standing.{Standing}

-- these are the tables of the nodes from 1 on
abbrev pub AreTables : List Line → List NodeLocks → Type 0
AreTables lines tables = (i : ℕ) (s : NodeLocks) → slice_get tables i ≡ Some s → IsTable (1 + i) lines s

-- This is kept of these lines.
pub record StandsBehind (lines : List Line) (s : Standing) : Type 0 where
  pub begun : AreBegun (acts lines) s.begun.items
  pub tables : AreTables lines s.tables.items
  pub nodes : length s.tables.items ≡ 16
  pub doubts : s.doubts.items ≡ doubts lines
  pub changes : AreKept lines s.changes
