-- The tables before the next one have taken the line.
use Rattle.std.proofs.Common.{◌≡◌, ◌+◌, ◌++◌, ◌∷◌, [], ℕ, List, Some, cond, length, nat_lt}
use Rattle.std.specs.Prelude.{slice_get}
use Rattle.arj_journal.specs.declared.body.Line.{Line}
use Rattle.arj_model.specs.Actions.{acts}
use Rattle.arj_standing.specs.Begun.{AreBegun}
use Rattle.arj_standing.specs.Node.{IsTable}
use Rattle.arj_standing.specs.declared.node.NodeLocks.{NodeLocks}
use Rattle.arj_view_data.specs.Behind.{AreTables}
use Rattle.arj_view_data.proofs.standing.take_each.Given as goal

abbrev pub invariant-loop-at : goal.invariant-loop-at
invariant-loop-at l = record {
  count : length l.tables.items ≡ length l.fn.tables.items;
  taken : (lines : List Line) → AreBegun (acts lines) l.begun → AreTables lines l.fn.tables.items
      → (i : ℕ) (s : NodeLocks) → slice_get l.tables.items i ≡ Some s →
      IsTable (1 + i) (cond (nat_lt i l.at) (lines ++ l.line ∷ []) lines) s;
}
