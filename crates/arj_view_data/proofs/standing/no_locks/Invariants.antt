-- The tables of the nodes before the next one.
use Rattle.std.proofs.Common.{◌≡◌, ◌+◌, [], length}
use Rattle.arj_view_data.specs.Behind.{AreTables}
use Rattle.arj_view_data.proofs.standing.no_locks.Given as goal

abbrev pub invariant-loop-node : goal.invariant-loop-node
invariant-loop-node l = record {
  tables : AreTables [] l.tables.items;
  count : 1 + length l.tables.items ≡ l.node;
}
