use Rattle.std.proofs.Common.{◌≡◌, ◌++◌}
use Rattle.std.specs.BTreeMap.{values}
use Rattle.std.specs.Map.{values_of}
use Rattle.arj_store.proofs.table.Table.into_values.Given as goal

-- the values so far, and those that are left
abbrev pub invariant-loop-entry : goal.invariant-loop-entry
invariant-loop-entry g l = l.values ++ values_of l.entry-iterator ≡ values l.fn.self.map
