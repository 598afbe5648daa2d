use Rattle.std.proofs.Common.{◌≡◌, ◌++◌}
use Rattle.std.specs.BTreeMap.{keys}
use Rattle.arj_store.proofs.table.Table.uids.Given as goal

-- the Uids so far, and those that are left
abbrev pub invariant-loop-uid : goal.invariant-loop-uid
invariant-loop-uid g l = l.uids ++ l.uid-iterator ≡ keys l.self.map
