use Rattle.std.proofs.Common.{take, Some}
use Rattle.arj_store.specs.Table.{at}
use Rattle.arj_segment.specs.Tables.{SetsEach}
use Rattle.arj_segment.proofs.kept.set_each.Given as goal

-- the value is under the Uids so far
abbrev pub invariant-loop-uid : goal.invariant-loop-uid
invariant-loop-uid g l = SetsEach (take l.uid-index l.uids) (Some l.value) (at l.initial.table) (at l.table)
