use Rattle.std.proofs.Common.{take, None}
use Rattle.arj_store.specs.Table.{at}
use Rattle.arj_segment.specs.Tables.{SetsEach}
use Rattle.arj_segment.proofs.kept.take_each.Given as goal

-- there is nothing under the Uids so far
abbrev pub invariant-loop-uid : goal.invariant-loop-uid
invariant-loop-uid g l = SetsEach (take l.uid-index l.uids) None (at l.initial.table) (at l.table)
