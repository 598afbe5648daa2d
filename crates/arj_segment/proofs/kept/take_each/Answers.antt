use Rattle.std.proofs.Common.{◌<◌, arith, length, None}
use Rattle.arj_store.specs.Table.{at}
use Rattle.arj_segment.proofs.Tabled.{sets_more}
use Rattle.arj_segment.proofs.kept.take_each.Goals as goal

pub loop-uid-preserved : goal.loop-uid-preserved
loop-uid-preserved g c =
    let within : c.loop-uid.uid-index < length c.args.uids.now = omega arith in
    sets_more c.args.uids.now c.loop-uid.uid-index _ None (at c.args.table.now) (at c.loop-uid.table) _ within c.loop-uid.invariant c.take.ensures.taken
