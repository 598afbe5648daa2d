use Rattle.std.proofs.Common.{◌<◌, arith, length}
use Rattle.arj_store.proofs.Loops.{holds_more}
use Rattle.arj_store.proofs.memory.hold.Goals as goal

pub loop-uid-preserved : goal.loop-uid-preserved
loop-uid-preserved c =
    let within : c.loop-uid.uid-index < length c.args.objects.now = omega arith in
    holds_more c.args.objects.now c.loop-uid.uid-index c.args.act c.args.shadow _ _ _ _ within c.loop-uid.invariant c.in_ok-set.ensures.ok
