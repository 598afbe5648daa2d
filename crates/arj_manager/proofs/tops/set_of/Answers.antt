use Rattle.std.proofs.Common.{rules}
use Rattle.arj_manager.proofs.Held.{set_more}
use Rattle.arj_manager.proofs.tops.set_of.Goals as goal

pub loop-uid-preserved : goal.loop-uid-preserved
loop-uid-preserved c = record {
  all = λ u. set_more c.loop-uid.set c.insert.new.self _ c.args.uids.now c.loop-uid.uid-index c.loop-uid-test.true (search rules) c.in_ok-insert.ensures.updates.0 u (c.loop-uid.invariant.all u);
  ordered = c.insert.ensures.ordered;
}
