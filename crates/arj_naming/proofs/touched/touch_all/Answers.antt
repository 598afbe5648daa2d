use Rattle.arj_naming.proofs.Indexed.{next_touched}
use Rattle.arj_naming.proofs.touched.touch_all.Goals as goal

pub loop-action-preserved : goal.loop-action-preserved
loop-action-preserved c = record {
  here = next_touched c.args.actions.now c.loop-action.action-index c.args.x c.loop-action.touched.entries c.touch.new.touched.entries c.loop-action-test.true c.loop-action.invariant.here c.in_ok-touch.ensures.kept c.in_ok-touch.ensures.here;
  kept = λ u x is. c.in_ok-touch.ensures.kept u x (c.loop-action.invariant.kept u x is);
}
