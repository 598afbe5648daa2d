-- what one more write adds to what was taken
use Rattle.std.proofs.Common.{arith, rules, ap, length, length-drop}
use Rattle.std.proofs.lemmas.List.{take_rest}
use Rattle.arj_io.proofs.Told.{takes_front}
use Rattle.arj_io.proofs.sink.write_all.Goals as goal

pub loop-at-preserved : goal.loop-at-preserved
loop-at-preserved g c = record {
  within = omega (arith, c.in_ok-at.ensures.within, ap length (take_rest c.args.bytes.now c.loop-at.at), length-drop c.loop-at.at c.args.bytes.now);
  took = takes_front _ _ _ c.args.bytes.now c.loop-at.at c.in_ok-at.field-0 c.loop-at.invariant.took c.in_ok-at.ensures.took;
  steady = search rules;
  nothing = search rules;
}
