use Rattle.std.proofs.Common.{◌∙◌}
use Rattle.arj_server.proofs.Loops.{end_part, end_lines}
use Rattle.arj_server.proofs.server.Server.apply_ends.Goals as goal

pub loop-end-preserved : goal.loop-end-preserved
loop-end-preserved c = record {
  part = end_part c.args.node c.loop-end.self c.end_one.new.self c.args.ends.now c.loop-end.end-index _ c.loop-end-test.true c.in_ok-end_one.ensures.part ∙ c.loop-end.invariant.part;
  lines = end_lines c.args.node c.loop-end.self c.end_one.new.self c.args.ends.now c.loop-end.end-index _ c.loop-end.out c.end_one.new.out c.loop-end-test.true c.in_ok-end_one.ensures.part c.in_ok-end_one.ensures.lines ∙ c.loop-end.invariant.lines;
}
