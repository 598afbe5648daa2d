-- the turns so far
use Rattle.std.proofs.Common.{◌≡◌, vec_len}
use Rattle.arj_progrun.specs.Driving.{IsDriven, StandsOn, moment}
use Rattle.arj_progrun.specs.Kept.{AreWithin, standing_of}
use Rattle.arj_progrun.proofs.run.all_turns.Given as goal

abbrev pub invariant-loop-turn : goal.invariant-loop-turn
invariant-loop-turn g l = record {
  driven : IsDriven l.plan l.turn (g.N.Nodes.stepped l.nodes l.on) (standing_of l.schedule);
  nodes : l.schedule.nodes ≡ l.fn.schedule.nodes;
  long : vec_len l.schedule.clients ≡ vec_len l.fn.schedule.clients;
  within : AreWithin l.turn l.schedule;
  stands : StandsOn g.N.Nodes (moment l.fn.nodes l.fn.on) (moment l.nodes l.on);
}
