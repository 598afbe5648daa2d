-- the lines that are left
use Rattle.std.proofs.Common.{◌≡◌, ℕ, drop, vec_len}
use Rattle.arj_progrun.specs.Kept.{AreWithin, standing_of}
use Rattle.arj_progrun.specs.Schedule.{lines_heard}
use Rattle.arj_progrun.proofs.schedule.Schedule.hear.Given as goal

abbrev pub invariant-loop-line : goal.invariant-loop-line
invariant-loop-line l = record {
  heard : lines_heard l.by (drop l.line-index l.lines) (standing_of l.self) ≡ lines_heard l.by l.lines (standing_of l.fn.self);
  within : (turn : ℕ) → AreWithin turn l.fn.self → AreWithin turn l.self;
  nodes : l.self.nodes ≡ l.fn.self.nodes;
  long : vec_len l.self.clients ≡ vec_len l.fn.self.clients;
}
