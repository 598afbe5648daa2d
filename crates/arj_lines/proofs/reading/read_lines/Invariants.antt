-- what has come so far
use Rattle.std.proofs.Common.{◌≡◌, ℕ, List}
use Rattle.arj_io.specs.Told.{Gives}
use Rattle.arj_lines.specs.Going.{IsGoing, budget}
use Rattle.arj_lines.proofs.reading.read_lines.Given as goal

abbrev pub invariant-loop-count : goal.invariant-loop-count
invariant-loop-count g l = record {
  used : (bytes : List ℕ) × IsGoing g.T.Taker bytes l.cutter l.taker × Gives (g.S.Source.left l.initial.source) bytes (g.S.Source.left l.source);
  no_fault : g.S.Source.faults l.source ≡ g.S.Source.faults l.initial.source;
}

abbrev pub decreases-loop-count : goal.decreases-loop-count
decreases-loop-count g l = budget g.T.Taker l.cutter l.taker
