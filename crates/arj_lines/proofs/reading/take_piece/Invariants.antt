-- what was taken of the piece
use Rattle.std.proofs.Common.{◌≡◌, ◌<◌, ◌≤◌, ℕ, List, ◌++◌, length}
use Rattle.arj_lines.specs.Going.{IsGoing, budget}
use Rattle.arj_lines.proofs.reading.take_piece.Given as goal

abbrev pub invariant-loop-rest : goal.invariant-loop-rest
invariant-loop-rest g l = record {
  taken : (bytes : List ℕ) × (l.piece ≡ bytes ++ l.rest) × ((used : List ℕ) → IsGoing g.T.Taker used l.initial.cutter l.initial.taker →
      IsGoing g.T.Taker (used ++ bytes) l.cutter l.taker);
  most : budget g.T.Taker l.cutter l.taker ≤ budget g.T.Taker l.initial.cutter l.initial.taker;
  less : length l.rest < length l.piece → budget g.T.Taker l.cutter l.taker < budget g.T.Taker l.initial.cutter l.initial.taker;
}

abbrev pub decreases-loop-rest : goal.decreases-loop-rest
decreases-loop-rest g l = length l.rest
