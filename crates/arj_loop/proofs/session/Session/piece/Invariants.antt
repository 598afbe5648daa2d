-- what was taken of the piece
use Rattle.std.proofs.Common.{◌≡◌, ℕ, List, ◌++◌, length, Option}
use Rattle.arj_loop.specs.Running.{IsGoing, work}
use Rattle.arj_loop.proofs.session.Session.piece.Given as goal

abbrev pub invariant-loop-rest : goal.invariant-loop-rest
invariant-loop-rest g l = record {
  taken : (bytes : List ℕ) × (l.piece ≡ bytes ++ l.rest)
      × ((first : List g.row.D.Denot) (before : Option (List ℕ)) (used : List ℕ) →
      IsGoing g.M.Machine first before used (work l.initial.rack l.initial.self l.initial.journal (g.K.Sink.taken l.initial.sink))
      → IsGoing g.M.Machine first before (used ++ bytes) (work l.rack l.self l.journal (g.K.Sink.taken l.sink)));
  steady : g.K.Sink.faults l.sink ≡ g.K.Sink.faults l.initial.sink;
}

abbrev pub decreases-loop-rest : goal.decreases-loop-rest
decreases-loop-rest g l = length l.rest
