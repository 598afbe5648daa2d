-- what has come so far, and what was run of it
use Rattle.std.proofs.Common.{◌≡◌, ℕ, List, ◌++◌, ◌-◌, ◌≤◌, length, false}
use Rattle.arj_io.specs.Told.{Gives}
use Rattle.arj_script.specs.Input.{is_enough}
use Rattle.arj_loop.specs.Running.{IsGoing, work}
use Rattle.arj_loop.proofs.session.Session.run.Given as goal

abbrev pub invariant-loop-buffer : goal.invariant-loop-buffer
invariant-loop-buffer g l = record {
  used : (bytes : List ℕ) × (earlier : List ℕ) × (piece : List ℕ)
      × IsGoing g.M.Machine l.initial.rack (g.K.Sink.taken l.initial.sink) bytes (work l.rack l.self l.journal (g.K.Sink.taken l.sink))
      × Gives (g.S.AskedSource.left l.initial.source) bytes (g.S.AskedSource.left l.source) × (bytes ≡ earlier ++ piece) × (length piece ≤ 512) × (is_enough earlier ≡ false)
      × (l.came ≡ length bytes);
  no_fault : g.S.AskedSource.faults l.source ≡ g.S.AskedSource.faults l.initial.source;
  steady : g.K.Sink.faults l.sink ≡ g.K.Sink.faults l.initial.sink;
}

abbrev pub decreases-loop-buffer : goal.decreases-loop-buffer
decreases-loop-buffer g l = 50100501 - l.came
