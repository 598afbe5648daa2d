-- what was written so far
use Rattle.std.proofs.Common.{◌≡◌, ◌≤◌, ◌-◌, length, take}
use Rattle.arj_io.specs.Told.{Takes}
use Rattle.arj_io.proofs.sink.write_all.Given as goal

abbrev pub invariant-loop-at : goal.invariant-loop-at
invariant-loop-at g l = record {
  within : l.at ≤ length l.bytes;
  took : Takes (g.K.Sink.taken l.initial.sink) (take l.at l.bytes) (g.K.Sink.taken l.sink);
  steady : g.K.Sink.faults l.sink ≡ g.K.Sink.faults l.initial.sink;
  nothing : length l.bytes ≡ 0 → l.sink ≡ l.initial.sink;
}

abbrev pub decreases-loop-at : goal.decreases-loop-at
decreases-loop-at g l = length l.bytes - l.at
