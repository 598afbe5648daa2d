-- What is told so far, and what is to be told of the lines that are left.
use Rattle.std.proofs.Common.{◌≡◌, ◌++◌, [], length, take, drop}
use Rattle.arj_reading.specs.Readable.{broken}
use Rattle.arj_last.specs.Behind.{StandsBehind}
use Rattle.arj_last.specs.Told.{readable_count, states_from}
use Rattle.arj_last.proofs.whole.put_states.Given as goal

abbrev pub invariant-loop-at : goal.invariant-loop-at
invariant-loop-at l = record {
  told : l.readable ≡ readable_count (length l.lines) (broken l.header l.lines)
      → l.out ++ states_from l.header (take l.at l.lines) (drop l.at l.lines) ≡ l.fn.out ++ states_from l.header [] l.lines;
  standing : StandsBehind (take l.at l.lines) l.standing;
}
