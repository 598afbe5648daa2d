use Rattle.std.proofs.Common.{◌≡◌, Some, None, ℕ, take, drop}
use Rattle.arj_reading.specs.Readable.{broken, broken_from}
use Rattle.arj_reading.specs.Reading.{HasRead}
use Rattle.arj_reading.proofs.reader.read.Given as goal

abbrev pub invariant-loop-at : goal.invariant-loop-at
invariant-loop-at l =
    HasRead (take l.at l.lines) l.reading × (broken_from l.header (take l.at l.lines) l.last (drop l.at l.lines) ≡ broken l.header l.lines)
