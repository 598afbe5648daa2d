-- The first state and entry of an object's machine, in whole runs.
use Rattle.std.specs.Prelude.{ℕ}
use Rattle.arj_protocol.specs.Words.{Header}
use Rattle.arj_promise.specs.Runs.{Seen}
use Rattle.arj_law_disk_view.specs.deciding_lines.Said.{IsJournalled}
use Rattle.arj_law_serial.specs.order.Cleaned.{BeginsSo}

-- The machine's decisions are those of the journal, and it began with the object's first value and stores, of the run's marks.
pub record IsBegunSo (hd : Header) (x : ℕ) (M : Seen) : Type 0 where
  pub journalled : IsJournalled x M
  pub begins : BeginsSo hd M.start.marks x (let W = (let j = journalled in j.machine) in W.disk)
