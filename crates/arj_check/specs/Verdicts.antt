-- The verdict on a journal.
use Rattle.arj_journal.specs.declared.body.Line.{Line}
use Rattle.arj_journal.specs.declared.header.Header.{Header}
use Rattle.std.specs.Prelude.{List}
use Rattle.arj_replay.specs.Orders.{nested_difference, serial_difference}
use Rattle.arj_replay.specs.Verdict.{IsWrong}
use Rattle.arj_check.specs.declared.verdict.Verdict.{Verdict}

-- The verdict is that of the definitions, in both orders.
pub record SaysVerdict (header : Header) (lines : List Line) (v : Verdict) : Type 0 where
  pub serial : IsWrong lines (serial_difference header lines) v.serial
  pub nested : IsWrong lines (nested_difference header lines) v.nested
