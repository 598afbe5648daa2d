-- The last state of an object.
use Rattle.std.specs.Prelude.{◌≡◌, ℕ, List}
use Rattle.arj_journal.specs.declared.body.Line.{Line}
use Rattle.arj_journal.specs.declared.header.Header.{Header}
use Rattle.arj_model.specs.Last.{first_values, last_state}
use Rattle.arj_model.specs.Serial.{run, serial_calls}
use Rattle.arj_last.specs.declared.state.LastState.{LastState}

-- This is the last state of object x behind these lines: its value, its version, and its writer.
pub record IsLast (header : Header) (lines : List Line) (x : ℕ) (s : LastState) : Type 0 where
  pub value : s.value ≡ run (first_values header) (serial_calls lines) x
  pub version : s.version ≡ (last_state header lines x).version
  pub writer : s.writer ≡ (last_state header lines x).writer
