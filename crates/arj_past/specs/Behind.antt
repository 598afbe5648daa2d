-- The state of an object behind some writes, by its parts.
use Rattle.std.specs.Prelude.{◌≡◌, ℕ, List, true, is_some}
use Rattle.arj_base.specs.Uid.{nobody}
use Rattle.arj_journal.specs.declared.body.Line.{Line}
use Rattle.arj_journal.specs.declared.header.Header.{Header}
use Rattle.arj_last.specs.declared.state.LastState.{LastState}
use Rattle.arj_model.specs.Calls.{Call}
use Rattle.arj_model.specs.Disks.{Disks}
use Rattle.arj_model.specs.Last.{count_tops, first_values, object_line, writer_from}
use Rattle.arj_model.specs.Serial.{run}
use Rattle.arj_past.specs.Past.{HoldItsPast}

-- This is the state of object x behind these writes on it: its value, its version, and its writer.
pub record IsBehind (header : Header) (x : ℕ) (ws : List Call) (s : LastState) : Type 0 where
  pub value : s.value ≡ run (first_values header) ws x
  pub version : s.version ≡ count_tops ws
  pub writer : s.writer ≡ writer_from nobody ws

-- what nodes hold of each object of the header are states that it had
abbrev pub EachHoldsPast : Header → List Line → Disks → Type 0
EachHoldsPast header lines disks = (x : ℕ) → is_some (object_line header x) ≡ true → HoldItsPast header lines disks x
