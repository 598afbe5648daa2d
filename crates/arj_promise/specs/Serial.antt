-- Serial, also with nested actions each whole at its commit.
use Rattle.std.specs.Prelude.{List}
use Rattle.arj_journal.specs.declared.body.Line.{Line}
use Rattle.arj_journal.specs.declared.header.Header.{Header}
use Rattle.arj_model.specs.Nested.{nested_calls}
use Rattle.arj_model.specs.Last.{first_values}
use Rattle.arj_model.specs.Serial.{Answers, Serial}

-- the journal is serial, and its calls give the same answers where each committed nested action runs whole at its commit
abbrev pub IsSerialBy : Header → List Line → Type 0
IsSerialBy hd lines = Serial (first_values hd) lines × Answers (first_values hd) (nested_calls lines)
