-- The header of a run that goes on behind a journal.
use Rattle.std.specs.Prelude.{List, map}
use Rattle.arj_journal.specs.declared.body.Line.{Line}
use Rattle.arj_journal.specs.declared.header.Header.{Header}
use Rattle.arj_journal.specs.declared.header.ObjectLine.{ObjectLine}
use Rattle.arj_model.specs.Last.{first_values, listed}
use Rattle.arj_model.specs.Serial.{run, serial_calls}

-- an object of the header, in the value and at the stores that a journal left it
abbrev pub next_object : Header → List Line → ObjectLine → ObjectLine
next_object header lines o = record {
  x = o.x;
  value = run (first_values header) (serial_calls lines) o.x;
  servers = o.servers;
  stores = listed header lines o.x;
}

-- the header with its objects so
abbrev pub next_header : Header → List Line → Header
next_header header lines = record {
  nodes = header.nodes;
  objects = map (next_object header lines) header.objects;
  format = header.format;
}
