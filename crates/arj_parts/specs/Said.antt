-- Lines that services said, as what is handed back.
use Rattle.std.specs.Prelude.{List, map}
use Rattle.arj_journal.specs.declared.body.Line.{Line}
use Rattle.arj_protocol.specs.Effect.{Effect, Say}

-- what a line says, as an effect
abbrev pub say_of : Line → Effect
say_of line = Say line.body

-- so of all lines
abbrev pub says_of : List Line → List Effect
says_of lines = map say_of lines
