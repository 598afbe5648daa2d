-- What the sink has of the journal when more is asked for.
use Rattle.std.specs.Prelude.{ℕ, List, Option}
use Rattle.arj_io.specs.Told.{Takes}
use Rattle.arj_journal.specs.LineText.{text}
use Rattle.arj_journal.specs.declared.body.Line.{Line}

-- the sink took the text of the whole journal, last of all that it took
abbrev pub IsWritten : List Line → Option (List ℕ) → Type 0
IsWritten journal taken = (before : Option (List ℕ)) × Takes before (text journal) taken
