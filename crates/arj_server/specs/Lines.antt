-- The lines that a server appends, and what they make of its locks.
use Rattle.std.specs.Prelude.{ℕ, List, [], ◌∷◌}
use Rattle.arj_base.specs.Rows.{Row}
use Rattle.arj_base.specs.declared.uid.Uid.{Uid}
use Rattle.arj_journal.specs.declared.body.Line.{Line}
use Rattle.arj_journal.specs.declared.body.Part.{Part}
use Rattle.arj_protocol.specs.Effect.{Effect, Say, Send, Do}
use Rattle.arj_protocol.specs.Laws.{Holders, rows_by}

-- The lines of effects. Their event gets its number later.
abbrev pub said : List Effect → List Line
said [] = []
said (Say b ∷ es) = record { event = 0; body = b } ∷ said es
said (Send to m ∷ es) = said es
said (Do w ∷ es) = said es

-- what lines make of the locks on an object at a part of node n, one after another
abbrev pub rows_by_lines : Holders → ℕ → Part → Uid → List Line → List Row → List Row
rows_by_lines h n p o [] rows = rows
rows_by_lines h n p o (line ∷ lines) rows = rows_by_lines h n p o lines (rows_by h n p o line.body rows)
