-- What the effects of a call say, and what a stop leaves of them.
use Rattle.std.specs.Prelude.{ℕ, List, [], ◌∷◌}
use Rattle.std.specs.List.{flat_map}
use Rattle.arj_journal.specs.declared.body.Line.{Line}
use Rattle.arj_protocol.specs.Effect.{Effect, Say, Send, Do, Work, Disk, Pair, Stop, worked}
use Rattle.arj_protocol.specs.World.{cut}

-- the line of an effect, if it is one; a world gives it the number of its event
abbrev pub line_of : Effect → List Line
line_of (Say b) = record { event = 0; body = b } ∷ []
line_of (Send to m) = []
line_of (Do w) = []

-- the lines that effects say, in order
abbrev pub said : List Effect → List Line
said outs = flat_map line_of outs

-- a disk of which the entries matter alone
abbrev pub names_disk : Pair → Disk
names_disk d = record { inc = 0; store = record { held = []; pend = [] }; names = d; intents = [] }

-- the pair of entries after one work, and after effects in order
abbrev pub pair_worked : Work → Pair → Pair
pair_worked w d = let disk = worked w (names_disk d) in disk.names

-- the pair of entries after effects in order
abbrev pub pair_after : List Effect → Pair → Pair
pair_after [] d = d
pair_after (Do w ∷ es) d = pair_after es (pair_worked w d)
pair_after (Say b ∷ es) d = pair_after es d
pair_after (Send to m ∷ es) d = pair_after es d

-- the pair where effects were cut at a work
abbrev pub pair_cut : ℕ → Stop → List Effect → Pair → Pair
pair_cut k how outs d = let c = cut k how outs (names_disk d) in c.disk.names

-- the lines that were said until a cut
abbrev pub said_until : ℕ → Stop → List Effect → Pair → List Line
said_until k how outs d = let c = cut k how outs (names_disk d) in said c.outs
