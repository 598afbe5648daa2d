-- The lines of effects, one after another.
use Rattle.std.proofs.Common.{◌≡◌, ◌++◌, ℕ, List, [], ◌∷◌, refl, ap}
use Rattle.std.proofs.lemmas.Bool.{and_parts}
use Rattle.std.specs.List.{list_all}
use Rattle.arj_base.specs.Rows.{Row}
use Rattle.arj_base.specs.declared.uid.Uid.{Uid}
use Rattle.arj_journal.specs.declared.body.Part.{Part}
use Rattle.arj_protocol.specs.Effect.{Effect, Say, Send, Do}
use Rattle.arj_protocol.specs.Laws.{Holders, rows_after, rows_by}
use Rattle.arj_protocol.specs.Says.{AreAll, is_server_effect, is_server_line}
use Rattle.arj_protocol.specs.World.{bodies, numbered}
use Rattle.arj_server.specs.Lines.{said, rows_by_lines}

pub said_more : (es fs : List Effect) → said (es ++ fs) ≡ said es ++ said fs
said_more [] fs = refl
said_more (Say b ∷ es) fs = ap (λ lines. record { event = 0; body = b } ∷ lines) (said_more es fs)
said_more (Send to m ∷ es) fs = said_more es fs
said_more (Do w ∷ es) fs = said_more es fs

-- rows change by what is said
pub rows_said : (h : Holders) (n : ℕ) (p : Part) (o : Uid) (es : List Effect) (rows : List Row) →
    rows_after h n p o es rows ≡ rows_by_lines h n p o (said es) rows
rows_said h n p o [] rows = refl
rows_said h n p o (Say b ∷ es) rows = rows_said h n p o es (rows_by h n p o b rows)
rows_said h n p o (Send to m ∷ es) rows = rows_said h n p o es rows
rows_said h n p o (Do w ∷ es) rows = rows_said h n p o es rows

-- a server only says
pub all_said : (n k : ℕ) (es : List Effect) → AreAll (is_server_effect n) es → numbered 0 (bodies n k es) ≡ said es
all_said n k [] all = refl
all_said n k (Say b ∷ es) all =
    ap (λ lines. record {
      event = 0;
      body =
          b;
    } ∷ lines) (all_said n k es (and_parts (is_server_line n b) (list_all (is_server_effect n) es) all).1)
all_said n k (Send to m ∷ es) all = absurd (cc all)
all_said n k (Do w ∷ es) all = absurd (cc all)
