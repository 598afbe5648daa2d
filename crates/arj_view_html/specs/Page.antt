-- The page of a run.
use Rattle.std.specs.Prelude.{ℕ, List, [], ◌∷◌, ◌++◌, codes}
use Rattle.std.specs.List.{flat_map}
use Rattle.arj_last.specs.Told.{told_states}
use Rattle.arj_pending.specs.Told.{told_pendings}
use Rattle.arj_seen.specs.declared.seen.Asked.{Asked}
use Rattle.arj_seen.specs.declared.seen.Asked.TheVariants as asked
use Rattle.arj_seen.specs.declared.seen.ScriptLine.{ScriptLine}
use Rattle.arj_seen.specs.declared.seen.Seen.{Seen}
use Rattle.arj_view_data.specs.Texts.{run_text}
use Rattle.arj_words.specs.Page.{escaped}

-- what a line of a script asks for, in a word
abbrev pub asked_text : Asked → List ℕ
asked_text asked.Nothing = codes "script "
asked_text asked.Settling = codes "settle "
asked_text asked.Event = codes "event "

-- a line of a script
abbrev pub script_line : ScriptLine → List ℕ
script_line line = asked_text line.asked ++ (line.text ++ 10 ∷ [])

-- what is told of a run: its script, what `run_text` tells of its journal, the last states, and what nodes may hold, prepared
abbrev pub told_text : Seen → List ℕ
told_text seen =
    flat_map script_line seen.script.items ++ (run_text seen.header seen.lines ++ (told_states seen.header seen.lines
    ++ told_pendings seen.script.items seen.header seen.lines))

-- The page: what stands before, what is told, escaped, and what stands behind.
abbrev pub page_text : List ℕ → List ℕ → Seen → List ℕ
page_text front back seen = front ++ (escaped (told_text seen) ++ back)
