-- What is told of a run, as lines of text: the lines of its journal, and behind them the lock tables and the doubts that they change.
use Rattle.std.specs.Prelude.{ℕ, List, [], ◌∷◌, ◌++◌, codes, Bool, ◌&&◌, nat_lt, if◌then◌else◌}
use Rattle.std.specs.Fmt.{decimal}
use Rattle.std.specs.List.{flat_map}
use Rattle.arj_base.specs.Rows.{Row}
use Rattle.arj_base.specs.Uid.{uid_text}
use Rattle.arj_base.specs.declared.uid.Uid.{Uid}
use Rattle.arj_journal.specs.LineText.{line_text, uid_word}
use Rattle.arj_journal.specs.LineWords.{role_text}
use Rattle.arj_journal.specs.declared.body.Body.{Body}
use Rattle.arj_journal.specs.declared.body.Body.TheVariants as body
use Rattle.arj_journal.specs.declared.body.Line.{Line}
use Rattle.arj_journal.specs.declared.header.Header.{Header}
use Rattle.arj_journal.specs.declared.header.ObjectLine.{ObjectLine}
use Rattle.arj_model.specs.Last.{entry_state, listed}
use Rattle.arj_model.specs.Table.{table}
use Rattle.arj_changes.specs.Stores.{is_moved}
use Rattle.arj_standing.specs.Doubts.{doubts}
use Rattle.arj_standing.specs.declared.doubts.Doubt.{Doubt}
use Rattle.arj_text.specs.Words.{mode_text, number_word, space}

-- a Uid of a path, a comma behind it
abbrev pub step_text : Uid → List ℕ
step_text u = uid_text u ++ codes ","

-- a lock: on what, in which mode, and the path of its holder
abbrev pub row_text : Row → List ℕ
row_text row = uid_word row.object ++ (space ++ (mode_text row.mode ++ (space ++ flat_map step_text row.holder)))

-- the lock table of a node
abbrev pub table_text : ℕ → List Row → List ℕ
table_text n rows = codes "locks" ++ (number_word n ++ (flat_map row_text rows ++ 10 ∷ []))

-- a node of a run
abbrev pub is_node : ℕ → Bool
is_node n = nat_lt 0 n && nat_lt n 17

-- the lock table of a node behind these lines
abbrev pub table_at : List Line → ℕ → List ℕ
table_at lines n = if is_node n then table_text n (table n lines) else []

-- the same, where a line may change it
abbrev pub table_behind : List Line → Body → List ℕ
table_behind lines (body.Granted n u o mode) = table_at lines n
table_behind lines (body.Lowered n u o) = table_at lines n
table_behind lines (body.Active n x b) = table_at lines n
table_behind lines (body.Told n u end p) = table_at lines n
table_behind lines (body.Halted n) = table_at lines n
table_behind lines (body.Up n i) = table_at lines n
table_behind lines _ = []

-- what a node has prepared and not done: the node, for whom, and in which role
abbrev pub doubt_text : Doubt → List ℕ
doubt_text d = number_word d.node ++ (uid_word d.action ++ (space ++ role_text d.role))

-- all that is prepared and not done
abbrev pub doubts_text : List Doubt → List ℕ
doubts_text ds = codes "doubts" ++ (flat_map doubt_text ds ++ 10 ∷ [])

-- the same, behind these lines, where the last of them may change it
abbrev pub doubts_behind : List Line → Body → List ℕ
doubts_behind lines (body.Prepared n u r) = doubts_text (doubts lines)
doubts_behind lines (body.Done n u r e) = doubts_text (doubts lines)
doubts_behind lines _ = []

-- a store, a comma behind it
abbrev pub store_text : ℕ → List ℕ
store_text n = decimal n ++ codes ","

-- the entry of an object: its version, its writer, and the stores that are listed
abbrev pub listed_text : ℕ → ℕ → Uid → List ℕ → List ℕ
listed_text x version writer stores =
    codes "listed" ++ (number_word x ++ (number_word version ++ (uid_word writer ++ (space ++ (flat_map store_text stores ++ 10 ∷ [])))))

-- that of an object of the header, once a store of it was excluded or included
abbrev pub entry_text : Header → List Line → ObjectLine → List ℕ
entry_text header lines o =
    if is_moved lines o.x then listed_text o.x (entry_state header lines o.x).version (entry_state header lines o.x).writer (listed header lines o.x) else []

-- those of all objects
abbrev pub entries_text : Header → List Line → List ℕ
entries_text header lines = flat_map (entry_text header lines) header.objects

-- the same, behind these lines, where the last of them tells of a commit
abbrev pub entries_behind : Header → List Line → Body → List ℕ
entries_behind header lines (body.Committed l) = entries_text header lines
entries_behind header lines (body.Recovered n u) = entries_text header lines
entries_behind header lines _ = []

-- a line of the journal, and what it changes
abbrev pub line_behind : Header → List Line → Line → List ℕ
line_behind header lines line =
    codes "line " ++ (line_text line ++ (table_behind lines line.body ++ (doubts_behind lines line.body ++ entries_behind header lines line.body)))

-- these lines, each with what it changes, behind those before them
abbrev pub lines_behind : Header → List Line → List Line → List ℕ
lines_behind header before [] = []
lines_behind header before (line ∷ rest) =
    line_behind header (before ++ line ∷ []) line ++ lines_behind header (before ++ line ∷ []) rest

-- The lines of a journal, each with what it changes.
abbrev pub run_text : Header → List Line → List ℕ
run_text header lines = lines_behind header [] lines
