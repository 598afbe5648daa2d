-- What is told of last states, as lines of text.
use Rattle.std.specs.Prelude.{ℕ, ◌-◌, List, [], ◌∷◌, ◌++◌, codes, length, filter, Bool, true, false, ◌==◌, ◌&&◌, ◌||◌, not, if◌then◌else◌}
use Rattle.std.specs.Prelude.{Option, Some, None, is_some}
use Rattle.std.specs.List.{flat_map, list_any}
use Rattle.arj_base.specs.Uid.{nobody}
use Rattle.arj_base.specs.declared.uid.Uid.{Uid}
use Rattle.arj_class.specs.declared.value.Value.{Value}
use Rattle.arj_journal.specs.LineText.{uid_word}
use Rattle.arj_journal.specs.declared.body.Body.{Body}
use Rattle.arj_journal.specs.declared.body.Body.TheVariants as body
use Rattle.arj_journal.specs.declared.body.Line.{Line}
use Rattle.arj_journal.specs.declared.header.Header.{Header}
use Rattle.arj_journal.specs.declared.header.ObjectLine.{ObjectLine}
use Rattle.arj_model.specs.Actions.{Act, acts, committed, is_committed, path, recovered, root_in, top_in}
use Rattle.arj_model.specs.Calls.{made, root_or}
use Rattle.arj_model.specs.Last.{first_values, last_state}
use Rattle.arj_model.specs.Serial.{run, serial_calls, writes_on}
use Rattle.arj_model.specs.Table.{path_by}
use Rattle.arj_reading.specs.Readable.{broken}
use Rattle.arj_reading.specs.declared.rule.Broken.{Broken}
use Rattle.arj_text.specs.Label.{name}
use Rattle.arj_text.specs.Words.{number_word, space, value_text}

-- a state of an object behind so many lines: its version, its writer, and its value
abbrev pub state_text : ℕ → ℕ → ℕ → Uid → Value → List ℕ
state_text at x version writer v =
    codes "state" ++ (number_word at ++ (number_word x ++ (number_word version ++ (uid_word writer ++ (space ++
    (value_text v ++ 10 ∷ []))))))

-- the first state of an object of a header
abbrev pub first_text : ObjectLine → List ℕ
first_text o = state_text 0 o.x 0 nobody o.value

-- the last state of object x behind these lines
abbrev pub object_text : Header → List Line → ℕ → List ℕ
object_text header lines x =
    state_text (length lines) x (last_state header lines x).version (last_state header lines x).writer (run (first_values header)
    (serial_calls lines) x)

-- no line breaks a rule of journals that can be read as a run
abbrev pub is_readable : Header → List Line → Bool
is_readable header lines = not (is_some (broken header lines))

-- the path of the action whose top a line may change the states of: it answers a call, or tells of a commit
abbrev pub told_path : List Act → Body → List Act
told_path us (body.Ok l x op answer) = path us (name l)
told_path us (body.Committing l) = path us (name l)
told_path us (body.Committed l) = path us (name l)
told_path us (body.Recovered n u) = path_by us u
told_path us _ = []

-- the top with this number has answered a write on the object
abbrev pub wrote_in : List Line → ℕ → ℕ → Bool
wrote_in lines id x = list_any (λ c. c.top == id) (filter (writes_on x) (made lines))

-- of a top that is committed, the states of what it wrote are told; of one in a serializing action all are, since it moves the others
-- in the serial order
abbrev pub is_told_of : List Line → List Act → ℕ → Option Act → Bool
is_told_of lines p x None = false
is_told_of lines p x (Some t) =
    is_committed (committed lines) (recovered lines) t && (not (root_or t.id (root_in p) == t.id) || wrote_in lines t.id x)

-- the last state of object x is told behind these lines, of which this is the last
abbrev pub is_told : List Line → Body → ℕ → Bool
is_told lines b x = is_told_of lines (told_path (acts lines) b) x (top_in (told_path (acts lines) b))

-- the last state of an object of the header, where it is told
abbrev pub told_text : Header → List Line → Body → ObjectLine → List ℕ
told_text header lines b o = if is_told lines b o.x then object_text header lines o.x else []

-- those of all objects, where these lines can be read as a run
abbrev pub states_behind : Header → List Line → Body → List ℕ
states_behind header lines b = if is_readable header lines then flat_map (told_text header lines b) header.objects else []

-- those behind each of these lines, behind those before them
abbrev pub states_from : Header → List Line → List Line → List ℕ
states_from header before [] = []
states_from header before (line ∷ rest) =
    states_behind header (before ++ line ∷ []) line.body ++ states_from header (before ++ line ∷ []) rest

-- that this line is the first that breaks a rule
abbrev pub broken_text : ℕ → List ℕ
broken_text line = codes "unreadable" ++ (number_word line ++ 10 ∷ [])

-- the first line that breaks a rule of journals that can be read as a run, if one does
abbrev pub unreadable_text : Option Broken → List ℕ
unreadable_text None = []
unreadable_text (Some b) = broken_text b.line

-- The first states, those behind each line that may have changed them, and the first line that breaks a rule.
abbrev pub told_states : Header → List Line → List ℕ
told_states header lines = flat_map first_text header.objects ++ (states_from header [] lines ++ unreadable_text (broken header lines))

-- the lines before the first that breaks a rule, of so many
abbrev pub readable_count : ℕ → Option Broken → ℕ
readable_count count None = count
readable_count count (Some b) = b.line - 1
