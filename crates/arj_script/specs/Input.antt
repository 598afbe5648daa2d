-- What the lines of a source's bytes are, and how far they were read as a script.
use Rattle.std.specs.Prelude.{◌≡◌, ℕ, List, [], ◌∷◌, ◌++◌, length, ⊤, Bool, ◌==◌, ◌||◌, nat_lt, if◌then◌else◌}
use Rattle.std.specs.List.{list_any}
use Rattle.arj_journal.specs.declared.event.Event.{Event}
use Rattle.arj_journal.specs.ScriptForm.{HeaderInForm}
use Rattle.arj_script.specs.declared.reader.Item.{Item}
use Rattle.arj_script.specs.declared.reader.Item.TheVariants as item
use Rattle.arj_script.specs.declared.limits.TheConstants.{LINE_BYTES, SCRIPT_LINES}
use Rattle.arj_script.specs.Grammar.{Form, Blank, Nodes, FormatOne, Object, Run, Asks, Place, Objects}

-- the lines that a line feed ends; `front` is what has come of the line in hand
abbrev pub ended_from : List ℕ → List ℕ → List (List ℕ)
ended_from front [] = []
ended_from front (b ∷ bs) = if b == 10 then front ∷ ended_from [] bs else ended_from (front ++ b ∷ []) bs

-- what stands behind the last line feed
abbrev pub rest_from : List ℕ → List ℕ → List ℕ
rest_from front [] = front
rest_from front (b ∷ bs) = if b == 10 then rest_from [] bs else rest_from (front ++ b ∷ []) bs

-- the lines that a line feed ends
abbrev pub ended_lines : List ℕ → List (List ℕ)
ended_lines bytes = ended_from [] bytes

-- the line that none ends yet
abbrev pub rest_line : List ℕ → List ℕ
rest_line bytes = rest_from [] bytes

-- a line of more bytes than a line may have
abbrev pub is_too_long : List ℕ → Bool
is_too_long line = nat_lt LINE_BYTES (length line)

-- Nothing behind these bytes is run: a line is too long, or the line past the last that a script may have has ended.
abbrev pub is_enough : List ℕ → Bool
is_enough bytes =
    nat_lt SCRIPT_LINES (length (ended_lines bytes)) || (list_any is_too_long (ended_lines bytes) || is_too_long (rest_line bytes))

-- How the reading of the source ended: at the input's end, at a read that failed, or where the run ended. A line that is
-- too long ends the run as soon as its first byte too many is there, and so does the end of the line past the last.
pub data Stopped : Type 0 where
  AtEnd : Stopped
  AtFault : Stopped
  AtRunEnd : Stopped

-- The last line counts without its end where the input ended, or where it is too long already.
abbrev pub last_line : Stopped → List ℕ → List (List ℕ)
last_line AtEnd [] = []
last_line AtEnd (b ∷ bs) = (b ∷ bs) ∷ []
last_line AtFault line = []
last_line AtRunEnd line = if is_too_long line then line ∷ [] else []

-- the lines that are there to be run
abbrev pub lines_of : Stopped → List ℕ → List (List ℕ)
lines_of stopped bytes = ended_lines bytes ++ last_line stopped (rest_line bytes)

-- the events among the forms
abbrev pub events_of : List Form → List Event
events_of [] = []
events_of (Asks e ∷ forms) = e ∷ events_of forms
events_of (Blank ∷ forms) = events_of forms
events_of (Nodes n ∷ forms) = events_of forms
events_of (FormatOne ∷ forms) = events_of forms
events_of (Object o ∷ forms) = events_of forms
events_of (Run ∷ forms) = events_of forms

-- A header that the reader tells of is in form.
abbrev pub TellsInForm : Item → Type 0
TellsInForm (item.Run header) = HeaderInForm header
TellsInForm _ = ⊤

-- What the reader tells of a form at its place.
abbrev pub Tells : Place → Form → Item → Type 0
Tells place Blank item.Blank = ⊤
Tells place (Nodes n) item.Part = ⊤
Tells place FormatOne item.Part = ⊤
Tells place (Object o) item.Part = ⊤
Tells (Objects h) Run (item.Run header) = header ≡ h
Tells place (Asks e) (item.Event told) = told ≡ e
Tells _ _ _ = ⊥
