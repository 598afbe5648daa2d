-- Two journals, one behind the other: the second one is of a run that goes on where the first one ended.
use Rattle.std.specs.Prelude.{◌≡◌, ℕ, ◌+◌, List, [], ◌∷◌, length, map, Bool, true, false, ◌==◌, Option, Some, None, is_some}
use Rattle.std.specs.List.{AllByRecursion, list_any}
use Rattle.arj_base.specs.declared.state.ObjectState.{ObjectState}
use Rattle.arj_base.specs.Uid.{uid_eq}
use Rattle.arj_journal.specs.declared.body.Body.{Body}
use Rattle.arj_journal.specs.declared.body.Body.TheVariants as body
use Rattle.arj_journal.specs.declared.body.Line.{Line}
use Rattle.arj_journal.specs.declared.header.Header.{Header}
use Rattle.arj_text.specs.declared.label.Label.{Label}
use Rattle.arj_text.specs.Label.{name}
use Rattle.arj_model.specs.Actions.{acts, is_begun, recovered}
use Rattle.arj_model.specs.Calls.{Call, Top, committed_calls, tops}
use Rattle.arj_model.specs.Last.{entry_state, first_values, last_state, listed, object_line, servers_of_line, stores_of_line}
use Rattle.arj_model.specs.Serial.{Values, run, serial_calls}
use Rattle.arj_start.specs.Start.{Mark, Marks}

-- the name of a parent, if there is one
abbrev pub parent_name : Option Label → List (List ℕ)
parent_name None = []
parent_name (Some p) = name p ∷ []

-- the labels that a line that counts has of actions that began before it
abbrev pub looked_up : Body → List (List ℕ)
looked_up (body.Began l k u p) = parent_name p
looked_up (body.Ok l x op answer) = name l ∷ []
looked_up (body.Includes l x n) = name l ∷ []
looked_up (body.Excluded l x n) = name l ∷ []
looked_up (body.Committing l) = name l ∷ []
looked_up (body.Committed l) = name l ∷ []
looked_up _ = []

-- The second journal is of other actions: it has no label that began in the first one, and neither has a record of an action of
-- the other.
pub record AreApart (first second : List Line) : Type 0 where
  pub labels : AllByRecursion (λ line. AllByRecursion (λ l. is_begun first l ≡ false) (looked_up line.body)) second
  pub found : AllByRecursion (λ u. AllByRecursion (λ a. uid_eq u.it a.uid ≡ false) (acts first)) (recovered second)
  pub past : AllByRecursion (λ u. AllByRecursion (λ a. uid_eq u.it a.uid ≡ false) (acts second)) (recovered first)

-- a top of this number is among these
abbrev pub is_called : List Top → ℕ → Bool
is_called ts id = list_any (λ t. t.id == id) ts

-- the commit of each top whose calls count was called
abbrev pub AreCalled : List Line → Type 0
AreCalled lines = AllByRecursion (λ c. is_called (tops lines) c.top ≡ true) (committed_calls lines)

-- a call behind so many lines and so many actions
abbrev pub call_behind : ℕ → ℕ → Call → Call
call_behind n k c = record c { at = c.at + n; top = c.top + k; chain = map (λ i. i + k) c.chain }

-- a top behind so many
abbrev pub top_behind : ℕ → ℕ → Top → Top
top_behind n k t = record { id = t.id + k; root = t.root + k; at = t.at + n }

-- the calls of a journal, where it stands behind another one
abbrev pub calls_behind : List Line → List Call → List Call
calls_behind first cs = map (call_behind (length first) (length (acts first))) cs

-- its tops
abbrev pub tops_behind : List Line → List Top → List Top
tops_behind first ts = map (top_behind (length first) (length (acts first))) ts

-- the values that a journal leaves
abbrev pub values_after : Values → List Line → Values
values_after values lines = run values (serial_calls lines)

-- ---- what the second run begins with

-- a state's mark
abbrev pub mark_of : ObjectState → Mark
mark_of s = record { version = s.version; writer = s.writer }

-- the marks that a journal leaves
abbrev pub marks_after : Header → List Line → Marks
marks_after header lines = record { states = λ x. mark_of (last_state header lines x); entries = λ x. mark_of (entry_state header lines x) }

-- A second run's header goes on where a journal ended: the same objects, in the values and at the stores that it left, and the same format.
pub record GoesOn (first : Header) (lines : List Line) (second : Header) : Type 0 where
  pub objects : (x : ℕ) → is_some (object_line second x) ≡ is_some (object_line first x)
  pub servers : (x : ℕ) → servers_of_line (object_line second x) ≡ servers_of_line (object_line first x)
  pub stores : (x : ℕ) → stores_of_line (object_line second x) ≡ listed first lines x
  pub values : (x : ℕ) → first_values second x ≡ values_after (first_values first) lines x
  pub format : second.format ≡ first.format

-- What joined journals have to do with one another, for the laws.
pub record AreJoined (header : Header) (first : List Line) (next : Header) (second : List Line) : Type 0 where
  pub goes : GoesOn header first next
  pub apart : AreApart first second
  pub called : AreCalled second
