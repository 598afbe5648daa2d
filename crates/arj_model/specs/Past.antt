-- A run so far: how many events were run, those of them that were accepted, and the lines.
use Rattle.std.specs.Prelude.{◌≡◌, ℕ, ◌+◌, List, [], ◌∷◌, ◌++◌, length, map, Bool, true, false, if◌then◌else◌}
use Rattle.arj_journal.specs.declared.body.Body.{Body}
use Rattle.arj_journal.specs.declared.body.Body.TheVariants as body
use Rattle.arj_journal.specs.declared.body.Line.{Line}
use Rattle.arj_journal.specs.declared.event.Event.{Event}
use Rattle.arj_journal.specs.declared.event.Event.TheVariants as event
use Rattle.arj_text.specs.Label.{name}
use Rattle.arj_model.specs.Actions.{Act, acts, path}
use Rattle.arj_start.specs.Start.{Start, fresh}

-- An accepted event, by its number, with the path of the action that it names, where it names one, and how many lines
-- stood before it.
pub record Asked : Type 0 where
  pub path : List Act
  pub event : Event
  pub number : ℕ
  pub at : ℕ

-- A run so far: with what it began, how many events were run, those of them that were accepted, and the lines.
pub record Past : Type 0 where
  pub start : Start
  pub count : ℕ
  pub accepted : List Asked
  pub lines : List Line

-- before the first event of a run that begins with this
abbrev pub at_start : Start → Past
at_start st = record { start = st; count = 0; accepted = []; lines = [] }

-- before the first event behind a format
abbrev pub nothing_yet : Past
nothing_yet = at_start fresh

-- the action that an event asks something of, by its label
abbrev pub label_of : Event → List ℕ
label_of (event.Call l x op) = name l
label_of (event.Include l x n) = name l
label_of (event.Commit l) = name l
label_of (event.Abort l) = name l
label_of (event.GiveUp l) = name l
label_of _ = []

-- the event as it comes
abbrev pub asked_of : Past → Event → Asked
asked_of past e = record { path = path (acts past.lines) (label_of e); event = e; number = past.count + 1; at = length past.lines }

-- the lines of one event
abbrev pub block : ℕ → List Body → List Line
block n bodies = map (λ b. record { event = n; body = b }) bodies

-- a refused event has one line
abbrev pub is_refused : List Body → Bool
is_refused (body.Refused c ∷ []) = true
is_refused _ = false

-- the run with one event more, which wrote these lines
abbrev pub next : Past → Event → List Body → Past
next past e bodies = record {
  start = past.start;
  count = past.count + 1;
  accepted = (if is_refused bodies then past.accepted else past.accepted ++ asked_of past e ∷ []);
  lines = past.lines ++ block (past.count + 1) bodies;
}

-- The run goes on over these events to its end: at each of them this holds of what was there before it and of the
-- lines that it wrote.
abbrev pub Along : (Past → Event → List Body → Type 0) → Past → List Event → Past → Type 0
Along P past [] end = past ≡ end
Along P past (e ∷ es) end = (bodies : List Body) × P past e bodies × Along P (next past e bodies) es end
