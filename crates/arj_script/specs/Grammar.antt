-- The grammar of a script: which form a line may have at its place. A form is what a line says; the spelling of each
-- form stands in `arj_journal`, and there too which objects and events are in form.
use Rattle.std.specs.Prelude.{◌≡◌, ◌≤◌, ℕ, List, [], ◌∷◌, length, codes, ⊤, Bool, false, ◌==◌, nat_lt, if◌then◌else◌, Option, Some, None}
use Rattle.std.specs.List.{list_any}
use Rattle.arj_base.specs.declared.state.Format.TheVariants as format
use Rattle.arj_class.specs.Forms.{FormatHolds}
use Rattle.arj_journal.specs.declared.event.Event.{Event}
use Rattle.arj_journal.specs.declared.header.Header.{Header}
use Rattle.arj_journal.specs.declared.header.ObjectLine.{ObjectLine}
use Rattle.arj_journal.specs.declared.limits.TheConstants.{NODES}
use Rattle.arj_journal.specs.ScriptForm.{EventInForm, HeaderInForm, ObjectLineInForm}
use Rattle.arj_journal.specs.ScriptText.{event_text, format_text, object_text, nodes_text}
use Rattle.arj_script.specs.declared.limits.TheConstants.{LINE_BYTES}
use Rattle.arj_text.specs.Fields.{IsWithin}

-- What a line says.
pub data Form : Type 0 where
  Blank : Form
  Nodes : ℕ → Form
  FormatOne : Form
  Object : ObjectLine → Form
  Run : Form
  Asks : Event → Form

-- Where a line stands: at the start, in the header behind `nodes`, with what it has so far, or behind `run`.
pub data Place : Type 0 where
  Start : Place
  Objects : (header : Header) → Place
  Running : Place

-- the header's objects stay in the order of their numbers
abbrev pub insert_object : ObjectLine → List ObjectLine → List ObjectLine
insert_object o [] = o ∷ []
insert_object o (p ∷ ps) = if nat_lt o.x p.x then o ∷ p ∷ ps else p ∷ insert_object o ps

-- a header of so many nodes and no objects, whose states have format two
abbrev pub begun : ℕ → Header
begun n = record { nodes = n; objects = []; format = format.Two }

-- the place behind a form
abbrev pub next_place : Place → Form → Place
next_place Start (Nodes n) = Objects (begun n)
next_place (Objects h) FormatOne = Objects (record h { format = format.One })
next_place (Objects h) (Object o) = Objects (record h { objects = insert_object o h.objects })
next_place (Objects h) Run = Running
next_place place _ = place

-- the count of nodes, in a header
abbrev pub nodes_at : Place → Option ℕ
nodes_at (Objects h) = Some h.nodes
nodes_at _ = None

-- some object of the list has the number
abbrev pub has_object : ℕ → List ObjectLine → Bool
has_object x os = list_any (λ o. o.x == x) os

-- Which form may stand at a place: `nodes` first, then `format 1`, where the first states have that, then objects with distinct
-- numbers, whose values these states hold, then `run`, then events.
abbrev pub Fits : Place → Form → Type 0
Fits place Blank = ⊤
Fits Start (Nodes n) = IsWithin 1 NODES n
Fits (Objects h) FormatOne = (h.format ≡ format.Two) × (h.objects ≡ [])
Fits (Objects h) (Object o) = ObjectLineInForm h.nodes o × (has_object o.x h.objects ≡ false) × FormatHolds h.format o.value
Fits (Objects h) Run = ⊤
Fits Running (Asks e) = EventInForm e
Fits _ _ = ⊥

-- a header that stands is in form
abbrev pub PlaceInForm : Place → Type 0
PlaceInForm (Objects h) = HeaderInForm h
PlaceInForm _ = ⊤

-- a comment begins with `#`
abbrev pub IsBlank : List ℕ → Type 0
IsBlank [] = ⊤
IsBlank (b ∷ bs) = b ≡ 35

-- the bytes spell the form
abbrev pub Spells : List ℕ → Form → Type 0
Spells bytes Blank = IsBlank bytes
Spells bytes (Nodes n) = bytes ≡ nodes_text n
Spells bytes FormatOne = bytes ≡ format_text
Spells bytes (Object o) = bytes ≡ object_text o
Spells bytes Run = bytes ≡ codes "run"
Spells bytes (Asks e) = bytes ≡ event_text e

-- A line that is not too long has this form at this place.
pub record HasForm (place : Place) (bytes : List ℕ) (form : Form) : Type 0 where
  pub short : length bytes ≤ LINE_BYTES
  pub fits : Fits place form
  pub spells : Spells bytes form

-- the line isn't in the grammar at this place
abbrev pub IsBadLine : Place → List ℕ → Type 0
IsBadLine place bytes = (form : Form) → HasForm place bytes form → ⊥
