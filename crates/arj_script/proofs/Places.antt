-- What is taken at each place.
use Rattle.std.proofs.Common.{◌≡◌, ℕ, ◌≤◌, List, [], length, false, refl, sym, ap, subst}
use Rattle.arj_journal.specs.declared.event.Event.{Event}
use Rattle.arj_base.specs.declared.state.Format.{Format}
use Rattle.arj_base.specs.declared.state.Format.TheVariants as format
use Rattle.arj_class.specs.Forms.{FormatHolds}
use Rattle.arj_journal.specs.declared.header.Header.{Header}
use Rattle.arj_journal.specs.declared.header.ObjectLine.{ObjectLine}
use Rattle.arj_text.specs.Fields.{IsWithin}
use Rattle.arj_journal.specs.ScriptText.{event_text, format_text, nodes_text, object_text}
use Rattle.arj_script.specs.declared.reader.Item.{Item}
use Rattle.arj_script.specs.declared.reader.Item.TheVariants as item
use Rattle.arj_journal.specs.ScriptForm.{EventInForm, ObjectLineInForm}
use Rattle.arj_script.specs.Grammar.{Form, Nodes, FormatOne, Object, Asks, Place, Start, Objects, Running, begun, next_place, HasForm, has_object}
use Rattle.arj_script.specs.Grammar.{insert_object}
use Rattle.arj_journal.specs.declared.limits.TheConstants.{NODES}
use Rattle.arj_script.specs.declared.limits.TheConstants.{LINE_BYTES}
use Rattle.arj_script.specs.Input.{Tells}

-- The line has a form at its place, of which the item tells, and the reader goes on behind it.
abbrev pub Taken : Place → List ℕ → Item → Place → Type 0
Taken place bytes told new = (form : Form) × HasForm place bytes form × Tells place form told × (new ≡ next_place place form)

pub taken_nodes : (place new : Place) (bytes : List ℕ) (n : ℕ) → place ≡ Start → new ≡ Objects (begun n) → length bytes ≤ LINE_BYTES →
    IsWithin 1 NODES n × (bytes ≡ nodes_text n) → Taken place bytes item.Part new
taken_nodes place new bytes n here there short read =
    let has : HasForm Start bytes (Nodes n) = record { short = short; fits = read.0; spells = read.1 } in
    subst (λ p. Taken p bytes item.Part new) (sym here) (Nodes n, has, tt, there)

pub taken_object : (place : Place) (bytes : List ℕ) (h : Header) (new : List ObjectLine) → place ≡ Objects h → length bytes ≤ LINE_BYTES →
    (o : ObjectLine) × ObjectLineInForm h.nodes o × (bytes ≡ object_text o) × (has_object o.x h.objects ≡ false)
    × FormatHolds h.format o.value × (new ≡ insert_object o h.objects) → Taken place bytes item.Part (Objects (record h { objects = new }))
taken_object place bytes h new here short read =
    let has : HasForm (Objects h) bytes (Object read.0) = record { short = short; fits = (read.1, read.3, read.4); spells = read.2 } in
    subst (λ p. Taken p bytes item.Part (Objects (record h { objects = new }))) (sym here)
    (Object read.0, has, tt, ap (λ ps. Objects (record h { objects = ps })) read.5)

pub taken_format : (place : Place) (bytes : List ℕ) (h : Header) (new : Format) → place ≡ Objects h → length bytes ≤ LINE_BYTES →
    bytes ≡ format_text → (h.format ≡ format.Two) × (h.objects ≡ []) × (new ≡ format.One) →
    Taken place bytes item.Part (Objects (record h { format = new }))
taken_format place bytes h new here short spelled fits =
    let has : HasForm (Objects h) bytes FormatOne = record { short = short; fits = (fits.0, fits.1); spells = spelled } in
    subst (λ p. Taken p bytes item.Part (Objects (record h { format = new }))) (sym here)
    (FormatOne, has, tt, ap (λ f. Objects (record h { format = f })) fits.2)

pub taken_event : (place new : Place) (bytes : List ℕ) (e : Event) → place ≡ Running → new ≡ Running → length bytes ≤ LINE_BYTES →
    EventInForm e × (bytes ≡ event_text e) → Taken place bytes (item.Event e) new
taken_event place new bytes e here there short read =
    let has : HasForm Running bytes (Asks e) = record { short = short; fits = read.0; spells = read.1 } in
    subst (λ p. Taken p bytes (item.Event e) new) (sym here) (Asks e, has, refl, there)
