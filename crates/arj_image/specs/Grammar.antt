-- The grammar of an image: which form a line may have at its place.
use Rattle.std.specs.Prelude.{◌≡◌, ◌≤◌, ℕ, List, [], ◌∷◌, ◌++◌, codes, length, ⊤, Bool, true, false, nat_lt, Option, Some, None}
use Rattle.arj_base.specs.declared.state.Format.{Format}
use Rattle.arj_base.specs.declared.state.Format.TheVariants as format
use Rattle.arj_class.specs.Forms.{FormatHolds}
use Rattle.arj_image.specs.declared.image.Image.{Image}
use Rattle.arj_image.specs.declared.image.NodeFile.{NodeFile}
use Rattle.arj_image.specs.declared.limits.TheConstants.{FILE_LINE_BYTES, IMAGE_LINE_BYTES}
use Rattle.arj_image.specs.declared.place.Place.{Place}
use Rattle.arj_image.specs.declared.place.Stage.{Stage}
use Rattle.arj_image.specs.declared.place.Stage.TheVariants as stage
use Rattle.arj_image.specs.Texts.{FileInForm, counts_text, file_text, is_before, is_last, said_text}
use Rattle.arj_journal.specs.LineForm.{LineInForm}
use Rattle.arj_journal.specs.ScriptForm.{ObjectLineInForm}
use Rattle.arj_journal.specs.ScriptText.{format_text, nodes_text, object_text}
use Rattle.arj_journal.specs.declared.body.Line.{Line}
use Rattle.arj_journal.specs.declared.header.ObjectLine.{ObjectLine}
use Rattle.arj_journal.specs.declared.limits.TheConstants.{NODES}
use Rattle.arj_text.specs.Fields.{IsWithin}
use Rattle.arj_text.specs.declared.field.TheConstants.{WORD_MAX}

-- What a line says.
pub data Form : Type 0 where
  Nodes : ℕ → Form
  FormatOne : Form
  Object : ObjectLine → Form
  Counts : ℕ × ℕ → Form
  Journal : Form
  Says : Line → Form
  Files : Form
  Has : NodeFile → Form

-- both counts have 32 bits
abbrev pub CountsInForm : ℕ × ℕ → Type 0
CountsInForm p = IsWithin 0 WORD_MAX p.0 × IsWithin 0 WORD_MAX p.1

-- an object may stand behind these: its number is above the last one's, and states of the format hold its value
abbrev pub ObjectFits : ℕ → Format → List ObjectLine → ObjectLine → Type 0
ObjectFits nodes f os o =
    ObjectLineInForm nodes o × (is_last (λ (p : ObjectLine). nat_lt p.x o.x) os ≡ true) × FormatHolds f o.value

-- a file may stand behind these: it is behind the last one
abbrev pub FileFits : ℕ → List NodeFile → NodeFile → Type 0
FileFits nodes fs f = FileInForm nodes f × (is_last (λ (g : NodeFile). is_before g f) fs ≡ true)

-- Which form may stand at a place: the nodes; the first states' format, where it is one; objects in the order of their numbers, and then the counts; `journal`; its lines,
-- and then `files`; files in their order.
abbrev pub FitsAt : Stage → Image → Form → Type 0
FitsAt stage.Start i (Nodes n) = IsWithin 1 NODES n
FitsAt stage.Objects i FormatOne = (i.header.format ≡ format.Two) × (i.header.objects ≡ [])
FitsAt stage.Objects i (Object o) = ObjectFits i.header.nodes i.header.format i.header.objects o
FitsAt stage.Objects i (Counts p) = CountsInForm p
FitsAt stage.Counted i Journal = ⊤
FitsAt stage.Journal i (Says l) = LineInForm l
FitsAt stage.Journal i Files = ⊤
FitsAt stage.Files i (Has f) = FileFits i.header.nodes i.files f
FitsAt _ _ _ = ⊥

-- what was read so far, with the count of nodes
abbrev pub with_nodes : ℕ → Image → Image
with_nodes n i = record i { header = record (i.header) { nodes = n } }

-- and the format
abbrev pub with_format : Format → Image → Image
with_format f i = record i { header = record (i.header) { format = f } }

-- and another object
abbrev pub with_object : ObjectLine → Image → Image
with_object o i = record i { header = record (i.header) { objects = i.header.objects ++ o ∷ [] } }

-- the place behind a form
abbrev pub next_at : Stage → Image → Form → Place
next_at s i (Nodes n) = record { stage = stage.Objects; image = with_nodes n i }
next_at s i FormatOne = record { stage = stage.Objects; image = with_format format.One i }
next_at s i (Object o) = record { stage = stage.Objects; image = with_object o i }
next_at s i (Counts p) = record { stage = stage.Counted; image = record i { events = p.0; frames = p.1 } }
next_at s i Journal = record { stage = stage.Journal; image = i }
next_at s i (Says l) = record { stage = stage.Journal; image = record i { journal = i.journal ++ l ∷ [] } }
next_at s i Files = record { stage = stage.Files; image = i }
next_at s i (Has f) = record { stage = stage.Files; image = record i { files = i.files ++ f ∷ [] } }

-- the place behind a form
abbrev pub next_place : Place → Form → Place
next_place p f = next_at p.stage p.image f

-- the line of a form, without its end
abbrev pub spelling : Form → List ℕ
spelling (Nodes n) = nodes_text n
spelling FormatOne = format_text
spelling (Object o) = object_text o
spelling (Counts p) = counts_text p
spelling Journal = codes "journal"
spelling (Says l) = said_text l
spelling Files = codes "files"
spelling (Has f) = file_text f

-- how many bytes a line may have
abbrev pub most_bytes : Stage → ℕ
most_bytes stage.Files = FILE_LINE_BYTES
most_bytes _ = IMAGE_LINE_BYTES

-- A line that is not too long has this form at this place.
pub record HasForm (place : Place) (bytes : List ℕ) (form : Form) : Type 0 where
  pub short : length bytes ≤ most_bytes place.stage
  pub fits : FitsAt place.stage place.image form
  pub spells : bytes ≡ spelling form

-- the line isn't in the grammar at this place
abbrev pub IsBadLine : Place → List ℕ → Type 0
IsBadLine place bytes = (form : Form) → HasForm place bytes form → ⊥

-- whether the lines so far are an image's text
abbrev pub is_whole : Stage → Bool
is_whole stage.Files = true
is_whole _ = false

-- the image that was read, where its text ended
abbrev pub whole : Stage → Image → Option Image
whole stage.Files i = Some i
whole _ i = None

-- where reading begins
abbrev pub nothing_read : Place
nothing_read = record {
  stage = stage.Start;
  image = record { header = record { nodes = 0; objects = []; format = format.Two }; events = 0; frames = 0; journal = []; files = [] };
}
