-- The lines of an image, and its text.
use Rattle.std.specs.Prelude.{◌≡◌, ⊤, ℕ, List, [], ◌∷◌, ◌++◌, map}
use Rattle.std.specs.List.{AllByRecursion, flat_map}
use Rattle.arj_base.specs.declared.state.Format.{Format}
use Rattle.arj_base.specs.declared.state.Format.TheVariants as format
use Rattle.arj_image.specs.declared.image.Image.{Image}
use Rattle.arj_image.specs.declared.image.NodeFile.{NodeFile}
use Rattle.arj_image.specs.declared.place.Place.{Place}
use Rattle.arj_image.specs.declared.place.Stage.{Stage}
use Rattle.arj_image.specs.declared.place.Stage.TheVariants as stage
use Rattle.arj_image.specs.Grammar.{Form, FormatOne, Nodes, Object, Counts, Journal, Says, Files, Has, CountsInForm, FileFits, FitsAt, ObjectFits}
use Rattle.arj_image.specs.Grammar.{next_place, spelling}
use Rattle.arj_journal.specs.LineForm.{LineInForm}
use Rattle.arj_journal.specs.declared.body.Line.{Line}
use Rattle.arj_journal.specs.declared.header.Header.{Header}
use Rattle.arj_journal.specs.declared.limits.TheConstants.{NODES}
use Rattle.arj_text.specs.Fields.{IsWithin}

-- an image, of its header, its numbers of events and of frames, its lines and its files
abbrev pub image_by : Header → ℕ × ℕ → List Line → List NodeFile → Image
image_by header counts lines files = record { header = header; events = counts.0; frames = counts.1; journal = lines; files = files }

-- a line with its end
abbrev pub ended : List ℕ → List ℕ
ended bytes = bytes ++ 10 ∷ []

-- a form as a line with its end
abbrev pub form_text : Form → List ℕ
form_text f = ended (spelling f)

-- the line of the format, where it is one
abbrev pub format_forms : Format → List Form
format_forms format.One = FormatOne ∷ []
format_forms format.Two = []

-- the lines of the header
abbrev pub head_forms : Image → List Form
head_forms i = Nodes i.header.nodes ∷ (format_forms i.header.format ++ map Object i.header.objects)

-- and the counts
abbrev pub counted_forms : Image → List Form
counted_forms i = head_forms i ++ Counts (i.events, i.frames) ∷ []

-- and the journal
abbrev pub journal_forms : Image → List Form
journal_forms i = counted_forms i ++ (Journal ∷ map Says i.journal)

-- the lines of an image
abbrev pub image_forms : Image → List Form
image_forms i = journal_forms i ++ (Files ∷ map Has i.files)

-- the lines that were read so far, of this image
abbrev pub forms_at : Stage → Image → List Form
forms_at stage.Start i = []
forms_at stage.Objects i = head_forms i
forms_at stage.Counted i = counted_forms i
forms_at stage.Journal i = journal_forms i
forms_at stage.Files i = image_forms i

-- the lines that were read so far
abbrev pub read_forms : Place → List Form
read_forms p = forms_at p.stage p.image

-- the text of an image
abbrev pub image_text : Image → List ℕ
image_text i = flat_map form_text (image_forms i)

-- the place where all of an image was read
abbrev pub whole_place : Image → Place
whole_place i = record { stage = stage.Files; image = i }

-- forms that may stand one behind another from the one place on, and lead to the other
abbrev pub Goes : Place → List Form → Place → Type 0
Goes p [] q = p ≡ q
Goes p (f ∷ fs) q = FitsAt p.stage p.image f × Goes (next_place p f) fs q

-- each item fits behind those before it
abbrev pub AreInTurn : {A : Type 0} → (List A → A → Type 0) → List A → List A → Type 0
AreInTurn Fits before [] = ⊤
AreInTurn Fits before (item ∷ items) = Fits before item × AreInTurn Fits (before ++ item ∷ []) items

-- An image in form: 1 to 16 nodes, objects by rising numbers, counts of 32 bits, lines of a journal, files in their order.
pub record ImageInForm (i : Image) : Type 0 where
  pub nodes : IsWithin 1 NODES i.header.nodes
  pub objects : AreInTurn (ObjectFits i.header.nodes i.header.format) [] i.header.objects
  pub counts : CountsInForm (i.events, i.frames)
  pub journal : AllByRecursion LineInForm i.journal
  pub files : AreInTurn (FileFits i.header.nodes) [] i.files
