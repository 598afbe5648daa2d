-- What takes a line at each stage.
use Rattle.std.proofs.Common.{◌≡◌, ◌≢◌, ℕ, ◌≤◌, ◌<◌, List, [], ◌∷◌, ◌++◌, length, codes, true, false, Some, refl, sym, ◌∙◌, ap, subst}
use Rattle.std.proofs.Common.{append_assoc}
use Rattle.std.proofs.lemmas.Bool.{both_ways}
use Rattle.std.proofs.lemmas.List.{append_cancel_right}
use Rattle.std.specs.Fmt.{decimal}
use Rattle.arj_base.specs.declared.state.Format.{Format}
use Rattle.arj_base.specs.declared.state.Format.TheVariants as format
use Rattle.arj_class.specs.Forms.{FormatHolds}
use Rattle.arj_image.specs.declared.image.Image.{Image}
use Rattle.arj_image.specs.declared.image.NodeFile.{NodeFile}
use Rattle.arj_image.specs.declared.place.Place.{Place}
use Rattle.arj_image.specs.declared.place.Stage.{Stage}
use Rattle.arj_image.specs.declared.place.Stage.TheVariants as stage
use Rattle.arj_image.proofs.Once.{file_once}
use Rattle.arj_image.proofs.Values.{object_once}
use Rattle.arj_image.specs.Grammar.{CountsInForm, FileFits, FitsAt, HasForm, most_bytes, next_place, Form, FormatOne, Nodes, Object, Counts, Journal}
use Rattle.arj_image.specs.Grammar.{Says, Files, Has, ObjectFits, spelling, with_format, with_nodes}
use Rattle.arj_image.specs.Known.{HasNone, Takes}
use Rattle.arj_image.specs.Texts.{FileInForm, counts_text, file_text, is_before, is_last, said_text}
use Rattle.arj_journal.specs.LineForm.{LineInForm}
use Rattle.arj_journal.specs.LineText.{body_text, line_text}
use Rattle.arj_journal.specs.ScriptForm.{ObjectLineInForm}
use Rattle.arj_journal.specs.ScriptText.{format_text, nodes_text, object_text}
use Rattle.arj_journal.specs.declared.body.Line.{Line}
use Rattle.arj_journal.specs.declared.header.ObjectLine.{ObjectLine}
use Rattle.arj_journal.specs.declared.limits.TheConstants.{NODES}
use Rattle.arj_text.specs.Fields.{IsRead, IsWithin}
use Rattle.std.specs.Prelude.{nat_lt, None}

-- a form that fits the stage of the place
abbrev at_stage : (p : Place) (s : Stage) (f : Form) → p.stage ≡ s → FitsAt s p.image f → FitsAt p.stage p.image f
at_stage p s f is fits = subst (λ z. FitsAt z p.image f) (sym is) fits

pub start_takes : (p : Place) (bytes : List ℕ) (n : ℕ) → p.stage ≡ stage.Start → IsWithin 1 NODES n → bytes ≡ nodes_text n →
    Takes p (record { stage = stage.Objects; image = with_nodes n p.image }) bytes
start_takes p bytes n is within e = (Nodes n, at_stage p stage.Start (Nodes n) is within, e, refl)

pub counts_take : (p : Place) (bytes : List ℕ) (events frames : ℕ) → p.stage ≡ stage.Objects → CountsInForm (events, frames) →
    bytes ≡ counts_text (events, frames) →
    Takes p (record { stage = stage.Counted; image = record (p.image) { events = events; frames = frames } }) bytes
counts_take p bytes events frames is form e = (Counts (events, frames), at_stage p stage.Objects (Counts (events, frames)) is form, e, refl)

pub object_takes : (p : Place) (bytes : List ℕ) (os : List ObjectLine) → p.stage ≡ stage.Objects →
    ((o : ObjectLine) × (let i = p.image in ObjectFits i.header.nodes i.header.format i.header.objects o) × (bytes ≡ object_text o) × (os ≡ (let i =
    p.image in i.header.objects) ++ o ∷ [])) →
    Takes p (record p { image = (let i = p.image in record i { header = record (i.header) { objects = os } }) }) bytes
object_takes p bytes os is (o, fits, e, more) = (
  Object o,
  at_stage p stage.Objects (Object o) is fits,
  e,
  (λ i. let j = p.image in record {
    stage = is i;
    image =
        record j { header = record (j.header) { objects = more i } };
  }),
)

pub format_takes : (p : Place) (bytes : List ℕ) (f : Format) → p.stage ≡ stage.Objects → bytes ≡ format_text →
    (let i = p.image in (i.header.format ≡ format.Two) × (i.header.objects ≡ []) × (f ≡ format.One)) →
    Takes p (record p { image = with_format f p.image }) bytes
format_takes p bytes f is e fits =
    (FormatOne, at_stage p stage.Objects FormatOne is (fits.0, fits.1), e, (λ i. record { stage = is i; image = with_format (fits.2 i) p.image }))

pub journal_takes : (p : Place) (bytes : List ℕ) → p.stage ≡ stage.Counted → bytes ≡ codes "journal" →
    Takes p (record { stage = stage.Journal; image = p.image }) bytes
journal_takes p bytes is e = (Journal, at_stage p stage.Counted Journal is cc, e, refl)

pub files_take : (p : Place) (bytes : List ℕ) → p.stage ≡ stage.Journal → bytes ≡ codes "files" →
    Takes p (record { stage = stage.Files; image = p.image }) bytes
files_take p bytes is e = (Files, at_stage p stage.Journal Files is cc, e, refl)

pub said_takes : (p : Place) (bytes : List ℕ) (l : Line) (ls : List Line) → p.stage ≡ stage.Journal → LineInForm l → bytes ≡ said_text l →
    ls ≡ (let i = p.image in i.journal) ++ l ∷ [] → Takes p (record p { image = record (p.image) { journal = ls } }) bytes
said_takes p bytes l ls is form e more =
    (Says l, at_stage p stage.Journal (Says l) is form, e, (λ i. record { stage = is i; image = record (p.image) { journal = more i } }))

-- the end of a line of the journal
pub said_ended : (bytes ended : List ℕ) (l : Line) → ended ≡ bytes ++ 10 ∷ [] → ended ≡ line_text l → bytes ≡ said_text l
said_ended bytes ended l is text =
    append_cancel_right bytes (said_text l) (10 ∷ [])
    (sym is ∙ (text ∙ sym (append_assoc (decimal l.event) (32 ∷ body_text l.body) (10 ∷ []))))

pub said_none : (bytes ended : List ℕ) → ended ≡ bytes ++ 10 ∷ [] → ((l : Line) → LineInForm l → ended ≢ line_text l) →
    (l : Line) → LineInForm l → bytes ≢ said_text l
said_none bytes ended is none l form e =
    none l form (is ∙ (ap (λ bs. bs ++ 10 ∷ []) e ∙ append_assoc (decimal l.event) (32 ∷ body_text l.body) (10 ∷ [])))

-- an object or a file that isn't behind the last one
pub object_out_of_turn : (n : ℕ) (f : Format) (bytes : List ℕ) (os : List ObjectLine) (new o : ObjectLine) → n ≤ 255 →
    IsRead (ObjectLineInForm n) object_text bytes (Some new) → is_last (λ (p : ObjectLine). nat_lt p.x new.x) os ≡ false →
    ObjectFits n f os o →
    bytes ≢ object_text o
object_out_of_turn n f bytes os new o few read late fits e =
    let same = object_once n few new o read.0 fits.0 (sym read.1 ∙ e) in
    both_ways _ (subst (λ (z : ObjectLine). is_last (λ (p : ObjectLine). nat_lt p.x z.x) os ≡ false) same late) fits.1

pub object_not_held : (n : ℕ) (f : Format) (bytes : List ℕ) (os : List ObjectLine) (new o : ObjectLine) → n ≤ 255 →
    IsRead (ObjectLineInForm n) object_text bytes (Some new) → (FormatHolds f new.value → ⊥) → ObjectFits n f os o →
    bytes ≢ object_text o
object_not_held n f bytes os new o few read never fits e =
    let same = object_once n few new o read.0 fits.0 (sym read.1 ∙ e) in
    never (subst (λ (z : ObjectLine). FormatHolds f z.value) (sym same) fits.2)

pub file_out_of_turn : (n : ℕ) (bytes : List ℕ) (fs : List NodeFile) (new f : NodeFile) → n ≤ 255 →
    IsRead (FileInForm n) file_text bytes (Some new) → is_last (λ (g : NodeFile). is_before g new) fs ≡ false → FileFits n fs f →
    bytes ≢ file_text f
file_out_of_turn n bytes fs new f few read late fits e =
    let same = file_once n few new f read.0 fits.0 (sym read.1 ∙ e) in
    both_ways _ (subst (λ (z : NodeFile). is_last (λ (g : NodeFile). is_before g z) fs ≡ false) same late) fits.1

pub file_takes : (p : Place) (bytes : List ℕ) (fs : List NodeFile) → p.stage ≡ stage.Files →
    ((f : NodeFile) × (let i = p.image in FileFits i.header.nodes i.files f) × (bytes ≡ file_text f) × (fs ≡ (let i =
    p.image in i.files) ++ f ∷ [])) →
    Takes p (record p { image = record (p.image) { files = fs } }) bytes
file_takes p bytes fs is (f, fits, e, more) =
    (Has f, at_stage p stage.Files (Has f) is fits, e, (λ i. record { stage = is i; image = record (p.image) { files = more i } }))

-- what is taken and isn't too long has its form
pub has_form : (p new : Place) (bytes : List ℕ) → length bytes ≤ most_bytes p.stage → Takes p new bytes →
    (form : Form) × HasForm p bytes form × (new ≡ next_place p form)
has_form p new bytes short (form, fits, spells, is) = (form, record { short = short; fits = fits; spells = spells }, is)
