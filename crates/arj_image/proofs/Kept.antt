-- A line that is taken stands behind those that were read.
use Rattle.std.proofs.Common.{◌≡◌, ℕ, List, [], ◌∷◌, ◌++◌, map, refl, sym, ◌∙◌, ap, append_assoc}
use Rattle.std.proofs.lemmas.List.{map-append}
use Rattle.arj_image.specs.declared.image.Image.{Image}
use Rattle.arj_image.specs.declared.image.NodeFile.{NodeFile}
use Rattle.arj_image.specs.declared.place.Place.{Place}
use Rattle.arj_image.specs.declared.place.Stage.{Stage}
use Rattle.arj_image.specs.declared.place.Stage.TheVariants as stage
use Rattle.arj_image.specs.Grammar.{FitsAt, Form, FormatOne, Nodes, Object, Counts, Journal, Says, Files, Has, next_at}
use Rattle.arj_image.specs.Known.{IsBare}
use Rattle.arj_image.specs.Written.{counted_forms, format_forms, forms_at, journal_forms, read_forms}
use Rattle.arj_journal.specs.declared.body.Line.{Line}
use Rattle.arj_journal.specs.declared.header.ObjectLine.{ObjectLine}

-- one more at the end of a list's forms
one_more : {A : Type 0} (form : A → Form) (front : List Form) (f : Form) (items : List A) (a : A) →
    front ++ (f ∷ map form (items ++ a ∷ [])) ≡ (front ++ (f ∷ map form items)) ++ form a ∷ []
one_more form front f items a =
    ap (λ gs. front ++ (f ∷ gs)) (map-append form items (a ∷ [])) ∙ sym (append_assoc front (f ∷ map form items) (form a ∷ []))

-- the lines behind
pub grows : (s : Stage) (i : Image) (f : Form) → IsBare s i → FitsAt s i f → read_forms (next_at s i f) ≡ forms_at s i ++ f ∷ []
grows stage.Start i (Nodes n) bare fits = λ j. Nodes n ∷ (format_forms (bare.3 j) ++ map Object (bare.0 j))
grows stage.Objects i FormatOne bare fits =
    ap (λ os. Nodes i.header.nodes ∷ (FormatOne ∷ map Object os)) fits.1
    ∙ sym (λ j. Nodes i.header.nodes ∷ ((format_forms (fits.0 j) ++ map Object (fits.1 j)) ++ FormatOne ∷ []))
grows stage.Objects i (Object o) bare fits =
    let front = format_forms i.header.format in
    ap (λ fs. Nodes i.header.nodes ∷ (front ++ fs)) (map-append Object i.header.objects (o ∷ []))
    ∙ sym (ap (λ fs. Nodes i.header.nodes ∷ fs) (append_assoc front (map Object i.header.objects) (Object o ∷ [])))
grows stage.Objects i (Counts p) bare fits = refl
grows stage.Counted i Journal bare fits = ap (λ ls. counted_forms i ++ (Journal ∷ map Says ls)) bare.0
grows stage.Journal i (Says l) bare fits = one_more Says (counted_forms i) Journal i.journal l
grows stage.Journal i Files bare fits = ap (λ fs. journal_forms i ++ (Files ∷ map Has fs)) bare
grows stage.Files i (Has f) bare fits = one_more Has (journal_forms i) Files i.files f
grows stage.Start i FormatOne bare fits = elim fits [ ]
grows stage.Start i (Object o) bare fits = elim fits [ ]
grows stage.Start i (Counts p) bare fits = elim fits [ ]
grows stage.Start i Journal bare fits = elim fits [ ]
grows stage.Start i (Says l) bare fits = elim fits [ ]
grows stage.Start i Files bare fits = elim fits [ ]
grows stage.Start i (Has f) bare fits = elim fits [ ]
grows stage.Objects i (Nodes n) bare fits = elim fits [ ]
grows stage.Objects i Journal bare fits = elim fits [ ]
grows stage.Objects i (Says l) bare fits = elim fits [ ]
grows stage.Objects i Files bare fits = elim fits [ ]
grows stage.Objects i (Has f) bare fits = elim fits [ ]
grows stage.Counted i (Nodes n) bare fits = elim fits [ ]
grows stage.Counted i FormatOne bare fits = elim fits [ ]
grows stage.Counted i (Object o) bare fits = elim fits [ ]
grows stage.Counted i (Counts p) bare fits = elim fits [ ]
grows stage.Counted i (Says l) bare fits = elim fits [ ]
grows stage.Counted i Files bare fits = elim fits [ ]
grows stage.Counted i (Has f) bare fits = elim fits [ ]
grows stage.Journal i (Nodes n) bare fits = elim fits [ ]
grows stage.Journal i FormatOne bare fits = elim fits [ ]
grows stage.Journal i (Object o) bare fits = elim fits [ ]
grows stage.Journal i (Counts p) bare fits = elim fits [ ]
grows stage.Journal i Journal bare fits = elim fits [ ]
grows stage.Journal i (Has f) bare fits = elim fits [ ]
grows stage.Files i (Nodes n) bare fits = elim fits [ ]
grows stage.Files i FormatOne bare fits = elim fits [ ]
grows stage.Files i (Object o) bare fits = elim fits [ ]
grows stage.Files i (Counts p) bare fits = elim fits [ ]
grows stage.Files i Journal bare fits = elim fits [ ]
grows stage.Files i (Says l) bare fits = elim fits [ ]
grows stage.Files i Files bare fits = elim fits [ ]

-- what comes later isn't there yet
pub stays_bare : (s : Stage) (i : Image) (f : Form) → IsBare s i → FitsAt s i f → (let p = next_at s i f in IsBare p.stage p.image)
stays_bare stage.Start i (Nodes n) bare fits = (bare.1, bare.2)
stays_bare stage.Objects i FormatOne bare fits = bare
stays_bare stage.Objects i (Object o) bare fits = bare
stays_bare stage.Objects i (Counts p) bare fits = bare
stays_bare stage.Counted i Journal bare fits = bare.1
stays_bare stage.Journal i (Says l) bare fits = bare
stays_bare stage.Journal i Files bare fits = cc
stays_bare stage.Files i (Has f) bare fits = bare
stays_bare stage.Start i FormatOne bare fits = elim fits [ ]
stays_bare stage.Start i (Object o) bare fits = elim fits [ ]
stays_bare stage.Start i (Counts p) bare fits = elim fits [ ]
stays_bare stage.Start i Journal bare fits = elim fits [ ]
stays_bare stage.Start i (Says l) bare fits = elim fits [ ]
stays_bare stage.Start i Files bare fits = elim fits [ ]
stays_bare stage.Start i (Has f) bare fits = elim fits [ ]
stays_bare stage.Objects i (Nodes n) bare fits = elim fits [ ]
stays_bare stage.Objects i Journal bare fits = elim fits [ ]
stays_bare stage.Objects i (Says l) bare fits = elim fits [ ]
stays_bare stage.Objects i Files bare fits = elim fits [ ]
stays_bare stage.Objects i (Has f) bare fits = elim fits [ ]
stays_bare stage.Counted i (Nodes n) bare fits = elim fits [ ]
stays_bare stage.Counted i FormatOne bare fits = elim fits [ ]
stays_bare stage.Counted i (Object o) bare fits = elim fits [ ]
stays_bare stage.Counted i (Counts p) bare fits = elim fits [ ]
stays_bare stage.Counted i (Says l) bare fits = elim fits [ ]
stays_bare stage.Counted i Files bare fits = elim fits [ ]
stays_bare stage.Counted i (Has f) bare fits = elim fits [ ]
stays_bare stage.Journal i (Nodes n) bare fits = elim fits [ ]
stays_bare stage.Journal i FormatOne bare fits = elim fits [ ]
stays_bare stage.Journal i (Object o) bare fits = elim fits [ ]
stays_bare stage.Journal i (Counts p) bare fits = elim fits [ ]
stays_bare stage.Journal i Journal bare fits = elim fits [ ]
stays_bare stage.Journal i (Has f) bare fits = elim fits [ ]
stays_bare stage.Files i (Nodes n) bare fits = elim fits [ ]
stays_bare stage.Files i FormatOne bare fits = elim fits [ ]
stays_bare stage.Files i (Object o) bare fits = elim fits [ ]
stays_bare stage.Files i (Counts p) bare fits = elim fits [ ]
stays_bare stage.Files i Journal bare fits = elim fits [ ]
stays_bare stage.Files i (Says l) bare fits = elim fits [ ]
stays_bare stage.Files i Files bare fits = elim fits [ ]
