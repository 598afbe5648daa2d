-- No two images in form have one text.
use Rattle.std.proofs.Common.{◌≡◌, ◌≢◌, ℕ, ◌≤◌, List, [], ◌∷◌, ◌++◌, false, refl, sym, ◌∙◌, ap, subst, arith, append_assoc}
use Rattle.std.specs.List.{flat_map}
use Rattle.arj_image.proofs.Once.{form_ends, form_once}
use Rattle.arj_image.proofs.Turns.{goes}
use Rattle.arj_image.specs.declared.image.Image.{Image}
use Rattle.arj_image.specs.declared.place.Place.{Place}
use Rattle.arj_image.specs.declared.place.Stage.{Stage}
use Rattle.arj_image.specs.declared.place.Stage.TheVariants as stage
use Rattle.arj_image.specs.Grammar.{FitsAt, Form, FormatOne, Nodes, Object, Counts, Journal, Says, Files, Has, next_at, next_place, nothing_read}
use Rattle.arj_image.specs.Grammar.{spelling}
use Rattle.arj_image.specs.Written.{Goes, ImageInForm, form_text, image_forms, image_text, whole_place}
use Rattle.arj_text.proofs.Texts.{cut_once, no_cut}
use Rattle.arj_text.specs.Fields.{has_byte}

-- a place has at most 16 nodes
stays_few : (s : Stage) (i : Image) (f : Form) → i.header.nodes ≤ 16 → FitsAt s i f →
    (let p = next_at s i f in let j = p.image in j.header.nodes) ≤ 16
stays_few stage.Start i (Nodes n) few h = h.1
stays_few stage.Objects i FormatOne few h = few
stays_few stage.Objects i (Object o) few h = few
stays_few stage.Objects i (Counts p) few h = few
stays_few stage.Counted i Journal few h = few
stays_few stage.Journal i (Says l) few h = few
stays_few stage.Journal i Files few h = few
stays_few stage.Files i (Has f) few h = few
stays_few stage.Start i FormatOne few h = elim h [ ]
stays_few stage.Start i (Object o) few h = elim h [ ]
stays_few stage.Start i (Counts p) few h = elim h [ ]
stays_few stage.Start i Journal few h = elim h [ ]
stays_few stage.Start i (Says l) few h = elim h [ ]
stays_few stage.Start i Files few h = elim h [ ]
stays_few stage.Start i (Has f) few h = elim h [ ]
stays_few stage.Objects i (Nodes n) few h = elim h [ ]
stays_few stage.Objects i Journal few h = elim h [ ]
stays_few stage.Objects i (Says l) few h = elim h [ ]
stays_few stage.Objects i Files few h = elim h [ ]
stays_few stage.Objects i (Has f) few h = elim h [ ]
stays_few stage.Counted i (Nodes n) few h = elim h [ ]
stays_few stage.Counted i FormatOne few h = elim h [ ]
stays_few stage.Counted i (Object o) few h = elim h [ ]
stays_few stage.Counted i (Counts p) few h = elim h [ ]
stays_few stage.Counted i (Says l) few h = elim h [ ]
stays_few stage.Counted i Files few h = elim h [ ]
stays_few stage.Counted i (Has f) few h = elim h [ ]
stays_few stage.Journal i (Nodes n) few h = elim h [ ]
stays_few stage.Journal i FormatOne few h = elim h [ ]
stays_few stage.Journal i (Object o) few h = elim h [ ]
stays_few stage.Journal i (Counts p) few h = elim h [ ]
stays_few stage.Journal i Journal few h = elim h [ ]
stays_few stage.Journal i (Has f) few h = elim h [ ]
stays_few stage.Files i (Nodes n) few h = elim h [ ]
stays_few stage.Files i FormatOne few h = elim h [ ]
stays_few stage.Files i (Object o) few h = elim h [ ]
stays_few stage.Files i (Counts p) few h = elim h [ ]
stays_few stage.Files i Journal few h = elim h [ ]
stays_few stage.Files i (Says l) few h = elim h [ ]
stays_few stage.Files i Files few h = elim h [ ]

-- a text of lines begins with the first line
begins : (f : Form) (fs : List Form) → flat_map form_text (f ∷ fs) ≡ spelling f ++ 10 ∷ flat_map form_text fs
begins f fs = append_assoc (spelling f) (10 ∷ []) (flat_map form_text fs)

-- no line is no text
no_lines : (f : Form) (fs : List Form) → [] ≢ flat_map form_text (f ∷ fs)
no_lines f fs e = no_cut 10 [] (spelling f) (flat_map form_text fs) refl (e ∙ begins f fs)

-- From one place on, lines with one text lead to one place.
leads_once : (p q r : Place) (fs gs : List Form) → (let i = p.image in i.header.nodes) ≤ 16 → Goes p fs q → Goes p gs r →
    flat_map form_text fs ≡ flat_map form_text gs → q ≡ r
leads_once p q r [] [] few one two e = sym one ∙ two
leads_once p q r [] (g ∷ gs) few one two e = absurd (no_lines g gs e)
leads_once p q r (f ∷ fs) [] few one two e = absurd (no_lines f fs (sym e))
leads_once p q r (f ∷ fs) (g ∷ gs) few one two e =
    let cuts = cut_once 10 (spelling f) (spelling g) (flat_map form_text fs) (flat_map form_text gs)
    (form_ends p.stage p.image few f one.0) (form_ends p.stage p.image few g two.0) (sym (begins f fs) ∙ (e ∙ begins g gs)) in
    let same = form_once p.stage p.image few f g one.0 two.0 cuts.0 in
    leads_once (next_place p f) q r fs gs (stays_few p.stage p.image f few one.0) one.1
    (subst (λ h. Goes (next_place p h) gs r) (sym same) two.1) cuts.1

pub image_once : (i j : Image) → ImageInForm i → ImageInForm j → image_text i ≡ image_text j → i ≡ j
image_once i j hi hj e =
    let one = leads_once nothing_read (whole_place i) (whole_place j) (image_forms i) (image_forms j) (omega arith) (goes i hi)
    (goes j hj) e in
    ap (λ (p : Place). p.image) one
