-- The lines of an image in form may be taken in turn, and lead to it.
use Rattle.std.proofs.Common.{◌≡◌, ℕ, List, [], ◌∷◌, ◌++◌, map, refl, sym, ◌∙◌, ap, subst, append_assoc}
use Rattle.std.proofs.lemmas.List.{append-nil}
use Rattle.std.specs.List.{AllByRecursion}
use Rattle.arj_base.specs.declared.state.Format.{Format}
use Rattle.arj_base.specs.declared.state.Format.TheVariants as format
use Rattle.arj_image.specs.declared.image.Image.{Image}
use Rattle.arj_image.specs.declared.image.NodeFile.{NodeFile}
use Rattle.arj_image.specs.declared.place.Place.{Place}
use Rattle.arj_image.specs.declared.place.Stage.TheVariants as stage
use Rattle.arj_image.specs.Grammar.{Form, Nodes, Object, Counts, Journal, Says, Files, Has, FileFits, ObjectFits, nothing_read}
use Rattle.arj_image.specs.Written.{AreInTurn, Goes, ImageInForm, counted_forms, format_forms, head_forms, image_forms, journal_forms, whole_place}
use Rattle.arj_journal.specs.LineForm.{LineInForm}
use Rattle.arj_journal.specs.declared.body.Line.{Line}
use Rattle.arj_journal.specs.declared.header.ObjectLine.{ObjectLine}

-- one part behind another
goes_on : (p q r : Place) (fs gs : List Form) → Goes p fs q → Goes q gs r → Goes p (fs ++ gs) r
goes_on p q r [] gs one two = subst (λ z. Goes z gs r) (sym one) two
goes_on p q r (f ∷ fs) gs one two = (one.0, goes_on _ q r fs gs one.1 two)

module _ (i : Image) (form : ImageInForm i) where
  -- among the objects, behind the counts, and with a journal and files so far
  abbrev at_header : Format → List ObjectLine → Place
  at_header f os = record {
    stage = stage.Objects;
    image = record { header = record { nodes = i.header.nodes; objects = os; format = f }; events = 0; frames = 0; journal = []; files = [] };
  }

  abbrev at_objects : List ObjectLine → Place
  at_objects os = at_header i.header.format os

  abbrev counted : Place
  counted = record {
    stage = stage.Counted;
    image = record { header = i.header; events = i.events; frames = i.frames; journal = []; files = [] };
  }

  abbrev at_journal : List Line → Place
  at_journal ls = record {
    stage = stage.Journal;
    image = record { header = i.header; events = i.events; frames = i.frames; journal = ls; files = [] };
  }

  abbrev at_files : List NodeFile → Place
  at_files fs = record {
    stage = stage.Files;
    image = record { header = i.header; events = i.events; frames = i.frames; journal = i.journal; files = fs };
  }

  format_goes : (f : Format) → Goes (at_header format.Two []) (format_forms f) (at_header f [])
  format_goes format.One = ((refl, refl), refl)
  format_goes format.Two = refl

  objects_go : (before os : List ObjectLine) → AreInTurn (ObjectFits i.header.nodes i.header.format) before os →
      Goes (at_objects before) (map Object os) (at_objects (before ++ os))
  objects_go before [] all = ap at_objects (sym (append-nil before))
  objects_go before (o ∷ os) all = (
    all.0,
    subst (λ (l : List ObjectLine). Goes (at_objects (before ++ o ∷ [])) (map Object os) (at_objects l))
        (append_assoc before (o ∷ []) os) (objects_go (before ++ o ∷ []) os all.1),
  )

  lines_go : (before ls : List Line) → AllByRecursion LineInForm ls → Goes (at_journal before) (map Says ls) (at_journal (before ++ ls))
  lines_go before [] all = ap at_journal (sym (append-nil before))
  lines_go before (l ∷ ls) all = (
    all.0,
    subst (λ (m : List Line). Goes (at_journal (before ++ l ∷ [])) (map Says ls) (at_journal m)) (append_assoc before (l ∷ []) ls)
        (lines_go (before ++ l ∷ []) ls all.1),
  )

  files_go : (before fs : List NodeFile) → AreInTurn (FileFits i.header.nodes) before fs →
      Goes (at_files before) (map Has fs) (at_files (before ++ fs))
  files_go before [] all = ap at_files (sym (append-nil before))
  files_go before (f ∷ fs) all = (
    all.0,
    subst (λ (m : List NodeFile). Goes (at_files (before ++ f ∷ [])) (map Has fs) (at_files m)) (append_assoc before (f ∷ []) fs)
        (files_go (before ++ f ∷ []) fs all.1),
  )

  pub goes : Goes nothing_read (image_forms i) (whole_place i)
  goes =
      goes_on nothing_read (at_journal i.journal) (whole_place i) (journal_forms i) (Files ∷ map Has i.files)
      (goes_on nothing_read counted (at_journal i.journal) (counted_forms i) (Journal ∷ map Says i.journal)
      (goes_on nothing_read (at_objects i.header.objects) counted (head_forms i) (Counts (i.events, i.frames) ∷ []) (
        form.nodes,
        goes_on (at_header format.Two []) (at_objects []) (at_objects i.header.objects) (format_forms i.header.format) (map Object i.header.objects)
            (format_goes i.header.format) (objects_go [] i.header.objects form.objects),
      ) (form.counts, refl))
      (cc, lines_go [] i.journal form.journal))
      (cc, files_go [] i.files form.files)
