-- One line more of an input.
use Rattle.std.proofs.Common.{◌≡◌, ℕ, ◌+◌, ◌≤◌, ◌<◌, List, [], ◌∷◌, ◌++◌, length, length-append, Bool, true, false, Option, Some, None}
use Rattle.std.proofs.Common.{refl, sym, ◌∙◌, ap, subst, arith, append_assoc}
use Rattle.std.specs.Prelude.{codes}
use Rattle.arj_checking.specs.Parts.{AreLines, HasJournal, HeaderIs, IsLine, IsScript}
use Rattle.arj_checking.specs.Taking.{IsAt, IsIn, header_after}
use Rattle.arj_checking.specs.declared.parts.Parts.{Parts}
use Rattle.arj_journal.specs.declared.body.Line.{Line}
use Rattle.arj_journal.specs.declared.header.Header.{Header}
use Rattle.arj_loop.specs.Forms.{HaveForms}
use Rattle.arj_loop.specs.Input.{header_from}
use Rattle.arj_loop.proofs.Steps.{have_forms_more, header_stays, header_then}
use Rattle.arj_script.specs.Grammar.{Asks, Blank, Form, FormatOne, HasForm, Nodes, Object, Objects, Place, Run, Running, Start, begun, next_place}
use Rattle.arj_script.specs.Input.{Tells}
use Rattle.arj_script.specs.declared.reader.Item.{Item}
use Rattle.arj_script.specs.declared.reader.Item.TheVariants as item

not_start : Start ≡ Running → ⊥
not_start e = cc

not_objects : (g : Header) → Objects g ≡ Running → ⊥
not_objects g e = cc

-- the header that one form more ends, where none was ended
abbrev NextHeader : Place → Form → Option Header → Type 0
NextHeader place form None = (next_place place form ≡ Running → ⊥) × (header_from place (form ∷ []) ≡ None)
NextHeader place form (Some h) = (next_place place form ≡ Running) × (header_from place (form ∷ []) ≡ Some h)

none_step : (place : Place) (line : List ℕ) (form : Form) (i : Item) → (place ≡ Running → ⊥) → HasForm place line form →
    Tells place form i → NextHeader place form (header_after i None)
none_step Running line form i never h t = absurd (never refl)
none_step Start line (Object o) i never h t = absurd h.fits
none_step Start line FormatOne i never h t = absurd h.fits
none_step Start line Run i never h t = absurd h.fits
none_step Start line (Asks e) i never h t = absurd h.fits
none_step (Objects g) line (Nodes m) i never h t = absurd h.fits
none_step (Objects g) line (Asks e) i never h t = absurd h.fits
none_step Start line Blank item.Blank never h t = (not_start, refl)
none_step Start line (Nodes n) item.Part never h t = (not_objects (begun n), refl)
none_step (Objects g) line Blank item.Blank never h t = (not_objects g, refl)
none_step (Objects g) line (Object o) item.Part never h t = (not_objects _, refl)
none_step (Objects g) line FormatOne item.Part never h t = (not_objects _, refl)
none_step (Objects g) line Run (item.Run header) never h t = (refl, ap Some (sym t))
none_step place line form i never h t = absurd t

-- or where one was
some_step : (line : List ℕ) (form : Form) (i : Item) (header : Header) → HasForm Running line form → Tells Running form i →
    (next_place Running form ≡ Running) × (header_after i (Some header) ≡ Some header)
some_step line (Nodes m) i header h t = absurd h.fits
some_step line (Object o) i header h t = absurd h.fits
some_step line FormatOne i header h t = absurd h.fits
some_step line Run i header h t = absurd h.fits
some_step line Blank item.Blank header h t = (refl, refl)
some_step line (Asks e) (item.Event told) header h t = (refl, refl)
some_step line form i header h t = absurd t

carry : (forms : List Form) (place : Place) (form : Form) (header : Option Header) →
    header_from Start (forms ++ form ∷ []) ≡ header_from place (form ∷ []) → NextHeader place form header →
    HeaderIs (forms ++ form ∷ []) (next_place place form) header
carry forms place form None e n = (n.0, e ∙ n.1)
carry forms place form (Some h) e n = (n.0, e ∙ n.1)

header_more : (lines : List (List ℕ)) (forms : List Form) (place : Place) (line : List ℕ) (form : Form) (i : Item) (header : Option Header) → HaveForms Start lines forms place → HasForm place line form → Tells place form i
    → HeaderIs forms place header → HeaderIs (forms ++ form ∷ []) (next_place place form) (header_after i header)
header_more lines forms place line form i None read has told is =
    carry forms place form (header_after i None) (header_then Start forms (form ∷ []) lines place read is.1) (none_step place line form i is.0 has told)
header_more lines forms place line form i (Some h) read has told is =
    let step = some_step line form i h (subst (λ p. HasForm p line form) is.0 has) (subst (λ p. Tells p form i) is.0 told) in
    subst (λ o. HeaderIs (forms ++ form ∷ []) (next_place place form) o) (sym step.1) (ap (λ p. next_place p form) is.0 ∙ step.0, header_stays Start forms (form ∷ []) h is.1)

-- what the reader says of a line that it takes
abbrev pub Taken : Place → List ℕ → Item → Place → Type 0
Taken place line i after = (form : Form) × HasForm place line form × Tells place form i × (after ≡ next_place place form)

-- a line of the script more
pub script_more : (done : List (List ℕ)) (line : List ℕ) (place after : Place) (header : Option Header) (i : Item) →
    Taken place line i after → length done < 100000 → IsScript done place header
    → IsScript (done ++ line ∷ []) after (header_after i header)
script_more done line place after header i taken room s =
    let made : IsScript (done ++ line ∷ []) (next_place place taken.0) (header_after i header) = record {
      forms = s.forms ++ taken.0 ∷ [];
      read = have_forms_more Start place done s.forms line taken.0 s.read taken.1;
      header_is = header_more done s.forms place line taken.0 i header s.read taken.1 taken.2 s.header_is;
      few = omega (arith, room, length-append done (line ∷ []));
    } in
    subst (λ p. IsScript (done ++ line ∷ []) p (header_after i header)) (sym taken.3) made

are_more : (texts : List (List ℕ)) (lines : List Line) (bytes : List ℕ) (line : Line) → AreLines texts lines → IsLine bytes line →
    AreLines (texts ++ bytes ∷ []) (lines ++ line ∷ [])
are_more [] [] bytes line are is = (is, tt)
are_more (t ∷ texts) (l ∷ lines) bytes line are is = (are.0, are_more texts lines bytes line are.1 is)
are_more [] (l ∷ lines) bytes line are is = absurd are
are_more (t ∷ texts) [] bytes line are is = absurd are

are_length : (texts : List (List ℕ)) (lines : List Line) → AreLines texts lines → length texts ≡ length lines
are_length [] [] are = refl
are_length (t ∷ texts) (l ∷ lines) are = omega (arith, are_length texts lines are.1)
are_length [] (l ∷ lines) are = absurd are
are_length (t ∷ texts) [] are = absurd are

-- a line of the journal more
pub journal_more : (done : List (List ℕ)) (line : List ℕ) (header : Header) (journal : List Line) (read : Line) →
    HasJournal done header journal → IsLine line read → length journal < 1000000 →
    HasJournal (done ++ line ∷ []) header (journal ++ read ∷ [])
journal_more done line header journal read j is room = record {
  script = j.script;
  texts = j.texts ++ line ∷ [];
  cut = ap (λ ls. ls ++ line ∷ []) j.cut ∙ append_assoc j.script (codes "journal" ∷ j.texts) (line ∷ []);
  is_script = j.is_script;
  are_lines = are_more j.texts journal line read j.are_lines is;
  few = omega (arith, room, length-append journal (read ∷ []));
}

-- an input has so many lines at most
few_journal : (done : List (List ℕ)) (header : Header) (journal : List Line) → HasJournal done header journal →
    length done ≤ 100001 + length journal
few_journal done header journal j =
    let s = j.is_script in
    omega (arith, ap length j.cut, length-append j.script (codes "journal" ∷ j.texts), are_length j.texts journal j.are_lines, s.few)

few_in : (in_journal : Bool) (done : List (List ℕ)) (parts : Parts) → IsIn in_journal done parts → length done ≤ 1100001
few_in false done parts is = let s = is.0 in omega (arith, s.few)
few_in true done parts is = let j = is.2 in omega (arith, few_journal done is.0 parts.journal j, j.few)

pub few_lines : (done : List (List ℕ)) (parts : Parts) → IsAt done parts → parts.lines ≤ 1100001
few_lines done parts at = omega (arith, at.0, few_in parts.in_journal done parts at.1)

-- the half is known
pub in_script : (done : List (List ℕ)) (parts : Parts) → parts.in_journal ≡ false → IsAt done parts →
    IsScript done parts.reader parts.header × (parts.journal ≡ [])
in_script done parts half at = subst (λ b. IsIn b done parts) half at.1

pub in_journal : (done : List (List ℕ)) (parts : Parts) → parts.in_journal ≡ true → IsAt done parts →
    (header : Header) × (parts.header ≡ Some header) × HasJournal done header parts.journal
in_journal done parts half at = subst (λ b. IsIn b done parts) half at.1

count_more : (done : List (List ℕ)) (line : List ℕ) (n : ℕ) → n ≡ length done → n + 1 ≡ length (done ++ line ∷ [])
count_more done line n is = omega (arith, is, length-append done (line ∷ []))

-- a line of the script was
pub at_script : (done : List (List ℕ)) (line : List ℕ) (parts : Parts) (after : Place) (i : Item) → parts.in_journal ≡ false →
    parts.lines < 100000 → Taken parts.reader line i after → IsAt done parts
    → IsAt (done ++ line ∷ []) (record parts { reader = after; header = header_after i parts.header; lines = parts.lines + 1 })
at_script done line parts after i half room taken at =
    let s = in_script done parts half at in
    let now : Parts = record parts { reader = after; header = header_after i parts.header; lines = parts.lines + 1 } in
    (count_more done line parts.lines at.0, subst (λ b. IsIn b (done ++ line ∷ []) now) (sym half) (script_more done line parts.reader after parts.header i taken (omega (arith, room, at.0)) s.0, s.1))

-- a line of the journal was
pub at_more : (done : List (List ℕ)) (line : List ℕ) (parts : Parts) (read : Line) → parts.in_journal ≡ true →
    length parts.journal < 1000000 → IsLine line read → IsAt done parts
    → IsAt (done ++ line ∷ []) (record parts { lines = parts.lines + 1; journal = parts.journal ++ read ∷ [] })
at_more done line parts read half room is at =
    let j = in_journal done parts half at in
    let now : Parts = record parts { lines = parts.lines + 1; journal = parts.journal ++ read ∷ [] } in
    (count_more done line parts.lines at.0, subst (λ b. IsIn b (done ++ line ∷ []) now) (sym half) (j.0, j.1, journal_more done line j.0 parts.journal read j.2 is room))
