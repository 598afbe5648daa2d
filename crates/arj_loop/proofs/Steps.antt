-- One form more: what it adds to the header and the events.
use Rattle.std.proofs.Common.{◌≡◌, ℕ, ◌≤◌, List, [], ◌∷◌, ◌++◌, length, Some, None, refl, sym, ap, subst, arith}
use Rattle.arj_journal.specs.declared.header.Header.{Header}
use Rattle.arj_script.specs.Grammar.{Asks, Blank, Form, FormatOne, HasForm, Nodes, Object, Objects, Place, Run, next_place}
use Rattle.arj_script.specs.Input.{events_of}
use Rattle.arj_loop.specs.Forms.{HaveForms}
use Rattle.arj_loop.specs.Input.{header_from}

-- one line more
pub have_forms_more : (p q : Place) (lines : List (List ℕ)) (forms : List Form) (line : List ℕ) (form : Form) → HaveForms p lines forms q →
    HasForm q line form
    → HaveForms p (lines ++ line ∷ []) (forms ++ form ∷ []) (next_place q form)
have_forms_more p q [] [] line form here has = (subst (λ r. HasForm r line form) (sym here) has, ap (λ r. next_place r form) here)
have_forms_more p q (l ∷ lines) (f ∷ forms) line form h has = (h.0, have_forms_more (next_place p f) q lines forms line form h.1 has)
have_forms_more p q [] (f ∷ forms) line form h has = absurd h
have_forms_more p q (l ∷ lines) [] line form h has = absurd h

-- where no header was ended, one may be ended by the forms behind
pub header_then : (p : Place) (forms more : List Form) (lines : List (List ℕ)) (q : Place) → HaveForms p lines forms q →
    header_from p forms ≡ None → header_from p (forms ++ more) ≡ header_from q more
header_then p [] more [] q here none = ap (λ place. header_from place more) here
header_then p [] more (l ∷ lines) q h none = absurd h
header_then p (f ∷ forms) more [] q h none = absurd h
header_then (Objects g) (Run ∷ forms) more (l ∷ lines) q h none = absurd (let never : Some g ≡ None = none in cc)
header_then p (f ∷ forms) more (l ∷ lines) q h none = header_then (next_place p f) forms more lines q h.1 none

-- a header that was ended stays
pub header_stays : (p : Place) (forms more : List Form) (found : Header) → header_from p forms ≡ Some found →
    header_from p (forms ++ more) ≡ Some found
header_stays p [] more found h = absurd (let never : None ≡ Some found = h in cc)
header_stays (Objects g) (Run ∷ forms) more found h = h
header_stays p (f ∷ forms) more found h = header_stays (next_place p f) forms more found h

pub events_within : (forms : List Form) → length (events_of forms) ≤ length forms
events_within [] = omega arith
events_within (Asks e ∷ forms) = omega (arith, events_within forms)
events_within (Blank ∷ forms) = omega (arith, events_within forms)
events_within (Nodes n ∷ forms) = omega (arith, events_within forms)
events_within (FormatOne ∷ forms) = omega (arith, events_within forms)
events_within (Object o ∷ forms) = omega (arith, events_within forms)
events_within (Run ∷ forms) = omega (arith, events_within forms)

-- as many lines as forms
pub forms_length : (p : Place) (lines : List (List ℕ)) (forms : List Form) (q : Place) → HaveForms p lines forms q →
    length forms ≡ length lines
forms_length p [] [] q h = refl
forms_length p [] (f ∷ forms) q h = absurd h
forms_length p (l ∷ lines) [] q h = absurd h
forms_length p (l ∷ lines) (f ∷ forms) q h = omega (arith, forms_length (next_place p f) lines forms q h.1)
