-- Lines that were read as a script have a header in form, and events in form.
use Rattle.arj_law_parts.proofs.Words
use Words.{◌≡◌, ◌≤◌, ℕ, suc, List, [], ◌∷◌, length, Some, refl, sym, subst, arith, AllByRecursion, Event, Header}
use Rattle.arj_law_nodes.proofs.Terms.{EventInForm, HeaderInForm, Place, Start, events_of}
use Rattle.arj_loop.specs.{Forms.HaveForms, Input.header_from}
use Rattle.arj_base.specs.declared.state.Format.TheVariants as format
use Rattle.arj_journal.specs.ScriptForm.{AreHeld}
use Rattle.arj_script.proofs.Headers.{insert_held, insert_in_form}
use Rattle.arj_script.specs.Grammar.{Asks, Blank, Fits, Form, FormatOne, Nodes, Object, Objects, PlaceInForm, Run, Running, next_place}

-- ---- headers

-- a line that fits leaves its place in form
place_next : (place : Place) (form : Form) → Fits place form → PlaceInForm place → PlaceInForm (next_place place form)
place_next Start Blank fits p = tt
place_next Start (Nodes n) fits p = record { nodes = fits; objects = (tt, refl); held = tt }
place_next Start FormatOne fits p = absurd fits
place_next Start (Object o) fits p = absurd fits
place_next Start Run fits p = absurd fits
place_next Start (Asks e) fits p = absurd fits
place_next (Objects g) Blank fits p = p
place_next (Objects g) (Nodes m) fits p = absurd fits
place_next (Objects g) FormatOne fits p = record { nodes = p.nodes; objects = p.objects; held = subst (AreHeld format.One) (sym fits.1) tt }
place_next (Objects g) (Object o) fits p = record {
  nodes = p.nodes;
  objects = insert_in_form g.nodes o g.objects fits.0 fits.1 p.objects;
  held = insert_held g.format o g.objects fits.2 p.held;
}
place_next (Objects g) Run fits p = tt
place_next (Objects g) (Asks e) fits p = absurd fits
place_next Running Blank fits p = tt
place_next Running (Nodes n) fits p = absurd fits
place_next Running FormatOne fits p = absurd fits
place_next Running (Object o) fits p = absurd fits
place_next Running Run fits p = absurd fits
place_next Running (Asks e) fits p = tt

header_so : (lines : List (List ℕ)) (forms : List Form) (place end : Place) (header : Header) →
    HaveForms place lines forms end → PlaceInForm place → header_from place forms ≡ Some header → HeaderInForm header
header_so [] [] place end header have p is = absurd (cc is)
header_so [] (form ∷ forms) place end header have p is = absurd have
header_so (line ∷ lines) [] place end header have p is = absurd have
header_so (line ∷ lines) (form ∷ forms) place end header have p is =
    let fits = (let h = have.0 in h.fits) in
    by place form fits p is (header_so lines forms (next_place place form) end header have.1 (place_next place form fits p))
  where
    by : (place : Place) (form : Form) → Fits place form → PlaceInForm place → header_from place (form ∷ forms) ≡ Some header →
        (header_from (next_place place form) forms ≡ Some header → HeaderInForm header) → HeaderInForm header
    by (Objects g) Run fits p is rest = let same : g ≡ header = cc is in subst HeaderInForm same p
    by place form fits p is rest = rest is

pub header_in_form : (lines : List (List ℕ)) (forms : List Form) (end : Place) (header : Header) → HaveForms Start lines forms end →
    header_from Start forms ≡ Some header → HeaderInForm header
header_in_form lines forms end header have is = header_so lines forms Start end header have tt is

-- ---- events

pub events_in_form : (lines : List (List ℕ)) (forms : List Form) (place end : Place) → HaveForms place lines forms end →
    AllByRecursion EventInForm (events_of forms)
events_in_form [] [] place end have = tt
events_in_form [] (form ∷ forms) place end have = absurd have
events_in_form (line ∷ lines) [] place end have = absurd have
events_in_form (line ∷ lines) (form ∷ forms) place end have =
    let fits = (let h = have.0 in h.fits) in by place form fits (events_in_form lines forms (next_place place form) end have.1)
  where
    asked : (place : Place) (e : Event) → Fits place (Asks e) → EventInForm e
    asked Start e fits = absurd fits
    asked (Objects g) e fits = absurd fits
    asked Running e fits = fits

    by : (place : Place) (form : Form) → Fits place form → AllByRecursion EventInForm (events_of forms) →
        AllByRecursion EventInForm (events_of (form ∷ forms))
    by place Blank fits rest = rest
    by place (Nodes n) fits rest = rest
    by place FormatOne fits rest = rest
    by place (Object o) fits rest = rest
    by place Run fits rest = rest
    by place (Asks e) fits rest = (asked place e fits, rest)

-- there are no more events than lines
pub few_events : (forms : List Form) → length (events_of forms) ≤ length forms
few_events [] = omega arith
few_events (form ∷ forms) = by form (few_events forms)
  where
    more : (a b : ℕ) → a ≤ b → a ≤ suc b
    more a b le = omega (arith, le)

    one_more : (a b : ℕ) → a ≤ b → suc a ≤ suc b
    one_more a b le = omega (arith, le)

    by : (form : Form) → length (events_of forms) ≤ length forms → length (events_of (form ∷ forms)) ≤ suc (length forms)
    by Blank le = more (length (events_of forms)) (length forms) le
    by (Nodes n) le = more (length (events_of forms)) (length forms) le
    by FormatOne le = more (length (events_of forms)) (length forms) le
    by (Object o) le = more (length (events_of forms)) (length forms) le
    by Run le = more (length (events_of forms)) (length forms) le
    by (Asks e) le = one_more (length (events_of forms)) (length forms) le
