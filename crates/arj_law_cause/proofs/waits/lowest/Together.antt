-- Two things that each hold of an event, with what is kept of the run for each, hold of it together.
use Rattle.arj_law_parts.proofs.Words
use Words.{◌≡◌, ◌∙◌, ◌+◌, List, sym, subst, Body, Event, World, Move, moved}
use Rattle.arj_law_runs.proofs.follow.Along.{Ended, Outcome, Went, event_of}
use Rattle.arj_law_runs.proofs.follow.Refusing.{same_bodies}
use Rattle.arj_model.specs.Past.{Past, next}

module _ (A B : Past → Event → List Body → Type 0) (InA InB : Past → World → Type 0)
    (lines_a : (p : Past) (w : World) → InA p w → p.lines ≡ w.lines) (lines_b : (p : Past) (w : World) → InB p w → p.lines ≡ w.lines) where
  abbrev pub Both : Past → Event → List Body → Type 0
  Both p e bodies = A p e bodies × B p e bodies

  abbrev pub InBoth : Past → World → Type 0
  InBoth p w = InA p w × InB p w

  -- the lines of an event are the same ones
  pub both_go : (m : Move) (p : Past) (w : World) → Outcome A InA m p w → Outcome B InB m p w → Outcome Both InBoth m p w
  both_go m p w (Ended over event lines) other = Ended over event lines
  both_go m p w (Went bodies step after) (Ended over event lines) = Ended over event lines
  both_go m p w (Went bodies step after) (Went more also behind) =
      let same : more ≡ bodies = same_bodies (p.count + 1) more bodies p.lines
      (lines_b (next p (event_of m) more) (moved m w) behind ∙ sym (lines_a (next p (event_of m) bodies) (moved m w) after)) in
      Went bodies (step, subst (B p (event_of m)) same also) (after, subst (λ bs. InB (next p (event_of m) bs) (moved m w)) same behind)
