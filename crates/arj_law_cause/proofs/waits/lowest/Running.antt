-- Event by event: each refusal is that of its lowest cause, but that of a doomed action.
use Rattle.arj_law_parts.proofs.Words
use Words.{◌≡◌, false, List, Body, Event, Header, World, Move, world_from}
use Rattle.arj_law_runs.proofs.follow.Along.{Ended, Outcome, Went, event_of, runs_along}
use Rattle.arj_law_runs.proofs.follow.Refusing as plains
use Rattle.arj_law_runs.specs.follow.Refusals.{PlainRefusalsStep}
use Rattle.arj_law_cause.proofs.follow.causes.Refusing as trees
use Rattle.arj_law_cause.specs.follow.causes.Refusals.{TreeRefusalsStep}
use Rattle.arj_law_parts.specs.moves.Moments.{no_history}
use Rattle.arj_model.specs.Past.{Past, at_start}
use Rattle.arj_promise.specs.Runs.{HeaderFits, IsStoppedInForm}
use Rattle.arj_promise.specs.Starts.{IsFormed}
use Rattle.arj_start.specs.Start.{Start}
use Rattle.arj_law_cause.proofs.waits.lowest.Causes as causes
use Rattle.arj_law_cause.proofs.waits.lowest.Together.{both_go}
use Rattle.arj_law_cause.proofs.waits.objects.Running as objects
use Rattle.arj_law_cause.proofs.waits.waiting.Refusing as early
use Rattle.arj_law_cause.proofs.waits.waiting.Running as running
use Rattle.arj_law_cause.specs.waits.lowest.Refusals.{RefusalsFollow, RefusalsStep}
use Rattle.arj_law_cause.specs.waits.objects.Refusals.{ObjectRefusalsStep}
use Rattle.arj_law_cause.specs.waits.waiting.Refusals.{WaitingRefusalsStep}

module _ (hd : Header) (form : HeaderFits hd) where
  abbrev Trees : Past → World → Type 0
  Trees p w = plains.Stands hd form p w × trees.Stands hd form p w

  abbrev Objects : Past → World → Type 0
  Objects p w = early.Inv hd form p w × objects.Inv hd form p w

  abbrev pub Inv : Past → World → Type 0
  Inv p w = Trees p w × Objects p w

  abbrev TreesStep : Past → Event → List Body → Type 0
  TreesStep p e bodies = PlainRefusalsStep hd p e bodies × TreeRefusalsStep hd p e bodies

  abbrev ObjectsStep : Past → Event → List Body → Type 0
  ObjectsStep p e bodies = WaitingRefusalsStep hd p e bodies × ObjectRefusalsStep hd p e bodies

  abbrev AllStep : Past → Event → List Body → Type 0
  AllStep p e bodies = TreesStep p e bodies × ObjectsStep p e bodies

  lines_plain : (p : Past) (w : World) → plains.Stands hd form p w → p.lines ≡ w.lines
  lines_plain p w s = s.base.lines

  lines_tree : (p : Past) (w : World) → trees.Stands hd form p w → p.lines ≡ w.lines
  lines_tree p w s = s.base.base.lines

  lines_early : (p : Past) (w : World) → early.Inv hd form p w → p.lines ≡ w.lines
  lines_early p w s = let z = s.1 in z.base.base.lines

  lines_objects : (p : Past) (w : World) → objects.Inv hd form p w → p.lines ≡ w.lines
  lines_objects p w s = let z = s.1 in let b = z.base in b.base.base.lines

  trees_go : (m : Move) (p : Past) (w : World) → IsStoppedInForm m → Trees p w → w.over ≡ false → Outcome TreesStep Trees m p w
  trees_go m p w stops s on = both_go (PlainRefusalsStep hd) (TreeRefusalsStep hd) (plains.Stands hd form) (trees.Stands hd form)
      lines_plain lines_tree m p w (plains.goes hd form m p w stops s.0 on) (trees.goes hd form m p w stops s.1 on)

  objects_go : (m : Move) (p : Past) (w : World) → IsStoppedInForm m → Objects p w → w.over ≡ false → Outcome ObjectsStep Objects m p w
  objects_go m p w stops s on = both_go (WaitingRefusalsStep hd) (ObjectRefusalsStep hd) (early.Inv hd form) (objects.Inv hd form)
      lines_early lines_objects m p w (early.goes hd form m p w stops s.0 on) (objects.goes hd form m p w stops s.1 on)

  all_go : (m : Move) (p : Past) (w : World) → IsStoppedInForm m → Inv p w → w.over ≡ false → Outcome AllStep Inv m p w
  all_go m p w stops s on = both_go TreesStep ObjectsStep Trees Objects (λ q v z. lines_plain q v z.0) (λ q v z. lines_early q v z.0) m p w
      (trees_go m p w stops s.0 on) (objects_go m p w stops s.1 on)

  pub goes : (m : Move) (p : Past) (w : World) → IsStoppedInForm m → Inv p w → w.over ≡ false → Outcome (RefusalsStep hd) Inv m p w
  goes m p w stops s on = by (all_go m p w stops s on)
    where
      by : Outcome AllStep Inv m p w → Outcome (RefusalsStep hd) Inv m p w
      by (Ended over event lines) = Ended over event lines
      by (Went bodies step after) =
          Went bodies (causes.all_known hd p (event_of m) bodies step.0.0 step.0.1 step.1.0 step.1.1) after

  pub first_stands : (st : Start) → IsFormed hd st → Inv (at_start st) (world_from hd st)
  first_stands st formed = (
    (plains.first_stands hd form st formed, trees.first_stands hd form st formed),
    ((no_history st, running.first_stands hd form st formed), (no_history st, objects.first_stands hd form st formed)),
  )

pub refusals_follow : RefusalsFollow
refusals_follow hd r form =
    runs_along (RefusalsStep hd) (Inv hd form.header) IsStoppedInForm (λ p w s. lines_plain hd form.header p w s.0.0)
    (λ p w s. let z = s.0.0 in z.base.count) (goes hd form.header) r.start r.moves (world_from hd r.start) form.stops
    (first_stands hd form.header r.start r.formed)
