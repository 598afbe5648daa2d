-- Of every run: the lines of an event, any but a settle and a quiesce, come from steps of nodes.
use Rattle.arj_law_parts.proofs.Words
use Words.{Header, List, Body, Event, Move, World, journal_by, world_from, false, ◌≡◌}
use Rattle.arj_promise.specs.Runs.{HeaderFits}
use Rattle.arj_law_parts.proofs.moves.{Happens.first_asked, Moving.move_asked}
use Rattle.arj_law_promise.proofs.settling.{Rights.right_keep, Stills.IsRight}
use Rattle.arj_law_runs.proofs.Terms.{Holds, keeps_asked}
use Rattle.arj_law_runs.proofs.follow.Along.{Ended, Outcome, Went, event_of, runs_along}
use Rattle.arj_law_runs.proofs.follow.Refusing as refusing
use Rattle.arj_law_runs.proofs.follow.Shorts as shorts
use Rattle.arj_law_runs.specs.follow.Shorts.{ShortEventsStep}
use Rattle.arj_model.specs.Past.{Past, at_start}
use Rattle.arj_promise.specs.Runs.{IsStoppedInForm}
use Rattle.arj_promise.specs.Starts.{IsFormed}
use Rattle.arj_start.specs.Start.{Start}
use Rattle.arj_law_cause.proofs.local.Events.{event_so}
use Rattle.arj_law_cause.specs.told.Local.{LocalBesideSettles}
use Rattle.arj_law_cause.specs.told.Runs.{LinesAreLocal}

module _ (hd : Header) (form : HeaderFits hd) where
  abbrev Inv : Past → World → Type 0
  Inv p w = shorts.Stands hd form p w × Holds hd IsRight w

  goes : (m : Move) (p : Past) (w : World) → IsStoppedInForm m → Inv p w → w.over ≡ false → Outcome (LocalBesideSettles hd) Inv m p w
  goes m p w stops s on = by (shorts.goes hd form m p w stops s.0 on)
    where
      arm : Words.Arm
      arm = let a = m.asked in a.arm

      by : Outcome (ShortEventsStep hd) (shorts.Stands hd form) m p w → Outcome (LocalBesideSettles hd) Inv m p w
      by (Ended over event lines) = Ended over event lines
      by (Went bodies step after) =
          let came = refusing.goes_with hd form m p w stops (let z = s.0 in z.base) on bodies (let b = after.base in b.base) in
          Went bodies (λ one. event_so hd form m p w stops s.0 s.1 on bodies (event_of m) arm one step came.0)
          (after, move_asked hd IsRight (keeps_asked hd IsRight (right_keep hd)) m w s.1)

  first : (st : Start) → IsFormed hd st → Inv (at_start st) (world_from hd st)
  first st formed = (shorts.first_stands hd form st formed, first_asked hd st IsRight formed (keeps_asked hd IsRight (right_keep hd)))

pub lines_local : LinesAreLocal
lines_local hd r form =
    runs_along (LocalBesideSettles hd) (Inv hd form.header) IsStoppedInForm
    (λ p w s. (let z = s.0 in z.base.base.lines)) (λ p w s. (let z = s.0 in z.base.base.count))
    (λ m p w stops s on. goes hd form.header m p w stops s on) r.start r.moves (world_from hd r.start) form.stops
    (first hd form.header r.start r.formed)
