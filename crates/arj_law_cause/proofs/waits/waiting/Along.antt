-- Event by event: what a relation on moments that is kept says of the lines of each event that is run holds of the events of each run.
use Rattle.arj_law_parts.proofs.Words
use Words.{◌≡◌, ◌∙◌, ◌+◌, ◌++◌, ℕ, false, List, [], ◌∷◌, refl, sym, ap, subst, Body, Event, Header, World}
use Words.body
use Words.{Move, Start, counted, happens, limited, moved, world_from}
use Rattle.arj_law_parts.proofs.moves.Events.{happened, move_with, opens_at, same_run}
use Rattle.arj_law_parts.proofs.moves.Firsts.{first_stands as first_places}
use Rattle.arj_law_parts.specs.moves.Moments.{History, Moment, come, no_history}
use Rattle.arj_law_parts.specs.moves.With.{HoldsAt, HoldsWith, KeepsAll, asked_of_node, look, past_event}
use Rattle.arj_law_parts.specs.steps.Writes.{asks}
use Rattle.arj_law_runs.proofs.follow.Along.{Ended, Outcome, Went, event_of, runs_along}
use Rattle.arj_law_runs.proofs.follow.Refusing.{Came, IsRefused, IsRun}
use Rattle.arj_law_runs.specs.follow.Frames.{run_events}
use Rattle.arj_model.specs.Follows.{Runs}
use Rattle.arj_model.specs.Past.{Past, asked_of, at_start, block}
use Rattle.arj_promise.specs.Runs.{HeaderFits, IsInForm, IsStoppedInForm, Run, journal_by}
use Rattle.arj_promise.specs.Starts.{IsFormed}
use Rattle.arj_law_cause.proofs.waits.waiting.Asked.{same_event}
use Rattle.arj_law_cause.proofs.waits.waiting.Running as running
use Rattle.arj_law_cause.proofs.waits.waiting.Running.{Granted, Leaves, Ran, Stopped}
use Rattle.arj_law_cause.proofs.waits.waiting.Waiting.{AreAsked}

-- the moment is that in which the event of a run has written these lines
pub record IsMoment (p : Past) (e : Event) (bodies : List Body) (M : Moment) : Type 0 where
  pub event : M.past.event ≡ e
  pub number : M.past.number ≡ p.count + 1
  pub first : M.past.run.lines ≡ p.lines
  pub lines : M.seen.lines ≡ p.lines ++ block (p.count + 1) bodies
  pub asked : AreAsked (p.accepted ++ asked_of p e ∷ []) M.past.askings

module _ (hd : Header) (form : HeaderFits hd) (P : Moment → Type 0) (keep : KeepsAll hd P) (Step : Past → Event → List Body → Type 0)
    (refused : (p : Past) (e : Event) (c : ℕ) → Step p e (body.Refused c ∷ []))
    (gives : (p : Past) (e : Event) (bodies : List Body) (M : Moment) → IsMoment p e bodies M → P M → Step p e bodies) where
  -- a run up to an event, its history, and the world there
  pub record Stands (g : History) (p : Past) (w : World) : Type 0 where
    pub base : running.Stands hd form g p w
    pub all : HoldsWith hd P g w

  -- which stops are to fall is nothing to it
  armed : (g : History) (p : Past) (w : World) (m : Move) → Stands g p w → HoldsWith hd P g (record w { arms = m.falls })
  armed g p w m s = let h = s.all in record {
    now = record {
      sent = h.now.sent;
      stands = record {
        frames = h.now.stands.frames;
        junk = h.now.stands.junk;
        header = h.now.stands.header;
        numbers = h.now.stands.numbers;
        places = h.now.stands.places;
        labels = h.now.stands.labels;
      };
      number = h.now.number;
      wrote = h.now.wrote;
      holds = h.now.holds;
    };
    count = h.count;
    lines = h.lines;
  }

  module _ (m : Move) (g : History) (p : Past) (w : World) (stops : IsStoppedInForm m) (s : Stands g p w) (on : w.over ≡ false) where
    abbrev u : World
    u = record w { arms = m.falls }

    abbrev D : History
    D = asked_of_node (asks (event_of m) (record w { arms = m.falls })) (record w { arms = m.falls }) (come (event_of m) g)

    abbrev V : World
    V = limited (happens (event_of m) (let a = m.asked in a.arm) (counted (record w { arms = m.falls })))

    -- the lines of an event that nobody refuses
    run_gives : (bodies : List Body) → Granted hd form m g p w stops s.base on → w.lines ++ block (w.event + 1) bodies ≡ V.lines →
        Step p (event_of m) bodies
    run_gives bodies free lines =
        let h = armed g p w m s in
        let z : HoldsAt hd P D V = happened hd P keep.steps (event_of m) (let a = m.asked in a.arm) g u free.none (h.lines on)
        (opens_at hd P P keep.opens (event_of m) g u on h) in
        let run = same_run (event_of m) g u (asks (event_of m) u) in
        let b = s.base in
        let count : V.event ≡ p.count + 1 = sym z.number ∙ run.1 ∙ ap (λ n. n + 1) (h.now.number ∙ sym b.base.base.count) in
        gives p (event_of m) bodies (look D z.sent V) (record {
          event = same_event (event_of m) u g;
          number = count;
          first = ap (λ (r : Past). r.lines) run.0 ∙ h.lines on ∙ sym b.base.base.lines;
          lines = sym lines ∙ (λ i. sym b.base.base.lines i ++ block (sym b.base.base.count i + 1) bodies);
          asked = free.asked;
        }) z.holds

    its_step : (bodies : List Body) → Came (event_of m) (let a = m.asked in a.arm) (counted (record w { arms = m.falls })) bodies →
        (moved m w).event ≡ w.event + 1 → Step p (event_of m) bodies
    its_step bodies (IsRefused c none is) count = subst (Step p (event_of m)) (sym is) (refused p (event_of m) c)
    its_step bodies (IsRun free isnt lines) count = run_gives bodies (running.granted hd form m g p w stops s.base on free count) lines

  -- the run up to an event, with some history
  abbrev pub Inv : Past → World → Type 0
  Inv p w = (g : History) × Stands g p w

  pub goes : (m : Move) (p : Past) (w : World) → IsStoppedInForm m → Inv p w → w.over ≡ false → Outcome Step Inv m p w
  goes m p w stops s on = by (running.leaves hd form m s.0 p w stops (let z = s.1 in z.base) on)
    where
      by : Leaves hd form m s.0 p w stops (let z = s.1 in z.base) on → Outcome Step Inv m p w
      by (Ran bodies came after stands) =
          let b = (let z = s.1 in z.base) in
          Went bodies (its_step m s.0 p w stops s.1 on bodies came (sym after.count ∙ ap (λ n. n + 1) b.base.base.count)) (
            past_event m.asked (record w { arms = m.falls }) s.0,
            record { base = stands; all = move_with hd P keep m s.0 w (let z = s.1 in z.all) },
          )
      by (Stopped over event lines past nodes) = Ended over event lines

  pub first_stands : (st : Start) → IsFormed hd st → Stands (no_history st) (at_start st) (world_from hd st)
  first_stands st formed = record {
    base = running.first_stands hd form st formed;
    all = record {
      now = record { sent = []; stands = first_places hd st; number = refl; wrote = ([], refl); holds = keep.first st formed };
      count = refl;
      lines = λ over. refl;
    };
  }

  -- so it is of each event of a run
  pub runs_give : (r : Run hd) → IsInForm hd r → Runs Step r.start (run_events hd r) (journal_by hd r)
  runs_give r its =
      runs_along Step Inv IsStoppedInForm (λ p w s. let z = s.1 in let b = z.base in b.base.base.lines)
      (λ p w s. let z = s.1 in let b = z.base in b.base.base.count) goes r.start r.moves
      (world_from hd r.start) its.stops (no_history r.start, first_stands r.start r.formed)
