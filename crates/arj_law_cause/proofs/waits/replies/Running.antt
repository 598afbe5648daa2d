-- Event by event: each answer that an event writes ends what waited.
use Rattle.arj_law_parts.proofs.Words
use Words.{◌≡◌, ◌∙◌, ◌+◌, ◌++◌, false, List, [], ◌∷◌, refl, sym, ap, subst, Body, Header, World}
use Words.{Move, Start, counted, happens, limited, moved, world_from}
use Rattle.arj_law_parts.proofs.moves.Events.{happened, move_with, opens_at, same_run}
use Rattle.arj_law_parts.proofs.moves.Firsts.{first_stands as first_places}
use Rattle.arj_law_parts.specs.moves.Moments.{History, come, no_history}
use Rattle.arj_law_parts.specs.moves.With.{HoldsAt, HoldsWith, asked_of_node, past_event}
use Rattle.arj_law_parts.specs.steps.Writes.{asks}
use Rattle.arj_law_runs.proofs.follow.Along.{Ended, Outcome, Went, event_of, runs_along}
use Rattle.arj_law_runs.proofs.follow.Refusing.{Came, IsRefused, IsRun, same_bodies}
use Rattle.arj_model.specs.Past.{Past, asked_of, at_start, block}
use Rattle.arj_promise.specs.Runs.{HeaderFits, IsStoppedInForm}
use Rattle.arj_promise.specs.Starts.{IsFormed}
use Rattle.arj_law_lock_view.specs.asking.Asked.{accepted_of}
use Rattle.arj_law_cause.proofs.waits.waiting.Running as running
use Rattle.arj_law_cause.proofs.waits.waiting.Running.{Granted, Leaves, Ran, Stopped}
use Rattle.arj_law_cause.proofs.waits.replies.Answering.{same_all}
use Rattle.arj_law_cause.proofs.waits.replies.Fitting.{All, all_keep}
use Rattle.arj_law_cause.specs.waits.replies.Ends.{EndWaits, RepliesEndWaits, RepliesStep}

module _ (hd : Header) (form : HeaderFits hd) where
  -- a run up to an event, its history, and the world there
  pub record Stands (g : History) (p : Past) (w : World) : Type 0 where
    pub base : running.Stands hd form g p w
    pub all : HoldsWith hd All g w

  -- which stops are to fall is nothing to it
  armed : (g : History) (p : Past) (w : World) (m : Move) → Stands g p w → HoldsWith hd All g (record w { arms = m.falls })
  armed g p w m s = let h = s.all in record {
    now = record {
      sent = h.now.sent;
      stands = record {
        frames = h.now.stands.frames;
        junk = h.now.stands.junk;
        header = h.now.stands.header;
        numbers = h.now.stands.numbers;
        places = h.now.stands.places;
        labels = h.now.stands.labels;
      };
      number = h.now.number;
      wrote = h.now.wrote;
      holds = h.now.holds;
    };
    count = h.count;
    lines = h.lines;
  }

  module _ (m : Move) (g : History) (p : Past) (w : World) (stops : IsStoppedInForm m) (s : Stands g p w) (on : w.over ≡ false) where
    abbrev u : World
    u = record w { arms = m.falls }

    abbrev D : History
    D = asked_of_node (asks (event_of m) (record w { arms = m.falls })) (record w { arms = m.falls }) (come (event_of m) g)

    abbrev V : World
    V = limited (happens (event_of m) (let a = m.asked in a.arm) (counted (record w { arms = m.falls })))

    -- the lines of an event that nobody refuses
    run_fits : (bodies : List Body) → Granted hd form m g p w stops s.base on → w.lines ++ block (w.event + 1) bodies ≡ V.lines →
        RepliesStep hd p (event_of m) bodies
    run_fits bodies free lines =
        let h = armed g p w m s in
        let keep = all_keep hd in
        let z : HoldsAt hd All D V = happened hd All keep.steps (event_of m) (let a = m.asked in a.arm) g u free.none (h.lines on)
        (opens_at hd All All keep.opens (event_of m) g u on h) in
        let fit = z.holds.1 in
        let run = same_run (event_of m) g u (asks (event_of m) u) in
        let number : V.event ≡ w.event + 1 = sym z.number ∙ run.1 ∙ ap (λ n. n + 1) h.now.number in
        let first : D.run.lines ≡ w.lines = ap (λ (r : Past). r.lines) run.0 ∙ h.lines on in
        let same : fit.more ≡ bodies = sym (same_bodies (w.event + 1) bodies fit.more w.lines
        (lines ∙ fit.lines ∙ (λ i. first i ++ block (number i) fit.more))) in
        let b = s.base in
        same_all (accepted_of D.askings) (p.accepted ++ asked_of p (event_of m) ∷ []) free.asked p.lines (p.count + 1) bodies
        (subst (λ ls. EndWaits (accepted_of D.askings) ls (p.count + 1) bodies) (first ∙ sym b.base.base.lines)
        (subst (λ n. EndWaits (accepted_of D.askings) D.run.lines n bodies) (number ∙ ap (λ n. n + 1) (sym b.base.base.count))
        (subst (EndWaits (accepted_of D.askings) D.run.lines V.event) same fit.fit)))

    fits : (bodies : List Body) → Came (event_of m) (let a = m.asked in a.arm) (counted (record w { arms = m.falls })) bodies →
        (moved m w).event ≡ w.event + 1 → RepliesStep hd p (event_of m) bodies
    fits bodies (IsRefused c refused is) count = subst (RepliesStep hd p (event_of m)) (sym is) (tt, tt)
    fits bodies (IsRun free isnt lines) count = run_fits bodies (running.granted hd form m g p w stops s.base on free count) lines

-- the run up to an event, with some history
abbrev pub Inv : (hd : Header) → HeaderFits hd → Past → World → Type 0
Inv hd form p w = (g : History) × Stands hd form g p w

pub goes : (hd : Header) (form : HeaderFits hd) (m : Move) (p : Past) (w : World) → IsStoppedInForm m → Inv hd form p w → w.over ≡ false →
    Outcome (RepliesStep hd) (Inv hd form) m p w
goes hd form m p w stops s on = by (running.leaves hd form m s.0 p w stops (let z = s.1 in z.base) on)
  where
    by : Leaves hd form m s.0 p w stops (let z = s.1 in z.base) on → Outcome (RepliesStep hd) (Inv hd form) m p w
    by (Ran bodies came after stands) =
        let b = (let z = s.1 in z.base) in
        Went bodies (fits hd form m s.0 p w stops s.1 on bodies came (sym after.count ∙ ap (λ n. n + 1) b.base.base.count)) (
          past_event m.asked (record w { arms = m.falls }) s.0,
          record { base = stands; all = move_with hd All (all_keep hd) m s.0 w (let z = s.1 in z.all) },
        )
    by (Stopped over event lines past nodes) = Ended over event lines

pub first_stands : (hd : Header) (form : HeaderFits hd) (st : Start) → IsFormed hd st → Stands hd form (no_history st) (at_start st)
    (world_from hd st)
first_stands hd form st formed = record {
  base = running.first_stands hd form st formed;
  all = record {
    now = record {
      sent = [];
      stands = first_places hd st;
      number = refl;
      wrote = ([], refl);
      holds = (let k = all_keep hd in k.first st formed);
    };
    count = refl;
    lines = λ over. refl;
  };
}

pub replies_end : RepliesEndWaits
replies_end hd r form =
    runs_along (RepliesStep hd) (Inv hd form.header) IsStoppedInForm (λ p w s. let z = s.1 in let b = z.base in b.base.base.lines)
    (λ p w s. let z = s.1 in let b = z.base in b.base.base.count) (λ m p w stops s on. goes hd form.header m p w stops s on) r.start r.moves
    (world_from hd r.start) form.stops (no_history r.start, first_stands hd form.header r.start r.formed)
