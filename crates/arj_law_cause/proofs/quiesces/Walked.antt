-- A run event by event, with what each wrote, and the worlds between them.
use Rattle.arj_law_parts.proofs.Words
use Words.{◌≡◌, ◌∙◌, ◌+◌, ◌≤◌, ◌==◌, length-append, most_events, ℕ, Bool, true, false, cond, List, [], ◌∷◌, ◌++◌, length, map, take, suc}
use Words.{refl, sym, ap, subst, arith, nat_tests}
use Words.{append-nil, AllByRecursion, Body, Event, Header, Line, World, Move, Start, all_moved, moved, world_from, journal_by, world_by}
use Words.{◌⊎◌, inl, inr, first_reason, reasons, run_unless}
use Words.body
use Rattle.arj_law_parts.proofs.Terms.which
use Rattle.arj_law_parts.proofs.moves.Moving.{more_moves}
use Rattle.arj_law_runs.proofs.bindings.Events.{moves_few}
use Rattle.arj_law_runs.specs.calls.Bindings.{HasFewBindings}
use Rattle.arj_law_runs.proofs.follow.Along.{Ended, Outcome, Went, event_of, over_stays, ran, ran_first}
use Rattle.arj_law_runs.specs.follow.Frames.{run_events}
use Rattle.arj_model.specs.Follows.{AreEnding, Runs}
use Rattle.arj_model.specs.Past.{Along, Past, at_start, block, next}
use Rattle.arj_promise.specs.Runs.{HeaderFits, IsInForm, IsStoppedInForm, Run, then}
use Rattle.arj_promise.specs.Starts.{IsFormed}
use Rattle.arj_law_cause.proofs.quiesces.Answered.{Kept}
use Rattle.arj_law_cause.proofs.quiesces.Limits.{limits_agree}
use Rattle.arj_law_cause.proofs.quiesces.Ties as ties
use Rattle.arj_law_cause.proofs.told.Joined as joined
use Rattle.arj_law_cause.specs.rounds.Rounds.{Did, WasWritten, behind}

abbrev did_of : Event → List Body → Did
did_of e bodies = record { event = e; bodies = bodies }

module _ (hd : Header) (form : HeaderFits hd) where
  -- these events were run by these moves, from this run so far and its world on
  abbrev pub IsWalked : List Move → Past → World → List Did → Type 0
  IsWalked ms p w [] = Kept hd form p w × ((ms ≡ []) ⊎ ((all_moved ms w).over ≡ true))
  IsWalked [] p w (d ∷ ds) = ⊥
  IsWalked (m ∷ ms) p w (d ∷ ds) = Kept hd form p w × (w.over ≡ false) × (d.event ≡ event_of m)
      × joined.Said hd form p (event_of m) d.bodies
      × IsWalked ms (next p d.event d.bodies) (moved m w) ds

  pub kept_first : (ms : List Move) (p : Past) (w : World) (ds : List Did) → IsWalked ms p w ds → Kept hd form p w
  kept_first ms p w [] k = k.0
  kept_first [] p w (d ∷ ds) k = absurd k
  kept_first (m ∷ ms) p w (d ∷ ds) k = k.0

  -- what these moves make, from this run so far and its world on
  pub record Walk (ms : List Move) (p : Past) (w : World) : Type 0 where
    pub did : List Did
    pub walked : IsWalked ms p w did
    pub events : map (λ (d : Did). d.event) did ≡ ran ms w
    pub ending : List Line
    pub lines : (all_moved ms w).lines ≡ (behind p did).lines ++ ending
    pub last : AreEnding (behind p did).count ending
    pub count : (all_moved ms w).event ≡ (behind p did).count
    pub total : (behind p did).count ≡ p.count + length did

  pub kept_on : (m : Move) (p : Past) (w : World) → Kept hd form p w → w.over ≡ false → (bodies : List Body) →
      joined.Inv hd form (next p (event_of m) bodies) (moved m w) → Kept hd form (next p (event_of m) bodies) (moved m w)
  kept_on m p w s on bodies after = record {
    all = after;
    limits = limits_agree m w on (record {
      few = (let t = ties.told hd form p w s.all in t.few);
      full = λ full. let no_way : true ≡ false = sym full ∙ (let b = ties.base hd form p w s.all in b.full on) in absurd (cc no_way);
    }) (sym s.limits ∙ on);
  }

  none_run : (ms : List Move) (p : Past) (w : World) (ending : List Line) → Kept hd form p w →
      (ms ≡ []) ⊎ ((all_moved ms w).over ≡ true) → ran ms w ≡ [] →
      (all_moved ms w).lines ≡ w.lines ++ ending → (all_moved ms w).event ≡ w.event → AreEnding w.event ending → Walk ms p w
  none_run ms p w ending s stop none lines event last =
      let lines_of = joined.written_lines hd form p w (let i = s.all in i.0.0.0) in
      let count_of = joined.count_is hd form p w s.all in
      record {
        did = [];
        walked = (s, stop);
        events = sym none;
        ending = ending;
        lines = lines ∙ ap (λ ls. ls ++ ending) (sym lines_of);
        last = subst (λ n. AreEnding n ending) (sym count_of) last;
        count = event ∙ sym count_of;
        total = zero_more p.count;
      }
    where
      zero_more : (n : ℕ) → n ≡ n + 0
      zero_more n = omega arith

  -- a run that is over stays so
  still_over : (ms : List Move) (w : World) → w.over ≡ true → (all_moved ms w).over ≡ true
  still_over [] w over = over
  still_over (m ∷ ms) w over = still_over ms (moved m w) ((λ i. (cond (over i) (record w { arms = m.falls })
      (run_unless (event_of m) (let a = m.asked in a.arm) (record w { arms = m.falls })
      (first_reason (reasons (event_of m) (record w { arms = m.falls }))))).over) ∙ over)

  pub walk : (ms : List Move) (p : Past) (w : World) → AllByRecursion IsStoppedInForm ms → Kept hd form p w → Walk ms p w
  walk [] p w stops s = none_run [] p w [] s (inl refl) refl (sym (append-nil w.lines)) refl tt
  walk (m ∷ ms) p w stops s = by w.over refl (λ q after. walk ms q (moved m w) stops.1 after)
    where
      Rest : Type 0
      Rest = (q : Past) → Kept hd form q (moved m w) → Walk ms q (moved m w)

      went : w.over ≡ false → Rest → Outcome (joined.Said hd form) (joined.Inv hd form) m p w → Walk (m ∷ ms) p w
      went on rest (Went bodies step after) =
          let k = kept_on m p w s on bodies after in
          let r = rest (next p (event_of m) bodies) k in
          record {
            did = did_of (event_of m) bodies ∷ r.did;
            walked = (s, on, refl, step, r.walked);
            events = ap (λ (es : List Event). event_of m ∷ es) r.events
                ∙ sym ((λ i. cond (on i) [] (cond ((moved m w).event == w.event) [] (event_of m ∷ ran ms (moved m w))))
                ∙ (λ i. cond (apart (moved m w).event w.event
                (sym (joined.count_is hd form (next p (event_of m) bodies) (moved m w) after)
                ∙ ap (λ n. n + 1) (joined.count_is hd form p w s.all)) i) [] (event_of m ∷ ran ms (moved m w))));
            ending = r.ending;
            lines = r.lines;
            last = r.last;
            count = r.count;
            total = r.total ∙ more p.count (length r.did);
          }
        where
          apart : (a b : ℕ) → a ≡ b + 1 → (a == b) ≡ false
          apart a b is = grind (arith, nat_tests, is)

          more : (a b : ℕ) → (a + 1) + b ≡ a + suc b
          more a b = omega arith
      went on rest (Ended over event lines) =
          let o = over_stays ms (moved m w) over in
          none_run (m ∷ ms) p w (block w.event (body.Limit which.Labels ∷ [])) s (inr (still_over ms (moved m w) over))
          ((λ i. cond (on i) [] (cond ((moved m w).event == w.event) [] (event_of m ∷ ran ms (moved m w))))
          ∙ (λ i. cond (same (moved m w).event w.event event i) [] (event_of m ∷ ran ms (moved m w))))
          (o.0 ∙ lines) (o.1 ∙ event) (refl, refl)
        where
          same : (a b : ℕ) → a ≡ b → (a == b) ≡ true
          same a b is = grind (arith, nat_tests, is)

      by : (b : Bool) → w.over ≡ b → Rest → Walk (m ∷ ms) p w
      by true over rest =
          let o = over_stays (m ∷ ms) w over in
          none_run (m ∷ ms) p w [] s (inr (still_over (m ∷ ms) w over)) (λ i. cond (over i) [] (cond ((moved m w).event == w.event) []
          (event_of m ∷ ran ms (moved m w))))
          (o.0 ∙ sym (append-nil w.lines)) o.1 tt
      by false on rest = went on rest (joined.goes hd form m p w stops.0 s.all on)

  -- ---- where it goes on behind some events

  pub record Goes (ms : List Move) (p : Past) (w : World) (before rest : List Did) : Type 0 where
    pub done : List Move
    pub left : List Move
    pub are : ms ≡ done ++ left
    pub events : map event_of done ≡ map (λ (d : Did). d.event) before
    pub walked : IsWalked left (behind p before) (all_moved done w) rest

  pub goes_behind : (before rest : List Did) (ms : List Move) (p : Past) (w : World) → IsWalked ms p w (before ++ rest) →
      Goes ms p w before rest
  goes_behind [] rest ms p w walked = record { done = []; left = ms; are = refl; events = refl; walked = walked }
  goes_behind (d ∷ before) rest [] p w walked = absurd walked
  goes_behind (d ∷ before) rest (m ∷ ms) p w walked =
      let g = goes_behind before rest ms (next p d.event d.bodies) (moved m w) walked.4 in
      record {
        done = m ∷ g.done;
        left = g.left;
        are = ap (λ (ns : List Move). m ∷ ns) g.are;
        events = (λ i. sym walked.2 i ∷ g.events i);
        walked = g.walked;
      }

  -- what each event leaves and what it wrote holds along the run
  pub along : (Step : Past → Event → List Body → Type 0) (st : Start) (formed : IsFormed hd st) →
      ((front : Run hd) (m : Move) (p : Past) (bodies : List Body) → HasFewBindings (moved m (world_by hd front)).lines →
      Kept hd form p (world_by hd front) →
      (let x = world_by hd front in x.over) ≡ false → joined.Said hd form p (event_of m) bodies →
      Kept hd form (next p (event_of m) bodies) (moved m (world_by hd front)) → Step p (event_of m) bodies) →
      (front : Run hd) (ds : List Did) (ms : List Move) (p : Past) → length front.moves + length ms ≤ most_events →
      IsWalked ms p (world_by hd front) ds → Along Step p (map (λ (d : Did). d.event) ds) (behind p ds)
  along Step st formed gives front [] ms p short walked = refl
  along Step st formed gives front (d ∷ ds) [] p short walked = absurd walked
  along Step st formed gives front (d ∷ ds) (m ∷ ms) p short walked =
      let on : IsWalked ms (next p d.event d.bodies) (world_by hd (then front (m ∷ []))) ds =
      subst (λ x. IsWalked ms (next p d.event d.bodies) x ds) (sym (more_moves front.moves (m ∷ [])
      (world_from hd front.start))) walked.4 in (
        d.bodies,
        subst (λ e. Step p e d.bodies) (sym walked.2) (gives front m p d.bodies few walked.0 walked.1 walked.3
            (subst (λ e. Kept hd form (next p e d.bodies) (moved m (world_by hd front))) walked.2
            (kept_first ms (next p d.event d.bodies) (moved m (world_by hd front)) ds walked.4))),
        along Step st formed gives (then front (m ∷ [])) ds ms (next p d.event d.bodies)
            (subst (λ n. n + length ms ≤ most_events) (sym (length-append front.moves (m ∷ [])))
            (one_on (length front.moves) (length ms) short)) on,
      )
    where
      one_on : (a b : ℕ) → a + suc b ≤ most_events → (a + 1) + b ≤ most_events
      one_on a b le = omega (arith, le)

      least : (a b : ℕ) → a + suc b ≤ most_events → a + 1 ≤ most_events
      least a b le = omega (arith, le)

      few : HasFewBindings (moved m (world_by hd front)).lines
      few = subst (λ (x : World). HasFewBindings x.lines) (more_moves front.moves (m ∷ []) (world_from hd front.start))
          (moves_few hd (then front (m ∷ [])) (subst (λ n. n ≤ most_events) (sym (length-append front.moves (m ∷ [])))
          (least (length front.moves) (length ms) short)))

  -- ---- a run

  pub first_kept : (st : Start) → IsFormed hd st → Kept hd form (at_start st) (world_from hd st)
  first_kept st formed = record { all = joined.first_stands hd form st formed; limits = refl }

  pub run_walk : (r : Run hd) → IsInForm hd r → Walk r.moves (at_start r.start) (world_from hd r.start)
  run_walk r its = walk r.moves (at_start r.start) (world_from hd r.start) its.stops (first_kept r.start r.formed)

  pub run_written : (r : Run hd) (its : IsInForm hd r) → let k = run_walk r its in WasWritten r.start (run_events hd r)
      (journal_by hd r) k.did
  run_written r its =
      let k = run_walk r its in
      let long : (world_by hd r).event ≡ length (ran r.moves (world_from hd r.start)) = k.count ∙ k.total ∙ first (length k.did) ∙ many in
      let es : run_events hd r ≡ ran r.moves (world_from hd r.start) =
      ap (λ n. take n (map event_of r.moves)) long ∙ ran_first r.moves (world_from hd r.start) in
      record {
        events = k.events ∙ sym es;
        ending = k.ending;
        lines = k.lines;
        last = subst (λ n. AreEnding n k.ending) (k.total ∙ first (length k.did) ∙ many ∙ ap (λ (xs : List Event). length xs)
            (sym es)) k.last;
      }
    where
      first : (n : ℕ) → 0 + n ≡ n
      first n = omega arith

      many : (let k = run_walk r its in length k.did) ≡ length (ran r.moves (world_from hd r.start))
      many = let k = run_walk r its in sym (Words.length-map k.did (λ (d : Did). d.event)) ∙ ap (λ (xs : List Event). length xs) k.events

  -- what each event leaves and what it wrote holds of the events of a run
  pub runs_so : (Step : Past → Event → List Body → Type 0) → ((front : Run hd) (m : Move) (p : Past) (bodies : List Body) →
      HasFewBindings (moved m (world_by hd front)).lines → Kept hd form p (world_by hd front) →
      (let x = world_by hd front in x.over) ≡ false → joined.Said hd form p (event_of m) bodies →
      Kept hd form (next p (event_of m) bodies) (moved m (world_by hd front)) → Step p (event_of m) bodies) → (r : Run hd) → IsInForm hd r →
      Runs Step r.start (run_events hd r) (journal_by hd r)
  runs_so Step gives r its =
      let k = run_walk r its in
      let w = run_written r its in (
        behind (at_start r.start) k.did,
        w.ending,
        subst (λ es. Along Step (at_start r.start) es (behind (at_start r.start) k.did)) w.events
            (along Step r.start r.formed gives (record r { moves = [] }) k.did r.moves (at_start r.start) (none
            (length r.moves) its.few) k.walked),
        w.lines,
        w.last,
      )
    where
      none : (n : ℕ) → n ≤ most_events → 0 + n ≤ most_events
      none n le = omega (arith, le)
