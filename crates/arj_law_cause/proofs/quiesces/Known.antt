-- That a journal tells how the nodes of its run are.
use Rattle.arj_law_parts.proofs.Words
use Words.{◌≡◌, ◌∙◌, ◌+◌, ◌++◌, not, ℕ, Bool, true, false, List, [], ◌∷◌, refl, sym, ap, subst, AllByRecursion, Body, Event, Header, Line, Node, World, Move}
use Words.{all_moved, moved, world_by, world_from, journal_by, is_up, is_up_at, at_place, lowest_from, None, first_reason, reasons, run_event, run_unless, Start, Frame}
use Words.body
use Rattle.arj_law_parts.proofs.Terms.which
use Rattle.arj_law_runs.proofs.follow.Along.{Ended, Outcome, Went, event_of}
use Rattle.arj_law_runs.proofs.follow.Telling.{down_on}
use Rattle.arj_model.specs.Past.{Past, at_start, block, next}
use Rattle.arj_model.specs.Refusals.{is_down, is_node, open_frames, open_from, open_step}
use Rattle.arj_promise.specs.Runs.{HeaderFits, IsStoppedInForm}
use Rattle.arj_law_cause.proofs.kinds.Filling.{IsFilled}
use Rattle.arj_law_cause.proofs.quiesces.Answered.{Kept}
use Rattle.arj_law_cause.proofs.quiesces.Limits.{ended_same, limits_agree}
use Rattle.arj_law_cause.proofs.quiesces.Ties as ties
use Rattle.arj_law_cause.proofs.quiesces.Walked as walked
use Rattle.arj_law_cause.proofs.told.Joined as joined
use Rattle.arj_law_cause.proofs.waits.waiting.Running.{runs_wait}
use Rattle.arj_law_cause.specs.rounds.Known.{RunsAreKnown, has_limit}

module _ (hd : Header) (form : HeaderFits hd) where
  -- who is up, which frames are open and whether the run is over, by these lines of a run that began so
  record Tells (st : Start) (lines : List Line) (w : World) : Type 0 where
    pub ups : (n : ℕ) → is_node hd n ≡ true → is_up_at n w ≡ not (is_down st lines n)
    pub closed : open_frames lines ≡ [] → lowest_from 1 w.frames ≡ None
    pub none : lowest_from 1 w.frames ≡ None → open_frames lines ≡ []
    pub limits : w.over ≡ has_limit lines

  tells_of : (p : Past) (w : World) → Kept hd form p w → Tells p.start w.lines w
  tells_of p w s = subst (λ ls. Tells p.start ls w) (ties.same_lines hd form p w s.all) (record {
    ups = ties.ups hd form p w s.all;
    closed = ties.none_open hd form p w s.all;
    none = ties.open_none hd form p w s.all;
    limits = s.limits ∙ ap has_limit (sym (ties.same_lines hd form p w s.all));
  })

  open_on : (ks : List ℕ) (ls : List Line) (n : ℕ) → open_from ks (ls ++ record { event = n; body = body.Limit which.Labels } ∷ []) ≡ open_from ks ls
  open_on ks [] n = refl
  open_on ks (l ∷ ls) n = open_on (open_step l.body ks) ls n

  -- a run that is over stays as it is
  over_is : (m : Move) (w : World) → w.over ≡ true → moved m w ≡ record w { arms = [] }
  over_is m w is = λ i. record (Words.cond (is i) (record w { arms = m.falls })
      (run_unless (event_of m) (let a = m.asked in a.arm) (record w { arms = m.falls })
      (first_reason (reasons (event_of m) (record w { arms = m.falls }))))) { arms = [] }

  tells_same : (st : Start) (w v : World) → v.lines ≡ w.lines → v.nodes ≡ w.nodes → v.frames ≡ w.frames → v.over ≡ w.over →
      Tells st w.lines w → Tells st v.lines v
  tells_same st w v lines nodes frames over t = record {
    ups = λ n node. ap (λ (ns : List Node). is_up (at_place n ns)) nodes ∙ t.ups n node ∙ ap (λ ls. not (is_down st ls n)) (sym lines);
    closed = λ none. ap (lowest_from 1) frames ∙ t.closed (ap open_frames (sym lines) ∙ none);
    none = λ none. ap open_frames lines ∙ t.none (ap (lowest_from 1) (sym frames) ∙ none);
    limits = over ∙ t.limits ∙ ap has_limit (sym lines);
  }

  over_tells : (st : Start) (ms : List Move) (w : World) → w.over ≡ true → Tells st w.lines w →
      Tells st (all_moved ms w).lines (all_moved ms w)
  over_tells st [] w over t = t
  over_tells st (m ∷ ms) w over t =
      let is = over_is m w over in
      over_tells st ms (moved m w) (ap (λ (x : World). x.over) is ∙ over)
      (tells_same st w (moved m w) (ap (λ (x : World). x.lines) is) (ap (λ (x : World). x.nodes) is) (ap (λ (x : World). x.frames) is)
      (ap (λ (x : World). x.over) is) t)

  -- no label was left for the event
  ended_tells : (st : Start) (m : Move) (p : Past) (w : World) → Kept hd form p w → w.over ≡ false → p.start ≡ st → (moved m w).over ≡ true → (n : ℕ) →
      (moved m w).lines ≡ w.lines ++ block n (body.Limit which.Labels ∷ []) → Tells st (moved m w).lines (moved m w)
  ended_tells st m p w s on start over n lines =
      let filled : IsFilled w = record {
        few = (let t = ties.told hd form p w s.all in t.few);
        full = λ full. let no_way : true ≡ false = sym full ∙ (let b = ties.base hd form p w s.all in b.full on) in absurd (cc no_way);
      } in
      let same = ended_same m w on filled (sym s.limits ∙ on) over n lines in
      let t = subst (λ x. Tells x w.lines w) start (tells_of p w s) in
      record {
        ups = λ k node. ap (λ (ns : List Node). is_up (at_place k ns)) same.0 ∙ t.ups k node
            ∙ ap not (sym (down_on n (body.Limit which.Labels) k (not (st.up k)) w.lines)) ∙ ap (λ ls. not (is_down st ls k)) (sym lines);
        closed = λ none. ap (lowest_from 1) same.1 ∙ t.closed (sym (open_on [] w.lines n) ∙ ap open_frames (sym lines) ∙ none);
        none = λ none. ap open_frames lines ∙ open_on [] w.lines n ∙ t.none (ap (lowest_from 1) (sym same.1) ∙ none);
        limits = limits_agree m w on filled (sym s.limits ∙ on);
      }

  moves_tell : (st : Start) (ms : List Move) (p : Past) (w : World) → AllByRecursion IsStoppedInForm ms → Kept hd form p w → p.start ≡ st →
      Tells st (all_moved ms w).lines (all_moved ms w)
  moves_tell st [] p w stops s start = subst (λ x. Tells x w.lines w) start (tells_of p w s)
  moves_tell st (m ∷ ms) p w stops s start = by w.over refl (λ q after is. moves_tell st ms q (moved m w) stops.1 after is)
    where
      Rest : Type 0
      Rest = (q : Past) → Kept hd form q (moved m w) → q.start ≡ st → Tells st (all_moved ms (moved m w)).lines (all_moved ms (moved m w))

      went : w.over ≡ false → Rest → Outcome (joined.Said hd form) (joined.Inv hd form) m p w →
          Tells st (all_moved ms (moved m w)).lines (all_moved ms (moved m w))
      went on rest (Went bodies step after) = rest (next p (event_of m) bodies) (walked.kept_on hd form m p w s on bodies after) start
      went on rest (Ended over event lines) = over_tells st ms (moved m w) over (ended_tells st m p w s on start over w.event lines)

      by : (b : Bool) → w.over ≡ b → Rest → Tells st (all_moved ms (moved m w)).lines (all_moved ms (moved m w))
      by true over rest = over_tells st (m ∷ ms) w over (subst (λ x. Tells x w.lines w) start (tells_of p w s))
      by false on rest = went on rest (joined.goes hd form m p w stops.0 s.all on)

pub runs_are_known : RunsAreKnown
runs_are_known hd r its =
    let t = moves_tell hd its.header r.start r.moves (at_start r.start) (world_from hd r.start) its.stops
    (walked.first_kept hd its.header r.start r.formed) refl in
    record { waits = runs_wait hd r its; ups = t.ups; frames = (t.closed, t.none); limits = t.limits }
