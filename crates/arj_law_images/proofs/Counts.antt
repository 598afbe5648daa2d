-- The numbers of a journal's lines: no event's is above the count of events, and no frame's above that of the last frame that was sent.
use Rattle.arj_law_parts.proofs.Words
use Words.{◌≡◌, ◌∙◌, ◌≤◌, ◌+◌, ◌==◌, ◌&&◌, ◌||◌, ℕ, zero, suc, Bool, true, false, List, [], ◌∷◌, ◌++◌, length, map, take, refl, sym, ap, subst}
use Words.{arith, AllByRecursion, and_parts, eqb-true, Body, Event, Header, Line, IsInForm, Move, World, all_moved, moved, journal_by}
use Words.{world_by, world_from, most_events, most_frames, append-nil, append_assoc}
use Words.body
use Rattle.arj_law_runs.proofs.Terms.{Run}
use Rattle.arj_law_parts.proofs.Terms.which
use Rattle.arj_law_runs.proofs.follow.{Along.Ended, Along.Outcome, Along.Went, Along.event_of, Along.over_stays}
use Rattle.arj_law_runs.proofs.follow.Frames as frames
use Rattle.arj_law_runs.specs.follow.Frames.{FramesStep, are_so, frame_fits, run_events}
use Rattle.arj_model.specs.CausePends.{frame_is, sends}
use Rattle.arj_model.specs.CauseSpans.{Here, behind, here_at}
use Rattle.arj_model.specs.CauseNodes.{delivers, loses}
use Rattle.arj_model.specs.Follows.{AreEnding, Runs, is_ending}
use Rattle.arj_model.specs.Past.{Along, Past, at_start, block, next}
use Rattle.arj_model.specs.Refusals.{frame_from, frame_step, has_frame, last_frame}
use Rattle.arj_promise.specs.Runs.{HeaderFits, IsStoppedInForm}
use Rattle.arj_protocol.specs.Words.{FrameKind}
use Rattle.arj_rest.specs.Nodes.{frame_of}
use Rattle.arj_law_runs.proofs.follow.Telling.{has_is as frame_has}

-- ---- events

-- no line is of an event behind this one
abbrev pub EventsFit : ℕ → List Line → Type 0
EventsFit n lines = AllByRecursion (λ (l : Line). l.event ≤ n) lines

events_later : (m n : ℕ) (lines : List Line) → m ≤ n → EventsFit m lines → EventsFit n lines
events_later m n [] le all = tt
events_later m n (l ∷ lines) le all = (let a = all.0 in omega (arith, a, le), events_later m n lines le all.1)

events_both : (n : ℕ) (ls ks : List Line) → EventsFit n ls → EventsFit n ks → EventsFit n (ls ++ ks)
events_both n [] ks a b = b
events_both n (l ∷ ls) ks a b = (a.0, events_both n ls ks a.1 b)

events_block : (n : ℕ) (bs : List Body) → EventsFit n (block n bs)
events_block n [] = tt
events_block n (b ∷ bs) = (itself n, events_block n bs)
  where
    itself : (m : ℕ) → m ≤ m
    itself m = omega arith

events_along : (P : Past → Event → List Body → Type 0) (p : Past) (es : List Event) (end : Past) → Along P p es end →
    EventsFit p.count p.lines → EventsFit end.count end.lines × (end.count ≡ p.count + length es)
events_along P p [] end along all = (
  subst (λ (q : Past). EventsFit q.count q.lines) along all,
  ap (λ (q : Past). q.count) (sym along)
      ∙ none p.count,
)
  where
    none : (n : ℕ) → n ≡ n + 0
    none n = omega arith
events_along P p (e ∷ es) end (bodies, step, rest) all =
    let r = events_along P (next p e bodies) es end rest (events_both (p.count + 1) p.lines (block (p.count + 1) bodies)
    (events_later p.count (p.count + 1) p.lines (one p.count) all) (events_block (p.count + 1) bodies)) in
    (r.0, r.1 ∙ more p.count (length es))
  where
    one : (n : ℕ) → n ≤ n + 1
    one n = omega arith

    more : (a b : ℕ) → (a + 1) + b ≡ a + suc b
    more a b = omega arith

events_ending : (n : ℕ) (ending : List Line) → AreEnding n ending → EventsFit n ending
events_ending n [] are = tt
events_ending n (l ∷ []) are = (same l.event n are.0, tt)
  where
    same : (a b : ℕ) → a ≡ b → a ≤ b
    same a b is = omega (arith, is)
events_ending n (l ∷ k ∷ ls) are = absurd are

short : {A : Type 0} (n : ℕ) (xs : List A) → length (take n xs) ≤ n
short zero xs = omega arith
short (suc n) [] = omega arith
short (suc n) (x ∷ xs) = let s = short n xs in omega (arith, s)

pub events_fit : (hd : Header) (r : Run hd) → IsInForm hd r → EventsFit (let w = world_by hd r in w.event) (journal_by hd r)
events_fit hd r form = by (frames.frames_are_caused hd r form)
  where
    by : Runs (FramesStep hd) r.start (run_events hd r) (journal_by hd r) → EventsFit (let w = world_by hd r in w.event) (journal_by hd r)
    by (end, ending, along, lines, last) =
        let a = events_along (FramesStep hd) (at_start r.start) (run_events hd r) end along tt in
        let count : end.count ≡ length (run_events hd r) = a.1 ∙ none (length (run_events hd r)) in
        events_later (length (run_events hd r)) (world_by hd r).event (journal_by hd r)
        (short (world_by hd r).event (map (λ (m : Move). let e = m.asked in e.event) r.moves))
        (subst (EventsFit (length (run_events hd r))) (sym lines)
        (events_both (length (run_events hd r)) end.lines ending (subst (λ n. EventsFit n end.lines) count a.0)
        (events_ending (length (run_events hd r)) ending last)))
      where
        none : (n : ℕ) → 0 + n ≡ n
        none n = omega arith

-- ---- frames

-- no line names a frame behind this one
abbrev pub FramesFit : ℕ → List Line → Type 0
FramesFit k lines = AllByRecursion (λ (l : Line). frame_of l.body ≤ k) lines

frames_later : (j k : ℕ) (lines : List Line) → j ≤ k → FramesFit j lines → FramesFit k lines
frames_later j k [] le all = tt
frames_later j k (l ∷ lines) le all = (let a = all.0 in omega (arith, a, le), frames_later j k lines le all.1)

frames_both : (k : ℕ) (ls ks : List Line) → FramesFit k ls → FramesFit k ks → FramesFit k (ls ++ ks)
frames_both k [] ks a b = b
frames_both k (l ∷ ls) ks a b = (a.0, frames_both k ls ks a.1 b)

last_on : (last : ℕ) (ls : List Line) (l : Line) → frame_from last (ls ++ l ∷ []) ≡ frame_step l.body (frame_from last ls)
last_on last [] l = refl
last_on last (m ∷ ls) l = last_on (frame_step m.body last) ls l

-- a frame that was sent isn't behind the last one
was_sent : (test : ℕ → ℕ → FrameKind → Bool) (k last : ℕ) (lines : List Line) → FramesFit last lines → frame_is test lines k ≡ true → k ≤ last
was_sent test k last [] all is = absurd (cc is)
was_sent test k last (l ∷ lines) all is = by l.body (was_sent test k last lines all.1) all.0 is
  where
    by : (b : Body) → (frame_is test lines k ≡ true → k ≤ last) → frame_of b ≤ last → (sends test k b || frame_is test lines k) ≡ true → k ≤ last
    by (body.Sent j from to what) ih low any = sent (j == k) refl any
      where
        sent : (t : Bool) → (j == k) ≡ t → ((t && test from to what) || frame_is test lines k) ≡ true → k ≤ last
        sent true same found = let e = eqb-true j k same in omega (arith, e, low)
        sent false other found = ih found
    by (body.Began a b c d) ih low any = ih any
    by (body.Ok a b c d) ih low any = ih any
    by (body.Includes a b c) ih low any = ih any
    by (body.Conflict a b c d) ih low any = ih any
    by (body.Lost a b) ih low any = ih any
    by (body.Changed a b c) ih low any = ih any
    by (body.Committing a) ih low any = ih any
    by (body.Committed a) ih low any = ih any
    by (body.Ended a) ih low any = ih any
    by (body.Aborted a b) ih low any = ih any
    by (body.GaveUp a b) ih low any = ih any
    by (body.Excluded a b c) ih low any = ih any
    by (body.Granted a b c d) ih low any = ih any
    by (body.Lowered a b c) ih low any = ih any
    by (body.Bound a b c) ih low any = ih any
    by (body.Active a b c) ih low any = ih any
    by (body.Told a b c d) ih low any = ih any
    by (body.Prepared a b c) ih low any = ih any
    by (body.Done a b c d) ih low any = ih any
    by (body.Got a) ih low any = ih any
    by (body.Void a) ih low any = ih any
    by (body.Dropped a) ih low any = ih any
    by (body.Halted a) ih low any = ih any
    by (body.Up a b) ih low any = ih any
    by (body.Armed a) ih low any = ih any
    by (body.Recovered a b) ih low any = ih any
    by (body.Refused a) ih low any = ih any
    by (body.Entry a b c d) ih low any = ih any
    by (body.Copy a b c d e) ih low any = ih any
    by (body.Quiet a) ih low any = ih any
    by (body.Bad a) ih low any = ih any
    by (body.Limit a) ih low any = ih any

has_is : (k : ℕ) (lines : List Line) → has_frame lines k ≡ true → frame_is (λ from to what. true) lines k ≡ true
has_is k lines is = sym (frame_has lines k) ∙ is

-- the last frame that was sent behind one line more
frame_on : (h : Here) (b : Body) → FramesFit (last_frame h.lines) h.lines → frame_fits h b ≡ true →
    FramesFit (last_frame (behind h b).lines) (behind h b).lines
frame_on h b all fits = subst (λ k. FramesFit k (h.lines ++ record { event = h.number; body = b } ∷ []))
    (sym (last_on 0 h.lines (record { event = h.number; body = b }))) (by b fits)
  where
    keeps : (c : Body) → frame_of c ≤ last_frame h.lines → FramesFit (last_frame h.lines) (h.lines ++ record { event = h.number; body = c } ∷ [])
    keeps c low = frames_both (last_frame h.lines) h.lines (record { event = h.number; body = c } ∷ []) all (low, tt)

    zero_low : (n : ℕ) → 0 ≤ n
    zero_low n = omega arith

    by : (c : Body) → frame_fits h c ≡ true →
        FramesFit (frame_step c (last_frame h.lines)) (h.lines ++ record { event = h.number; body = c } ∷ [])
    by (body.Sent k from to what) is =
        let same = eqb-true k (last_frame h.lines + 1) (and_parts (k == last_frame h.lines + 1) _ is).0 in
        frames_both k h.lines (record { event = h.number; body = body.Sent k from to what } ∷ [])
        (frames_later (last_frame h.lines) k h.lines (omega (arith, same)) all) (itself k, tt)
      where
        itself : (m : ℕ) → m ≤ m
        itself m = omega arith
    by (body.Got k) is = keeps (body.Got k)
        (was_sent _ k (last_frame h.lines) h.lines all (and_parts (delivers h k h.event) _ is).1)
    by (body.Void k) is = keeps (body.Void k)
        (was_sent _ k (last_frame h.lines) h.lines all (and_parts (delivers h k h.event) _ is).1)
    by (body.Dropped k) is = keeps (body.Dropped k)
        (was_sent (λ from to what. true) k (last_frame h.lines) h.lines all (has_is k h.lines (and_parts (loses h k h.event) _ is).1))
    by (body.Began x y z v) is = keeps (body.Began x y z v) (zero_low (last_frame h.lines))
    by (body.Ok x y z v) is = keeps (body.Ok x y z v) (zero_low (last_frame h.lines))
    by (body.Includes x y z) is = keeps (body.Includes x y z) (zero_low (last_frame h.lines))
    by (body.Conflict x y z v) is = keeps (body.Conflict x y z v) (zero_low (last_frame h.lines))
    by (body.Lost x y) is = keeps (body.Lost x y) (zero_low (last_frame h.lines))
    by (body.Changed x y z) is = keeps (body.Changed x y z) (zero_low (last_frame h.lines))
    by (body.Committing x) is = keeps (body.Committing x) (zero_low (last_frame h.lines))
    by (body.Committed x) is = keeps (body.Committed x) (zero_low (last_frame h.lines))
    by (body.Ended x) is = keeps (body.Ended x) (zero_low (last_frame h.lines))
    by (body.Aborted x y) is = keeps (body.Aborted x y) (zero_low (last_frame h.lines))
    by (body.GaveUp x y) is = keeps (body.GaveUp x y) (zero_low (last_frame h.lines))
    by (body.Excluded x y z) is = keeps (body.Excluded x y z) (zero_low (last_frame h.lines))
    by (body.Granted x y z v) is = keeps (body.Granted x y z v) (zero_low (last_frame h.lines))
    by (body.Lowered x y z) is = keeps (body.Lowered x y z) (zero_low (last_frame h.lines))
    by (body.Bound x y z) is = keeps (body.Bound x y z) (zero_low (last_frame h.lines))
    by (body.Active x y z) is = keeps (body.Active x y z) (zero_low (last_frame h.lines))
    by (body.Told x y z v) is = keeps (body.Told x y z v) (zero_low (last_frame h.lines))
    by (body.Prepared x y z) is = keeps (body.Prepared x y z) (zero_low (last_frame h.lines))
    by (body.Done x y z v) is = keeps (body.Done x y z v) (zero_low (last_frame h.lines))
    by (body.Halted x) is = keeps (body.Halted x) (zero_low (last_frame h.lines))
    by (body.Up x y) is = keeps (body.Up x y) (zero_low (last_frame h.lines))
    by (body.Armed x) is = keeps (body.Armed x) (zero_low (last_frame h.lines))
    by (body.Recovered x y) is = keeps (body.Recovered x y) (zero_low (last_frame h.lines))
    by (body.Refused x) is = keeps (body.Refused x) (zero_low (last_frame h.lines))
    by (body.Entry x y z v) is = keeps (body.Entry x y z v) (zero_low (last_frame h.lines))
    by (body.Copy x y z v u) is = keeps (body.Copy x y z v u) (zero_low (last_frame h.lines))
    by (body.Quiet x) is = keeps (body.Quiet x) (zero_low (last_frame h.lines))
    by (body.Bad x) is = keeps (body.Bad x) (zero_low (last_frame h.lines))
    by (body.Limit x) is = keeps (body.Limit x) (zero_low (last_frame h.lines))

frames_event : (h : Here) (bs : List Body) → FramesFit (last_frame h.lines) h.lines → are_so frame_fits h bs ≡ true →
    FramesFit (last_frame (h.lines ++ block h.number bs)) (h.lines ++ block h.number bs)
frames_event h [] all fits = subst (λ ls. FramesFit (last_frame ls) ls) (sym (append-nil h.lines)) all
frames_event h (b ∷ bs) all fits =
    let p = and_parts (frame_fits h b) (are_so frame_fits (behind h b) bs) fits in
    subst (λ ls. FramesFit (last_frame ls) ls) (append_assoc h.lines (record { event = h.number; body = b } ∷ []) (block h.number bs))
    (frames_event (behind h b) bs (frame_on h b all p.0) p.1)

frames_along : (hd : Header) (p : Past) (es : List Event) (end : Past) → Along (FramesStep hd) p es end →
    FramesFit (last_frame p.lines) p.lines → FramesFit (last_frame end.lines) end.lines
frames_along hd p [] end along all = subst (λ (q : Past). FramesFit (last_frame q.lines) q.lines) along all
frames_along hd p (e ∷ es) end (bodies, step, rest) all =
    frames_along hd (next p e bodies) es end rest (frames_event (here_at hd p e bodies) bodies all step)

frames_ending : (n : ℕ) (lines ending : List Line) → AreEnding n ending → FramesFit (last_frame lines) lines →
    FramesFit (last_frame (lines ++ ending)) (lines ++ ending)
frames_ending n lines [] are all = subst (λ ls. FramesFit (last_frame ls) ls) (sym (append-nil lines)) all
frames_ending n lines (l ∷ []) are all = subst (λ k. FramesFit k (lines ++ l ∷ [])) (sym (last_on 0 lines l)) (by l.body are.1)
  where
    low : (m : ℕ) → 0 ≤ m
    low m = omega arith

    keeps : frame_step l.body (last_frame lines) ≡ last_frame lines → frame_of l.body ≡ 0 →
        FramesFit (frame_step l.body (last_frame lines)) (lines ++ l ∷ [])
    keeps same none = subst (λ k. FramesFit k (lines ++ l ∷ [])) (sym same)
        (frames_both (last_frame lines) lines (l ∷ []) all (subst (λ k. k ≤ last_frame lines) (sym none) (low (last_frame lines)), tt))

    by : (b : Body) → is_ending b ≡ true → FramesFit (frame_step l.body (last_frame lines)) (lines ++ l ∷ [])
    by b is = keeps (ends l.body are.1).0 (ends l.body are.1).1
      where
        ends : (c : Body) → is_ending c ≡ true → (frame_step c (last_frame lines) ≡ last_frame lines) × (frame_of c ≡ 0)
        ends (body.Bad n) on = (refl, refl)
        ends (body.Limit w) on = (refl, refl)
        ends c on = absurd (cc on)
frames_ending n lines (l ∷ k ∷ ls) are all = absurd are

pub frames_fit : (hd : Header) (r : Run hd) → IsInForm hd r → FramesFit (last_frame (journal_by hd r)) (journal_by hd r)
frames_fit hd r form = by (frames.frames_are_caused hd r form)
  where
    by : Runs (FramesStep hd) r.start (run_events hd r) (journal_by hd r) → FramesFit (last_frame (journal_by hd r)) (journal_by hd r)
    by (end, ending, along, lines, last) = subst (λ ls. FramesFit (last_frame ls) ls) (sym lines)
        (frames_ending (length (run_events hd r)) end.lines ending last (frames_along hd (at_start r.start) (run_events hd r) end along tt))

-- ---- how many there may be

-- the frames that were sent are few, and so are the events
abbrev AreFew : ℕ → World → Type 0
AreFew n w = (last_frame w.lines ≤ most_frames) × (w.event ≤ n)

module _ (hd : Header) (form : HeaderFits hd) where
  few_from : (ms : List Move) (p : Past) (w : World) → AllByRecursion IsStoppedInForm ms → frames.Stands hd form p w →
      AreFew (w.event + length ms) (all_moved ms w)
  few_from [] p w stops s = (
    subst (λ k. k ≤ most_frames) (sym s.tells.last ∙ ap last_frame s.lines) s.few,
    none w.event,
  )
    where
      none : (n : ℕ) → n ≤ n + 0
      none n = omega arith
  few_from (m ∷ ms) p w stops s = by (λ q t. few_from ms q (moved m w) stops.1 t) w.over refl
    where
      Later : Type 0
      Later = (q : Past) → frames.Stands hd form q (moved m w) → AreFew ((moved m w).event + length ms) (all_moved ms (moved m w))

      low : last_frame w.lines ≤ most_frames
      low = subst (λ k. k ≤ most_frames) (sym s.tells.last ∙ ap last_frame s.lines) s.few

      none : (a b : ℕ) → a ≤ a + b
      none a b = omega arith

      went : Later → (q : Past) → q.count ≡ p.count + 1 → frames.Stands hd form q (moved m w) →
          AreFew (w.event + length (m ∷ ms)) (all_moved ms (moved m w))
      went rest q count after =
          let r = rest q after in
          (r.0, later (all_moved ms (moved m w)).event (moved m w).event (length ms) q.count p.count w.event r.1 (sym after.count) count s.count)
        where
          later : (x a l b c d : ℕ) → x ≤ a + l → a ≡ b → b ≡ c + 1 → c ≡ d → x ≤ d + suc l
          later x a l b c d le e f g = omega (arith, le, e, f, g)

      by : Later → (b : Bool) → w.over ≡ b → AreFew (w.event + length (m ∷ ms)) (all_moved ms (moved m w))
      by rest true is =
          let o = over_stays (m ∷ ms) w is in (
            subst (λ ls. last_frame ls ≤ most_frames) (sym o.0) low,
            subst (λ n. n ≤ w.event + length (m ∷ ms)) (sym o.1)
                (none w.event (length (m ∷ ms))),
          )
      by rest false is = out (frames.goes hd form m p w stops.0 s is)
        where
          out : Outcome (FramesStep hd) (frames.Stands hd form) m p w → AreFew (w.event + length (m ∷ ms)) (all_moved ms (moved m w))
          out (Went bodies step after) = went rest (next p (event_of m) bodies) refl after
          out (Ended over event lines) =
              let o = over_stays ms (moved m w) over in
              let l : Line = record { event = w.event; body = body.Limit which.Labels } in (
                subst (λ ls. last_frame ls ≤ most_frames) (sym (o.0 ∙ lines)) (subst (λ k. k ≤ most_frames) (sym (last_on 0 w.lines l)) low),
                subst (λ n. n ≤ w.event + length (m ∷ ms)) (sym (o.1 ∙ event)) (none w.event (length (m ∷ ms))),
              )

pub are_few : (hd : Header) (r : Run hd) → IsInForm hd r → AreFew most_events (world_by hd r)
are_few hd r form =
    let f = few_from hd form.header r.moves (at_start r.start) (world_from hd r.start) form.stops
    (frames.first_stands hd form.header r.start r.formed) in
    (f.0, most (world_by hd r).event (length r.moves) f.1 form.few)
  where
    most : (e l : ℕ) → e ≤ 0 + l → l ≤ most_events → e ≤ most_events
    most e l le few = omega (arith, le, few)
