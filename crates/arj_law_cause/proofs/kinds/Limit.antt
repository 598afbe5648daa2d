-- The row of limits: within an event a limit is that of frames, and as many were sent as a run may send.
use Rattle.arj_law_parts.proofs.Words
use Words.{◌≡◌, ◌∙◌, ◌+◌, ◌==◌, ◌&&◌, not, ℕ, Bool, true, false, cond, List, [], ◌∷◌, ◌++◌, length, map, refl, sym, ap}
use Words.{subst, arith, append-nil}
use Words.{append_assoc, map-append, nat_tests, Option, Some, None, AllByRecursion, Arm, Body, Event, Header, Line, Move, World}
use Words.{counted}
use Words.{first_reason, giving, happens, lacks_labels, limited, moved, most_frames, no_labels, reasons, run_unless, world_from}
use Words.{list_all}
use Words.body
use Rattle.arj_law_parts.proofs.Terms.{says}
use Rattle.arj_law_parts.proofs.Terms.which
use Rattle.arj_law_parts.specs.steps.Spoken.{is_of_parts}
use Rattle.arj_law_runs.proofs.follow.Along.{Ended, Outcome, Went, event_of, runs_along}
use Rattle.arj_law_runs.proofs.follow.Frames as frames
use Rattle.arj_law_runs.proofs.follow.Walking.{behind_all}
use Rattle.arj_law_runs.specs.follow.Frames.{FramesStep, are_so}
use Rattle.arj_model.specs.CauseSpans.{Here, here_at}
use Rattle.arj_model.specs.Past.{Past, at_start, block, next}
use Rattle.arj_model.specs.Refusals.{frame_from, frame_step, last_frame}
use Rattle.arj_promise.specs.Runs.{HeaderFits, IsStoppedInForm}
use Rattle.arj_promise.specs.Starts.{IsFormed}
use Rattle.arj_law_cause.proofs.kinds.Filling as filling
use Rattle.arj_law_cause.proofs.kinds.Filling.{IsFilled, IsFree}
use Rattle.arj_law_cause.proofs.kinds.Walks.{behind_lines, none_rows, so_both}
use Rattle.arj_law_cause.specs.kinds.Kinds.{is_limit}
use Rattle.arj_law_cause.specs.kinds.Rows.{RowHolds, RowStep, row}
use Rattle.std.proofs.lemmas.List.{append_cancel_left}

-- lines of the kind, wherever they come
abbrev kind : Here → Body → Bool
kind h = is_limit

abbrev free : Body → Bool
free b = not (is_limit b)

parts_free : (b : Body) → is_of_parts b ≡ true → free b ≡ true
parts_free (body.Limit l) is = absurd (cc is)
parts_free b is = refl

are_free : IsFree free
are_free = record {
  parts = parts_free;
  sent = λ k from to what. refl;
  got = λ k. refl;
  void = λ k. refl;
  dropped = λ k. refl;
  armed = λ n. refl;
  halted = λ n. refl;
  refused = λ c. refl;
}

-- lines that are free, one behind another
bodies_free : (ls : List Line) → AllByRecursion (λ (l : Line). free l.body ≡ true) ls →
    list_all (λ b. not (is_limit b)) (map (λ (l : Line). l.body) ls) ≡ true
bodies_free [] all = refl
bodies_free (l ∷ ls) all = λ i. all.0 i && bodies_free ls all.1 i

bodies_of : (n : ℕ) (bs : List Body) → map (λ (l : Line). l.body) (block n bs) ≡ bs
bodies_of n [] = refl
bodies_of n (b ∷ bs) = ap (λ (cs : List Body). b ∷ cs) (bodies_of n bs)

-- a limit sends nothing
last_on : (k e : ℕ) (ls : List Line) → frame_from k (ls ++ record { event = e; body = body.Limit which.Frames } ∷ []) ≡ frame_from k ls
last_on k e [] = refl
last_on k e (l ∷ ls) = last_on (frame_step l.body k) e ls

module _ (hd : Header) (form : HeaderFits hd) where
  record Stands (p : Past) (w : World) : Type 0 where
    pub base : frames.Stands hd form p w
    pub filled : IsFilled w

  module _ (m : Move) (p : Past) (w : World) (stops : IsStoppedInForm m) (s : Stands p w) (on : w.over ≡ false) where
    abbrev u : World
    u = record w { arms = m.falls }

    abbrev t : World
    t = counted (record w { arms = m.falls })

    abbrev e : Event
    e = event_of m

    abbrev arm : Arm
    arm = let a = m.asked in a.arm

    module _ (bodies : List Body) (after : frames.Stands hd form (next p e bodies) (moved m w)) where
      lines : w.lines ++ block (w.event + 1) bodies ≡ (moved m w).lines
      lines = (λ i. (sym s.base.lines) i ++ block ((sym s.base.count) i + 1) bodies) ∙ after.lines

      count : (moved m w).event ≡ w.event + 1
      count = sym after.count ∙ ap (λ n. n + 1) s.base.count

      moved_is : (v : World) → run_unless e arm u (first_reason (reasons e u)) ≡ v → moved m w ≡ record v { arms = [] }
      moved_is v is = ap (λ (x : World). record x { arms = [] }) ((λ i. cond (on i) u (run_unless e arm u (first_reason
          (reasons e u)))) ∙ is)

      abbrev Fits : Type 0
      Fits = RowStep kind hd p e bodies × IsFilled (moved m w)

      filled_by : (v : World) → moved m w ≡ record v { arms = [] } → IsFilled v → IsFilled (moved m w)
      filled_by v is f = subst IsFilled (sym is) (record { few = f.few; full = f.full })

      -- none of the lines is a limit
      none_fit : (more : List Line) → block (w.event + 1) bodies ≡ more → AllByRecursion (λ (l : Line). free l.body ≡ true) more →
          RowStep kind hd p e bodies
      none_fit more is all = none_rows kind (here_at hd p e bodies) bodies
          (λ g. subst (λ bs. list_all (λ b. not (is_limit b)) bs ≡ true)
          (ap (map (λ (l : Line). l.body)) (sym is) ∙ bodies_of (w.event + 1) bodies) (bodies_free more all))

      -- the last one is
      last_fits : (more : List Line) → block (w.event + 1) bodies ≡ more ++ block (w.event + 1) (body.Limit which.Frames ∷ []) →
          AllByRecursion (λ (l : Line). free l.body ≡ true) more → length (moved m w).frames ≡ most_frames → RowStep kind hd p e bodies
      last_fits more is all whole =
          subst (λ bs. are_so (row kind) (here_at hd p e bodies) bs ≡ true) (sym are)
          (so_both (row kind) (here_at hd p e bodies) front (body.Limit which.Frames ∷ [])
          (none_rows kind (here_at hd p e bodies) front (λ g. bodies_free more all)) (λ i. its_row i && true))
        where
          front : List Body
          front = map (λ (l : Line). l.body) more

          are : bodies ≡ front ++ body.Limit which.Frames ∷ []
          are = sym (bodies_of (w.event + 1) bodies) ∙ ap (map (λ (l : Line). l.body)) is
              ∙ map-append (λ (l : Line). l.body) more (block (w.event + 1) (body.Limit which.Frames ∷ []))

          before : List Line
          before = p.lines ++ block (p.count + 1) front

          all_lines : p.lines ++ block (p.count + 1) bodies ≡ before ++ block (p.count + 1) (body.Limit which.Frames ∷ [])
          all_lines = ap (λ bs. p.lines ++ block (p.count + 1) bs) are
              ∙ ap (λ ls. p.lines ++ ls) (map-append (λ (b : Body). record { event = p.count + 1; body = b }) front
              (body.Limit which.Frames ∷ []))
              ∙ sym (append_assoc p.lines (block (p.count + 1) front) (block (p.count + 1) (body.Limit which.Frames ∷ [])))

          sent : last_frame before ≡ most_frames
          sent = sym (last_on 0 (p.count + 1) before) ∙ ap last_frame (sym all_lines) ∙ after.tells.last ∙ whole

          is_same : (a b : ℕ) → a ≡ b → (a == b) ≡ true
          is_same a b same = grind (arith, nat_tests, same)

          its_row : row kind (behind_all (here_at hd p e bodies) front) (body.Limit which.Frames) ≡ true
          its_row = subst (λ g. row kind g (body.Limit which.Frames) ≡ true) (sym (behind_lines (here_at hd p e bodies) front))
              (is_same (last_frame before) most_frames sent)

      refused_fits : (c : ℕ) → moved m w ≡ record (says (body.Refused c ∷ []) t) { arms = [] } → Fits
      refused_fits c is = (
        none_fit (block (w.event + 1) (body.Refused c ∷ []))
            (append_cancel_left w.lines (block (w.event + 1) bodies) (block (w.event + 1) (body.Refused c ∷ []))
            (lines ∙ ap (λ (x : World). x.lines) is)) (refl, tt),
        filled_by (says (body.Refused c ∷ []) t) is (record { few = s.filled.few; full = s.filled.full }),
      )

      run_fits : moved m w ≡ record (limited (happens e arm t)) { arms = [] } → Fits
      run_fits is = by x.full refl
        where
          x : World
          x = happens e arm t

          so : filling.So free are_free w.lines (happens e arm t)
          so = filling.happens_so free are_free w.lines e arm t (λ b is. refl) (record {
            more = [];
            lines = sym (append-nil w.lines);
            passes = tt;
            filled = record { few = s.filled.few; full = s.filled.full };
          })

          same_event : (v : World) → moved m w ≡ record v { arms = [] } → v.event ≡ w.event + 1
          same_event v here = sym (ap (λ (y : World). y.event) here) ∙ count

          by : (b : Bool) → (happens e arm t).full ≡ b → Fits
          by false free_still =
              let here : moved m w ≡ record (happens e arm t) { arms = [] } =
              is ∙ (λ i. record (cond (free_still i) (says (body.Limit which.Frames ∷ []) (record (happens e arm t) { over = true }))
              (happens e arm t)) { arms = [] }) in (
                none_fit so.more (append_cancel_left w.lines (block (w.event + 1) bodies) so.more
                    (lines ∙ ap (λ (y : World). y.lines) here ∙ so.lines)) so.passes,
                filled_by (happens e arm t) here so.filled,
              )
          by true met =
              let v = says (body.Limit which.Frames ∷ []) (record (happens e arm t) { over = true }) in
              let here : moved m w ≡ record (says (body.Limit which.Frames ∷ []) (record (happens e arm t) { over = true })) { arms = [] } =
              is ∙ (λ i. record (cond (met i) (says (body.Limit which.Frames ∷ []) (record (happens e arm t) { over = true }))
              (happens e arm t)) { arms = [] }) in
              let whole = so.filled.full met in (
                last_fits so.more (append_cancel_left w.lines (block (w.event + 1) bodies)
                    (so.more ++ block (w.event + 1) (body.Limit which.Frames ∷ []))
                    (lines ∙ ap (λ (y : World). y.lines) here
                    ∙ (λ i. so.lines i ++ block (same_event v here i) (body.Limit which.Frames ∷ []))
                    ∙ append_assoc w.lines so.more (block (w.event + 1) (body.Limit which.Frames ∷ [])))) so.passes
                    (ap (λ (y : World). length y.frames) here ∙ whole),
                filled_by v here (record { few = so.filled.few; full = λ full. whole }),
              )

      fits : Fits
      fits = by (first_reason (reasons e u)) refl
        where
          run_so : first_reason (reasons e u) ≡ None → (b : Bool) → lacks_labels (giving e u) u ≡ b → Fits
          run_so none true lacks =
              let is = moved_is (no_labels u) (ap (run_unless e arm u) none
              ∙ (λ i. cond (lacks i) (no_labels u) (limited (happens e arm t)))) in
              absurd (stays w.event (sym count ∙ ap (λ (x : World). x.event) is))
            where
              stays : (n : ℕ) → n + 1 ≡ n → ⊥
              stays n is = omega (arith, is)
          run_so none false has = run_fits (moved_is (limited (happens e arm t)) (ap (run_unless e arm u) none
              ∙ (λ i. cond (has i) (no_labels u) (limited (happens e arm t)))))

          by : (r : Option ℕ) → first_reason (reasons e u) ≡ r → Fits
          by None is = run_so is (lacks_labels (giving e u) u) refl
          by (Some c) is = refused_fits c (moved_is (says (body.Refused c ∷ []) t) (ap (run_unless e arm u) is))

    goes : Outcome (RowStep kind hd) Stands m p w
    goes = by (frames.goes hd form m p w stops s.base on)
      where
        by : Outcome (FramesStep hd) (frames.Stands hd form) m p w → Outcome (RowStep kind hd) Stands m p w
        by (Ended over event lines) = Ended over event lines
        by (Went bodies step after) = let f = fits bodies after in Went bodies f.0 (record { base = after; filled = f.1 })

  first_so : (st : _) → IsFormed hd st → Stands (at_start st) (world_from hd st)
  first_so st formed = record {
    base = frames.first_stands hd form st formed;
    filled = record { few = omega arith; full = λ full. absurd (cc full) };
  }

pub limit_row : RowHolds is_limit
limit_row hd r form =
    runs_along (RowStep kind hd) (Stands hd form.header) IsStoppedInForm (λ p w s. s.base.lines) (λ p w s. s.base.count)
    (λ m p w stops s on. goes hd form.header m p w stops s on) r.start r.moves (world_from hd r.start) form.stops
    (first_so hd form.header r.start r.formed)
