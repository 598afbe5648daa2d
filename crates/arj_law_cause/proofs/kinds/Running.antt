-- Whole runs, event by event: where each handler says what has its cause, each line of the kind has.
use Rattle.arj_law_parts.proofs.Words
use Words.{◌≡◌, ◌∙◌, ◌+◌, ◌++◌, ◌&&◌, not, ℕ, Bool, true, false, if◌then◌else◌, cond, List, [], ◌∷◌, length, Option, Some, None, refl}
use Words.{sym, ap, inl, inr, filter, in_left, in_right}
use Words.{subst, append-nil, list_all, map, Start, Body, Event, Header, Line, Arm, World, Move, Input, Node, at_place, counted}
use Words.{first_reason, giving}
use Words.{⊤, Post, happens, lacks_labels, limited, moved, no_labels, reasons, run_event, run_unless, world_from}
use Words.{IsFormed, IsInForm}
use Words.body
use Words.list
use Rattle.arj_law_lock_view.specs.asking.Asked.{accepted_of}
use Rattle.arj_law_parts.proofs.Terms.{says}
use Rattle.arj_law_parts.proofs.moves.{Events.closes_at, Events.happened, Events.opens_at, Events.same_run, Firsts.first_stands}
use Rattle.arj_law_parts.proofs.moves.Worlds.{says_hold}
use Rattle.arj_law_parts.specs.moves.Moments.{Asking, History, Moment, come, gone, no_history}
use Rattle.arj_law_parts.specs.moves.Seen.{is_quiet_line}
use Rattle.arj_law_parts.specs.moves.With.{HoldsAt, HoldsWith, KeepsAll, KeepsSteps, asked_at, asked_of_node, look, past_event}
use Rattle.arj_law_parts.specs.moves.With.{past_unless, written}
use Rattle.arj_law_parts.specs.steps.Writes as writes
use Rattle.arj_law_runs.proofs.follow.Along.{Ended, Outcome, Went, event_of, runs_along}
use Rattle.arj_law_runs.proofs.follow.Frames as frames
use Rattle.arj_law_runs.proofs.follow.Refusing as refusing
use Rattle.arj_law_runs.specs.follow.Frames.{FramesStep, are_so, run_events}
use Rattle.arj_model.specs.CauseSpans.{Here}
use Rattle.arj_model.specs.Follows.{Runs}
use Rattle.arj_model.specs.Past.{Asked, Past, asked_of, at_start, block, is_refused, next}
use Rattle.arj_model.specs.Refusals.{asks_by, is_ask_by}
use Rattle.arj_promise.specs.Runs.{HeaderFits, IsStoppedInForm, Run, journal_by}
use Rattle.arj_start.specs.Start.{fresh}
use Rattle.std.specs.Prelude.{drop}
use Rattle.arj_law_cause.proofs.kinds.Accepted.{IsToldBy, told_on}
use Rattle.arj_law_cause.proofs.kinds.Walks as walks
use Rattle.arj_law_cause.proofs.waits.lowest.Together.{both_go}
use Rattle.arj_law_cause.proofs.kinds.Forms.{behind_block}
use Rattle.arj_law_cause.specs.kinds.Rows.{TestedStep, tested}

-- What is known beside a relation that is kept: what holds of the world between events gives it as an event comes, and each handler keeps
-- it in the event.
pub record Knows (hd : Header) (G : Moment → Type 0) : Type 1 where
  pub Between : World → Type 0
  pub In : World → Moment → Type 0
  pub first : (st : Start) → IsFormed hd st → Between (world_from hd st)
  pub next : (m : Move) (w : World) → Between w → Between (moved m w)
  pub arms : (w : World) (arms : List (ℕ × Arm)) → Between w → Between (record w { arms = arms })
  pub opens : (w : World) (e : Event) (g : History) (sent : List Post) → Between w → G (look (come e g) sent (counted w)) →
      In w (look (come e g) sent (counted w))
  pub steps : (w : World) → Between w → KeepsSteps hd (In w)
  pub back : (w : World) (M : Moment) → In w M → G M

-- nothing more
abbrev pub nothing_more : (hd : Header) (G : Moment → Type 0) → KeepsSteps hd G → Knows hd G
nothing_more hd G steps = record {
  Between = λ w. ⊤;
  In = λ w. G;
  first = λ st formed. tt;
  next = λ m w b. tt;
  arms = λ w arms b. tt;
  opens = λ w e g sent b c. c;
  steps = λ w b. steps;
  back = λ w M c. c;
}

-- what was asked is among what was accepted, where it is so label by label
in_accepted : (A : List Asking) (k : Asking) → list.In k A → list.In {X = Asked} k.asked (accepted_of A)
in_accepted [] k there = absurd there
in_accepted (j ∷ A) k (inl same) = in_right k.asked (accepted_of A) (j.asked ∷ []) (inl (ap (λ (z : Asking). z.asked) same))
in_accepted (j ∷ A) k (inr there) = in_left k.asked (accepted_of A) (j.asked ∷ []) (in_accepted A k there)

into_filter : {A : Type 0} (f : A → Bool) (x : A) (xs : List A) → list.In x xs → f x ≡ true → list.In x (filter f xs)
into_filter f x [] there is = absurd there
into_filter f x (y ∷ ys) (inl same) is = subst (λ b. list.In x (cond b (y ∷ filter f ys) (filter f ys))) (sym (ap f same ∙ is)) (inl same)
into_filter f x (y ∷ ys) (inr there) is = by (f y) (into_filter f x ys there is)
  where
    by : (b : Bool) → list.In x (filter f ys) → list.In x (cond b (y ∷ filter f ys) (filter f ys))
    by true i = inr i
    by false i = i

were_accepted : (A : List Asking) (accepted : List Asked) → ((l : List ℕ) → asks_by (accepted_of A) l ≡ asks_by accepted l) → (k : Asking) →
    list.In k A → (l : List ℕ) → is_ask_by l (let a = k.asked in a.event) ≡ true → list.In {X = Asked} k.asked accepted
were_accepted A accepted same k there l is = (list.in_filter (λ (a : Asked). is_ask_by l a.event) k.asked accepted
    (subst (list.In {X = Asked} k.asked) (same l)
    (into_filter (λ (a : Asked). is_ask_by l a.event) k.asked (accepted_of A) (in_accepted A k there) is))).0

module _ (test : Here → Body → Bool) (of : Body → Bool) (quiet : (b : Body) → is_quiet_line b ≡ true → of b ≡ false)
    (halts : (k : ℕ) → of (body.Halted k) ≡ false)
    (hd : Header) (G : Moment → Type 0) (keeps : KeepsAll hd G) (K : Knows hd G)
    (well : (st : Start) (q : Past) (e : Event) (w : World) → (let k = K in k.Between w) → q.lines ≡ w.lines → q.count ≡ w.event →
    walks.SaysWell test hd of quiet halts st q e (let k = K in k.In w)) where
  -- lines of the kind, wherever they come
  abbrev kind : Here → Body → Bool
  kind h = of

  -- A run up to an event, the world there, and what is known of it with its history.
  record Going (past : History) (p : Past) (w : World) : Type 0 where
    pub lines : p.lines ≡ w.lines
    pub count : p.count ≡ w.event
    pub start : w.start ≡ p.start
    pub run : past.run ≡ record p { start = fresh }
    pub holds : HoldsWith hd G past w
    pub between : K.Between w

  -- what is seen doesn't tell which stops are to fall
  same_look : (g : History) (w : World) (arms : List (ℕ × Arm)) → HoldsWith hd G g w → HoldsWith hd G g (record w { arms = arms })
  same_look g w arms h = record {
    now = record {
      sent = h.now.sent;
      stands = record {
        frames = h.now.stands.frames;
        junk = h.now.stands.junk;
        header = h.now.stands.header;
        numbers = h.now.stands.numbers;
        places = h.now.stands.places;
        labels = h.now.stands.labels;
      };
      number = h.now.number;
      wrote = h.now.wrote;
      holds = h.now.holds;
    };
    count = h.count;
    lines = h.lines;
  }

  -- ---- an event

  module _ (m : Move) (p : Past) (w : World) (past : History) (s : Going past p w) (told : IsToldBy p past) (on : w.over ≡ false) where
    abbrev u : World
    u = record w { arms = m.falls }

    abbrev e : Event
    e = event_of m

    abbrev arm : Arm
    arm = let a = m.asked in a.arm

    -- the run before the event, as its history has it
    abbrev q : Past
    q = record p { start = fresh }

    abbrev Inside : Moment → Type 0
    Inside = walks.Inside test hd of quiet halts p.start q e

    abbrev Both : Moment → Type 0
    Both M = K.In (record w { arms = m.falls }) M × Inside M

    here : K.Between (record w { arms = m.falls })
    here = K.arms w m.falls s.between

    both_steps : KeepsSteps hd Both
    both_steps = walks.inside_steps test hd of quiet halts p.start q e (K.In u) (K.steps u here) (well p.start q e u here s.lines s.count)

    held : HoldsWith hd G past u
    held = same_look past w m.falls s.holds

    fresh_lines : (let r = past.run in r.lines) ≡ w.lines
    fresh_lines = ap (λ (r : Past). r.lines) s.run ∙ s.lines

    number_is : (let g = past in g.number) ≡ p.count
    number_is = held.count ∙ ap (λ (r : Past). r.count) s.run

    -- as the event comes
    opened : HoldsAt hd Both (come e past) (counted u)
    opened =
        let o = opens_at hd G G keeps.opens e past u on held in
        record {
          sent = o.sent;
          stands = o.stands;
          number = o.number;
          wrote = o.wrote;
          holds = (
            K.opens (record w { arms = m.falls }) e past o.sent here o.holds,
            record {
              event = refl;
              run = s.run;
              number = ap (λ n. n + 1) (sym s.count);
              start = s.start;
              wrote = [];
              lines = sym s.lines ∙ sym (append-nil p.lines);
              fit = refl;
              asked = λ k there l its. in_left k.asked p.accepted (asked_of p e ∷ []) (were_accepted past.askings p.accepted told.asks k there l its);
            },
          );
        }

    -- The event is over, and left this world.
    closed : (g : History) (v : World) → g.run ≡ past.run → g.event ≡ e → g.number ≡ (let h = past in h.number) + 1 →
        HoldsAt hd Both g v → run_event m.asked u ≡ v → past_event m.asked u past ≡ gone (written u v) g
        → moved m w ≡ record v { arms = [] } → Outcome (TestedStep test kind hd) (Going (past_event m.asked u past)) m p w
    closed g v same its number h ran later is =
        let bs = written u v in
        let i = h.holds.1 in
        let wrote : i.wrote ≡ written u v = sym its_bodies in
        Went bs (fits bs (subst (λ cs. are_so (tested test kind)
        (walks.first_here test hd of quiet halts p.start q e) cs ≡ true) wrote i.fit))
        (subst (λ z. Going z (next p e bs) (moved m w)) (sym later) (record {
          lines = (λ j. p.lines ++ block (p.count + 1) (sym wrote j)) ∙ sym i.lines ∙ ap (λ (x : World). x.lines) (sym is);
          count = sym (sym h.number ∙ number ∙ (λ j. number_is j + 1)) ∙ ap (λ (x : World). x.event) (sym is);
          start = ap (λ (x : World). x.start) is ∙ i.start;
          run = (λ j. next ((same ∙ s.run) j) (its j) bs);
          holds = subst (HoldsWith hd G (gone bs g)) (sym is) (same_look (gone bs g) v [] after);
          between = K.next m w s.between;
        }))
      where
        count_is : g.number ≡ (let r = g.run in r.count) + 1
        count_is = number ∙ (λ j. held.count j + 1) ∙ (λ j. (let r = sym same j in r.count) + 1)

        after : HoldsWith hd G (gone (written u v) g) v
        after = closes_at hd Both G (λ bodies M number lines c. keeps.closes bodies M number lines (K.back u M c.0)) g u v
            (ap (λ (r : Past). r.lines) same ∙ fresh_lines) count_is h

        -- the lines that were written are those of the event
        its_bodies : written u v ≡ (let i = h.holds.1 in i.wrote)
        its_bodies =
            let i = h.holds.1 in
            (λ j. map (λ (l : Line). l.body) (drop (length (sym s.lines j)) (i.lines j))) ∙ behind_block p.lines (p.count + 1) i.wrote

        -- a refusal isn't of the kind, and any other line comes where the event was accepted
        fits : (bs : List Body) → are_so (tested test kind) (walks.first_here test hd of quiet halts p.start q e) bs ≡ true →
            TestedStep test kind hd p e bs
        fits bs fit = by (is_refused bs) refl
          where
            at : Bool → Here
            at b = record {
              header = hd;
              start = p.start;
              accepted = (if b then p.accepted else p.accepted ++ asked_of p e ∷ []);
              event = e;
              number = p.count + 1;
              first = length p.lines;
              lines = p.lines;
            }

            none : (cs : List Body) → is_refused cs ≡ true → list_all (λ b. not (of b)) cs ≡ true
            none (body.Refused c ∷ []) is = λ i. not (quiet (body.Refused c) refl i) && true
            none cs is = absurd (cc is)

            by : (b : Bool) → is_refused bs ≡ b → are_so (tested test kind) (at b) bs ≡ true
            by false is = fit
            by true is = walks.none_pass test kind (at true) bs (λ g. none bs is)

    goes : Outcome (TestedStep test kind hd) (Going (past_event m.asked u past)) m p w
    goes = by (first_reason (reasons e u)) refl
      where
        ran_is : (v : World) → run_unless e arm u (first_reason (reasons e u)) ≡ v → run_event m.asked u ≡ v
        ran_is v is = (λ i. cond (on i) u (run_unless e arm u (first_reason (reasons e u)))) ∙ is

        moved_is : (v : World) → run_event m.asked u ≡ v → moved m w ≡ record v { arms = [] }
        moved_is v is = ap (λ (x : World). record x { arms = [] }) is

        past_is : (o : Option ℕ) → first_reason (reasons e u) ≡ o → (v : World) → run_event m.asked u ≡ v →
            past_event m.asked u past ≡ past_unless e u v past o
        past_is o is v ran = (λ i. cond (on i) past (past_unless e u (run_event m.asked u) past (first_reason (reasons e u))))
            ∙ ap (past_unless e u (run_event m.asked u) past) is ∙ (λ i. past_unless e u (ran i) past o)

        -- what is asked leaves the event under way
        same_event : (o : Option (ℕ × Input)) → (let g = asked_of_node o u (come e past) in g.event) ≡ e
        same_event None = refl
        same_event (Some b) = at (at_place b.0 w.nodes)
          where
            at : (n : Option Node) → (let g = asked_at (let w = u in w.header) b.1 n (come e past) in g.event) ≡ e
            at None = refl
            at (Some n) = refl

        run_so : first_reason (reasons e u) ≡ None → (b : Bool) → lacks_labels (giving e u) u ≡ b →
            Outcome (TestedStep test kind hd) (Going (past_event m.asked u past)) m p w
        run_so none true full =
            let is = moved_is (no_labels u) (ran_is (no_labels u) (ap (run_unless e arm u) none
            ∙ (λ i. cond (full i) (no_labels u) (limited (happens e arm (counted u)))))) in
            Ended (ap (λ (x : World). x.over) is) (ap (λ (x : World). x.event) is) (ap (λ (x : World). x.lines) is)
        run_so none false has =
            let v = limited (happens e arm (counted u)) in
            let ran = ran_is v (ap (run_unless e arm u) none
            ∙ (λ i. cond (has i) (no_labels u) (limited (happens e arm (counted u))))) in
            let g = asked_of_node (writes.asks e u) u (come e past) in
            let same = same_run e past u (writes.asks e u) in
            closed g v same.0 (same_event (writes.asks e u)) same.1
            (happened hd Both both_steps e arm past u none fresh_lines opened) ran
            (past_is None none v ran ∙ (λ i. cond (has i) past (gone (written u v) (asked_of_node (writes.asks e u) u (come e past)))))
            (moved_is v ran)

        by : (r : Option ℕ) → first_reason (reasons e u) ≡ r → Outcome (TestedStep test kind hd) (Going (past_event m.asked u past)) m p w
        by None is = run_so is (lacks_labels (giving e u) u) refl
        by (Some c) is =
            let v = says (body.Refused c ∷ []) (counted u) in
            let ran = ran_is v (ap (run_unless e arm u) is) in
            closed (come e past) v refl refl refl (says_hold hd Both both_steps (body.Refused c ∷ []) (come e past)
            (counted u) refl opened) ran (past_is (Some c) is v ran) (moved_is v ran)

  -- ---- runs

  module _ (form : HeaderFits hd) where
    -- beside it, what was asked is what was accepted
    record Stands (p : Past) (w : World) : Type 0 where
      pub past : History
      pub going : Going past p w
      pub base : refusing.Stands hd form p w
      pub told : IsToldBy p past

    all_goes : (m : Move) (p : Past) (w : World) → IsStoppedInForm m → Stands p w → w.over ≡ false →
        Outcome (TestedStep test kind hd) Stands m p w
    all_goes m p w stops s on = by (both_go (TestedStep test kind hd) (FramesStep hd) (Going later) (frames.Stands hd form)
        (λ q v z. z.lines) (λ q v z. z.lines) m p w (goes m p w s.past s.going s.told on)
        (frames.goes hd form m p w stops (let b = s.base in b.base) on))
      where
        later : History
        later = past_event m.asked (record w { arms = m.falls }) s.past

        by : Outcome (λ q x bs. TestedStep test kind hd q x bs × FramesStep hd q x bs) (λ q v. Going later q v × frames.Stands hd form q v) m p w →
            Outcome (TestedStep test kind hd) Stands m p w
        by (Ended over event lines) = Ended over event lines
        by (Went bodies step after) = Went bodies step.0 (record {
          past = later;
          going = after.0;
          base = (refusing.goes_with hd form m p w stops s.base on bodies after.1).1;
          told = told_on hd form m p w stops s.base on s.past s.told bodies after.1;
        })

    first_so : (st : Start) → IsFormed hd st → Stands (at_start st) (world_from hd st)
    first_so st formed = record {
      past = no_history st;
      going = record {
        lines = refl;
        count = refl;
        start = refl;
        run = refl;
        holds = record {
          now = record {
            sent = [];
            stands = first_stands hd st;
            number = refl;
            wrote = ([], refl);
            holds = keeps.first st formed;
          };
          count = refl;
          lines = λ over. refl;
        };
        between = K.first st formed;
      };
      base = refusing.first_stands hd form st formed;
      told = record { run = refl; asks = λ l. refl };
    }

  pub row_run : (r : Run hd) → IsInForm hd r → Runs (TestedStep test kind hd) r.start (run_events hd r) (journal_by hd r)
  row_run r form =
      runs_along (TestedStep test kind hd) (Stands form.header) IsStoppedInForm (λ p w s. let g = s.going in g.lines)
      (λ p w s. let g = s.going in g.count) (λ m p w stops s on. all_goes form.header m p w stops s on)
      r.start r.moves (world_from hd r.start) form.stops (first_so form.header r.start r.formed)
