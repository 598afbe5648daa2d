-- Whole runs, event by event: tables show locks inside of each event, so answers say what is so, and what they say stays so.
use Rattle.arj_law_parts.proofs.Words
use Words.{◌≡◌, ◌≤◌, ◌∙◌, ◌==◌, ◌+◌, ◌++◌, ℕ, Bool, true, false, if◌then◌else◌, List, [], ◌∷◌, length, Option, Some, None, refl, sym, ap}
use Words.{subst, ⊤, arith, append-nil, append_assoc, map-append, Start, Body, Event, Header, Line}
use Words.{asked_by, handle_ask, response, Node, World, Arm, Move, counted, first_reason, giving, happens, lacks_labels}
use Words.{limited, moved, no_labels}
use Words.{numbered, reasons, run_event, run_unless, see, Seen, all_moved, world_from}
use Words.{IsFormed}
use Words.{actor, ◌&&◌, inr, Post}
use Words.body
use Rattle.arj_law_parts.proofs.Terms.{Asked, says}
use Rattle.arj_law_parts.proofs.Terms.which
use Rattle.arj_law_serial.proofs.Terms
use Terms.{Action, memory_of, up_of}
use Rattle.arj_law_lock_view.proofs.Terms.{same_number}
use Rattle.arj_law_lock_view.proofs.moments.Answers.{Known, answers_step, first_made, known_wide, made_closes, made_later, made_opens}
use Rattle.arj_law_lock_view.specs.moments.Made.{AnswersAreMade, Tells, lines_behind}
use Rattle.arj_law_parts.proofs.moves.{Events.closes_at, Events.happened, Events.opens_at, Events.same_run, Firsts.first_stands}
use Rattle.arj_law_parts.proofs.moves.{Happens.Wide, Happens.arms_hold, Happens.wide_kept, Happens.wide_steps}
use Rattle.arj_law_parts.proofs.moves.Worlds.{says_hold}
use Rattle.arj_law_parts.specs.moves.Moments as Moments
use Rattle.arj_law_parts.specs.moves.Moments.{History, Moment, come, no_history, said}
use Rattle.arj_law_parts.specs.moves.Seen as seen
use Rattle.arj_law_parts.specs.moves.With.{Closes, HoldsAt, HoldsWith, KeepsAll, KeepsSteps, Opens, Wrote, asked_of_node, look}
use Rattle.arj_law_parts.specs.moves.With.{past_event}
use Rattle.arj_law_parts.specs.moves.With.{past_moves, past_unless, written}
use Rattle.arj_law_parts.specs.steps.Writes as writes
use Rattle.arj_law_serial.proofs.holding.{Events.IsShown, Events.event_shown, Events.first_is_shown, Events.first_showing}
use Rattle.arj_law_serial.proofs.holding.{Events.later_off, Running.Known as KnownOf, Running.Showing, Running.showing_kept}
use Rattle.arj_model.specs.Past.{Past}
use Rattle.arj_law_cause.proofs.confirm.Reached.{Reached, reached_kept}
use Rattle.arj_law_cause.proofs.rows.Changing.{doubt_changed, prepare_changed}
use Rattle.arj_law_cause.proofs.rows.{Inside.inside_step, Telling.served_says, Telling.silent_front, Telling.table_then}
use Rattle.arj_law_cause.proofs.waits.lost.Bound.{all_both}
pub use Rattle.arj_law_cause.proofs.waits.lost.Bound.{steps_both}
use Rattle.arj_law_cause.proofs.rows.Watching as pending
use Rattle.arj_law_cause.proofs.rows.Watching.{Watched, right_asked, watched_steps}
use Rattle.arj_law_cause.proofs.rows.Pends.{pends_are}
use Rattle.arj_law_cause.proofs.rows.Watches.{in_event}
use Rattle.arj_law_cause.proofs.rows.Worlds.{Fits, Settled, armed_settles, event_settles, first_settles}
use Rattle.arj_model.specs.Past.{Asked as AskedOf}
use Rattle.arj_law_cause.proofs.rows.Stores.{StoresAreKnown, stored_keep}
use Rattle.arj_law_promise.proofs.Terms.{IsAtStarts, KeepsAsked, asked_both, keeps_asked}
use Rattle.arj_law_parts.proofs.moves.Flat.{post}
use Rattle.arj_model.specs.CausePends.{may_store, pends}
use Rattle.arj_law_cause.specs.rows.{Early.IsEarly, Runs.RunsMeetRows, Says.has_changed, Says.says_so, Tables.Inside, Tables.Tables}

-- ---- what is known between events

-- which nodes may be stores, and what is seen has come about by what nodes do
abbrev pub Right : Header → Seen → Type 0
Right hd S = StoresAreKnown hd S × Reached hd S

right_keep : (hd : Header) → KeepsAsked hd (Right hd)
right_keep hd = asked_both hd (StoresAreKnown hd) (Reached hd) (keeps_asked hd (StoresAreKnown hd) (stored_keep hd)) (reached_kept hd)

right_wide : (hd : Header) → KeepsAll hd (Wide (Right hd))
right_wide hd = let k = wide_kept hd (IsAtStarts hd (Right hd)) (Right hd) (right_keep hd) in
    record { opens = k.opens; closes = k.closes; steps = k.steps; first = λ st formed. ([], (λ p i. i), k.first st formed) }

right_known : (hd : Header) → KeepsAll hd (Wide pending.Right)
right_known hd = let k = wide_kept hd (IsAtStarts hd pending.Right) pending.Right (right_asked hd) in
    record { opens = k.opens; closes = k.closes; steps = k.steps; first = λ st formed. ([], (λ p i. i), k.first st formed) }

-- and what is right, with where requests come from
abbrev pub Rights : Header → Moment → Type 0
Rights hd M = Wide (Right hd) M × Wide pending.Right M

rights_keep : (hd : Header) → KeepsAll hd (Rights hd)
rights_keep hd = all_both hd (Wide (Right hd)) (Wide pending.Right) (right_wide hd) (right_known hd)

abbrev pub Base : Seen → Type 0
Base S = (begun : List Action) × KnownOf begun S

abbrev pub Core : List AskedOf → Header → Moment → Type 0
Core A hd M = ((Wide Known M × Wide Base M) × Rights hd M) × AnswersAreMade (says_so A hd) M

-- ---- inside of an event

-- what nodes that are up have prepared may be pending
abbrev pub Inner : List AskedOf → Header → Moment → Type 0
Inner A hd M = Wide (Right hd) M × Watched A (in_event A) M

pub inner_steps : (A : List AskedOf) (hd : Header) → KeepsSteps hd (Inner A hd)
inner_steps A hd = steps_both hd (Wide (Right hd)) (Watched A (in_event A)) (let k = right_wide hd in k.steps)
    (watched_steps A (in_event A) hd)

-- tables show locks, and answers say what is so
abbrev pub InEvent : List AskedOf → Header → List Line → ℕ → Moment → Type 0
InEvent A hd before event M = (Tables hd before event M × Inner A hd M) × AnswersAreMade (says_so A hd) M

module _ (hd : Header) (before : List Line) (event : ℕ) (early : (j : ℕ) → (event == up_of j before) ≡ false) where
  pub tables_step : KeepsSteps hd (Tables hd before event)
  tables_step = steps_both hd (λ M. Wide Known M × Wide (Showing hd (length before) event) M) (Inside before event)
      (steps_both hd (Wide Known) (Wide (Showing hd (length before) event)) (let k = known_wide hd in k.steps)
      (wide_steps hd ⊤ (Showing hd (length before) event) (showing_kept hd (length before) event ⊤ tt))) (inside_step before event hd)

module _ (A : List AskedOf) (hd : Header) (before : List Line) (event : ℕ) (early : (j : ℕ) → (event == up_of j before) ≡ false) where
  pub tells : Tells (λ M. Tables hd before event M × Inner A hd M) (says_so A hd)
  tells k d t v from m h a r front M both there other meant asking new is =
      let known = both.0 in
      let s = known.0.1 in
      let n : Node = record { number = k; disk = d; live = Some t } in
      let past = s.2.1.1.0.0 in
      let q = past.nodes k n (λ i. if same_number k i then Some (record { number = k; disk = d; live = Some t }) else M.seen.nodes k) in
      let l = q.live t refl in
      let served = sym (ap (handle_ask k d t from m) asking) ∙ is in
      let silent = silent_front k d t v from h a r front served in
      let shown = table_then hd before event early k d t v from m front (response (asked_by h) r) M s.0 s.1 s.2 known.1 other there meant is
      silent in
      served_says hd before event early k d t v from h r front (lines_behind M.past.number front M.seen.lines) A shown.0 shown.1
      l.place (λ u none held. subst (λ ls. pends A k u ls ≡ true) (sym (none M.past.number M.seen.lines))
      (pends_are A M.seen.lines k u ((both.1.1.1.1 tt).1 k n u
      (λ i. if same_number k i then Some (record { number = k; disk = d; live = Some t }) else M.seen.nodes k) (inr refl) held)))
      a new (λ x same none form. subst (λ ls. may_store hd ls k x ≡ true) (sym (none M.past.number M.seen.lines))
      (let z = both.1.0.2.0.1 in z.loads (post from k m) h x (both.1.0.1 (post from k m) there)
      (asking ∙ ap (λ y. Some (h, y)) same) form)) (λ x u same none held form. subst (λ ls. IsEarly ls →
      has_changed ls u x ≡ true) (sym (none M.past.number M.seen.lines)) (doubt_changed hd _ both.1.0.2.1 k n x u
      (λ i. if same_number k i then Some (record { number = k; disk = d; live = Some t }) else M.seen.nodes k) held form))
      (λ states same none s among u held form. subst (λ ls. IsEarly ls → (has_changed ls (actor h.path) (let w = s.uid in w.num)
      && has_changed ls u (let w = s.uid in w.num)) ≡ true) (sym (none M.past.number M.seen.lines))
      (prepare_changed hd _ both.1.0.2.1 k n (λ i. if same_number k i then Some (record { number = k; disk = d; live = Some t }) else
      M.seen.nodes k) (post from k m) (both.1.0.1 (post from k m) there) h states
      (asking ∙ ap (λ y. Some (h, y)) same) s among u held form))
      served

  pub event_step : KeepsSteps hd (InEvent A hd before event)
  event_step = answers_step hd (says_so A hd) (λ M. Tables hd before event M × Inner A hd M)
      (steps_both hd (Tables hd before event) (Inner A hd) (tables_step hd before event early) (inner_steps A hd))
      (λ M h. h.0.0.0) tells

-- ---- events

same_look : (g : History) (w : World) (arms : List (ℕ × Arm)) (P : Moment → Type 0) (hd : Header) → HoldsWith hd P g w →
    HoldsWith hd P g (record w { arms = arms })
same_look g w arms P hd h = record {
  now = record {
    sent = h.now.sent;
    stands = record {
      frames = h.now.stands.frames;
      junk = h.now.stands.junk;
      header = h.now.stands.header;
      numbers = h.now.stands.numbers;
      places = h.now.stands.places;
      labels = h.now.stands.labels;
    };
    number = h.now.number;
    wrote = h.now.wrote;
    holds = h.now.holds;
  };
  count = h.count;
  lines = h.lines;
}

-- an event writes more
wrote_more : (g : History) (w : World) (bs : List Body) → Wrote g w → Wrote g (says bs w)
wrote_more g w bs h = (
  h.0 ++ bs,
  ap (λ ls. ls ++ numbered w.event bs) h.1 ∙ append_assoc (let r = g.run in r.lines) (numbered w.event h.0) (numbered w.event bs)
      ∙ ap (λ ls. (let r = g.run in r.lines) ++ ls) (sym (map-append (λ (b : Body). record { event = w.event; body = b }) h.0 bs)),
)

-- Beside what is known so a relation is kept between events, and inside of each another one, that knows it too: the first leads to the
-- second as the event comes, and comes back as it's over.
pub record Beside (A : List AskedOf) (hd : Header) (P : Moment → Type 0) (I : List Line → ℕ → Moment → Type 0) : Type 0 where
  pub inner : (before : List Line) (event : ℕ) → ((j : ℕ) → (event == up_of j before) ≡ false) → KeepsSteps hd (I before event)
  pub knows : (before : List Line) (event : ℕ) (M : Moment) → I before event M → InEvent A hd before event M
  pub opens : Opens P P
  pub enters : (before : List Line) (event : ℕ) (M : Moment) → M.past.number ≡ event → (let r = M.past.run in r.lines) ≡ before →
      M.seen.lines ≡ before → InEvent A hd before event M → P M → I before event M
  pub leaves : (before : List Line) (event : ℕ) → Closes (I before event) P
  pub labels : (M : Moment) → P M → P (said (body.Limit which.Labels ∷ []) M)

module _ (A : List AskedOf) (hd : Header) (P : Moment → Type 0) (I : List Line → ℕ → Moment → Type 0) (beside : Beside A hd P I) where
  -- what holds between events
  abbrev Rest : Moment → Type 0
  Rest M = Core A hd M × P M

  pub record StandsSo (g : History) (w : World) : Type 0 where
    pub holds : HoldsWith hd (λ M. Core A hd M × P M) g w
    pub shown : IsShown hd w
    pub settled : Settled hd A w

  module _ (g : History) (w : World) (h : StandsSo g w) where
    pub early : (j : ℕ) → (w.event + 1 == up_of j w.lines) ≡ false
    early j = let s = h.shown in later_off (up_of j w.lines) w.event (s.early j)

    -- what tables show before the event
    shows : (S : Seen) → S.lines ≡ w.lines → S.nodes ≡ (let z = see [] w in z.nodes) → Base S →
        Showing hd (length w.lines) (w.event + 1) S
    shows S lines nodes base = (base.0, base.1, record { long = least (ap length lines); shown = λ since n off. shown_at n })
      where
        least : {m n : ℕ} → m ≡ n → n ≤ m
        least is = omega (arith, is)

        shown_at : (n : ℕ) → Terms.ShowsLocks n S.lines (memory_of (S.nodes n))
        shown_at n = subst (λ ls. Terms.ShowsLocks n ls (memory_of (S.nodes n))) (sym lines)
            (subst (λ f. Terms.ShowsLocks n w.lines (memory_of (f n)))
            (sym nodes) (let s = h.shown in s.shown n))

    -- what is prepared before the event
    watched_at : (e : Event) → w.over ≡ false → (sent : List Post) → Wide pending.Right (look (come e g) sent (counted w)) →
        Watched A (in_event A) (look (come e g) sent (counted w))
    watched_at e over sent right = (
      right,
      (
        (let o = h.holds in least (ap length (sym (o.lines over)))),
        λ fits. ((λ q there x states is home. tt), λ j n u is m held. (let z = h.settled in z.pends.0 j n u is held)),
      ),
    )
      where
        least : {m n : ℕ} → m ≡ n → n ≤ m
        least is = omega (arith, is)

    -- as the event comes
    pub opened_so : (e : Event) → w.over ≡ false → HoldsAt hd (I w.lines (w.event + 1)) (come e g) (counted w)
    opened_so e over =
        let o = opens_at hd Rest Rest (λ f M first number c.
        ((c.0.0, made_opens (says_so A hd) f M first number c.0.1), beside.opens f M first number c.1)) e g w
        over h.holds in
        record {
          sent = o.sent;
          stands = o.stands;
          number = o.number;
          wrote = o.wrote;
          holds = beside.enters w.lines (w.event + 1) (look (come e g) o.sent (counted w)) refl (let q = h.holds in q.lines over) refl (
            (
              (
                (
                  o.holds.0.0.0.0,
                  (let b = o.holds.0.0.0.1 in (
                    b.0,
                    b.1,
                    shows (seen.with_sent b.0 (let L = look (come e g) o.sent (counted w) in L.seen)) refl refl b.2,
                  )),
                ),
                record { number = refl; wrote = []; lines = sym (append-nil w.lines); starts = λ is j. refl },
              ),
              (o.holds.0.0.1.0, watched_at e over o.sent o.holds.0.0.1.1),
            ),
            o.holds.0.1,
          ) o.holds.1;
        }

    -- as it is over
    closed_so : Closes (I w.lines (w.event + 1)) Rest
    closed_so bodies M number lines c =
        let k = beside.knows w.lines (w.event + 1) M c in (
          (
            ((k.0.0.0.0, (let s = k.0.0.0.1 in (s.0, s.1, (s.2.0, s.2.1)))), (k.0.1.0, k.0.1.1.0)),
            made_closes
                (says_so A hd) bodies M number lines k.1,
          ),
          beside.leaves w.lines (w.event + 1) bodies M number lines c,
        )

    labels_so : HoldsWith hd Rest g (no_labels w)
    labels_so =
        let o = h.holds in
        let c = o.now.holds.0 in
        let M = look g o.now.sent w in
        record {
          now = record {
            sent = o.now.sent;
            stands = record {
              frames = o.now.stands.frames;
              junk = o.now.stands.junk;
              header = o.now.stands.header;
              numbers = o.now.stands.numbers;
              places = o.now.stands.places;
              labels = o.now.stands.labels;
            };
            number = o.now.number;
            wrote = wrote_more g w (body.Limit which.Labels ∷ []) o.now.wrote;
            holds = (
              (
                (
                  (
                    (let k = known_wide hd in (let q = k.steps in q.quiet (body.Limit which.Labels ∷ []) M refl c.0.0.0)),
                    (let b = c.0.0.1 in
                        let r = (let k = showing_kept hd (length w.lines) (w.event + 1) ⊤ tt in k.quiet w.event
                        (body.Limit which.Labels ∷ [])
                        (seen.with_sent b.0 M.seen) refl (shows (seen.with_sent b.0 M.seen) refl refl b.2)) in (b.0, b.1, (r.0, r.1))),
                  ),
                  (let k = rights_keep hd in (let q = k.steps in q.quiet (body.Limit which.Labels ∷ []) M refl c.0.1)),
                ),
                made_later (says_so A hd) M (said (body.Limit which.Labels ∷ []) M) (record {
                  more = numbered M.past.number (body.Limit which.Labels ∷ []);
                  lines = refl;
                  askings = refl;
                  sent = λ p i. i;
                  full = λ f. f;
                }) (λ j. refl) (λ p i. i) c.1,
              ),
              beside.labels M o.now.holds.1,
            );
          };
          count = o.count;
          lines = λ never. absurd (cc never);
        }

    -- an event that the world refuses, or doesn't
    pub refused_at : (e : Event) (c : ℕ) → w.over ≡ false →
        HoldsAt hd (I w.lines (w.event + 1)) (come e g) (says (body.Refused c ∷ []) (counted w))
    refused_at e c over = says_hold hd (I w.lines (w.event + 1)) (beside.inner w.lines (w.event + 1) early) (body.Refused c ∷ []) (come e g)
        (counted w) refl (opened_so e over)

    pub happened_at : (e : Event) (a : Arm) → first_reason (reasons e w) ≡ None → w.over ≡ false →
        HoldsAt hd (I w.lines (w.event + 1)) (asked_of_node (writes.asks e w) w (come e g)) (limited (happens e a (counted w)))
    happened_at e a is over = happened hd (I w.lines (w.event + 1)) (beside.inner w.lines (w.event + 1) early) e a g w is
        (let o = h.holds in o.lines over) (opened_so e over)

    unless_so : (e : Event) (a : Arm) (r : Option ℕ) → first_reason (reasons e w) ≡ r → w.over ≡ false →
        HoldsWith hd Rest (past_unless e w (run_unless e a w r) g r) (run_unless e a w r)
    unless_so e a (Some c) is over =
        closes_at hd (I w.lines (w.event + 1)) Rest closed_so (come e g) w (says (body.Refused c ∷ []) (counted w)) (let o =
        h.holds in o.lines over) (λ i. (let o = h.holds in o.count i) + 1) (refused_at e c over)
    unless_so e a None is over = by (lacks_labels (giving e w) w)
      where
        by : (b : Bool) → HoldsWith hd Rest
            (let v = if b then no_labels w else limited (happens e a (counted w)) in
            if b then g else (Moments.gone (written w v) (asked_of_node (writes.asks e w) w (come e g))))
            (if b then no_labels w else limited (happens e a (counted w)))
        by true = labels_so
        by false =
            let q = asked_of_node (writes.asks e w) w (come e g) in
            let same = same_run e g w (writes.asks e w) in
            let o = h.holds in
            closes_at hd (I w.lines (w.event + 1)) Rest closed_so q w (limited (happens e a (counted w)))
            (ap (λ (r : Past). r.lines) same.0 ∙ o.lines over)
            (same.1 ∙ (λ i. o.count i + 1) ∙ (λ i. (let r = sym same.0 i in r.count) + 1)) (happened_at e a is over)

    event_so : (e : Asked) → HoldsWith hd Rest (past_event e w g) (run_event e w)
    event_so e = by w.over refl
      where
        r : Option ℕ
        r = first_reason (reasons e.event w)

        by : (b : Bool) → w.over ≡ b → HoldsWith hd Rest (if b then g else past_unless e.event w
            (if b then w else run_unless e.event e.arm w r) g r)
            (if b then w else run_unless e.event e.arm w r)
        by true over = h.holds
        by false over = unless_so e.event e.arm r refl over

    pub next_so : (e : Asked) → (w.over ≡ false → Fits hd A (w.event + 1) (let x = e in x.event)) →
        StandsSo (past_event e w g) (run_event e w)
    next_so e fits = record { holds = event_so e; shown = event_shown hd w h.shown e; settled = event_settles hd A e w fits h.settled }

  -- ---- runs

  pub armed_so : (g : History) (w : World) (arms : List (ℕ × Arm)) → StandsSo g w → StandsSo g (record w { arms = arms })
  armed_so g w arms h = record {
    holds = same_look g w arms Rest hd h.holds;
    shown = (let s = h.shown in record { known = arms_hold hd Base arms w s.known; shown = s.shown; early = s.early });
    settled = armed_settles hd A arms w h.settled;
  }

  pub move_so : (m : Move) (g : History) (w : World) → (w.over ≡ false → Fits hd A (w.event + 1) (let e = m.asked in e.event)) →
      StandsSo g w → StandsSo (past_event m.asked (record w { arms = m.falls }) g) (moved m w)
  move_so m g w fits h =
      let v = record w { arms = m.falls } in
      armed_so (past_event m.asked v g) (run_event m.asked v) [] (next_so g v (armed_so g w m.falls h) m.asked fits)

  -- where no crash counts
  pub moves_stand : ((e : ℕ) (v : Event) → Fits hd A e v) → (ms : List Move) (g : History) (w : World) → StandsSo g w →
      StandsSo (past_moves ms w g) (all_moved ms w)
  moves_stand fits [] g w h = h
  moves_stand fits (m ∷ ms) g w h = moves_stand fits ms (past_event m.asked (record w { arms = m.falls }) g) (moved m w)
      (move_so m g w (λ on. fits (w.event + 1) (let e = m.asked in e.event)) h)

  pub first_so : (st : Start) → IsFormed hd st → P (look (no_history st) [] (world_from hd st)) →
      StandsSo (no_history st) (world_from hd st)
  first_so st formed first = record {
    holds = record {
      now = record {
        sent = [];
        stands = first_stands hd st;
        number = refl;
        wrote = ([], refl);
        holds = (
          (
            (
              (
                ([], (λ p i. i), (let k = known_wide hd in k.first st formed)),
                ([], (λ p i. i), (let s = first_showing hd 0 st formed in (s.0, s.1))),
              ),
              (let k = rights_keep hd in k.first st formed),
            ),
            first_made hd (says_so A hd) st formed,
          ),
          first,
        );
      };
      count = refl;
      lines = λ over. refl;
    };
    shown = first_is_shown hd st formed;
    settled = first_settles hd A st formed;
  }

-- nothing else
pub none_beside : (A : List AskedOf) (hd : Header) → Beside A hd (λ M. ⊤) (InEvent A hd)
none_beside A hd = record {
  inner = λ before event early. event_step A hd before event early;
  knows = λ before event M h. h;
  opens = λ e M first number h. tt;
  enters = λ before event M number first lines k h. k;
  leaves = λ before event bodies M number lines h. tt;
  labels = λ M h. tt;
}

-- no crash counts
pub none_fits : (hd : Header) (e : ℕ) (v : Event) → Fits hd [] e v
none_fits hd e v n is = absurd (cc is)

pub runs_meet : RunsMeetRows
runs_meet hd r =
    let b = none_beside [] hd in
    let z = moves_stand [] hd (λ M. ⊤) (InEvent [] hd) b (none_fits hd) r.moves (no_history r.start) (world_from hd r.start)
    (first_so [] hd (λ M. ⊤) (InEvent [] hd) b r.start r.formed tt) in
    let h = z.holds in
    record {
      now = record {
        sent = h.now.sent;
        stands = h.now.stands;
        number = h.now.number;
        wrote = h.now.wrote;
        holds = h.now.holds.0.1;
      };
      count = h.count;
      lines = h.lines;
    }
