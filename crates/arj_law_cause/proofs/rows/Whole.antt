-- In every run each line that answers a call has its cause.
use Rattle.arj_law_parts.proofs.Words
use Words.{◌≡◌, ◌∙◌, ◌+◌, ◌++◌, ℕ, Bool, true, false, cond, if◌then◌else◌, List, [], ◌∷◌, length, Option, Some, None, refl, sym, ap}
use Words.{Arm, Event, arith, append-nil, filter, at_place, Body, Header, Label, Line, Node, Start, IsFormed, World, counted}
use Words.{append_assoc, first_reason, giving, subst, ◌==◌, ◌&&◌, ◌||◌, ◌⊎◌, ⊎_elim, In, inl, inr, and_parts, or_cases, eqb-true}
use Words.{list_any-append}
use Words.{happens, is_given, lacks_labels, limited, no_labels, node_in, node_of, numbered, reasons, run_event, run_unless, world_from}
use Words.{Move, moved, name}
use Words.{Disk, Input, Parts}
use Words.body
use Rattle.arj_law_parts.proofs.Terms.which
use Rattle.arj_law_serial.proofs.Terms.{IsAtStarts}
use Rattle.arj_law_lock_view.proofs.asking.{Keeping.first_tied, Keeping.tied_step, Tied.Pathed, Tied.paths_of_wide, Tied.pathed_wide}
use Rattle.arj_law_lock_view.specs.asking.Asked.{AskedAreTied, accepted_of}
use Rattle.arj_law_lock_view.proofs.moments.Answers.{answers_step, first_made, made_closes, made_later, made_opens}
use Rattle.arj_law_lock_view.specs.moments.Made.{AnswersAreMade}
use Rattle.arj_law_parts.proofs.moves.{Happens.Wide, Happens.keeps_asked, Happens.wide_kept}
use Rattle.arj_law_parts.specs.moves.Moments.{History, Moment, come, gone, no_history, said, up}
use Rattle.arj_law_parts.specs.moves.With.{KeepsSteps, KeepsWith, asked_at, asked_of_node, look, past_event, past_unless, written}
use Rattle.arj_law_parts.specs.steps.Writes as writes
use Rattle.arj_law_runs.proofs.addresses.Runs.{kept}
use Rattle.arj_law_runs.proofs.follow.Along.{Ended, Outcome, Went, event_of, runs_along}
use Rattle.arj_law_runs.proofs.follow.Frames as frames
use Rattle.arj_law_runs.proofs.follow.Halts.{KnowsAll, halts_keep}
use Rattle.arj_law_runs.proofs.follow.Reasons.{joined, refused_by_any}
use Rattle.arj_law_runs.proofs.follow.Refusing as refusing
use Rattle.arj_law_runs.proofs.follow.Refusing.{Came, IsRefused, IsRun, same_bodies}
use Rattle.arj_law_runs.specs.addresses.Addresses.{AreAddressed}
use Rattle.arj_law_runs.specs.follow.Frames.{FramesStep, are_so, run_events}
use Rattle.arj_model.specs.CauseSpans.{Here, here_at}
use Rattle.arj_model.specs.Caused.{has_cause}
use Rattle.arj_model.specs.Actions.{acts, path}
use Rattle.arj_model.specs.Follows.{Runs}
use Words.{◌≤◌, ◌<◌, AllByRecursion}
use Rattle.arj_model.specs.CausePends.{is_crash, is_crash_at}
use Rattle.arj_law_cause.proofs.rows.Worlds.{Fits}
use Rattle.arj_model.specs.Past.{Asked as AskedOf, Along, Past, asked_of, at_start, block, is_refused, label_of, next}
use Rattle.arj_promise.specs.Runs.{HeaderFits, IsStoppedInForm, journal_by}
use Rattle.arj_law_cause.proofs.rows.{Accepting.asked_same, Accepting.refused_asks, Accepting.same_refusal, Asks.AreSameAsks}
use Rattle.arj_law_cause.proofs.rows.{Asks.asks_some}
use Rattle.arj_law_cause.proofs.rows.Calls.{AreRising, rising_more}
use Rattle.arj_law_cause.proofs.rows.Lined
use Rattle.arj_law_cause.proofs.rows.Running
use Rattle.arj_law_cause.proofs.rows.Running.{Beside, InEvent, StandsSo, event_step, steps_both}
use Rattle.arj_law_cause.proofs.rows.Locked.{LoadsAreLocked, first_locked, locked_step, more_are}
use Rattle.arj_law_cause.proofs.rows.Differing.{differs_so, tells_differs}
use Rattle.arj_law_cause.proofs.rows.Starting.{Differing, differing_keep}
use Rattle.arj_law_cause.proofs.rows.Taking.{AskedPaths, Works, both_so}
use Rattle.arj_law_cause.proofs.waits.lost.Bound.{Stocked, stocked_keep}
use Rattle.arj_law_cause.proofs.rows.Entered.{IsSettled, settled_before}
use Rattle.arj_law_cause.proofs.rows.Settled.{runs_settled}
use Rattle.arj_law_cause.proofs.kinds.Forms.{runs_too, so_too}
use Rattle.arj_law_cause.specs.rows.Lines.{AnswersHaveCauses, AnswersStep, ConflictsAreExact, ExactStep, answer_fits}
use Rattle.arj_law_cause.specs.rows.Lines.{include_is_free, is_exact, ok_is_free}

none_is : {A P : Type 0} {x : A} → None ≡ Some x → P
none_is {A} {P} {x} is = let no_way : ◌≡◌ {A = Option A} None (Some x) = is in absurd (cc no_way)

some_is : {A : Type 0} {a b : A} → Some a ≡ Some b → a ≡ b
some_is {A} {a} {b} is = let k : ◌≡◌ {A = Option A} (Some a) (Some b) = is in cc

-- what is asked of a node is asked by the event
same_event : (o : Option (ℕ × Input)) (w : World) (g : History) → (let q = asked_of_node o w g in q.event) ≡ g.event
same_event None w g = refl
same_event (Some a) w g = by (at_place a.0 w.nodes)
  where
    by : (n : Option Node) → (let q = asked_at w.header a.1 n g in q.event) ≡ g.event
    by None = refl
    by (Some n) = refl

-- ---- which events are crashes

-- of the events that were run these have no more crashes
abbrev pub Extends : List AskedOf → Past → Type 0
Extends A p = (e : ℕ) → e ≤ p.count → (n : ℕ) → is_crash_at A n e ≡ true → is_crash_at p.accepted n e ≡ true

-- accepted events have their numbers
abbrev pub AreNumbered : Past → Type 0
AreNumbered p = (k : AskedOf) → In k p.accepted → k.number ≤ p.count

extends_it : (p : Past) → Extends p.accepted p
extends_it p e few n is = is

crash_on : (n e : ℕ) (xs ys : List AskedOf) → is_crash_at (xs ++ ys) n e ≡ is_crash_at xs n e || is_crash_at ys n e
crash_on n e xs ys = list_any-append (λ (k : AskedOf). (k.number == e) && is_crash n k.event) xs ys

-- a crash has the number of its event
crash_number : (n e c : ℕ) (xs : List AskedOf) → ((k : AskedOf) → In k xs → k.number ≤ c) → is_crash_at xs n e ≡ true → e ≤ c
crash_number n e c [] all is = absurd (cc is)
crash_number n e c (x ∷ xs) all is = ⊎_elim {C = e ≤ c}
    (λ here. let same = eqb-true x.number e (and_parts (x.number == e) (is_crash n x.event) here).0 in let few = all x (inl refl) in
    omega (arith, same, few))
    (λ later. crash_number n e c xs (λ k i. all k (inr i)) later)
    (or_cases ((x.number == e) && is_crash n x.event) (is_crash_at xs n e) is)

pub next_crash : (n e : ℕ) (p : Past) (v : Event) (bodies : List Body) → is_crash_at (next p v bodies).accepted n e ≡ true →
    (is_crash_at p.accepted n e ≡ true) ⊎ ((p.count + 1 ≡ e) × (is_crash n v ≡ true))
next_crash n e p v bodies = by (is_refused bodies)
  where
    by : (b : Bool) → is_crash_at (if b then p.accepted else p.accepted ++ asked_of p v ∷ []) n e ≡ true →
        (is_crash_at p.accepted n e ≡ true) ⊎ ((p.count + 1 ≡ e) × (is_crash n v ≡ true))
    by true is = inl is
    by false is = ⊎_elim {C = (is_crash_at p.accepted n e ≡ true) ⊎ ((p.count + 1 ≡ e) × (is_crash n v ≡ true))} (λ old. inl old)
        (λ new. let q = and_parts (p.count + 1 == e) (is_crash n v) (one ((p.count + 1 == e) && is_crash n v) new) in
        inr (eqb-true (p.count + 1) e q.0, q.1))
        (or_cases (is_crash_at p.accepted n e) (is_crash_at (asked_of p v ∷ []) n e) (sym (crash_on n e p.accepted
        (asked_of p v ∷ [])) ∙ is))
      where
        one : (b : Bool) → (b || false) ≡ true → b ≡ true
        one true is = refl
        one false is = is

extends_less : (A : List AskedOf) (p : Past) (v : Event) (bodies : List Body) → Extends A (next p v bodies) → Extends A p
extends_less A p v bodies more e few n is = ⊎_elim {C = is_crash_at p.accepted n e ≡ true} (λ old. old)
    (λ new. let same = new.0 in absurd (omega (arith, few, same))) (next_crash n e p v bodies (more e (omega (arith, few)) n is))

extends_fits : (hd : Header) (A : List AskedOf) (p : Past) (v : Event) (bodies : List Body) → AreNumbered p → Extends A (next p v bodies) →
    Fits hd A (p.count + 1) v
extends_fits hd A p v bodies numbers more n is = ⊎_elim {C = is_crash n v ≡ true}
    (λ old. let few = crash_number n (p.count + 1) p.count p.accepted numbers old in absurd (omega (arith, few)))
    (λ new. new.1) (next_crash n (p.count + 1) p v bodies (more (p.count + 1) (same (p.count + 1)) n is))
  where
    same : (m : ℕ) → m ≤ m
    same m = omega arith

numbers_of : (c : ℕ) (xs : List AskedOf) → AllByRecursion (λ (a : AskedOf). a.number ≤ c) xs → (k : AskedOf) → In k xs → k.number ≤ c
numbers_of c [] all k there = absurd there
numbers_of c (x ∷ xs) all k (inl same) = subst (λ (a : AskedOf). a.number ≤ c) same all.0
numbers_of c (x ∷ xs) all k (inr there) = numbers_of c xs all.1 k there

-- its answers fit, where the journal is in form by then
abbrev EarlyStep : Header → Past → Event → List Body → Type 0
EarlyStep hd p e bodies = IsSettled (p.lines ++ block (p.count + 1) bodies) → AnswersStep hd p e bodies

-- accepted events have rising numbers, up to those that came
pub record AreCounted (p : Past) : Type 0 where
  pub rising : AreRising p.accepted
  pub low : AllByRecursion (λ (a : AskedOf). a.number ≤ p.count) p.accepted

counted_next : (p : Past) (e : Event) (bodies : List Body) → AreCounted p → AreCounted (next p e bodies)
counted_next p e bodies c = let z = of (is_refused bodies) in record { rising = z.0; low = z.1 }
  where
    up : (m n : ℕ) → m ≤ n → m ≤ n + 1
    up m n le = omega (arith, le)

    less : (m n : ℕ) → m ≤ n → m < n + 1
    less m n le = omega (arith, le)

    itself : (n : ℕ) → n + 1 ≤ n + 1
    itself n = omega arith

    all_up : (ks : List AskedOf) → AllByRecursion (λ (a : AskedOf). a.number ≤ p.count) ks →
        AllByRecursion (λ (a : AskedOf). a.number ≤ p.count + 1) ks
    all_up [] all = tt
    all_up (a ∷ ks) all = (up a.number p.count all.0, all_up ks all.1)

    all_less : (ks : List AskedOf) → AllByRecursion (λ (a : AskedOf). a.number ≤ p.count) ks →
        AllByRecursion (λ (a : AskedOf). a.number < p.count + 1) ks
    all_less [] all = tt
    all_less (a ∷ ks) all = (less a.number p.count all.0, all_less ks all.1)

    one_more : (ks : List AskedOf) → AllByRecursion (λ (a : AskedOf). a.number ≤ p.count + 1) ks →
        AllByRecursion (λ (a : AskedOf). a.number ≤ p.count + 1) (ks ++ asked_of p e ∷ [])
    one_more [] all = (itself p.count, tt)
    one_more (a ∷ ks) all = (all.0, one_more ks all.1)

    Counted : List AskedOf → Type 0
    Counted ks = AreRising ks × AllByRecursion (λ (a : AskedOf). a.number ≤ p.count + 1) ks

    of : (b : Bool) → Counted (if b then p.accepted else p.accepted ++ asked_of p e ∷ [])
    of true = (c.rising, all_up p.accepted c.low)
    of false = (rising_more p.accepted (asked_of p e) c.rising (all_less p.accepted c.low), one_more p.accepted (all_up p.accepted c.low))

module _ (hd : Header) (form : HeaderFits hd) (st : Start) where
  -- ---- what is known

  abbrev Knows : Moment → Type 0
  Knows M = Wide Pathed M × (Wide KnowsAll M × (Wide (AreAddressed hd) M × (Stocked hd M × Differing st M)))

  abbrev Tied : Moment → Type 0
  Tied M = Knows M × AskedAreTied M

  halts_wide : KeepsWith hd (IsAtStarts hd KnowsAll) (Wide KnowsAll)
  halts_wide = wide_kept hd (IsAtStarts hd KnowsAll) KnowsAll (keeps_asked hd KnowsAll (halts_keep hd))

  names_wide : KeepsWith hd (IsAtStarts hd (AreAddressed hd)) (Wide (AreAddressed hd))
  names_wide = wide_kept hd (IsAtStarts hd (AreAddressed hd)) (AreAddressed hd) (kept hd form)

  knows_steps : KeepsSteps hd Knows
  knows_steps =
      let kept = steps_both hd (Stocked hd) (Differing st) (let k = stocked_keep hd form in k.steps)
      (let k = differing_keep st hd in k.steps) in
      let named = steps_both hd (Wide (AreAddressed hd)) (λ M. Stocked hd M × Differing st M)
      (let k = names_wide in k.steps) kept in
      steps_both hd (Wide Pathed)
      (λ M. Wide KnowsAll M × (Wide (AreAddressed hd) M × (Stocked hd M × Differing st M)))
      (let k = pathed_wide hd in k.steps)
      (steps_both hd (Wide KnowsAll) (λ M. Wide (AreAddressed hd) M × (Stocked hd M × Differing st M))
      (let k = halts_wide in k.steps) named)

  tied_steps : KeepsSteps hd Tied
  tied_steps = tied_step hd Knows knows_steps (λ M h. paths_of_wide M h.0)

  -- between events, and inside of one
  abbrev Between : List AskedOf → Moment → Type 0
  Between A M = ((Tied M × AnswersAreMade (both_so A hd st) M) × LoadsAreLocked M) × AskedPaths M

  abbrev Inner : List AskedOf → List Line → ℕ → Moment → Type 0
  Inner A before event M = (((InEvent A hd before event M × Tied M) × AnswersAreMade (both_so A hd st) M) × LoadsAreLocked M)
      × Lined.Lined A hd st before event M

  works : (A : List AskedOf) (before : List Line) (event k : ℕ) (d : Disk) (t : Parts) (M : Moment) →
      (InEvent A hd before event (up k d t M) × Tied (up k d t M)) × AnswersAreMade (both_so A hd st) (up k d t M) →
      Works A hd k d t M
  works A before event k d t M h = record {
    paths = paths_of_wide (up k d t M) h.0.1.0.0;
    tied = h.0.1.1;
    known = h.0.0.0.0.0.0;
    all = h.0.1.0.1.0;
    addressed = h.0.1.0.1.1.0;
    made = h.0.0.1;
    full = h.0.1.0.1.1.1.0.1;
    bindings = h.0.1.0.1.1.1.1.0.1;
    differs = subst (λ z. AnswersAreMade (differs_so z) (up k d t M)) (sym h.0.1.0.1.1.1.1.0.0) h.0.1.0.1.1.1.1.1;
    both = subst (λ z. AnswersAreMade (both_so A hd z) (up k d t M)) (sym h.0.1.0.1.1.1.1.0.0) h.1;
    reached = (h.0.0.0.1.0.0, h.0.0.0.1.0.1, h.0.0.0.1.0.2.1);
    form = form;
  }

  pub its_beside : (A : List AskedOf) → Beside A hd (Between A) (Inner A)
  its_beside A = record {
    inner = λ before event early.
        let both = steps_both hd (InEvent A hd before event) Tied (event_step A hd before event early) tied_steps in
        let told = answers_step hd (both_so A hd st) (λ M. InEvent A hd before event M × Tied M) both (λ M h. h.0.0.0.0.0)
        (λ k d t v from m asks a r front M g there other meant asking new is. (
          Running.tells A hd before event early k d t v from m asks a r front M g.0.0 there other meant asking new is,
          tells_differs st k d t v from m asks a r front M g.1.0.1.1.1.1.0 there other meant asking new is,
        )) in
        Lined.lined_step A hd st before event
        (λ M. ((InEvent A hd before event M × Tied M) × AnswersAreMade (both_so A hd st) M) × LoadsAreLocked M)
        (locked_step A hd (λ M. (InEvent A hd before event M × Tied M) × AnswersAreMade (both_so A hd st) M) told
        (λ k d t M h. works A before event k d t M h))
        (λ k d t M h. works A before event k d t M h.0) (λ k d t M h. h.1) (λ k d t M h. h.0.0.1.0.1.1.1.1.0.0);
    knows = λ before event M h. h.0.0.0.0;
    opens = λ e M first number h. (
      (
        (
          (
            (
              h.0.0.0.0.0,
              (
                h.0.0.0.0.1.0,
                (
                  h.0.0.0.0.1.1.0,
                  (
                    (let k = stocked_keep hd form in k.opens e M first number h.0.0.0.0.1.1.1.0),
                    (let k = differing_keep st hd in k.opens e M first number h.0.0.0.0.1.1.1.1),
                  ),
                ),
              ),
            ),
            (let t = h.0.0.0.1 in record { tied = t.tied; new = t.new }),
          ),
          made_opens (both_so A hd st) e M first number h.0.0.1,
        ),
        h.0.1,
      ),
      h.1,
    );
    enters = λ before event M number first lines k h. (
      (((k, h.0.0.0), h.0.0.1), h.0.1),
      record {
        number = number;
        first = first;
        wrote = [];
        lines = lines ∙ sym (append-nil before);
        paths = h.1;
        fit = λ early accepted same. refl;
      },
    );
    leaves = λ before event bodies M number lines h. (
      (
        (
          (
            (
              h.0.0.0.1.0.0,
              (
                h.0.0.0.1.0.1.0,
                (
                  h.0.0.0.1.0.1.1.0,
                  (
                    (let k = stocked_keep hd form in k.closes bodies M number lines h.0.0.0.1.0.1.1.1.0),
                    (let k = differing_keep st hd in k.closes bodies M number lines h.0.0.0.1.0.1.1.1.1),
                  ),
                ),
              ),
            ),
            (let t = h.0.0.0.1.1 in record { tied = t.tied; new = t.new }),
          ),
          made_closes (both_so A hd st) bodies M number lines h.0.0.1,
        ),
        h.0.1,
      ),
      (let l = h.1 in l.paths),
    );
    labels = λ M h. (
      (
        (
          tied_steps.quiet (body.Limit which.Labels ∷ []) M refl h.0.0.0,
          made_later (both_so A hd st) M (said (body.Limit which.Labels ∷ []) M) (record {
            more = numbered M.past.number (body.Limit which.Labels ∷ []);
            lines = refl;
            askings = refl;
            sent = λ p i. i;
            full = λ f. f;
          }) (λ j. refl) (λ p i. i) h.0.0.1,
        ),
        λ j n t there live. more_are M.seen.start M.seen.lines (numbered M.past.number (body.Limit which.Labels ∷ [])) M.past.askings t.coord
            (h.0.1 j n t there live),
      ),
      λ q i. Lined.path_more M.seen.lines (numbered M.past.number (body.Limit which.Labels ∷ [])) q (h.1 q i),
    );
  }

  -- ---- events

  -- a run up to an event, and the world there
  pub record Stands (p : Past) (w : World) : Type 0 where
    pub base : refusing.Stands hd form p w
    pub history : History
    pub so : (A : List AskedOf) → Extends A p → StandsSo A hd (Between A) (Inner A) (its_beside A) history w
    pub start : p.start ≡ st
    pub asks : AreSameAsks p.accepted (accepted_of history.askings)
    pub rises : AreCounted p

  module _ (m : Move) (p : Past) (w : World) (stops : IsStoppedInForm m) (s : Stands p w) (on : w.over ≡ false) where
    abbrev e : Event
    e = event_of m

    abbrev arm : Arm
    arm = let a = m.asked in a.arm

    -- the world as the event comes
    abbrev v : World
    v = record w { arms = m.falls }

    armed : (A : List AskedOf) → Extends A p → StandsSo A hd (Between A) (Inner A) (its_beside A) s.history v
    armed A more = Running.armed_so A hd (Between A) (Inner A) (its_beside A) s.history w m.falls (s.so A more)

    lines_are : p.lines ≡ w.lines
    lines_are = let b = s.base in let f = b.base in f.lines

    count_is : p.count ≡ w.event
    count_is = let b = s.base in let f = b.base in f.count

    run_lines : (let r = s.history.run in r.lines) ≡ w.lines
    run_lines = let h = s.so p.accepted (extends_it p) in let o = h.holds in o.lines on

    run_count : (let r = s.history.run in r.count) ≡ w.event
    run_count = let h = s.so p.accepted (extends_it p) in let o = h.holds in sym o.count ∙ (let n = o.now in n.number)

    -- what was asked is the same in both
    asked_is : asked_of p e ≡ asked_of s.history.run e
    asked_is = λ i. record {
      path = path (acts ((lines_are ∙ sym run_lines) i)) (label_of e);
      event = e;
      number = (count_is ∙ sym run_count) i + 1;
      at = length ((lines_are ∙ sym run_lines) i);
    }

    -- a label that was given is that of an action at a node
    there : (l : Label) → is_given l v ≡ true →
        (n : Node) × (at_place (node_of l v) w.nodes ≡ Some n)
    there l given =
        let q = refusing.labelled_so hd form m p w stops s.base on l given in
        (q.1, ap (λ j. at_place j w.nodes) (ap node_in q.2) ∙ q.3)

    -- the world doesn't refuse the event, as it's counted, and before
    as_before : first_reason (reasons e (counted v)) ≡
        first_reason (reasons e v)
    as_before = ap first_reason (frames.same_reasons e v)

    -- a label is left for it, since it was run
    has_label : first_reason (reasons e v) ≡ None → (moved m w).event ≡ w.event + 1 →
        lacks_labels (giving e v) v ≡ false
    has_label free count = by (lacks_labels (giving e v) v) refl
      where
        stays : (n : ℕ) → n ≡ n + 1 → ⊥
        stays n is = omega (arith, is)

        by : (b : Bool) → lacks_labels (giving e v) v ≡ b → b ≡ false
        by false has = refl
        by true lacks =
            let same : (moved m w).event ≡ w.event =
            (λ i. (let x = cond (on i) v (run_unless e arm v
            (first_reason (reasons e v))) in x.event))
            ∙ (λ i. (let x = run_unless e arm v (free i) in x.event))
            ∙ (λ i. (let x = cond (lacks i) (no_labels v)
            (limited (happens e arm (counted v))) in x.event)) in
            absurd (stays w.event (sym same ∙ count))

    -- the history behind it
    after_is : (r : Option ℕ) → first_reason (reasons e v) ≡ r →
        past_event m.asked v s.history
        ≡ past_unless e v (run_event m.asked v) s.history r
    after_is r is = (λ i. if on i then s.history else past_unless e v
        (run_event m.asked v) s.history (first_reason (reasons e v)))
        ∙ ap (past_unless e v (run_event m.asked v) s.history) is

    module _ (bodies : List Body) (count : (moved m w).event ≡ w.event + 1) where
      -- what is accepted is what was asked
      abbrev Agrees : Type 0
      Agrees = AreSameAsks (next p e bodies).accepted
          (accepted_of (let h = past_event m.asked v s.history in h.askings))

      -- refused
      refused_agrees : (c : ℕ) → refused_by_any e (counted v) ≡ Some c → bodies ≡ body.Refused c ∷ [] →
          Agrees
      refused_agrees c refused is = (λ i. filter asks_some (if ap is_refused is i then p.accepted else p.accepted ++ asked_of p e ∷ []))
          ∙ s.asks ∙ ap (λ ks. filter asks_some (accepted_of ks)) (sym (by (first_reason (reasons e v)) refl))
        where
          by : (r : Option ℕ) → first_reason (reasons e v) ≡ r →
              (let h = past_event m.asked v s.history in h.askings) ≡ s.history.askings
          by (Some d) world = ap (λ (h : History). h.askings) (after_is (Some d) world)
          by None free = ap (λ (h : History). h.askings) (after_is None free)
              ∙ on_label (lacks_labels (giving e v) v)
            where
              node : writes.node_refusal e v ≡ Some c
              node = sym (same_refusal e v)
                  ∙ ap (λ r. joined r (writes.node_refusal e (counted v))) (sym (as_before ∙ free)) ∙ refused

              on_label : (b : Bool) → (let h = if b then s.history else
                  gone
                  (written v (run_event m.asked v))
                  (asked_of_node (writes.asks e v) v (come e s.history)) in
                  h.askings) ≡ s.history.askings
              on_label true = refl
              on_label false = refused_asks v (come e s.history)
                  (writes.asks e v) c node

      -- or not
      module _ (none : refused_by_any e (counted v) ≡ None) (isnt : is_refused bodies ≡ false) where
        free : first_reason (reasons e v) ≡ None
        free = by (first_reason (reasons e v)) refl
          where
            by : (r : Option ℕ) → first_reason (reasons e v) ≡ r → r ≡ None
            by None is = refl
            by (Some c) is = none_is (sym none ∙ ap (λ r. joined r (writes.node_refusal e (counted v)))
                (as_before ∙ is))

        granted : writes.node_refusal e v ≡ None
        granted = sym (same_refusal e v)
            ∙ ap (λ r. joined r (writes.node_refusal e (counted v))) (sym (as_before ∙ free)) ∙ none

        abbrev asked_then : History
        asked_then =
            asked_of_node (writes.asks e v) v (come e s.history)

        accepted_same : AreSameAsks (next p e bodies).accepted (accepted_of (let h = asked_then in h.askings))
        accepted_same = (λ i. filter asks_some (if isnt i then p.accepted else p.accepted ++ asked_of p e ∷ []))
            ∙ asked_same p v s.history s.asks there e free granted asked_is

        run_agrees : Agrees
        run_agrees = accepted_same ∙ ap (λ ks. filter asks_some (accepted_of ks)) (sym (ap (λ (h : History). h.askings) (after_is None free)
            ∙ (λ i. (let h = if has_label free count i then s.history else
            gone
            (written v (run_event m.asked v))
            (asked_of_node (writes.asks e v) v (come e s.history)) in
            h.askings))))

        -- each line has its cause
        run_fits : (let x = counted v in x.lines) ++ block (w.event + 1) bodies
            ≡ (limited (happens e arm (counted v))).lines →
            EarlyStep hd p e bodies
        run_fits lines early =
            let A = (next p e bodies).accepted in
            let H = Running.happened_at A hd (Between A) (Inner A) (its_beside A) s.history v
            (armed A (extends_less A p e bodies (extends_it (next p e bodies)))) e arm free on in
            let L = H.holds.1 in
            let wrote : bodies ≡ L.wrote = same_bodies (w.event + 1) bodies L.wrote w.lines (lines ∙ L.lines) in
            (λ i. are_so answer_fits (record {
              header = hd;
              start = s.start i;
              accepted = (next p e bodies).accepted;
              event = sym (same_event (writes.asks e v) v
                  (come e s.history)) i;
              number = count_is i + 1;
              first = length (lines_are i);
              lines = lines_are i;
            }) (wrote i)) ∙ L.fit (subst IsSettled ((λ i. lines_are i ++ block (count_is i + 1) bodies) ∙ lines) early)
            (next p e bodies).accepted ((accepted_same, (counted_next p e bodies s.rises).rising), refl)

      stands_then : refusing.Stands hd form (next p e bodies) (moved m w) → Agrees → Stands (next p e bodies) (moved m w)
      stands_then base agrees = record {
        base = base;
        history = past_event m.asked v s.history;
        so = λ A more. Running.move_so A hd (Between A) (Inner A) (its_beside A) m s.history w
            (λ running. subst (λ n. Fits hd A n e) (ap (λ n. n + 1) count_is)
            (extends_fits hd A p e bodies (numbers_of p.count p.accepted (let c = s.rises in c.low)) more))
            (s.so A (extends_less A p e bodies more));
        start = s.start;
        asks = agrees;
        rises = counted_next p e bodies s.rises;
      }

      went : Came e arm (counted v) bodies →
          refusing.Stands hd form (next p e bodies) (moved m w) → Outcome (EarlyStep hd) Stands m p w
      went (IsRefused c refused is) base = Went bodies (λ early. ap (λ bs. are_so answer_fits (here_at hd p e bs) bs) is)
          (stands_then base (refused_agrees c refused is))
      went (IsRun none isnt lines) base = Went bodies (run_fits none isnt lines) (stands_then base (run_agrees none isnt))

    goes : Outcome (EarlyStep hd) Stands m p w
    goes = by (frames.goes hd form m p w stops (let b = s.base in b.base) on)
      where
        by : Outcome (FramesStep hd) (frames.Stands hd form) m p w → Outcome (EarlyStep hd) Stands m p w
        by (Ended over event lines) = Ended over event lines
        by (Went bodies step after) =
            let c = refusing.goes_with hd form m p w stops s.base on bodies after in
            went bodies (sym after.count ∙ ap (λ n. n + 1) count_is) c.0 c.1

  -- ---- as a run begins

  first_between : (A : List AskedOf) → IsFormed hd st → Between A (look (no_history st) [] (world_from hd st))
  first_between A formed = (
    (
      (
        (
          (
            ([], (λ p i. i), (let k = pathed_wide hd in k.first st formed)),
            (
              ([], (λ p i. i), (let k = halts_wide in k.first st formed)),
              (
                ([], (λ p i. i), (let k = names_wide in k.first st formed)),
                ((let k = stocked_keep hd form in k.first st formed), (let k = differing_keep st hd in k.first formed)),
              ),
            ),
          ),
          (let t = first_tied hd st in record { tied = t.tied; new = t.new }),
        ),
        first_made hd (both_so A hd st) st formed,
      ),
      first_locked hd st,
    ),
    λ q i. absurd i,
  )

  pub first_stands : IsFormed hd st → Stands (at_start st) (world_from hd st)
  first_stands formed = record {
    base = refusing.first_stands hd form st formed;
    history = no_history st;
    so = λ A more. Running.first_so A hd (Between A) (Inner A) (its_beside A) st formed (first_between A formed);
    start = refl;
    asks = refl;
    rises = record { rising = tt; low = tt };
  }

-- ---- journals in form

-- a run that goes on has more lines
along_more : (P : Past → Event → List Body → Type 0) (es : List Event) (p end : Past) → Along P p es end →
    (more : List Line) × (end.lines ≡ p.lines ++ more)
along_more P [] p end same = ([], ap (λ (z : Past). z.lines) (sym same) ∙ sym (append-nil p.lines))
along_more P (e ∷ es) p end h =
    let r = along_more P es (next p e h.0) end h.2 in
    (block (p.count + 1) h.0 ++ r.0, r.1 ∙ append_assoc p.lines (block (p.count + 1) h.0) r.0)

early_along : (hd : Header) (es : List Event) (p end : Past) → Along (EarlyStep hd) p es end → IsSettled end.lines →
    Along (AnswersStep hd) p es end
early_along hd [] p end h early = h
early_along hd (e ∷ es) p end h early =
    let r = along_more (EarlyStep hd) es (next p e h.0) end h.2 in (
      h.0,
      h.1 (settled_before (let z = next p e h.0 in z.lines) r.0 (subst IsSettled r.1 early)),
      early_along hd es (next p e h.0) end h.2 early,
    )

pub answers_are_caused : AnswersHaveCauses
answers_are_caused hd r form =
    let runs : Runs (EarlyStep hd) r.start (run_events hd r) (journal_by hd r) =
    runs_along (EarlyStep hd) (Stands hd form.header r.start) IsStoppedInForm (λ p w s. let b = s.base in let f = b.base in f.lines)
    (λ p w s. let b = s.base in let f = b.base in f.count)
    (λ m p w stops s on. goes hd form.header r.start m p w stops s on) r.start r.moves (world_from hd r.start) form.stops
    (first_stands hd form.header r.start r.formed) in
    let end = runs.0 in (
      runs.0,
      runs.1,
      early_along hd (run_events hd r) (at_start r.start) runs.0 runs.2
          (settled_before end.lines runs.1 (subst IsSettled runs.3 (runs_settled hd r form))),
      runs.3,
      runs.4,
    )

-- so each of them is a conflict exactly where a lock stands
pub conflicts_are_exact : ConflictsAreExact
conflicts_are_exact hd r form = runs_too (AnswersStep hd) (ExactStep hd)
    (λ p e bs all. so_too answer_fits is_exact fits (here_at hd p e bs) bs all) r.start (run_events hd r) (journal_by hd r)
    (answers_are_caused hd r form)
  where
    second : (a b : Bool) → (a && b) ≡ true → b ≡ true
    second a b is = (and_parts a b is).1

    fits : (h : Here) (b : Body) → answer_fits h b ≡ true → is_exact h b ≡ true
    fits h (body.Ok l x op answer) is = second (has_cause h (body.Ok l x op answer)) (ok_is_free h (name l) x op) is
    fits h (body.Includes l x n) is = second (has_cause h (body.Includes l x n)) (include_is_free h (name l) x n) is
    fits h (body.Conflict l u held n) is = is
    fits h b is = refl
