-- In every run events that write one line of their own follow the journal whole.
use Rattle.arj_law_parts.proofs.Words
use Words.{◌≡◌, ◌∙◌, ◌+◌, ◌-◌, ◌≤◌, ◌||◌, not, ℕ, Bool, true, false, cond, List, [], ◌∷◌, ◌++◌, length, refl, sym, ap, subst, arith, Option}
use Words.{Some, None}
use Words.{is_some, nat_lt, nat_tests, at_number, at_place, Body, Event, Header, Label, Kind, Node, Parts, Input, Step, Arm, World, Frame}
use Words.{FrameNo, Say, armed, counted, cut, disarmed, halted_at, done_step, first_reason, frame_number, happens, is_frame, is_up_at}
use Words.{is_up}
use Words.{limited, lose_frame, most_frames, next_uid, reasons, step, step_node, step_with, steps, world_from, Move, journal_by}
use Words.{begins, gives_label, labels_unless, Giving, IsInForm, Start, numbered}
use Words.body
use Words.event
use Words.frame_no
use Words.input
use Words.kind
use Rattle.arj_law_runs.proofs.Terms.which
use Rattle.arj_law_runs.proofs.Terms.{Act, act_in, option_map}
use Words.{if◌then◌else◌, refusal, refused_at, is_given, is_serial, kind_below, name, node_in, node_of}
use Rattle.arj_protocol.specs.World.{kind_in}
use Rattle.arj_law_runs.proofs.Terms.{says, Holds, IsMemory, IsUp, acts, keeps_asked}
use Rattle.arj_law_parts.proofs.moves.Happens.{first_asked}
use Rattle.arj_law_parts.proofs.moves.Moving.{move_asked}
use Rattle.arj_law_parts.proofs.moves.Reasons.{first_not, is_there, not_not}
use Rattle.arj_law_parts.proofs.parts.LivesNamed.{all_found}
use Rattle.arj_law_parts.specs.steps.Writes.{node_refusal}
use Rattle.arj_law_runs.proofs.follow.Along.{Ended, Outcome, Went, event_of, runs_along}
use Rattle.arj_law_runs.proofs.follow.Frames as frames
use Rattle.arj_law_runs.proofs.follow.Plain.{crash_free}
use Rattle.arj_law_runs.proofs.follow.Reasons.{begins_free, joined, refused_by_any}
use Rattle.arj_law_runs.proofs.follow.Refusing as refusing
use Rattle.arj_law_runs.proofs.follow.Refusing.{Came, IsRefused, IsRun, same_bodies}
use Rattle.arj_law_runs.proofs.follow.Gone.{its_action}
use Rattle.arj_law_runs.proofs.follow.Limits.{goes_on}
use Words.{inl, inr, junk_fits}
use Words.frame
use Rattle.arj_law_runs.proofs.follow.Uids.{KnowsNext, count_of, next_keep}
use Rattle.arj_law_runs.specs.follow.Frames.{FramesStep, run_events}
use Rattle.arj_law_runs.specs.follow.Refusals.{names_action}
use Rattle.arj_law_runs.specs.follow.Shorts.{ShortEventsStep, begins_below, is_short}
use Rattle.arj_model.specs.Follows.{Accepted, Runs, is_limited}
use Rattle.arj_model.specs.Follows as model_step
use Rattle.arj_model.specs.Own as own
use Rattle.arj_model.specs.Own.{Begins}
use Rattle.arj_model.specs.Past.{Past, at_start, block, is_refused, next}
use Rattle.arj_model.specs.Refusals as model
use Rattle.arj_promise.specs.Runs.{HasWork, HeaderFits, IsStoppedInForm, Run}
use Rattle.arj_promise.specs.Starts.{IsFormed}
use Rattle.arj_protocol.specs.World as world
use Rattle.std.specs.Prelude.{MatchOption}

-- ---- one line

-- the short event has one line, whatever there is room for
abbrev is_single : Event → Bool
is_single (event.Junk n bytes) = false
is_single e = is_short e

-- the world has this line more, and each frame fits
record Says (b : Body) (w v : World) : Type 0 where
  pub lines : v.lines ≡ w.lines ++ numbered w.event (b ∷ [])
  pub full : v.full ≡ w.full

module _ (b : Body) (w : World) (few : length w.frames ≤ most_frames) (k : ℕ) (n : Node) where
  fits : nat_lt most_frames (length w.frames + 0) ≡ false
  fits = by (length w.frames) few
    where
      by : (x : ℕ) → x ≤ most_frames → nat_lt most_frames (x + 0) ≡ false
      by x few = grind (arith, nat_tests, few)

  or_none : (x : Bool) → (x || false) ≡ x
  or_none true = refl
  or_none false = refl

  -- a step that says one line, and does nothing on the disk
  abbrev only : Node → Step
  only after = record { outs = Say b ∷ []; halting = Say b ∷ []; after = after }

  only_says : (after : Node) (o : Option Arm) → ((a : Arm) → o ≡ Some a → HasWork a) → Says b w (step_with k n (only after) w o)
  only_says after None works = record { lines = refl; full = (λ j. w.full || fits j) ∙ or_none w.full }
  only_says after (Some a) works = by (nat_lt 0 a.works) (less a.works (works a refl))
    where
      less : (x : ℕ) → 1 ≤ x → nat_lt 0 x ≡ true
      less x is = grind (arith, nat_tests, is)

      by : (t : Bool) → t ≡ true → Says b w (cond t (done_step k (only after) (armed k (record a { works = a.works - 0 }) w))
          (halted_at k n (cut (a.works - 1) a.how (only after).halting n.disk) (disarmed k w)))
      by true is = record { lines = refl; full = (λ j. w.full || fits j) ∙ or_none w.full }
      by false is = absurd (cc is)

-- ---- runs

module _ (hd : Header) (form : HeaderFits hd) where
  pub record Stands (p : Past) (w : World) : Type 0 where
    pub base : refusing.Stands hd form p w
    pub next : Holds hd KnowsNext w
    pub limit : w.over ≡ false → is_limited w.lines ≡ false

  module _ (m : Move) (p : Past) (w : World) (stops : IsStoppedInForm m) (s : Stands p w) (on : w.over ≡ false) where
    abbrev e : Event
    e = event_of m

    abbrev arm : Arm
    arm = let a = m.asked in a.arm

    abbrev t : World
    t = counted (record w { arms = m.falls })

    few : length w.frames ≤ most_frames
    few = s.base.base.few

    -- the event's own line is all that it writes
    whole : (e : Event) (a : Arm) (bodies : List Body) (b : Body) → t.lines ++ block t.event bodies ≡ (limited (happens e a t)).lines →
        Says b t (happens e a t) → bodies ≡ b ∷ []
    whole e a bodies b lines its = same_bodies t.event bodies (b ∷ []) t.lines (lines ∙ ap (λ (x : World). x.lines) same ∙ its.lines)
      where
        same : limited (happens e a t) ≡ happens e a t
        same = λ i. cond ((its.full ∙ s.base.full on) i) (says (body.Limit which.Frames ∷ []) (record (happens e a t) { over = true }))
            (happens e a t)

    -- what the world doesn't refuse
    first_none : (e : Event) → refused_by_any e t ≡ None → first_reason (reasons e t) ≡ None
    first_none e none = by (first_reason (reasons e t)) none
      where
        by : (o : Option ℕ) → joined o (node_refusal e t) ≡ None → o ≡ None
        by None is = refl
        by (Some c) is = let no_way : ◌≡◌ {A = Option ℕ} (Some c) None = is in absurd (cc no_way)

    -- ---- the line of each kind

    -- the node's number, where the script names one that is up
    module _ (n : ℕ) (x : Node) (at : at_place n w.nodes ≡ Some x) (v : Parts) (live : x.live ≡ Some v) where
      number : x.number ≡ n
      number = (s.base.base.placed.nodes n x at).1

      its : (let good = s.next.holds.0.0.0 in IsUp good.0 s.next.sent w.labels n (let d = x.disk in d.inc) v)
      its = let good = s.next.holds.0.0.0 in let place = good.1.places n x at in
          subst (IsMemory good.0 s.next.sent w.labels n (let d = x.disk in d.inc)) live place.memory

      next_is : next_uid v.coord.tree ≡ model.next_uid p.start p.lines n
      next_is =
          let r = (s.next.holds.1 n x at).1 v live in
          let inc : model.incarnation p.start p.lines n ≡ (let d = x.disk in d.inc)
          = (λ i. model.incarnation (s.base.start i) (s.base.base.lines i) n) ∙ r.0 in
          λ i. record {
            node = its.node i;
            inc = (its.inc ∙ sym inc) i;
            num = (sym r.1 ∙ (λ j. count_of n ((sym inc) j) (acts ((sym s.base.base.lines) j)))) i + 1;
          }

    named_frame : (k : FrameNo) → frame_number k t ≡ model.frame_no p.lines k
    named_frame (frame_no.Number k) = refl
    named_frame frame_no.Last = sym s.base.base.tells.last

    works_at : (n : ℕ) (a : Arm) → at_number n m.falls ≡ Some a → HasWork a
    works_at n a at = all_found HasWork n m.falls a stops.1 at

    up_at : (n : ℕ) (cs : List (ℕ × Bool)) → first_reason ((1, not (world.is_node n t)) ∷ (2, not (is_up_at n t)) ∷ cs) ≡ None →
        is_up_at n t ≡ true
    up_at n cs none = not_not (is_up_at n t) (first_not 2 (not (is_up_at n t)) cs
        (first_not 1 (not (world.is_node n t)) ((2, not (is_up_at n t)) ∷ cs) none).1).0

    abbrev HasLine : Event → Arm → Type 0
    HasLine e a = (b : Body) × Begins hd p e (b ∷ []) × Says b t (happens e a t)

    crash_line : (n : ℕ) → is_up_at n t ≡ true → Says (body.Halted n) t (steps n input.Crash t)
    crash_line n up = by (at_place n w.nodes) refl up
      where
        one : (x : Node) → at_place n w.nodes ≡ Some x → (o : Option Parts) → x.live ≡ o → is_some o ≡ true →
            Says (body.Halted n) t (step_node n input.Crash t (Some x))
        one x at None live up = absurd (cc up)
        one x at (Some v) live up =
            let is : step t.header x input.Crash ≡ input.crash_step x
            = ap (input.step_unless t.header input.Crash x) (crash_free t.header x) ∙ ap (input.step_of t.header input.Crash x) live in
            subst (λ (z : Step). Says (body.Halted n) t (step_with n x z t (at_number n m.falls))) (sym is)
            (subst (λ j. Says (body.Halted j) t (step_with n x (input.crash_step x) t (at_number n m.falls))) (number n x at v live)
            (only_says (body.Halted x.number) t few n x (record x { live = None }) (at_number n m.falls) (λ a found. works_at n a found)))

        by : (o : Option Node) → at_place n w.nodes ≡ o → is_up o ≡ true → Says (body.Halted n) t (step_node n input.Crash t o)
        by None at up = absurd (cc up)
        by (Some x) at up = one x at x.live refl up

    -- a node that is up begins an action which it doesn't refuse
    begins_at : (l : Label) (k : Kind) (parent : Option Label) (n : ℕ) (x : Node) → at_place n w.nodes ≡ Some x → (v : Parts) →
        x.live ≡ Some v →
        refused_at (input.Begin l k parent) t (at_place n w.nodes) ≡ None
        → Says (body.Began l k (model.next_uid p.start p.lines n) parent) t (begins
        (record { label = l; kind = k; parent = parent; node = n }) t)
    begins_at l k parent n x at v live free =
        subst (λ r. Says (body.Began l k (model.next_uid p.start p.lines n) parent) t (steps n i (labels_unless g t r))) (sym free)
        (subst (λ (o : Option Node). Says (body.Began l k (model.next_uid p.start p.lines n) parent) t (step_node n i V o)) (sym at) one)
      where
        i : Input
        i = input.Begin l k parent

        g : Giving
        g = record { label = l; kind = k; parent = parent; node = n }

        V : World
        V = gives_label g t

        granted : refusal t.header i x ≡ None
        granted = sym (ap (refused_at i t) at) ∙ free

        one : Says (body.Began l k (model.next_uid p.start p.lines n) parent) t (step_node n i V (Some x))
        one =
            let did = input.acts i (let d = x.disk in d.intents) v.coord in
            let is : step t.header x i ≡ input.coord_did x v did
            = ap (input.step_unless t.header i x) granted ∙ ap (input.step_of t.header i x) live in
            let b : Body = body.Began l k (next_uid v.coord.tree) parent in
            let after : Node = (input.coord_did x v did).after in
            let r = only_says b V few n x after (at_number n m.falls) (λ a found. works_at n a found) in
            subst (λ u. Says (body.Began l k u parent) t (step_node n i V (Some x))) (next_is n x at v live)
            (subst (λ (z : Step). Says b t (step_with n x z V (at_number n m.falls))) (sym is) (record { lines = r.lines; full = r.full }))

    begins_line : (l : Label) (k : Kind) (n : ℕ) → is_up_at n t ≡ true →
        Says (body.Began l k (model.next_uid p.start p.lines n) None) t (begins (record { label = l; kind = k; parent = None; node = n }) t)
    begins_line l k n up = by (at_place n w.nodes) refl up
      where
        one : (x : Node) → at_place n w.nodes ≡ Some x → (o : Option Parts) → x.live ≡ o → is_some o ≡ true →
            Says (body.Began l k (model.next_uid p.start p.lines n) None) t (begins
            (record { label = l; kind = k; parent = None; node = n }) t)
        one x at None live here = absurd (cc here)
        one x at (Some v) live here = begins_at l k None n x at v live (begins_free l k t (at_place n w.nodes) up)

        by : (o : Option Node) → at_place n w.nodes ≡ o → is_up o ≡ true →
            Says (body.Began l k (model.next_uid p.start p.lines n) None) t (begins
            (record { label = l; kind = k; parent = None; node = n }) t)
        by None at here = absurd (cc here)
        by (Some x) at here = one x at x.live refl here

    -- an action begins in another one
    begins_in : (l q : Label) (k : Kind) → is_given q t ≡ true → refused_at (input.Begin l k (Some q)) t (at_place
        (node_of q t) w.nodes) ≡ None →
        (n : ℕ) × (own.node_of p.lines (name q) ≡ Some n)
        × Says (body.Began l k (model.next_uid p.start p.lines n) (Some q)) t
        (begins (record { label = l; kind = k; parent = Some q; node = node_of q t }) t)
    begins_in l q k given free =
        let r = refusing.labelled_so hd form m p w stops s.base on q given in
        let a = its_action hd w s.base.halts s.base.finds q r.0 r.2 r.1 r.3 in
        let home : node_of q t ≡ (let g = r.0 in g.node) = ap node_in r.2 in
        let at : at_place (node_of q t) w.nodes ≡ Some r.1 = ap (λ j. at_place j w.nodes) home ∙ r.3 in (
          node_of q t,
          (λ i. option_map (λ (x : Act). (let u = x.uid in u.node)) (act_in (acts (s.base.base.lines i)) (name q)))
              ∙ ap (option_map (λ (x : Act). (let u = x.uid in u.node))) a.1 ∙ ap Some (a.2 ∙ sym home),
          up r.1 at (let x = r.1 in x.live) refl,
        )
      where
        up : (x : Node) → at_place (node_of q t) w.nodes ≡ Some x → (o : Option Parts) → x.live ≡ o →
            Says (body.Began l k (model.next_uid p.start p.lines (node_of q t)) (Some q)) t
            (begins (record { label = l; kind = k; parent = Some q; node = node_of q t }) t)
        up x at None down =
            let no_way : ◌≡◌ {A = Option ℕ} (Some 6) None = sym (ap (refused_at (input.Begin l k (Some q)) t) at
            ∙ ap (input.refusal_at t.header (input.Begin l k (Some q))) down) ∙ free in
            absurd (cc no_way)
        up x at (Some v) live = begins_at l k (Some q) (node_of q t) x at v live free

    -- its kind is that of the journal
    kind_so : (q : Label) → is_given q t ≡ true → kind_below q t ≡ (if model.is_serializing p.lines
        (name q) then kind.Constituent else kind.Nested)
    kind_so q given =
        let r = refusing.labelled_so hd form m p w stops s.base on q given in
        let a = its_action hd w s.base.halts s.base.finds q r.0 r.2 r.1 r.3 in
        let serial : model.is_serializing p.lines (name q) ≡ (let g = r.0 in g.serial)
        = (λ i. model.holds_of (λ (x : Act). is_serial x.kind) (act_in (acts (s.base.base.lines i)) (name q)))
        ∙ ap (model.holds_of (λ (x : Act). is_serial x.kind)) a.1 ∙ a.3 in
        ap kind_in r.2 ∙ (λ i. if (sym serial) i then kind.Constituent else kind.Nested)

    lose_line : (k : FrameNo) → is_frame k t ≡ true → Says (body.Dropped (frame_number k t)) t
        (lose_frame (frame_number k t) t (at_place (frame_number k t) t.frames))
    lose_line k there = by (at_place (frame_number k t) t.frames) there
      where
        by : (o : Option Frame) → is_some o ≡ true → Says (body.Dropped (frame_number k t)) t (lose_frame (frame_number k t) t o)
        by None no_way = absurd (cc no_way)
        by (Some f) there = record { lines = refl; full = refl }

    has_line : (e : Event) (a : Arm) → is_single e ≡ true → first_reason (reasons e t) ≡ None → HasLine e a
    has_line (event.Begin l n) a short none = (
      body.Began l kind.Top (model.next_uid p.start p.lines n) None,
      refl,
      begins_line l kind.Top n (up_at n ((4, world.is_known l t)
          ∷ []) none),
    )
    has_line (event.Serial l n) a short none = (
      body.Began l kind.Serial (model.next_uid p.start p.lines n) None,
      refl,
      begins_line l kind.Serial n (up_at n ((
        4,
        world.is_known l t,
      ) ∷ []) none),
    )
    has_line (event.Lose k) a short none = (
      body.Dropped (frame_number k t),
      ap (λ j. body.Dropped j ∷ []) (named_frame k),
      lose_line k (not_not (is_frame k t) (first_not 17 (not (is_frame k t)) [] none).0),
    )
    has_line (event.Crash n) a short none = (body.Halted n, refl, crash_line n (up_at n [] none))
    has_line (event.Stop n calls k) a short none = (body.Armed n, refl, record { lines = refl; full = refl })
    has_line e a short none = absurd (cc short)

    -- the label is that of an action which began in this run
    there : (q : Label) (n : ℕ) (x : Bool) → first_reason ((n, x) ∷ (5, not (world.is_known q t)) ∷ (6, world.was_given q t) ∷ []) ≡ None →
        is_given q t ≡ true
    there q n x none = is_there q t (first_not n x ((5, not (world.is_known q t)) ∷ (6, world.was_given q t) ∷ []) none).1

    node_none : (e : Event) → refused_by_any e t ≡ None → node_refusal e t ≡ None
    node_none e none = by (first_reason (reasons e t)) none
      where
        by : (o : Option ℕ) → joined o (node_refusal e t) ≡ None → node_refusal e t ≡ None
        by None is = is
        by (Some c) is = let no_way : ◌≡◌ {A = Option ℕ} (Some c) None = is in absurd (cc no_way)

    has_line_below : (e : Event) (a : Arm) → begins_below e ≡ true → refused_by_any e t ≡ None → HasLine e a
    has_line_below (event.BeginIn l q) a below none =
        let given = there q 4 (world.is_known l t) (first_none (event.BeginIn l q) none) in
        let r = begins_in l q (kind_below q t) given (node_none (event.BeginIn l q) none) in (
          body.Began l (kind_below q t) (model.next_uid p.start p.lines r.0) (Some q),
          (r.0, r.1, ap (λ k. body.Began l k (model.next_uid p.start p.lines r.0) (Some q) ∷ []) (kind_so q given)),
          r.2,
        )
    has_line_below (event.Top l q) a below none =
        let given = there q 4 (world.is_known l t) (first_none (event.Top l q) none) in
        let r = begins_in l q kind.Independent given (node_none (event.Top l q) none) in
        (body.Began l kind.Independent (model.next_uid p.start p.lines r.0) (Some q), (r.0, r.1, refl), r.2)
    has_line_below e a below none = absurd (cc below)

  -- ---- accepted events

  accepted_one : (p : Past) (e : Event) (bodies : List Body) (b : Body) → is_single e ≡ true → Begins hd p e (b ∷ []) → bodies ≡ b ∷ [] →
      Accepted hd p e bodies
  accepted_one p (event.Begin l n) bodies b short begins is = record {
    own = b ∷ [];
    others = [];
    last = [];
    parts = is;
    begins = begins;
    ends = refl;
    only = refl;
    halts = refl;
    answers = tt;
  }
  accepted_one p (event.Serial l n) bodies b short begins is = record {
    own = b ∷ [];
    others = [];
    last = [];
    parts = is;
    begins = begins;
    ends = refl;
    only = refl;
    halts = refl;
    answers = tt;
  }
  accepted_one p (event.Lose k) bodies b short begins is = record {
    own = b ∷ [];
    others = [];
    last = [];
    parts = is;
    begins = begins;
    ends = refl;
    only = refl;
    halts = refl;
    answers = tt;
  }
  accepted_one p (event.Crash n) bodies b short begins is = record {
    own = b ∷ [];
    others = [];
    last = [];
    parts = is;
    begins = begins;
    ends = refl;
    only = refl;
    halts = refl;
    answers = tt;
  }
  accepted_one p (event.Stop n calls k) bodies b short begins is = record {
    own = b ∷ [];
    others = [];
    last = [];
    parts = is;
    begins = begins;
    ends = refl;
    only = refl;
    halts = refl;
    answers = tt;
  }
  accepted_one p (event.Junk n bytes) bodies b short begins is = absurd (cc short)
  accepted_one p e bodies b short begins is = absurd (cc short)

  accepted_below : (p : Past) (e : Event) (bodies : List Body) (b : Body) → begins_below e ≡ true → Begins hd p e (b ∷ []) →
      bodies ≡ b ∷ [] →
      Accepted hd p e bodies
  accepted_below p (event.BeginIn l q) bodies b below begins is = record {
    own = b ∷ [];
    others = [];
    last = [];
    parts = is;
    begins = begins;
    ends = refl;
    only = refl;
    halts = refl;
    answers = tt;
  }
  accepted_below p (event.Top l q) bodies b below begins is = record {
    own = b ∷ [];
    others = [];
    last = [];
    parts = is;
    begins = begins;
    ends = refl;
    only = refl;
    halts = refl;
    answers = tt;
  }
  accepted_below p e bodies b below begins is = absurd (cc below)

  short_plain : (e : Event) → is_short e ≡ true → names_action e ≡ false
  short_plain (event.BeginIn l q) short = absurd (cc short)
  short_plain (event.Top l q) short = absurd (cc short)
  short_plain (event.Call l x o) short = absurd (cc short)
  short_plain (event.Include l x n) short = absurd (cc short)
  short_plain (event.Commit l) short = absurd (cc short)
  short_plain (event.Abort l) short = absurd (cc short)
  short_plain (event.GiveUp l) short = absurd (cc short)
  short_plain e short = refl

  module _ (m : Move) (p : Past) (w : World) (stops : IsStoppedInForm m) (s : Stands p w) (on : w.over ≡ false) where
    stepped : (bodies : List Body) → MatchOption (model.refusal hd p (event_of m)) (Accepted hd p (event_of m) bodies)
        (λ d. bodies ≡ body.Refused d ∷ []) → model_step.Step hd p (event_of m) bodies
    stepped bodies lines = record { goes_on = ap is_limited s.base.base.lines ∙ s.limit on; lines = inl lines }

    -- bytes that are no message are a frame, or meet the limit
    handed : (n : ℕ) (bytes : List ℕ) (bodies : List Body) → (b : Bool) →
        (counted (record w { arms = m.falls })).lines ++ block (w.event + 1) bodies
        ≡ (limited (junk_fits n (counted (record w { arms = m.falls })) b)).lines → Accepted hd p (event.Junk n bytes) bodies
    handed n bytes bodies true lines =
        let b = body.Sent (length w.frames + 1) 0 n frame.Junk in
        let x = junk_fits n (counted (record w { arms = m.falls })) true in
        let same : limited x ≡ x = λ i. cond (s.base.full on i) (says (body.Limit which.Frames ∷ []) (record x { over = true })) x in
        record {
          own = b ∷ [];
          others = [];
          last = [];
          parts = same_bodies (w.event + 1) bodies (b ∷ []) w.lines (lines ∙ ap (λ (y : World). y.lines) same);
          begins = inl (ap (λ k. body.Sent (k + 1) 0 n frame.Junk ∷ []) (sym s.base.base.tells.last));
          ends = refl;
          only = refl;
          halts = refl;
          answers = tt;
        }
    handed n bytes bodies false lines = record {
      own = [];
      others = [];
      last = body.Limit which.Frames ∷ [];
      parts = same_bodies (w.event + 1) bodies (body.Limit which.Frames ∷ []) w.lines lines;
      begins = inr refl;
      ends = refl;
      only = refl;
      halts = refl;
      answers = tt;
    }

    accepted : (e : Event) (a : Arm) (bodies : List Body) → is_short e ≡ true →
        refused_by_any e (counted (record w { arms = m.falls })) ≡ None → w.lines ++ block (w.event + 1) bodies
        ≡ (limited (happens e a (counted (record w { arms = m.falls })))).lines → Accepted hd p e bodies
    accepted (event.Junk n bytes) a bodies short none lines = handed n bytes bodies (nat_lt (length w.frames) most_frames) lines
    accepted e a bodies short none lines =
        let line = has_line m p w stops s on e a short (first_none m p w stops s on e none) in
        accepted_one p e bodies line.0 short line.1 (whole m p w stops s on e a bodies line.0 lines line.2)

    follows : (bodies : List Body) → Came (event_of m) (let a = m.asked in a.arm) (counted (record w { arms = m.falls })) bodies →
        ShortEventsStep hd p (event_of m) bodies
    follows bodies (IsRefused c refused is) = record {
      short = λ short. stepped bodies (subst
          (λ o. MatchOption o (Accepted hd p (event_of m) bodies) (λ d. bodies ≡ body.Refused d ∷ []))
          (sym (refusing.plain_same hd form m p w stops s.base on (short_plain (event_of m) short) ∙ refused)) is);
      below = λ below isnt. let no_way : true ≡ false = sym (ap is_refused is) ∙ isnt in absurd (cc no_way);
    }
    follows bodies (IsRun none isnt lines) = record {
      short = λ short. stepped bodies (subst
          (λ o. MatchOption o (Accepted hd p (event_of m) bodies) (λ d. bodies ≡ body.Refused d ∷ []))
          (sym (refusing.plain_same hd form m p w stops s.base on (short_plain (event_of m) short) ∙ none))
          (accepted (event_of m) (let a = m.asked in a.arm) bodies short none lines));
      below = λ below other.
          let line = has_line_below m p w stops s on (event_of m) (let a = m.asked in a.arm) below none in
          accepted_below p (event_of m) bodies line.0 below line.1
          (whole m p w stops s on (event_of m) (let a = m.asked in a.arm) bodies line.0 lines line.2);
    }

    pub goes : Outcome (ShortEventsStep hd) Stands m p w
    goes = by (frames.goes hd form m p w stops s.base.base on)
      where
        by : Outcome (FramesStep hd) (frames.Stands hd form) m p w → Outcome (ShortEventsStep hd) Stands m p w
        by (Ended over event lines) = Ended over event lines
        by (Went bodies step after) =
            let g = refusing.goes_with hd form m p w stops s.base on bodies after in
            Went bodies (follows bodies g.0) (record {
              base = g.1;
              next = move_asked hd KnowsNext (keeps_asked hd KnowsNext (next_keep hd)) m w s.next;
              limit = goes_on m w on (s.base.full on) s.base.base.few stops.1 (s.limit on);
            })

  pub first_stands : (st : Start) → IsFormed hd st → Stands (at_start st) (world_from hd st)
  first_stands st formed = record {
    base = refusing.first_stands hd form st formed;
    next = first_asked hd st KnowsNext formed (keeps_asked hd KnowsNext (next_keep hd));
    limit = λ on. refl;
  }

pub shorts_follow : (hd : Header) (r : Run hd) → IsInForm hd r → Runs (ShortEventsStep hd) r.start (run_events hd r) (journal_by hd r)
shorts_follow hd r form =
    runs_along (ShortEventsStep hd) (Stands hd form.header) IsStoppedInForm (λ p w s. s.base.base.lines) (λ p w s. s.base.base.count)
    (λ m p w stops s on. goes hd form.header m p w stops s on) r.start r.moves (world_from hd r.start) form.stops
    (first_stands hd form.header r.start r.formed)
