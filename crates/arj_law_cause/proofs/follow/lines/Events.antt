-- In every run accepted events write their own lines, those that may stand between them, and their ends.
use Rattle.arj_law_parts.proofs.Words
use Words.{◌≡◌, ◌⊎◌, ◌∙◌, ◌+◌, ◌-◌, ◌≤◌, ◌==◌, ◌&&◌, ◌++◌, not, ℕ, Bool, true, false, cond, List, [], ◌∷◌, length, refl, sym, ap, subst}
use Words.{arith, nat_tests, inl, inr, ⊎_elim, Option, Some, None, list_all, and_parts, append_assoc, append-nil, map-append}
use Words.{length-append, Body, Event, Header, Step, Arm, World, Stop, Line, counted, first_reason, frame_number, happens, is_frame}
use Words.{is_quiet, is_up_at, limited, most_frames, node_numbers, node_of, numbered, quiesce, reasons, refusal, settle, show_all, step}
use Words.{tick_all, world_from, Move, moved, journal_by, IsInForm, acts, bodies}
use Words.body
use Words.cause
use Words.event
use Words.frame
use Words.frame_no
use Words.input
use Words.kind
use Rattle.arj_law_runs.proofs.Terms.which
use Rattle.arj_law_runs.proofs.Terms.{Holds, says, keeps_asked}
use Rattle.arj_law_runs.proofs.Terms as terms
use Rattle.arj_law_parts.proofs.moves.Reasons.{first_not, is_there, not_not}
use Rattle.arj_law_parts.specs.steps.Writes.{node_refusal}
use Rattle.arj_law_runs.proofs.follow.Along.{Ended, Outcome, Went, event_of, runs_along}
use Rattle.arj_law_runs.proofs.follow.Frames as frames
use Rattle.arj_law_runs.proofs.follow.Reasons.{joined, refused_by_any}
use Rattle.arj_law_runs.proofs.follow.Refusing as refusing
use Rattle.arj_law_runs.proofs.follow.Refusing.{Came, IsRefused, IsRun, same_bodies}
use Rattle.arj_law_runs.proofs.follow.Shorts as shorts
use Rattle.arj_law_runs.proofs.follow.Walking.{behind_all, lines_behind, stays_behind}
use Rattle.arj_law_runs.specs.follow.Frames.{FramesStep, are_so, frame_fits, run_events}
use Rattle.arj_law_runs.specs.follow.Shorts.{ShortEventsStep, is_short}
use Rattle.arj_law_runs.specs.follow.Refusals.{names_action}
use Rattle.arj_law_cause.proofs.follow.causes.{Reasons.finds_call, Reasons.finds_commit, Reasons.finds_include, Reasons.finds_abort}
use Rattle.arj_law_cause.proofs.follow.causes.{Reasons.finds_giveup}
use Rattle.arj_law_cause.proofs.follow.lines.{Begun.begins_none, Begun.turn_next, Begun.turn_same, Numbers.AreInTurn}
use Rattle.arj_law_parts.proofs.moves.{Happens.first_asked, Moving.move_asked}
use Rattle.arj_law_cause.proofs.follow.lines.Rising.{KnowsRising, rising_keep}
use Rattle.arj_law_cause.proofs.follow.lines.Fitting
use Fitting.{Limited, halts_goes, limit_parts, may_meet, only_goes}
use Rattle.arj_law_cause.proofs.follow.lines.Framed.{ArePlain, behind_own, front_so, is_delivery_of, net_fits}
use Rattle.arj_law_cause.proofs.follow.lines.Saying
use Saying.{Adds, Goes, Led, fits}
use Rattle.arj_law_cause.proofs.follow.lines.Steps
use Steps.{IsTaken, Nothing, finds, loses}
use Rattle.arj_law_cause.proofs.follow.lines.Showing.{shown_line, shows_all}
use Rattle.arj_law_cause.proofs.follow.lines.Working.{works}
use Rattle.arj_law_cause.specs.follow.lines.Lines.{BeginsSo, HasLines, LinesStep, NetFits, is_show, may_stand_or_lose, is_of_net}
use Rattle.arj_model.specs.CauseNodes.{restarts}
use Rattle.arj_model.specs.CauseSpans.{Here, here_at}
use Rattle.arj_model.specs.Follows.{Accepted, Runs, is_limited}
use Rattle.arj_model.specs.Follows as model_step
use Rattle.arj_model.specs.Own as own
use Rattle.arj_model.specs.Own.{Begins, Ends, MayMeetLimit, halts_fit, may_stand}
use Rattle.arj_model.specs.Past.{Asked as AskedOf, Past, asked_of, at_start, block, is_refused, next}
use Rattle.arj_model.specs.Refusals as model
use Rattle.arj_promise.specs.Runs.{HeaderFits, IsStoppedInForm, Run}
use Rattle.arj_promise.specs.Starts.{IsFormed}
use Rattle.arj_start.specs.Start.{Start}
use Rattle.arj_protocol.specs.World as world
use Rattle.std.specs.Prelude.{MatchOption}
use Rattle.arj_law_cause.proofs.follow.lines.Several.{AllStand, all_quiesced, settle_stands, stands}
use Rattle.arj_law_cause.proofs.follow.lines.May.{giveup_may, no_delivery, plain_all, restart_may, settle_may, settles, work_stands, may_by}
use Rattle.arj_law_cause.proofs.follow.lines.May.{takes_work}
use Rattle.arj_law_cause.proofs.follow.lines.Adding as adding

-- the event is a commit
abbrev is_commit : Event → Bool
is_commit (event.Commit l) = true
is_commit e = false

-- ---- runs

module _ (hd : Header) (form : HeaderFits hd) where
  module _ (m : Move) (p : Past) (w : World) (stops : IsStoppedInForm m) (s : shorts.Stands hd form p w) (on : w.over ≡ false) where
    abbrev arm : Arm
    arm = let a = m.asked in a.arm

    abbrev t : World
    t = counted (record w { arms = m.falls })

    base : frames.Stands hd form p w
    base = s.base.base

    pub world_none : (e : Event) → refused_by_any e t ≡ None → first_reason (reasons e t) ≡ None
    world_none e none = by (first_reason (reasons e t)) none
      where
        by : (o : Option ℕ) → joined o (node_refusal e t) ≡ None → o ≡ None
        by None is = refl
        by (Some c) is = let no_way : ◌≡◌ {A = Option ℕ} (Some c) None = is in absurd (cc no_way)

    pub node_none : (e : Event) → refused_by_any e t ≡ None → node_refusal e t ≡ None
    node_none e none = by (first_reason (reasons e t)) none
      where
        by : (o : Option ℕ) → joined o (node_refusal e t) ≡ None → node_refusal e t ≡ None
        by None is = is
        by (Some c) is = let no_way : ◌≡◌ {A = Option ℕ} (Some c) None = is in absurd (cc no_way)

    -- ---- the lines as the journal has them

    module _ (e : Event) (bodies : List Body) (fit : FramesStep hd p e bodies) (isnt : is_refused bodies ≡ false) where
      abbrev asked_too : List AskedOf
      asked_too = p.accepted ++ asked_of p e ∷ []

      -- frames and halts fit, behind own lines
      net_so : (own others last : List Body) → bodies ≡ own ++ (others ++ last) → ArePlain e others →
          ((1 ≤ length own) ⊎ ((n : ℕ) → restarts n e ≡ false)) →
          NetFits p.start asked_too (p.lines ++ block (p.count + 1) own) (p.count + 1) others
      net_so own others last parts plain first =
          let h = here_at hd p e bodies in
          let stay = stays_behind h own in
          let fits_all : are_so frame_fits h (own ++ (others ++ last)) ≡ true = ap (are_so frame_fits h) (sym parts) ∙ fit in
          let rest : are_so frame_fits (behind_all h own) others ≡ true
          = front_so (behind_all h own) others last (behind_own h own (others ++ last) fits_all) in
          subst (λ n. NetFits p.start asked_too (p.lines ++ block (p.count + 1) own) n others) stay.number
          (subst (λ ls. NetFits p.start asked_too ls (behind_all h own).number others) (lines_behind h own)
          (net_fits p.start asked_too (behind_all h own) others stay.start (subst (λ x. ArePlain x others) (sym stay.event) plain)
          (⊎_elim (λ some. inl (late some)) (λ never. inr (λ n. ap (restarts n) stay.event ∙ never n)) first) (within h own)
          rest))
        where
          long : (h : Here) (bs : List Body) → length (behind_all h bs).lines ≡ length h.lines + length bs
          long h bs = ap length (lines_behind h bs) ∙ length-append h.lines (numbered h.number bs)
              ∙ ap (λ n. length h.lines + n) (Words.length-map bs (λ (b : Body). record { event = h.number; body = b }))

          late : 1 ≤ length own → (let h = here_at hd p e bodies in
              (length (behind_all h own).lines == (behind_all h own).first) ≡ false)
          late some = let h = here_at hd p e bodies in
              by (length (behind_all h own).lines) (behind_all h own).first (long h own) (stays_behind h own).first
            where
              by : (x y : ℕ) → x ≡ length p.lines + length own → y ≡ length p.lines → (x == y) ≡ false
              by x y is at = grind (arith, nat_tests, is, at, some)

          within : (h : Here) (bs : List Body) → (behind_all (here_at hd p e bodies) own).first ≤ length (behind_all
              (here_at hd p e bodies) own).lines
          within h bs = let h = here_at hd p e bodies in
              by (length (behind_all h own).lines) (behind_all h own).first (long h own) (stays_behind h own).first
            where
              by : (x y : ℕ) → x ≡ length p.lines + length own → y ≡ length p.lines → y ≤ x
              by x y is at = omega (arith, is, at)

      -- own lines, and then those of a kind, of an event at one node
      at_node : (T : Body → Bool) (Own : List Body → Type 0) (k : ℕ) (v : World) → Limited (Led T Own k) t v bodies →
          ((own : List Body) → Own own → BeginsSo hd p e own) → ((own last : List Body) → MayMeetLimit last → Ends e own last) →
          ((b : Body) → fits T b ≡ true → may_stand_or_lose e b ≡ true) → may_stand_or_lose e (body.Halted k) ≡ true →
          ((n : ℕ) → T (body.Halted n) ≡ false) → ((bs : List Body) → own.halts_last (own.node_of_event p.lines e) bs ≡ true →
          halts_fit p.lines e bs ≡ true) → own.node_of_event p.lines e ≡ Some k →
          ((others : List Body) → Goes T k others → ArePlain e others) →
          ((own : List Body) → Own own → (1 ≤ length own) ⊎ ((n : ℕ) → restarts n e ≡ false)) → HasLines hd p e bodies
      at_node T Own k v l begins ends may halted none halts home plain first =
          let d = l.has in
          let parts : bodies ≡ d.own ++ (d.others ++ l.last)
          = l.parts ∙ ap (λ bs. bs ++ l.last) d.parts ∙ append_assoc d.own d.others l.last in
          record {
            own = d.own;
            others = d.others;
            last = l.last;
            parts = parts;
            begins = begins d.own d.is_own;
            ends = ends d.own l.last (may_meet (Led T Own k) t v bodies l);
            only = only_goes T (may_stand_or_lose e) k d.others may halted d.rest;
            halts = halts d.others (subst (λ o. own.halts_last o d.others ≡ true) (sym home)
                (halts_goes (Some k) T k d.others none (same k) d.rest));
            net = net_so d.own d.others l.last parts (plain d.others d.rest) (first d.own d.is_own);
          }
        where
          same : (n : ℕ) → (n == n) ≡ true
          same n = grind (arith, nat_tests)

      -- lines of several nodes
      at_nodes : settles e ≡ true → (added last : List Body) → AllStand added → bodies ≡ added ++ last → Ends e [] last →
          HasLines hd p e bodies
      at_nodes its added last all parts ends = record {
        own = [];
        others = added;
        last = last;
        parts = parts;
        begins = begins e its;
        ends = ends;
        only = each added all;
        halts = halts e its added;
        net = net_so [] added last parts (plain_all e (off e its) added) (inr (never e its));
      }
        where
          begins : (e : Event) → settles e ≡ true → BeginsSo hd p e []
          begins event.Settle its = refl
          begins event.Quiesce its = refl
          begins e its = absurd (cc its)

          halts : (e : Event) → settles e ≡ true → (bs : List Body) → halts_fit p.lines e bs ≡ true
          halts event.Settle its bs = refl
          halts event.Quiesce its bs = refl
          halts e its bs = absurd (cc its)

          off : (e : Event) → settles e ≡ true → is_delivery_of e ≡ false
          off event.Settle its = refl
          off event.Quiesce its = refl
          off e its = absurd (cc its)

          never : (e : Event) → settles e ≡ true → (n : ℕ) → restarts n e ≡ false
          never event.Settle its n = refl
          never event.Quiesce its n = refl
          never e its n = absurd (cc its)

          each : (bs : List Body) → AllStand bs → list_all (may_stand_or_lose e) bs ≡ true
          each [] all = refl
          each (b ∷ bs) all = let r = and_parts (stands b) (list_all stands bs) all in λ i. settle_may e its b r.0 i && each bs r.1 i

    -- ---- every kind of event

    work_may : (e : Event) → takes_work e e ≡ true → (b : Body) → fits works b ≡ true → may_stand_or_lose e b ≡ true
    work_may e takes b is = may_by e (may_stand_or_lose e) (λ l n. refl) (work_stands e takes) b is

    no_halt : (n : ℕ) → works (body.Halted n) ≡ false
    no_halt n = refl

    nothing_first : (e : Event) → ((n : ℕ) → restarts n e ≡ false) → (bs : List Body) → Nothing bs →
        (1 ≤ length bs) ⊎ ((n : ℕ) → restarts n e ≡ false)
    nothing_first e never bs its = inr never

    plain_works : (e : Event) (k : ℕ) (bs : List Body) → Goes works k bs → ArePlain e bs
    plain_works e k bs goes = no_delivery e works k bs (λ j. refl) (λ j. refl) goes

    -- an event without own lines where one node works
    simple : (e : Event) (bodies : List Body) → FramesStep hd p e bodies → is_refused bodies ≡ false → (k : ℕ) (v : World) →
        Adds (Led works Nothing k) t v → w.lines ++ block t.event bodies ≡ (limited v).lines → takes_work e e ≡ true →
        BeginsSo hd p e [] → ((bs last : List Body) → MayMeetLimit last → Ends e bs last) →
        ((bs : List Body) → own.halts_last (own.node_of_event p.lines e) bs ≡ true → halts_fit p.lines e bs ≡ true) →
        own.node_of_event p.lines e ≡ Some k → ((n : ℕ) → restarts n e ≡ false) → may_stand_or_lose e (body.Halted k) ≡ true →
        HasLines hd p e bodies
    simple e bodies fit isnt k v adds lines takes begins ends halts home never halted =
        at_node e bodies fit isnt works Nothing k v (limit_parts (Led works Nothing k) t v bodies adds lines)
        (λ bs its. subst (BeginsSo hd p e) (sym its) begins) ends
        (work_may e takes) halted no_halt halts home (plain_works e k) (nothing_first e never)

    -- the quiesce before its line, and what that line makes of it
    quiesced : (bodies : List Body) → FramesStep hd p event.Quiesce bodies → is_refused bodies ≡ false →
        w.lines ++ block t.event bodies ≡ (limited (quiesce t)).lines → HasLines hd p event.Quiesce bodies
    quiesced bodies fit isnt lines = by v.full refl
      where
        v : World
        v = settle (tick_all (node_numbers t) (settle t))

        adds : Adds AllStand t v
        adds = all_quiesced t

        says_quiet : World
        says_quiet = says (body.Quiet (is_quiet v) ∷ []) v

        by : (b : Bool) → v.full ≡ b → HasLines hd p event.Quiesce bodies
        by true is =
            let same : quiesce t ≡ v = λ i. cond (is i) v (says (body.Quiet (is_quiet v) ∷ []) v) in
            let l = limit_parts AllStand t v bodies adds (lines ∙ ap (λ (x : World). (limited x).lines) same) in
            at_nodes event.Quiesce bodies fit isnt refl l.added l.last l.has l.parts
            (⊎_elim (λ off. let no_way : true ≡ false = sym is ∙ off.0 in absurd (cc no_way)) (λ met. inr met.1) l.met)
        by false is =
            let same : quiesce t ≡ says_quiet = λ i. cond (is i) v (says (body.Quiet (is_quiet v) ∷ []) v) in
            let free : limited says_quiet ≡ says_quiet
            = λ i. cond (is i) (says (body.Limit which.Frames ∷ []) (record says_quiet { over = true })) says_quiet in
            at_nodes event.Quiesce bodies fit isnt refl adds.added (body.Quiet (is_quiet v) ∷ []) adds.has
            (same_bodies t.event bodies (adds.added ++ body.Quiet (is_quiet v) ∷ []) w.lines
            (lines ∙ ap (λ (x : World). (limited x).lines) same ∙ ap (λ (x : World). x.lines) free ∙ all)) (inl (is_quiet v, refl))
          where
            all : v.lines ++ numbered v.event (body.Quiet (is_quiet v) ∷ []) ≡ w.lines ++ block t.event (adds.added ++ body.Quiet
                (is_quiet v) ∷ [])
            all = (λ i. adds.lines i ++ numbered (adds.event i) (body.Quiet (is_quiet v) ∷ []))
                ∙ append_assoc w.lines (numbered t.event adds.added) (numbered t.event (body.Quiet (is_quiet v) ∷ []))
                ∙ ap (λ ls. w.lines ++ ls)
                (sym (map-append (λ (b : Body). record { event = t.event; body = b }) adds.added (body.Quiet (is_quiet v) ∷ [])))

    -- a show: what it has, and that this is all it may write
    show_parts : (x : ℕ) (bodies : List Body) → w.lines ++ block t.event bodies ≡ (limited (show_all x (node_numbers t) t)).lines →
        list_all (shown_line x) bodies ≡ true
    show_parts x bodies lines =
        let r = shows_all x (node_numbers t) t base.few in
        let v = show_all x (node_numbers t) t in
        let free : limited v ≡ v
        = λ i. cond ((r.full ∙ s.base.full on) i) (says (body.Limit which.Frames ∷ []) (record v { over = true })) v in
        ap (list_all (shown_line x)) (same_bodies t.event bodies r.added w.lines (lines ∙ ap (λ (y : World). y.lines) free ∙ r.lines))
        ∙ r.has

    shown_may : (x : ℕ) (b : Body) → shown_line x b ≡ true → may_stand (event.Show x) b ≡ true
    shown_may x (body.Entry y v servers stores) is = is
    shown_may x (body.Copy n y v u payload) is = is
    shown_may x (body.Halted n) is = refl
    shown_may x b is = absurd (cc is)

    shown_all : (x : ℕ) (bs : List Body) → list_all (shown_line x) bs ≡ true → list_all (may_stand (event.Show x)) bs ≡ true
    shown_all x [] all = refl
    shown_all x (b ∷ bs) all =
        let r = and_parts (shown_line x b) (list_all (shown_line x) bs) all in λ i. shown_may x b r.0 i && shown_all x bs r.1 i

    -- frames and halts are all that such lines are asked
    shown_answers : (x : ℕ) (accepted : List AskedOf) (ls : List Line) (n : ℕ) (bs : List Body) → list_all (shown_line x) bs ≡ true →
        NetFits p.start accepted ls n bs → model_step.AnswersFit p.start accepted ls n bs
    shown_answers x accepted ls n [] all net = tt
    shown_answers x accepted ls n (b ∷ bs) all net =
        let r = and_parts (shown_line x b) (list_all (shown_line x) bs) all in
        (one b r.0 net.0, shown_answers x accepted (ls ++ block n (b ∷ [])) n bs r.1 net.1)
      where
        one : (b : Body) → shown_line x b ≡ true → (is_of_net b ≡ true → model_step.AnswerFits p.start accepted ls b) →
            model_step.AnswerFits p.start accepted ls b
        one (body.Entry y v servers stores) is net = tt
        one (body.Copy m y v u payload) is net = tt
        one (body.Halted m) is net = net refl
        one b is net = absurd (cc is)

    shown_accepted : (x : ℕ) (bodies : List Body) → FramesStep hd p (event.Show x) bodies → is_refused bodies ≡ false →
        w.lines ++ block t.event bodies ≡ (limited (show_all x (node_numbers t) t)).lines → Accepted hd p (event.Show x) bodies
    shown_accepted x bodies fit isnt lines =
        let all = show_parts x bodies lines in
        record {
          own = [];
          others = bodies;
          last = [];
          parts = sym (append-nil bodies);
          begins = refl;
          ends = refl;
          only = shown_all x bodies all;
          halts = refl;
          answers = shown_answers x (p.accepted ++ asked_of p (event.Show x) ∷ []) (p.lines ++ block (p.count + 1) [])
              (p.count + 1) bodies all
              (net_so (event.Show x) bodies fit isnt [] bodies [] (sym (append-nil bodies)) (plain_all (event.Show x) refl bodies)
              (inr (λ n. refl)));
        }

    -- what an accepted event has it has so
    begins_so : (e : Event) → is_commit e ≡ false → (bs : List Body) → Begins hd p e bs → BeginsSo hd p e bs
    begins_so (event.Commit l) off bs its = absurd (cc off)
    begins_so e off bs its = its

    may_so : (e : Event) (bs : List Body) → list_all (may_stand e) bs ≡ true → list_all (may_stand_or_lose e) bs ≡ true
    may_so e [] all = refl
    may_so e (b ∷ bs) all =
        let r = and_parts (may_stand e b) (list_all (may_stand e) bs) all in λ i. one b r.0 i && may_so e bs r.1 i
      where
        one : (b : Body) → may_stand e b ≡ true → may_stand_or_lose e b ≡ true
        one (body.Lost l n) is = refl
        one b is = is

    net_of : (accepted : List AskedOf) (ls : List Line) (n : ℕ) (bs : List Body) → model_step.AnswersFit p.start accepted ls n bs →
        NetFits p.start accepted ls n bs
    net_of accepted ls n [] all = tt
    net_of accepted ls n (b ∷ bs) all = (λ is. all.0, net_of accepted (ls ++ block n (b ∷ [])) n bs all.1)

    accepted_lines : (e : Event) (bodies : List Body) → is_commit e ≡ false → Accepted hd p e bodies → HasLines hd p e bodies
    accepted_lines e bodies off a = record {
      own = a.own;
      others = a.others;
      last = a.last;
      parts = a.parts;
      begins = begins_so e off a.own a.begins;
      ends = a.ends;
      only = may_so e a.others a.only;
      halts = a.halts;
      net = net_of (p.accepted ++ asked_of p e ∷ []) (p.lines ++ block (p.count + 1) a.own) (p.count + 1) a.others a.answers;
    }

    -- a step of an event that isn't refused
    accepted_of : (e : Event) (bodies : List Body) → is_refused bodies ≡ false → model_step.Step hd p e bodies → Accepted hd p e bodies
    accepted_of e bodies isnt x = ⊎_elim (λ o. by (model.refusal hd p e) o) (λ d. absurd (never 12 d.line)) x.lines
      where
        never : (c : ℕ) → bodies ≡ body.Refused c ∷ [] → ⊥
        never c is = let no_way : true ≡ false = sym (ap is_refused is) ∙ isnt in cc

        by : (o : Option ℕ) → MatchOption o (Accepted hd p e bodies) (λ c. bodies ≡ body.Refused c ∷ []) → Accepted hd p e bodies
        by None a = a
        by (Some c) is = absurd (never c is)

    module _ (turn : AreInTurn (terms.acts p.lines)) (rising : Holds hd KnowsRising w) (bodies : List Body) (isnt : is_refused bodies
        ≡ false) where
      of_short : (e : Event) → is_commit e ≡ false → is_short e ≡ true → ShortEventsStep hd p e bodies → HasLines hd p e bodies
      of_short e off short x = accepted_lines e bodies off (accepted_of e bodies isnt (x.short short))

      accepted : (e : Event) (a : Arm) → FramesStep hd p e bodies → ShortEventsStep hd p e bodies →
          refused_by_any e t ≡ None → w.lines ++ block t.event bodies ≡ (limited (happens e a t)).lines → HasLines hd p e bodies
      accepted (event.Begin l n) a fit x none lines = of_short (event.Begin l n) refl refl x
      accepted (event.Serial l n) a fit x none lines = of_short (event.Serial l n) refl refl x
      accepted (event.Lose k) a fit x none lines = of_short (event.Lose k) refl refl x
      accepted (event.Crash n) a fit x none lines = of_short (event.Crash n) refl refl x
      accepted (event.Stop n c k) a fit x none lines = of_short (event.Stop n c k) refl refl x
      accepted (event.Junk n bytes) a fit x none lines = of_short (event.Junk n bytes) refl refl x
      accepted (event.BeginIn l q) a fit x none lines = accepted_lines (event.BeginIn l q) bodies refl (x.below refl isnt)
      accepted (event.Top l q) a fit x none lines = accepted_lines (event.Top l q) bodies refl (x.below refl isnt)
      accepted (event.Call l x o) a fit short none lines =
          let e = event.Call l x o in
          let given = is_there l t (world_none e none) in
          let q = adding.asks_so hd form m p w stops s on l (input.Call l x o) (finds_call l x o) given (node_none e none) in
          simple e bodies fit isnt (node_of l t) (happens e a t) (adding.call_adds hd form m p w stops s on l x o q) lines refl refl
          (λ bs last met. met)
          (λ bs is. is) q.home
          (λ n. refl) refl
      accepted (event.Include l x store) a fit short none lines =
          let e = event.Include l x store in
          let given = is_there l t (first_not 1 (not (world.is_node store t)) ((5, not (world.is_known l t)) ∷
          (6, world.was_given l t) ∷ [])
          (world_none e none)).1 in
          let q = adding.asks_so hd form m p w stops s on l (input.Include l x store) (finds_include l x store) given (node_none e none) in
          simple e bodies fit isnt (node_of l t) (happens e a t) (adding.include_adds hd form m p w stops s on l x store q) lines refl refl
          (λ bs last met. met)
          (λ bs is. is) q.home
          (λ n. refl) refl
      accepted (event.Commit l) a fit short none lines =
          let e = event.Commit l in
          let given = is_there l t (world_none e none) in
          let q = adding.asks_so hd form m p w stops s on l (input.Commit l) (finds_commit l) given (node_none e none) in
          let r = adding.commit_adds hd form m p w stops s on l q in
          at_node e bodies fit isnt works r.0 (node_of l t) (happens e a t) (limit_parts (Led works r.0 (node_of l t)) t
          (happens e a t) bodies
          r.2 lines) r.1 (λ bs last met. met) (work_may e refl) refl no_halt (λ bs is. is) q.home (plain_works e (node_of l t))
          (λ bs its. inr (λ n. refl))
      accepted (event.Deliver k) a fit short none lines =
          let e = event.Deliver k in
          let f = adding.frame_there hd form m p w stops s on k (not_not (is_frame k t) (first_not 17 (not (is_frame k t)) []
          (world_none e none)).0) in
          let to = (let g = f.frame in g.to) in
          at_node e bodies fit isnt works (IsTaken (frame_number k t)) to (happens e a t) (limit_parts (Led works (IsTaken
          (frame_number k t)) to)
          t (happens e a t) bodies (adding.deliver_adds hd form m p w stops s on k f) lines)
          (λ bs its. subst (λ j. own.IsDelivery j bs) (sym (adding.named_frame hd form m p w stops s on k)) its) (λ bs last met. met)
          (work_may e refl) refl no_halt
          (λ bs is. is)
          f.home (plain_works e to) (λ bs its. inr (λ n. refl))
      accepted (event.Tick n) a fit short none lines =
          let e = event.Tick n in
          let up = not_not (is_up_at n t) (first_not 2 (not (is_up_at n t)) []
          (first_not 1 (not (world.is_node n t)) ((2, not (is_up_at n t)) ∷ []) (world_none e none)).1).0 in
          simple e bodies fit isnt n (happens e a t) (adding.tick_adds hd form m p w stops s on n up) lines refl refl (λ bs last met. met)
          (λ bs is. is) refl
          (λ k. refl) refl
      accepted (event.Restart n) a fit short none lines =
          let e = event.Restart n in
          let at = first_not 1 (not (world.is_node n t)) ((3, is_up_at n t) ∷ []) (world_none e none) in
          let node = not_not (world.is_node n t) at.0 in
          let down = (first_not 3 (is_up_at n t) [] at.1).0 in
          let r = adding.restart_adds hd form m p w stops s on n node down in
          at_node e bodies fit isnt (finds n) r.0 n (happens e a t) (limit_parts (Led (finds n) r.0 n) t
          (happens e a t) bodies r.2 lines) r.1
          (λ bs last met. met) (restart_may n) refl (λ j. refl) (λ bs is. is) refl
          (λ bs goes. plain_all e refl bs) (λ bs its. inl (some bs (r.1 bs its)))
        where
          some : (bs : List Body) → own.IsRestart p n bs → 1 ≤ length bs
          some bs its = ⊎_elim (λ up. subst (λ z. 1 ≤ length z) (sym up.2) (omega arith))
              (λ halted. subst (λ z. 1 ≤ length z) (sym halted) (omega arith)) its
      accepted event.Settle a fit short none lines =
          let l = limit_parts AllStand t (settle t) bodies (settle_stands most_frames t) lines in
          at_nodes event.Settle bodies fit isnt refl l.added l.last l.has l.parts (may_meet AllStand t (settle t) bodies l)
      accepted event.Quiesce a fit short none lines = quiesced bodies fit isnt lines
      accepted (event.Show x) a fit short none lines = accepted_lines (event.Show x) bodies refl
          (shown_accepted x bodies fit isnt lines)
      accepted (event.Abort l) a fit short none lines =
          let e = event.Abort l in
          let given = is_there l t (world_none e none) in
          let q = adding.asks_so hd form m p w stops s on l (input.Abort l) (finds_abort l) given (node_none e none) in
          let at = node_of l t in
          at_node e bodies fit isnt works (adding.AreAbortedOf hd form m p w stops s on l) at (happens e a t) (limit_parts (Led works
          (adding.AreAbortedOf hd form m p w stops s on l) at) t
          (happens e a t) bodies (adding.abort_adds hd form m p w stops s on turn l q) lines) (λ bs its. its) (λ bs last met. met)
          (work_may e refl) refl no_halt
          (λ bs is. is) q.home (plain_works e at) (λ bs its. inr (λ n. refl))
      accepted (event.GiveUp l) a fit short none lines =
          let e = event.GiveUp l in
          let given = is_there l t (world_none e none) in
          let q = adding.asks_so hd form m p w stops s on l (input.GiveUp l) (finds_giveup l) given (node_none e none) in
          let at = node_of l t in
          at_node e bodies fit isnt (loses l) (own.AreGiveUps l) at (happens e a t) (limit_parts (Led (loses l) (own.AreGiveUps l) at) t
          (happens e a t) bodies (adding.giveup_adds hd form m p w stops s on rising l q) lines) (λ bs its. its) (λ bs last met. met)
          (giveup_may l) refl (λ n. refl)
          (λ bs is. is) q.home (λ bs goes. no_delivery e (loses l) at bs (λ j. refl) (λ j. refl) goes) (λ bs its. inr (λ n. refl))

    -- ---- an event

    module _ (bodies : List Body) (fit : FramesStep hd p (event_of m) bodies) where
      shown_step : is_show (event_of m) ≡ true → Came (event_of m) arm t bodies → model_step.Step hd p (event_of m) bodies
      shown_step show came = record {
        goes_on = ap is_limited base.lines ∙ s.limit on;
        lines = inl (by came);
      }
        where
          plain : (e : Event) → is_show e ≡ true → names_action e ≡ false
          plain (event.Show x) is = refl
          plain e is = absurd (cc is)

          same : model.refusal hd p (event_of m) ≡ refused_by_any (event_of m) t
          same = refusing.plain_same hd form m p w stops s.base on (plain (event_of m) show)

          shown : (e : Event) (a : Arm) → is_show e ≡ true → FramesStep hd p e bodies → is_refused bodies ≡ false →
              w.lines ++ block t.event bodies ≡ (limited (happens e a t)).lines → Accepted hd p e bodies
          shown (event.Show x) a is fits isnt lines = shown_accepted x bodies fits isnt lines
          shown e a is fits isnt lines = absurd (cc is)

          by : Came (event_of m) arm t bodies →
              MatchOption (model.refusal hd p (event_of m)) (Accepted hd p (event_of m) bodies) (λ c. bodies ≡ body.Refused c ∷ [])
          by (IsRefused c refused is) = subst (λ o. MatchOption o (Accepted hd p (event_of m) bodies) (λ d. bodies ≡ body.Refused d ∷ []))
              (sym (same ∙ refused)) is
          by (IsRun none isnt lines) = subst (λ o. MatchOption o (Accepted hd p (event_of m) bodies) (λ d. bodies ≡ body.Refused d ∷ []))
              (sym (same ∙ none)) (shown (event_of m) arm show fit isnt lines)

      pub follows : AreInTurn (terms.acts p.lines) → Holds hd KnowsRising w → Came (event_of m) arm t bodies → ShortEventsStep hd p
          (event_of m) bodies →
          LinesStep hd p (event_of m) bodies
      follows turn rising (IsRefused c refused is) short = record {
        lines = λ isnt. let no_way : true ≡ false = sym (ap is_refused is) ∙ isnt in absurd (cc no_way);
        shown = λ show. shown_step show (IsRefused c refused is);
      }
      follows turn rising (IsRun none isnt lines) short = record {
        lines = λ off. accepted turn rising bodies isnt (event_of m) arm fit short none lines;
        shown = λ show. shown_step show (IsRun none isnt lines);
      }

      -- actions stay in turn
      turned : AreInTurn (terms.acts p.lines) → Came (event_of m) arm t bodies → LinesStep hd p (event_of m) bodies →
          AreInTurn (terms.acts (let q = next p (event_of m) bodies in q.lines))
      turned turn (IsRefused c refused is) x = turn_same p bodies (ap (list_all begins_none) is) turn
      turned turn (IsRun none isnt lines) x = turn_next hd p (event_of m) bodies (x.lines isnt) turn

  -- the run stands so at each event, and its actions are in turn
  pub record Turned (p : Past) (w : World) : Type 0 where
    pub base : shorts.Stands hd form p w
    pub turn : AreInTurn (terms.acts p.lines)
    pub rising : Holds hd KnowsRising w

  pub goes : (m : Move) (p : Past) (w : World) → IsStoppedInForm m → Turned p w → w.over ≡ false → Outcome (LinesStep hd) Turned m p w
  goes m p w stops x on = by (shorts.goes hd form m p w stops s on) (frames.goes hd form m p w stops s.base.base on)
    where
      s : shorts.Stands hd form p w
      s = x.base

      moved_rising : Holds hd KnowsRising (moved m w)
      moved_rising = move_asked hd KnowsRising (keeps_asked hd KnowsRising (rising_keep hd)) m w x.rising

      by : Outcome (ShortEventsStep hd) (shorts.Stands hd form) m p w → Outcome (FramesStep hd) (frames.Stands hd form) m p w →
          Outcome (LinesStep hd) Turned m p w
      by (Ended over event lines) other = Ended over event lines
      by (Went bodies step after) other = ends bodies step after other
        where
          ends : (bodies : List Body) → ShortEventsStep hd p (event_of m) bodies →
              shorts.Stands hd form (next p (event_of m) bodies) (moved m w) → Outcome (FramesStep hd) (frames.Stands hd form) m p w →
              Outcome (LinesStep hd) Turned m p w
          ends bodies step after (Ended over event lines) = Ended over event lines
          ends bodies step after (Went cs fit later) =
              let one : cs ≡ bodies = same_bodies (p.count + 1) cs bodies p.lines (later.lines ∙ sym (let b = after.base in
              let c = b.base in c.lines)) in
              let fits_too = subst (FramesStep hd p (event_of m)) one fit in
              let g = refusing.goes_with hd form m p w stops s.base on bodies (let b = after.base in b.base) in
              let y = follows m p w stops s on bodies fits_too x.turn x.rising g.0 step in
              Went bodies y (record { base = after; turn = turned m p w stops s on bodies fits_too x.turn g.0 y; rising = moved_rising })

  pub first_turned : (st : Start) → IsFormed hd st → Turned (at_start st) (world_from hd st)
  first_turned st formed = record {
    base = shorts.first_stands hd form st formed;
    turn = tt;
    rising = first_asked hd st KnowsRising formed (keeps_asked hd KnowsRising (rising_keep hd));
  }

pub lines_follow : (hd : Header) (r : Run hd) → IsInForm hd r → Runs (LinesStep hd) r.start (run_events hd r) (journal_by hd r)
lines_follow hd r form =
    runs_along (LinesStep hd) (Turned hd form.header) IsStoppedInForm
    (λ p w x. (let s : shorts.Stands hd form.header p w = x.base in s.base.base.lines))
    (λ p w x. (let s : shorts.Stands hd form.header p w = x.base in s.base.base.count))
    (λ m p w stops x on. goes hd form.header m p w stops x on) r.start r.moves (world_from hd r.start) form.stops
    (first_turned hd form.header r.start r.formed)
