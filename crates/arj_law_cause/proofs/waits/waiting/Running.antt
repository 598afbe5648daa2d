-- Event by event: what coordinators were asked is what was accepted, so what actions wait for is what the journal has.
use Rattle.arj_law_parts.proofs.Words
use Words.{◌≡◌, ◌∙◌, ◌+◌, ◌++◌, not, ℕ, Bool, true, false, if◌then◌else◌, List, [], ◌∷◌, Option, Some, None, refl, sym, ap}
use Words.{subst, arith, AllByRecursion, Body, Event, Header, Label, Uid, Input, Node, Parts, World, Start, Move, Doing}
use Words.{at_place, counted, doing_of, first_reason, giving, is_given, is_known, lacks_labels, limited, happens, moved, all_moved}
use Words.{no_labels}
use Words.{Coord, node_of, node_in, reasons, refused_at, run_event, run_unless, see, was_given, world_from, Labelled, is_node}
use Words.body
use Words.event
use Words.input
use Rattle.arj_law_parts.proofs.Terms.which
use Rattle.arj_law_parts.proofs.moves.Events.{move_with, same_run}
use Rattle.arj_law_parts.proofs.moves.Firsts.{first_stands as first_places}
use Rattle.arj_law_parts.proofs.moves.Reasons.{first_not, is_there}
use Rattle.arj_law_parts.specs.moves.Moments.{Asking, History, come, gone, no_history, with_asking}
use Rattle.arj_law_parts.specs.moves.With.{HoldsWith, asked_of_node, past_event, past_moves, past_unless, written}
use Rattle.arj_law_parts.specs.steps.Writes.{asks, node_refusal, refused_to}
use Rattle.arj_law_runs.proofs.follow.Along.{Ended, Outcome, Went, event_of}
use Rattle.arj_law_runs.proofs.follow.Frames as frames
use Rattle.arj_law_runs.proofs.follow.Reasons.{joined, refused_by_any}
use Rattle.arj_law_runs.proofs.follow.Refusing as refusing
use Rattle.arj_law_runs.proofs.follow.Refusing.{Came, IsRefused, IsRun}
use Rattle.arj_law_runs.specs.follow.Frames.{FramesStep}
use Rattle.arj_model.specs.Past.{Past, asked_of, at_start, block, is_refused, next}
use Rattle.arj_model.specs.Refusals as model
use Rattle.arj_promise.specs.Runs.{HeaderFits, IsStoppedInForm}
use Rattle.arj_promise.specs.Starts.{IsFormed}
use Rattle.arj_protocol.specs.Step.{is_about_action}
use Rattle.arj_law_cause.proofs.waits.waiting.Knowing.{Core, core_keep}
use Rattle.arj_law_cause.proofs.waits.waiting.Asked
use Asked.{AsksNone, Grown, accepts_none, accepts_one, call_asked, grown, none_asked, same_event, written_is}
use Rattle.arj_law_cause.proofs.waits.waiting.Waiting.{AreAsked, at_so, waits_here}
use Rattle.arj_law_cause.specs.waits.waiting.Waits.{IsAt, IsAtWork, RunsWait, WaitsAgree}

-- the run of a history is this run so far, whatever it began with
pub record IsSame (r p : Past) : Type 0 where
  pub count : r.count ≡ p.count
  pub accepted : r.accepted ≡ p.accepted
  pub lines : r.lines ≡ p.lines

asked_same : (r p : Past) → IsSame r p → (e : Event) → asked_of r e ≡ asked_of p e
asked_same r p same e = λ i. asked_of (record { start = p.start; count = same.count i; accepted = p.accepted; lines = same.lines i }) e

next_same : (r p : Past) → IsSame r p → (e : Event) (bodies : List Body) → IsSame (next r e bodies) (next p e bodies)
next_same r p same e bodies = record {
  count = λ i. same.count i + 1;
  accepted = λ i. if is_refused bodies then same.accepted i else same.accepted i ++ asked_same r p same e i ∷ [];
  lines = λ i. same.lines i ++ block (same.count i + 1) bodies;
}

module _ (hd : Header) (form : HeaderFits hd) where
  -- a run up to an event, its history, and the world there
  pub record Stands (g : History) (p : Past) (w : World) : Type 0 where
    pub base : refusing.Stands hd form p w
    pub tied : HoldsWith hd Core g w
    pub same : IsSame g.run p
    pub asked : AreAsked p.accepted g.askings

  -- ---- what actions are at

  module _ (g : History) (p : Past) (w : World) (s : Stands g p w) where
    -- so it is at a node that is up
    pub at_node : (k : ℕ) (n : Node) (t : Parts) (u : Uid) (d : Doing) → at_place k w.nodes ≡ Some n → n.live ≡ Some t →
        doing_of u t.coord ≡ Some d →
        IsAt p.accepted w.lines d.label d.now
    at_node k n t u d there live does =
        let h = s.base.halts in
        let a = s.tied.now.holds.1 in
        at_so (see h.sent w) h.holds k n t there live p.accepted g.askings s.asked u d does (a.tied k n t u d there live does)

    pub agree : WaitsAgree g.run w
    agree = record {
      works = λ k n t u d there live does. subst (λ xs. IsAt xs g.run.lines d.label d.now) (sym s.same.accepted)
          (subst (λ ls. IsAt p.accepted ls d.label d.now) (sym s.base.base.lines ∙ sym s.same.lines) (at_node k n t u d there live does));
      others = others;
    }
      where
        others : (l : List ℕ) → model.is_waiting g.run l ≡ true → IsAtWork w l
        others l waits =
            let h = s.base.halts in
            let a = s.tied.now.holds.1 in
            let r = waits_here (see h.sent w) h.holds g.run (s.same.lines ∙ s.base.base.lines) g.askings
            (subst (λ xs. AreAsked xs g.askings) (sym s.same.accepted) s.asked) a.new l waits in
            let x = r.2 in
            record {
              number = x.number;
              node = x.node;
              parts = x.parts;
              act = x.act;
              doing = x.doing;
              there = x.there;
              live = x.live;
              does = x.does;
              label = x.label ∙ r.1;
            }

  -- ---- one event

  module _ (m : Move) (g : History) (p : Past) (w : World) (stops : IsStoppedInForm m) (s : Stands g p w) (on : w.over ≡ false) where
    abbrev pub e : Event
    e = event_of m

    abbrev pub u : World
    u = record w { arms = m.falls }

    abbrev pub after : History
    after = past_event m.asked (record w { arms = m.falls }) g

    abbrev r : Option ℕ
    r = first_reason (reasons (event_of m) (record w { arms = m.falls }))

    -- the world behind it, and its history
    pub tied_on : HoldsWith hd Core (past_event m.asked (record w { arms = m.falls }) g) (moved m w)
    tied_on = move_with hd Core (core_keep hd) m g w s.tied

    past_is : past_event m.asked (record w { arms = m.falls }) g
        ≡ past_unless (event_of m) (record w { arms = m.falls }) (run_event m.asked (record w { arms = m.falls })) g
        (first_reason (reasons (event_of m) (record w { arms = m.falls })))
    past_is = λ i. if on i then g else
        past_unless (event_of m) (record w { arms = m.falls }) (run_event m.asked (record w { arms = m.falls })) g
        (first_reason (reasons (event_of m) (record w { arms = m.falls })))

    -- the event was run
    counts_on : (past_event m.asked (record w { arms = m.falls }) g).run.count ≡ (moved m w).event
    counts_on = sym tied_on.count ∙ tied_on.now.number

    -- where no label was left the history is as it was, and so are nodes
    none_left : first_reason (reasons (event_of m) (record w { arms = m.falls })) ≡ None →
        lacks_labels (giving (event_of m) (record w { arms = m.falls })) (record w { arms = m.falls }) ≡ true →
        (past_event m.asked (record w { arms = m.falls }) g ≡ g) × ((moved m w).event ≡ w.event) × ((moved m w).nodes ≡ w.nodes)
    none_left none lacks =
        let v : World = record w { arms = m.falls } in
        let is : run_event m.asked v ≡ no_labels v = (λ i. if on i then v else run_unless (event_of m) (let a = m.asked in a.arm) v
        (first_reason (reasons (event_of m) v))) ∙ ap (run_unless (event_of m) (let a = m.asked in a.arm) v) none
        ∙ ap (λ b. if b then no_labels v else limited (happens (event_of m) (let a = m.asked in a.arm) (counted v))) lacks in (
          past_is ∙ ap (past_unless (event_of m) v (run_event m.asked v) g) none
              ∙ ap (λ b. if b then g else
              gone (written v (run_event m.asked v)) (asked_of_node (asks (event_of m) v) v (come (event_of m) g))) lacks,
          ap (λ (x : World). x.event) is,
          ap (λ (x : World). x.nodes) is,
        )

    -- where the world doesn't refuse it, and has a label
    went : first_reason (reasons (event_of m) (record w { arms = m.falls })) ≡ None →
        lacks_labels (giving (event_of m) (record w { arms = m.falls })) (record w { arms = m.falls }) ≡ false →
        past_event m.asked (record w { arms = m.falls }) g
        ≡ gone (written (record w { arms = m.falls }) (run_event m.asked (record w { arms = m.falls })))
        (asked_of_node (asks (event_of m) (record w { arms = m.falls })) (record w { arms = m.falls }) (come (event_of m) g))
    went none has =
        let v : World = record w { arms = m.falls } in
        past_is ∙ ap (past_unless (event_of m) v (run_event m.asked v) g) none
        ∙ ap (λ b. if b then g else
        gone (written v (run_event m.asked v)) (asked_of_node (asks (event_of m) v) v (come (event_of m) g))) has

    -- what it adds to the history, where it was run
    pub record Adds (bodies : List Body) : Type 0 where
      pub same : IsSame (past_event m.asked (record w { arms = m.falls }) g).run (next p (event_of m) bodies)
      pub asked : AreAsked (next p (event_of m) bodies).accepted (past_event m.asked (record w { arms = m.falls }) g).askings

    module _ (bodies : List Body) (lines : (moved m w).lines ≡ w.lines ++ block (w.event + 1) bodies) where
      wrote : written (record w { arms = m.falls }) (run_event m.asked (record w { arms = m.falls })) ≡ bodies
      wrote = written_is (record w { arms = m.falls }) (run_event m.asked (record w { arms = m.falls })) (w.event + 1) bodies lines

      run_on : (r : Past) → r ≡ g.run → IsSame (next r (event_of m) (written (record w { arms = m.falls })
          (run_event m.asked (record w { arms = m.falls })))) (next p (event_of m) bodies)
      run_on r is = subst (λ bs. IsSame (next r (event_of m) bs) (next p (event_of m) bodies)) (sym wrote)
          (next_same r p (subst (λ x. IsSame x p) (sym is) s.same) (event_of m) bodies)

      -- a world that refuses asks nobody
      by_world : (c : ℕ) → first_reason (reasons (event_of m) (record w { arms = m.falls })) ≡ Some c → is_refused bodies ≡ true →
          Adds bodies
      by_world c is refused =
          let v : World = record w { arms = m.falls } in
          let its = past_is ∙ ap (past_unless (event_of m) v (run_event m.asked v) g) is in
          record {
            same = subst (λ (h : History). IsSame h.run (next p (event_of m) bodies)) (sym its) (run_on g.run refl);
            asked = subst (λ (h : History). AreAsked (next p (event_of m) bodies).accepted h.askings) (sym its)
                (subst (λ b. AreAsked (if b then p.accepted else p.accepted ++ asked_of p (event_of m) ∷ []) g.askings) (sym refused)
                s.asked);
          }

      module _ (none : first_reason (reasons (event_of m) (record w { arms = m.falls })) ≡ None)
          (has : lacks_labels (giving (event_of m) (record w { arms = m.falls })) (record w { arms = m.falls }) ≡ false) where
        abbrev d : History
        d = asked_of_node (asks (event_of m) (record w { arms = m.falls })) (record w { arms = m.falls }) (come (event_of m) g)

        same_on : IsSame (past_event m.asked (record w { arms = m.falls }) g).run (next p (event_of m) bodies)
        same_on =
            let v : World = record w { arms = m.falls } in
            subst (λ (h : History). IsSame h.run (next p (event_of m) bodies)) (sym (went none has))
            (subst (λ x. IsSame (next d.run x (written v (run_event m.asked v))) (next p (event_of m) bodies))
            (sym (same_event (event_of m) v g))
            (run_on d.run (same_run (event_of m) g v (asks (event_of m) v)).0))

        -- the node that was asked refuses
        pub by_node : (c : ℕ) → node_refusal (event_of m) (record w { arms = m.falls }) ≡ Some c → is_refused bodies ≡ true → Adds bodies
        by_node c refused is = record {
          same = same_on;
          asked = subst (λ (h : History). AreAsked (next p (event_of m) bodies).accepted h.askings) (sym (went none has))
              (subst (λ b. AreAsked (if b then p.accepted else p.accepted ++ asked_of p (event_of m) ∷ []) d.askings) (sym is)
              (subst (AreAsked p.accepted) (sym (none_asked (event_of m) (record w { arms = m.falls }) g c refused)) s.asked));
        }

        -- nobody refuses
        pub by_none : is_refused bodies ≡ false → AreAsked (p.accepted ++ asked_of p (event_of m) ∷ []) d.askings → Adds bodies
        by_none isnt all = record {
          same = same_on;
          asked = subst (λ (h : History). AreAsked (next p (event_of m) bodies).accepted h.askings) (sym (went none has))
              (subst (λ b. AreAsked (if b then p.accepted else p.accepted ++ asked_of p (event_of m) ∷ []) d.askings) (sym isnt) all);
        }

    -- ---- which events ask

    its_asked : asked_of g.run (event_of m) ≡ asked_of p (event_of m)
    its_asked = asked_same g.run p s.same (event_of m)

    other_asks : AsksNone (event_of m) → AreAsked (p.accepted ++ asked_of p (event_of m) ∷ [])
        (asked_of_node (asks (event_of m) (record w { arms = m.falls })) (record w { arms = m.falls }) (come (event_of m) g)).askings
    other_asks none =
        let v : World = record w { arms = m.falls } in
        let B : List Asking = (asked_of_node (asks (event_of m) v) v (come (event_of m) g)).askings in
        accepts_none p.accepted g.askings B (asked_of p (event_of m)) none
        (subst (λ a. Grown a g.askings B) its_asked (grown (event_of m) v g)) s.asked

    -- the label is that of an action which began in this run, at a node that is there
    label_node : (l : Label) → is_given l w ≡ true → (n : Node) × (at_place (node_of l w) w.nodes ≡ Some n)
    label_node l given =
        let q = refusing.labelled_so hd form m p w stops s.base on l given in
        (q.1, ap (λ (o : Option Labelled). at_place (node_in o) w.nodes) q.2 ∙ q.3)

    one_asks : (l : Label) (i : Input) → asks (event_of m) (record w { arms = m.falls }) ≡ Some (node_of l w, i) →
        ((c : Coord) → (q : Asking)
        × (with_asking i c g.run (event_of m) g.askings ≡ q ∷ g.askings)
        × (q.asked ≡ asked_of g.run (event_of m))) →
        is_about_action i ≡ true → is_given l w ≡ true →
        node_refusal (event_of m) (record w { arms = m.falls }) ≡ None →
        AreAsked (p.accepted ++ asked_of p (event_of m) ∷ [])
        (asked_of_node (asks (event_of m) (record w { arms = m.falls })) (record w { arms = m.falls }) (come (event_of m) g)).askings
    one_asks l i which asks_it about given free =
        let v : World = record w { arms = m.falls } in
        let n = label_node l given in
        let none : refused_at i v (Some n.0) ≡ None = ap (refused_at i v) (sym n.1)
        ∙ ap (refused_to v) (sym which) ∙ free in
        let q = call_asked i v g (event_of m) (node_of l w) n.0 n.1 asks_it about none in
        accepts_one p.accepted g.askings (asked_of_node (asks (event_of m) v) v (come (event_of m) g)).askings (asked_of p (event_of m)) (
          q.0,
          ap (λ o. (asked_of_node o v (come (event_of m) g)).askings) which ∙ q.1,
          q.2 ∙ its_asked,
        ) s.asked

    all_ask : first_reason (reasons (event_of m) (record w { arms = m.falls })) ≡ None →
        node_refusal (event_of m) (record w { arms = m.falls }) ≡ None → AreAsked (p.accepted ++ asked_of p (event_of m) ∷ [])
        (asked_of_node (asks (event_of m) (record w { arms = m.falls })) (record w { arms = m.falls }) (come (event_of m) g)).askings
    all_ask none free = by (event_of m) refl none
      where
        v : World
        v = record w { arms = m.falls }

        Result : Type 0
        Result = AreAsked (p.accepted ++ asked_of p (event_of m) ∷ [])
            (asked_of_node (asks (event_of m) (record w { arms = m.falls })) (record w { arms = m.falls }) (come (event_of m) g)).askings

        other : (x : Event) → event_of m ≡ x → AsksNone x → Result
        other x is none = other_asks (subst AsksNone (sym is) none)

        by : (x : Event) → event_of m ≡ x → first_reason (reasons x (record w { arms = m.falls })) ≡ None → Result
        by (event.Call l x o) is free_so = one_asks l (input.Call l x o) (ap (λ z. asks z v) is)
            (λ c. (_, refl, refl)) refl (is_there l v free_so) free
        by (event.Include l x n) is free_so = one_asks l (input.Include l x n) (ap (λ z. asks z v) is)
            (λ c. (_, refl, refl)) refl
            (is_there l v (first_not 1 (not (is_node n v)) ((5, not (is_known l v)) ∷ (6, was_given l v) ∷ []) free_so).1) free
        by (event.Begin l n) is free_so = other (event.Begin l n) is (λ l. refl)
        by (event.Serial l n) is free_so = other (event.Serial l n) is (λ l. refl)
        by (event.BeginIn l q) is free_so = other (event.BeginIn l q) is (λ l. refl)
        by (event.Top l q) is free_so = other (event.Top l q) is (λ l. refl)
        by (event.Commit l) is free_so = other (event.Commit l) is (λ l. refl)
        by (event.Abort l) is free_so = other (event.Abort l) is (λ l. refl)
        by (event.GiveUp l) is free_so = other (event.GiveUp l) is (λ l. refl)
        by (event.Deliver k) is free_so = other (event.Deliver k) is (λ l. refl)
        by (event.Lose k) is free_so = other (event.Lose k) is (λ l. refl)
        by (event.Tick n) is free_so = other (event.Tick n) is (λ l. refl)
        by event.Settle is free_so = other event.Settle is (λ l. refl)
        by event.Quiesce is free_so = other event.Quiesce is (λ l. refl)
        by (event.Crash n) is free_so = other (event.Crash n) is (λ l. refl)
        by (event.Restart n) is free_so = other (event.Restart n) is (λ l. refl)
        by (event.Stop n calls k) is free_so = other (event.Stop n calls k) is (λ l. refl)
        by (event.Junk n bytes) is free_so = other (event.Junk n bytes) is (λ l. refl)
        by (event.Show x) is free_so = other (event.Show x) is (λ l. refl)

    -- ---- behind it

    -- how it was refused, or that it wasn't
    abbrev Its : List Body → Type 0
    Its bodies = Came (event_of m) (let a = m.asked in a.arm) (counted (record w { arms = m.falls })) bodies

    -- the event's number is nothing to who is asked
    before : first_reason (reasons (event_of m) (counted (record w { arms = m.falls })))
        ≡ first_reason (reasons (event_of m) (record w { arms = m.falls }))
    before = ap first_reason (frames.same_reasons (event_of m) (record w { arms = m.falls }))

    same_node : node_refusal (event_of m) (counted (record w { arms = m.falls })) ≡ node_refusal (event_of m) (record w { arms = m.falls })
    same_node = one (event_of m)
      where
        one : (x : Event) → node_refusal x (counted (record w { arms = m.falls })) ≡ node_refusal x (record w { arms = m.falls })
        one (event.Call l x o) = refl
        one (event.Include l x n) = refl
        one (event.Commit l) = refl
        one (event.Abort l) = refl
        one (event.GiveUp l) = refl
        one x = refl

    by_node_alone : first_reason (reasons (event_of m) (record w { arms = m.falls })) ≡ None →
        refused_by_any (event_of m) (counted (record w { arms = m.falls })) ≡ node_refusal (event_of m) (record w { arms = m.falls })
    by_node_alone none = ap (λ o. joined o (node_refusal (event_of m) (counted (record w { arms = m.falls })))) (before ∙ none) ∙ same_node

    stays : (n : ℕ) → n + 1 ≡ n → ⊥
    stays n is = omega (arith, is)

    -- nobody refuses it: what coordinators were asked by then
    pub record Granted : Type 0 where
      pub none : first_reason (reasons (event_of m) (record w { arms = m.falls })) ≡ None
      pub has : lacks_labels (giving (event_of m) (record w { arms = m.falls })) (record w { arms = m.falls }) ≡ false
      pub asked : AreAsked (p.accepted ++ asked_of p (event_of m) ∷ [])
          (asked_of_node (asks (event_of m) (record w { arms = m.falls })) (record w { arms = m.falls }) (come (event_of m) g)).askings

    pub granted : refused_by_any (event_of m) (counted (record w { arms = m.falls })) ≡ None → (moved m w).event ≡ w.event + 1 → Granted
    granted free count = by (first_reason (reasons (event_of m) (record w { arms = m.falls }))) refl
      where
        v : World
        v = record w { arms = m.falls }

        labelled : first_reason (reasons (event_of m) (record w { arms = m.falls })) ≡ None → (b : Bool) →
            lacks_labels (giving (event_of m) (record w { arms = m.falls })) (record w { arms = m.falls }) ≡ b → Granted
        labelled none true lacks = absurd (stays w.event (sym count ∙ (none_left none lacks).1))
        labelled none false has = record { none = none; has = has; asked = all_ask none (sym (by_node_alone none) ∙ free) }

        by : (o : Option ℕ) → first_reason (reasons (event_of m) (record w { arms = m.falls })) ≡ o → Granted
        by (Some c) is =
            let no_way : ◌≡◌ {A = Option ℕ} (Some c) None =
            sym (ap (λ o. joined o (node_refusal (event_of m) (counted v))) (before ∙ is)) ∙ free in
            absurd (cc no_way)
        by None is = labelled is (lacks_labels (giving (event_of m) v) v) refl

    adds : (bodies : List Body) → (moved m w).lines ≡ w.lines ++ block (w.event + 1) bodies → (moved m w).event ≡ w.event + 1 → Its bodies →
        Adds bodies
    adds bodies lines count (IsRun free isnt all) = let r = granted free count in by_none bodies lines r.none r.has isnt r.asked
    adds bodies lines count (IsRefused c refused line) = by (first_reason (reasons (event_of m) (record w { arms = m.falls }))) refl
      where
        v : World
        v = record w { arms = m.falls }

        labelled : first_reason (reasons (event_of m) (record w { arms = m.falls })) ≡ None → (b : Bool) →
            lacks_labels (giving (event_of m) (record w { arms = m.falls })) (record w { arms = m.falls }) ≡ b → Adds bodies
        labelled none true lacks = absurd (stays w.event (sym count ∙ (none_left none lacks).1))
        labelled none false has = by_node bodies lines none has c (sym (by_node_alone none) ∙ refused) (ap is_refused line)

        by : (o : Option ℕ) → first_reason (reasons (event_of m) (record w { arms = m.falls })) ≡ o → Adds bodies
        by (Some d) is = by_world bodies lines d is (ap is_refused line)
        by None is = labelled is (lacks_labels (giving (event_of m) v) v) refl

    -- What the event leaves: it was run, or no label was left for it.
    pub data Leaves : Type 0 where
      Ran : (bodies : List Body) → Its bodies → frames.Stands hd form (next p (event_of m) bodies) (moved m w) →
          Stands (past_event m.asked (record w { arms = m.falls }) g) (next p (event_of m) bodies) (moved m w) → Leaves
      Stopped : (moved m w).over ≡ true → (moved m w).event ≡ w.event →
          (moved m w).lines ≡ w.lines ++ block w.event (body.Limit which.Labels ∷ []) →
          past_event m.asked (record w { arms = m.falls }) g ≡ g → (moved m w).nodes ≡ w.nodes → Leaves

    pub leaves : Leaves
    leaves = by (frames.goes hd form m p w stops s.base.base on)
      where
        v : World
        v = record w { arms = m.falls }

        numbers : (past_event m.asked v g).number ≡ g.number + 1 → (moved m w).event ≡ w.event + 1
        numbers is = sym tied_on.now.number ∙ is ∙ ap (λ n. n + 1) s.tied.now.number

        stopped : (moved m w).over ≡ true → (moved m w).event ≡ w.event →
            (moved m w).lines ≡ w.lines ++ block w.event (body.Limit which.Labels ∷ []) → Leaves
        stopped over event lines = one (first_reason (reasons (event_of m) v)) refl
          where
            two : first_reason (reasons (event_of m) v) ≡ None → (b : Bool) → lacks_labels (giving (event_of m) v) v ≡ b → Leaves
            two none true lacks = let r = none_left none lacks in Stopped over event lines r.0 r.2
            two none false has = absurd (stays w.event (sym (numbers (ap (λ (h : History). h.number) (went none has)
                ∙ (same_run (event_of m) g v (asks (event_of m) v)).1)) ∙ event))

            one : (o : Option ℕ) → first_reason (reasons (event_of m) v) ≡ o → Leaves
            one (Some c) is = absurd (stays w.event (sym (numbers (ap (λ (h : History). h.number)
                (past_is ∙ ap (past_unless (event_of m) v (run_event m.asked v) g) is))) ∙ event))
            one None is = two is (lacks_labels (giving (event_of m) v) v) refl

        by : Outcome (FramesStep hd) (frames.Stands hd form) m p w → Leaves
        by (Ended over event lines) = stopped over event lines
        by (Went bodies step after) =
            let q = refusing.goes_with hd form m p w stops s.base on bodies after in
            let count : (moved m w).event ≡ w.event + 1 = sym after.count ∙ ap (λ n. n + 1) s.base.base.count in
            let lines : (moved m w).lines ≡ w.lines ++ block (w.event + 1) bodies
            = sym after.lines ∙ (λ i. s.base.base.lines i ++ block (s.base.base.count i + 1) bodies) in
            let a = adds bodies lines count q.0 in
            Ran bodies q.0 after (record { base = q.1; tied = tied_on; same = a.same; asked = a.asked })

  -- ---- runs

  pub first_stands : (st : Start) → IsFormed hd st → Stands (no_history st) (at_start st) (world_from hd st)
  first_stands st formed = record {
    base = refusing.first_stands hd form st formed;
    tied = record {
      now = record {
        sent = [];
        stands = first_places hd st;
        number = refl;
        wrote = ([], refl);
        holds = (let k = core_keep hd in k.first st formed);
      };
      count = refl;
      lines = λ over. refl;
    };
    same = record { count = refl; accepted = refl; lines = refl };
    asked = λ l. refl;
  }

  -- other nodes are as they were
  nodes_agree : (h g : History) (w v : World) → h ≡ g → v.nodes ≡ w.nodes → WaitsAgree g.run w → WaitsAgree h.run v
  nodes_agree h g w v past nodes a = subst (λ (z : History). WaitsAgree z.run v) (sym past) (record {
    works = λ k n t u d there live does. a.works k n t u d (ap (at_place k) (sym nodes) ∙ there) live does;
    others = λ l waits. let x = a.others l waits in record {
      number = x.number;
      node = x.node;
      parts = x.parts;
      act = x.act;
      doing = x.doing;
      there = ap (at_place x.number) nodes ∙ x.there;
      live = x.live;
      does = x.does;
      label = x.label;
    };
  })

  -- a run that is over stays as it is
  over_agrees : (ms : List Move) (g : History) (w : World) → w.over ≡ true → WaitsAgree g.run w →
      WaitsAgree (past_moves ms w g).run (all_moved ms w)
  over_agrees [] g w over a = a
  over_agrees (m ∷ ms) g w over a =
      let v : World = record w { arms = m.falls } in
      let is : run_event m.asked v ≡ v = λ i. if over i then v else run_unless (event_of m) (let z = m.asked in z.arm) v
      (first_reason (reasons (event_of m) v)) in
      let past : past_event m.asked v g ≡ g = λ i. if over i then g else past_unless (event_of m) v (run_event m.asked v) g
      (first_reason (reasons (event_of m) v)) in
      over_agrees ms (past_event m.asked v g) (moved m w) (ap (λ (x : World). x.over) is ∙ over)
      (nodes_agree (past_event m.asked v g) g w (moved m w) past (ap (λ (x : World). x.nodes) is) a)

  moves_agree : (ms : List Move) (g : History) (p : Past) (w : World) → AllByRecursion IsStoppedInForm ms → Stands g p w →
      WaitsAgree (past_moves ms w g).run (all_moved ms w)
  moves_agree [] g p w stops s = agree g p w s
  moves_agree (m ∷ ms) g p w stops s = by w.over refl (λ h q v after. moves_agree ms h q v stops.1 after)
    where
      Rest : Type 0
      Rest = (h : History) (q : Past) (v : World) → Stands h q v → WaitsAgree (past_moves ms v h).run (all_moved ms v)

      by : (b : Bool) → w.over ≡ b → Rest → WaitsAgree (past_moves (m ∷ ms) w g).run (all_moved (m ∷ ms) w)
      by true over rest = over_agrees (m ∷ ms) g w over (agree g p w s)
      by false on rest = left (leaves m g p w stops.0 s on)
        where
          left : Leaves m g p w stops.0 s on → WaitsAgree (past_moves (m ∷ ms) w g).run (all_moved (m ∷ ms) w)
          left (Ran bodies came _ stands) = rest (past_event m.asked (record w { arms = m.falls }) g) (next p (event_of m) bodies)
              (moved m w) stands
          left (Stopped over event lines past nodes) = over_agrees ms (past_event m.asked (record w { arms = m.falls }) g) (moved m w) over
              (nodes_agree (past_event m.asked (record w { arms = m.falls }) g) g w (moved m w) past nodes (agree g p w s))

pub runs_wait : RunsWait
runs_wait hd r form = moves_agree hd form.header r.moves (no_history r.start) (at_start r.start) (world_from hd r.start) form.stops
    (first_stands hd form.header r.start r.formed)
