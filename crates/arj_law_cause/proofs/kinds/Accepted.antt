-- What was asked of coordinators are the calls and includes among the accepted events.
use Rattle.arj_law_parts.proofs.Words
use Words.{◌≡◌, ◌⊎◌, ◌∙◌, ◌+◌, ◌++◌, ℕ, Bool, true, false, cond, if◌then◌else◌, List, [], ◌∷◌, length, map, filter-append}
use Words.{refl, sym, ap}
use Words.{subst, arith, inl, inr, Option, Some, None, Arm, Body, Event, Header, Label, Line, Input, Move, Node, Parts, World}
use Words.{⊎_elim, append-nil, Op, not, is_known, is_node, was_given, at_place, counted, first_reason, giving, happens, is_given}
use Words.{lacks_labels, limited, moved, no_labels, node_in, node_of, reasons}
use Words.{refused_at, run_event, run_unless}
use Words.event
use Words.input
use Rattle.arj_law_parts.proofs.Terms.{refused_to}
use Rattle.arj_law_parts.proofs.moves.{Events.same_run, Reasons.first_not, Reasons.is_there}
use Rattle.arj_law_parts.specs.moves.Moments.{Asking, History, asking_of, come, gone, with_taken}
use Rattle.arj_law_parts.specs.moves.With.{asked_at, asked_of_node, past_event, past_unless, written}
use Rattle.arj_law_parts.specs.steps.Writes.{asks, node_refusal}
use Rattle.arj_law_runs.proofs.follow.Along.{event_of}
use Rattle.arj_law_runs.proofs.follow.Frames as frames
use Rattle.arj_law_runs.proofs.follow.Reasons.{joined, refused_by_any}
use Rattle.arj_law_runs.proofs.follow.Refusing as refusing
use Rattle.arj_law_runs.proofs.follow.Refusing.{Came, IsRefused, IsRun}
use Rattle.arj_law_lock_view.specs.asking.Asked.{accepted_of}
use Rattle.arj_model.specs.Past.{Asked, Past, asked_of, block, is_refused, next}
use Rattle.arj_model.specs.Refusals.{asks_by, is_ask_by}
use Rattle.arj_promise.specs.Runs.{HeaderFits, IsStoppedInForm}
use Rattle.arj_protocol.specs.Step.{refusal_at}
use Rattle.arj_start.specs.Start.{fresh}
use Rattle.std.specs.Prelude.{drop}
use Rattle.arj_law_cause.proofs.kinds.Forms.{behind_block}

-- The history's run is this one, and what was asked of actions by calls and includes is what was accepted.
pub record IsToldBy (p : Past) (g : History) : Type 0 where
  pub run : g.run ≡ record p { start = fresh }
  pub asks : (l : List ℕ) → asks_by (accepted_of g.askings) l ≡ asks_by p.accepted l

-- ---- lists of what was asked

-- one more that asks nothing under the label
none_more : (xs : List Asked) (a : Asked) (l : List ℕ) → is_ask_by l a.event ≡ false → asks_by (xs ++ a ∷ []) l ≡ asks_by xs l
none_more xs a l none = filter-append (λ (k : Asked). is_ask_by l k.event) xs (a ∷ [])
    ∙ (λ i. asks_by xs l ++ cond (none i) (a ∷ []) []) ∙ append-nil (asks_by xs l)

-- one more on both sides
same_more : (xs ys : List Asked) (a : Asked) (l : List ℕ) → asks_by xs l ≡ asks_by ys l →
    asks_by (xs ++ a ∷ []) l ≡ asks_by (ys ++ a ∷ []) l
same_more xs ys a l same = filter-append (λ (k : Asked). is_ask_by l k.event) xs (a ∷ []) ∙ ap (λ zs. zs ++ asks_by (a ∷ []) l) same
    ∙ sym (filter-append (λ (k : Asked). is_ask_by l k.event) ys (a ∷ []))

-- what an event adds to what was asked: nothing, or itself
abbrev Grew : Event → History → List Asking → Type 0
Grew e g later = (later ≡ g.askings) ⊎ ((k : Asking) × (k.asked ≡ asked_of g.run e) × (later ≡ k ∷ g.askings))

module _ (e : Event) (g : History) (u : World) where
  abbrev Later : Option (ℕ × Input) → List Asking
  Later o = (let q = asked_of_node o u (come e g) in q.askings)

  taken_grew : (i : Input) (live : Option Parts) (r : Option ℕ) → Grew e g (with_taken i live r g.run e g.askings)
  taken_grew i None r = inl refl
  taken_grew i (Some t) (Some c) = inl refl
  taken_grew (input.Call l x o) (Some t) None = inr (asking_of l t.coord g.run e, refl, refl)
  taken_grew (input.Include l x s) (Some t) None = inr (asking_of l t.coord g.run e, refl, refl)
  taken_grew (input.Commit l) (Some t) None = inr (asking_of l t.coord g.run e, refl, refl)
  taken_grew (input.Begin l k p) (Some t) None = inl refl
  taken_grew (input.Abort l) (Some t) None = inl refl
  taken_grew (input.GiveUp l) (Some t) None = inl refl
  taken_grew (input.Frame k from m) (Some t) None = inl refl
  taken_grew input.Tick (Some t) None = inl refl
  taken_grew input.Restart (Some t) None = inl refl
  taken_grew input.Crash (Some t) None = inl refl
  taken_grew (input.Show x) (Some t) None = inl refl

  grew : (o : Option (ℕ × Input)) → Grew e g (Later o)
  grew None = inl refl
  grew (Some b) = at (at_place b.0 u.nodes)
    where
      at : (n : Option Node) → Grew e g (let q = asked_at u.header b.1 n (come e g) in q.askings)
      at None = inl refl
      at (Some n) = taken_grew b.1 n.live (refusal_at u.header b.1 n.live)

  -- an event that asks nothing under the label
  none_asked : (o : Option (ℕ × Input)) (l : List ℕ) → is_ask_by l e ≡ false →
      asks_by (accepted_of (Later o)) l ≡ asks_by (accepted_of g.askings) l
  none_asked o l none = ⊎_elim (λ same. ap (λ ks. asks_by (accepted_of ks) l) same)
      (λ k. ap (λ ks. asks_by (accepted_of ks) l) k.2 ∙ none_more (accepted_of g.askings) (let q = k.0 in q.asked) l
      (ap (λ (a : Asked). is_ask_by l a.event) k.1 ∙ none)) (grew o)

-- ---- an event

module _ (hd : Header) (form : HeaderFits hd) (m : Move) (p : Past) (w : World) (stops : IsStoppedInForm m)
    (s : refusing.Stands hd form p w) (on : w.over ≡ false) (g : History) (k : IsToldBy p g)
    (bodies : List Body) (after : frames.Stands hd form (next p (event_of m) bodies) (moved m w)) where
  abbrev u : World
  u = record w { arms = m.falls }

  abbrev t : World
  t = counted (record w { arms = m.falls })

  abbrev e : Event
  e = event_of m

  abbrev arm : Arm
  arm = let a = m.asked in a.arm

  abbrev v : World
  v = run_event m.asked u

  -- what came of it
  came : Came e arm t bodies
  came = (refusing.goes_with hd form m p w stops s on bodies after).0

  its_bodies : written u v ≡ bodies
  its_bodies = (λ i. map (λ (l : Line). l.body) (drop (length w.lines) (sym lines i))) ∙ behind_block w.lines (w.event + 1) bodies
    where
      lines : w.lines ++ block (w.event + 1) bodies ≡ v.lines
      lines = (λ i. (sym s.base.lines) i ++ block ((sym s.base.count) i + 1) bodies) ∙ after.lines

  -- it is refused, or isn't
  refused_so : (c : ℕ) → refused_by_any e t ≡ Some c → is_refused bodies ≡ true
  refused_so c is = by came
    where
      by : Came e arm t bodies → is_refused bodies ≡ true
      by (IsRefused d refused line) = ap is_refused line
      by (IsRun none isnt lines) = let no_way : ◌≡◌ {A = Option ℕ} None (Some c) = sym none ∙ is in absurd (cc no_way)

  run_so : refused_by_any e t ≡ None → is_refused bodies ≡ false
  run_so is = by came
    where
      by : Came e arm t bodies → is_refused bodies ≡ false
      by (IsRefused d refused line) = let no_way : ◌≡◌ {A = Option ℕ} (Some d) None = sym refused ∙ is in absurd (cc no_way)
      by (IsRun none isnt lines) = isnt

  -- what is accepted then
  accepted_is : (b : Bool) → is_refused bodies ≡ b → (next p e bodies).accepted ≡
      (if b then p.accepted else p.accepted ++ asked_of p e ∷ [])
  accepted_is b is = λ i. if is i then p.accepted else p.accepted ++ asked_of p e ∷ []

  abbrev Same : List Asking → Type 0
  Same later = (l : List ℕ) → asks_by (accepted_of later) l ≡ asks_by (next p e bodies).accepted l

  -- nothing was asked, and the event isn't accepted
  refused_same : is_refused bodies ≡ true → (later : List Asking) → later ≡ g.askings → Same later
  refused_same is later same l =
      ap (λ ks. asks_by (accepted_of ks) l) same ∙ k.asks l ∙ ap (λ xs. asks_by xs l) (sym (accepted_is true is))

  -- the event asks nothing under any label
  plain_same : ((l : List ℕ) → is_ask_by l e ≡ false) → (o : Option (ℕ × Input)) → Same (Later e g u o)
  plain_same none o l = none_asked e g u o l (none l) ∙ k.asks l ∙ by (is_refused bodies) refl
    where
      by : (b : Bool) → is_refused bodies ≡ b → asks_by p.accepted l ≡ asks_by (next p e bodies).accepted l
      by true is = ap (λ xs. asks_by xs l) (sym (accepted_is true is))
      by false is = sym (none_more p.accepted (asked_of p e) l (none l)) ∙ ap (λ xs. asks_by xs l) (sym (accepted_is false is))

  -- the event asks an action, which began, and is accepted where its node takes it
  module _ (l : Label) (i : Input) (is_asks : asks e u ≡ Some (node_of l u, i)) (its_asks : asks e t ≡ Some (node_of l t, i))
      (given : is_given l t ≡ true) (down : (live : Option Parts) → live ≡ None → refusal_at hd i live ≡ Some 6)
      (takes : (c : Parts) (r : Past) (x : Event) (ks : List Asking) → with_taken i (Some c) None r x ks ≡ asking_of l c.coord r x ∷ ks)
      (free : first_reason (reasons e t) ≡ None) where
    named : (n : Node) × (at_place (node_of l u) u.nodes ≡ Some n)
    named =
        let r = refusing.labelled_so hd form m p w stops s on l given in
        (r.1, ap (λ j. at_place j w.nodes) (ap node_in r.2) ∙ r.3)

    abbrev n : Node
    n = named.0

    its_refusal : refused_by_any e t ≡ refusal_at hd i n.live
    its_refusal = (λ j. joined (free j) (node_refusal e t)) ∙ ap (λ o. refused_to t o) its_asks
        ∙ ap (λ o. refused_at i t o) named.1 ∙ ap (λ x. refusal_at x i n.live) s.base.is

    later_is : Later e g u (asks e u) ≡ with_taken i n.live (refusal_at hd i n.live) g.run e g.askings
    later_is = ap (λ o. Later e g u o) is_asks ∙ ap (λ o. (let q = asked_at u.header i o (come e g) in q.askings)) named.1
        ∙ ap (λ x. with_taken i n.live (refusal_at x i n.live) g.run e g.askings) s.base.is

    asked_same : Same (Later e g u (asks e u))
    asked_same = by n.live refl (refusal_at hd i n.live) refl
      where
        none_taken : (live : Option Parts) (c : ℕ) → with_taken i live (Some c) g.run e g.askings ≡ g.askings
        none_taken None c = refl
        none_taken (Some q) c = refl

        by : (live : Option Parts) → n.live ≡ live → (r : Option ℕ) → refusal_at hd i n.live ≡ r → Same (Later e g u (asks e u))
        by live up (Some c) is = refused_same (refused_so c (its_refusal ∙ is)) (Later e g u (asks e u))
            (later_is ∙ ap (λ o. with_taken i n.live o g.run e g.askings) is ∙ none_taken n.live c)
        by None up None is = let no_way : ◌≡◌ {A = Option ℕ} (Some 6) None = sym (down n.live up) ∙ is in absurd (cc no_way)
        by (Some c) up None is = λ z.
            let a : asked_of g.run e ≡ asked_of p e = ap (λ r. asked_of r e) k.run in
            ap (λ ks. asks_by (accepted_of ks) z) (later_is ∙ (λ j. with_taken i (up j) (is j) g.run e g.askings)
            ∙ takes c g.run e g.askings)
            ∙ ap (λ x. asks_by (accepted_of g.askings ++ x ∷ []) z) a
            ∙ same_more (accepted_of g.askings) p.accepted (asked_of p e) z (k.asks z)
            ∙ ap (λ xs. asks_by xs z) (sym (accepted_is false (run_so (its_refusal ∙ is))))

  by_event : (x : Event) → e ≡ x → first_reason (reasons e t) ≡ None → Same (Later e g u (asks e u))
  by_event x same free = by x same
    where
      others : (x : Event) → e ≡ x → ((l : List ℕ) → is_ask_by l x ≡ false) → Same (Later e g u (asks e u))
      others x same none = plain_same (λ l. ap (is_ask_by l) same ∙ none l) (asks e u)

      down_call : (l : Label) (y : ℕ) (o : Op) (live : Option Parts) → live ≡ None → refusal_at hd (input.Call l y o) live ≡ Some 6
      down_call l y o live is = ap (refusal_at hd (input.Call l y o)) is

      down_include : (l : Label) (y z : ℕ) (live : Option Parts) → live ≡ None → refusal_at hd (input.Include l y z) live ≡ Some 6
      down_include l y z live is = ap (refusal_at hd (input.Include l y z)) is

      by : (x : Event) → e ≡ x → Same (Later e g u (asks e u))
      by (event.Call l y o) same = asked_same l (input.Call l y o) (ap (λ z. asks z u) same) (ap (λ z. asks z t) same)
          (is_there l t (sym (ap (λ z. first_reason (reasons z t)) same) ∙ free)) (down_call l y o) (λ c r z ks. refl) free
      by (event.Include l y z) same = asked_same l (input.Include l y z) (ap (λ x. asks x u) same) (ap (λ x. asks x t) same)
          (is_there l t ((first_not 1 (not (is_node z t)) ((5, not (is_known l t)) ∷ (6, was_given l t) ∷ [])
          (sym (ap (λ x. first_reason (reasons x t)) same) ∙ free)).1)) (down_include l y z)
          (λ c r z ks. refl) free
      by (event.Begin l n) same = others (event.Begin l n) same (λ z. refl)
      by (event.Serial l n) same = others (event.Serial l n) same (λ z. refl)
      by (event.BeginIn l q) same = others (event.BeginIn l q) same (λ z. refl)
      by (event.Top l q) same = others (event.Top l q) same (λ z. refl)
      by (event.Commit l) same = others (event.Commit l) same (λ z. refl)
      by (event.Abort l) same = others (event.Abort l) same (λ z. refl)
      by (event.GiveUp l) same = others (event.GiveUp l) same (λ z. refl)
      by (event.Deliver j) same = others (event.Deliver j) same (λ z. refl)
      by (event.Lose j) same = others (event.Lose j) same (λ z. refl)
      by (event.Tick n) same = others (event.Tick n) same (λ z. refl)
      by event.Settle same = others event.Settle same (λ z. refl)
      by event.Quiesce same = others event.Quiesce same (λ z. refl)
      by (event.Crash n) same = others (event.Crash n) same (λ z. refl)
      by (event.Restart n) same = others (event.Restart n) same (λ z. refl)
      by (event.Stop n c how) same = others (event.Stop n c how) same (λ z. refl)
      by (event.Junk n bytes) same = others (event.Junk n bytes) same (λ z. refl)
      by (event.Show x) same = others (event.Show x) same (λ z. refl)

  -- behind the event it is so again
  pub told_on : IsToldBy (next p e bodies) (past_event m.asked u g)
  told_on = by (first_reason (reasons e u)) refl
    where
      r : Option ℕ
      r = first_reason (reasons e u)

      past_is : (o : Option ℕ) → first_reason (reasons e u) ≡ o → past_event m.asked u g ≡ past_unless e u v g o
      past_is o is = (λ i. cond (on i) g (past_unless e u v g (first_reason (reasons e u)))) ∙ ap (past_unless e u v g) is

      ran : (h : History) → h.run ≡ g.run → h.event ≡ e → (let q = gone (written u v) h in q.run) ≡ record (next p e bodies) {
        start =
            fresh;
      }
      ran h run its = λ i. next ((run ∙ k.run) i) (its i) (its_bodies i)

      at : (h : History) → past_event m.asked u g ≡ gone (written u v) h → h.run ≡ g.run → h.event ≡ e → Same h.askings →
          IsToldBy (next p e bodies) (past_event m.asked u g)
      at h is run its same = subst (IsToldBy (next p e bodies)) (sym is) (record { run = ran h run its; asks = same })

      same_event : (o : Option (ℕ × Input)) → (let q = asked_of_node o u (come e g) in q.event) ≡ e
      same_event None = refl
      same_event (Some b) = here (at_place b.0 w.nodes)
        where
          here : (n : Option Node) → (let q = asked_at w.header b.1 n (come e g) in q.event) ≡ e
          here None = refl
          here (Some n) = refl

      free_is : (o : Option ℕ) → first_reason (reasons e u) ≡ o → first_reason (reasons e t) ≡ o
      free_is o is = ap first_reason (frames.same_reasons e u) ∙ is

      run_by : first_reason (reasons e u) ≡ None → (b : Bool) → lacks_labels (giving e u) u ≡ b →
          IsToldBy (next p e bodies) (past_event m.asked u g)
      run_by none true lacks = absurd (stays w.event (sym count ∙ ap (λ (x : World). x.event) v_is))
        where
          v_is : v ≡ no_labels u
          v_is = (λ i. cond (on i) u (run_unless e arm u (first_reason (reasons e u)))) ∙ ap (run_unless e arm u) none
              ∙ (λ i. cond (lacks i) (no_labels u) (limited (happens e arm t)))

          count : v.event ≡ w.event + 1
          count = sym after.count ∙ ap (λ n. n + 1) s.base.count

          stays : (n : ℕ) → n + 1 ≡ n → ⊥
          stays n is = omega (arith, is)
      run_by none false has =
          let h = asked_of_node (asks e u) u (come e g) in
          let same = same_run e g u (asks e u) in
          at h (past_is None none ∙ (λ i. cond (has i) g (gone (written u v) (asked_of_node (asks e u) u (come e g))))) same.0
          (same_event (asks e u)) (by_event e refl (free_is None none))

      by : (o : Option ℕ) → first_reason (reasons e u) ≡ o → IsToldBy (next p e bodies) (past_event m.asked u g)
      by None is = run_by is (lacks_labels (giving e u) u) refl
      by (Some c) is = at (come e g) (past_is (Some c) is) refl refl
          (refused_same (refused_so c (λ i. joined (free_is (Some c) is i) (node_refusal e t))) g.askings refl)
