-- Accepted calls and includes are those that coordinators were asked.
use Rattle.arj_law_parts.proofs.Words
use Words.{◌≡◌, ◌∙◌, ◌++◌, ℕ, true, false, cond, List, [], ◌∷◌, Option, Some, None, refl, sym, ap, append-nil, filter}
use Words.{if◌then◌else◌, Event, Header, Label, Parts, Node, Input, at_place, World, counted, first_reason, reasons, refusal_at}
use Rattle.arj_protocol.specs.Step.{is_about_action}
use Words.{is_given, is_known, is_node, kind_below, node_of, not, refused_at, was_given}
use Words.event
use Words.input
use Words.kind
use Rattle.arj_law_lock_view.specs.asking.Asked.{accepted_of}
use Rattle.arj_law_parts.proofs.moves.{Reasons.first_not, Reasons.is_there, Worlds.asked_none}
use Rattle.arj_law_parts.specs.moves.Moments.{Asking, History, asking_of, come, with_asking, with_taken}
use Rattle.arj_law_parts.specs.moves.With.{asked_at, asked_of_node}
use Rattle.arj_law_parts.specs.steps.Writes.{asks, node_refusal, refused_to}
use Rattle.arj_model.specs.Past.{Past, asked_of}
use Rattle.arj_law_cause.proofs.rows.Asks.{AreSameAsks, asks_some, filter_both, is_asking}

none_is : {A P : Type 0} {x : A} → None ≡ Some x → P
none_is {A} {P} {x} is = let no_way : ◌≡◌ {A = Option A} None (Some x) = is in absurd (cc no_way)

-- ---- a node refuses

-- that the event is counted is nothing to it
pub same_refusal : (e : Event) (w : World) → node_refusal e (counted w) ≡ node_refusal e w
same_refusal (event.Begin l n) w = refl
same_refusal (event.Serial l n) w = refl
same_refusal (event.BeginIn l p) w = refl
same_refusal (event.Top l p) w = refl
same_refusal (event.Call l x o) w = refl
same_refusal (event.Include l x n) w = refl
same_refusal (event.Commit l) w = refl
same_refusal (event.Abort l) w = refl
same_refusal (event.GiveUp l) w = refl
same_refusal (event.Deliver k) w = refl
same_refusal (event.Lose k) w = refl
same_refusal (event.Tick n) w = refl
same_refusal event.Settle w = refl
same_refusal event.Quiesce w = refl
same_refusal (event.Crash n) w = refl
same_refusal (event.Restart n) w = refl
same_refusal (event.Stop n c how) w = refl
same_refusal (event.Junk n bytes) w = refl
same_refusal (event.Show x) w = refl

module _ (run : Past) (e : Event) (before : List Asking) where
  taken_none : (i : Input) (live : Option Parts) (c : ℕ) → with_taken i live (Some c) run e before ≡ before
  taken_none i None c = refl
  taken_none i (Some t) c = refl

  -- what is refused is asked of nobody
  refused_none : (i : Input) (live : Option Parts) (r : Option ℕ) (c : ℕ) → r ≡ Some c → with_taken i live r run e before ≡ before
  refused_none i live r c is = ap (λ z. with_taken i live z run e before) is ∙ taken_none i live c

  -- what isn't is asked of the node
  taken_new : (hd : Header) (i : Input) (l : Label) (live : Option Parts) → is_about_action i ≡ true → refusal_at hd i live ≡ None →
      ((t : Parts) → with_asking i t.coord run e before ≡ asking_of l t.coord run e ∷ before) →
      (q : Asking) × (with_taken i live (refusal_at hd i live) run e before ≡ q ∷ before) × (q.asked ≡ asked_of run e)
  taken_new hd i l None about free each = none_is (sym free ∙ (λ j. if about j then Some 6 else None))
  taken_new hd i l (Some t) about free each =
      (asking_of l t.coord run e, (λ j. with_taken i (Some t) (free j) run e before) ∙ each t, refl)

pub refused_asks : (w : World) (g : History) (o : Option (ℕ × Input)) (c : ℕ) → refused_to w o ≡ Some c →
    (let q = asked_of_node o w g in q.askings) ≡ g.askings
refused_asks w g None c refused = refl
refused_asks w g (Some a) c refused = by (at_place a.0 w.nodes) refused
  where
    by : (o : Option Node) → refused_at a.1 w o ≡ Some c → (let q = asked_at w.header a.1 o g in q.askings) ≡ g.askings
    by None refused = refl
    by (Some n) refused = refused_none g.run g.event g.askings a.1 n.live (refusal_at w.header a.1 n.live) c refused

-- ---- events that ask nothing that is answered

commit_asks : (run : Past) (l : Label) (before : List Asking) (live : Option Parts) (r : Option ℕ) →
    AreSameAsks (accepted_of (with_taken (input.Commit l) live r run (event.Commit l) before)) (accepted_of before)
commit_asks run l before None r = refl
commit_asks run l before (Some t) (Some c) = refl
commit_asks run l before (Some t) None = filter_both asks_some (accepted_of before) (asked_of run (event.Commit l) ∷ [])
    ∙ append-nil (filter asks_some (accepted_of before))

pub other_asks : (e : Event) (w : World) (g : History) → is_asking e ≡ false →
    AreSameAsks (accepted_of (let q = asked_of_node (asks e w) w (come e g) in q.askings)) (accepted_of g.askings)
other_asks (event.Call l x o) w g other = absurd (cc other)
other_asks (event.Include l x n) w g other = absurd (cc other)
other_asks (event.Commit l) w g other = by (at_place (node_of l w) w.nodes)
  where
    by : (o : Option Node) → AreSameAsks (accepted_of (let q = asked_at w.header (input.Commit l) o (come (event.Commit l) g) in q.askings))
        (accepted_of g.askings)
    by None = refl
    by (Some n) = commit_asks g.run l g.askings n.live (refusal_at w.header (input.Commit l) n.live)
other_asks (event.Abort l) w g other = ap (λ (h : History). filter asks_some (accepted_of h.askings))
    (asked_none w.header (input.Abort l) (at_place (node_of l w) w.nodes) (come (event.Abort l) g) refl)
other_asks (event.GiveUp l) w g other = ap (λ (h : History). filter asks_some (accepted_of h.askings))
    (asked_none w.header (input.GiveUp l) (at_place (node_of l w) w.nodes) (come (event.GiveUp l) g) refl)
other_asks (event.Begin l n) w g other = ap (λ (h : History). filter asks_some (accepted_of h.askings))
    (asked_none w.header (input.Begin l kind.Top None) (at_place n w.nodes) (come (event.Begin l n) g) refl)
other_asks (event.Serial l n) w g other = ap (λ (h : History). filter asks_some (accepted_of h.askings))
    (asked_none w.header (input.Begin l kind.Serial None) (at_place n w.nodes) (come (event.Serial l n) g) refl)
other_asks (event.BeginIn l p) w g other = ap (λ (h : History). filter asks_some (accepted_of h.askings))
    (asked_none w.header (input.Begin l (kind_below p w) (Some p)) (at_place (node_of p w) w.nodes) (come (event.BeginIn l p) g) refl)
other_asks (event.Top l p) w g other = ap (λ (h : History). filter asks_some (accepted_of h.askings))
    (asked_none w.header (input.Begin l kind.Independent (Some p)) (at_place (node_of p w) w.nodes) (come (event.Top l p) g) refl)
other_asks (event.Deliver k) w g other = refl
other_asks (event.Lose k) w g other = refl
other_asks (event.Tick n) w g other = refl
other_asks event.Settle w g other = refl
other_asks event.Quiesce w g other = refl
other_asks (event.Crash n) w g other = refl
other_asks (event.Restart n) w g other = refl
other_asks (event.Stop n c how) w g other = refl
other_asks (event.Junk n bytes) w g other = refl
other_asks (event.Show x) w g other = refl

-- ---- what is accepted

module _ (p : Past) (w : World) (g : History) (same : AreSameAsks p.accepted (accepted_of g.askings))
    (there : (l : Label) → is_given l w ≡ true → (n : Node) × (at_place (node_of l w) w.nodes ≡ Some n)) where
  -- one more on both sides
  grown : {askings : List Asking} (e : Event) (q : Asking) → askings ≡ q ∷ g.askings → q.asked ≡ asked_of g.run e →
      asked_of p e ≡ asked_of g.run e → AreSameAsks (p.accepted ++ asked_of p e ∷ []) (accepted_of askings)
  grown e q are asked one = filter_both asks_some p.accepted (asked_of p e ∷ [])
      ∙ (λ i. same i ++ filter asks_some ((one ∙ sym asked) i ∷ [])) ∙ sym (filter_both asks_some (accepted_of g.askings) (q.asked ∷ []))
      ∙ ap (λ ks. filter asks_some (accepted_of ks)) (sym are)

  at_node : (e : Event) (i : Input) (l : Label) (o : Option Node) → ((n : Node) → at_place (node_of l w) w.nodes ≡ Some n → o ≡ Some n) →
      is_given l w ≡ true → is_about_action i ≡ true → refused_at i w o ≡ None →
      ((t : Parts) → with_asking i t.coord g.run e g.askings ≡ asking_of l t.coord g.run e ∷ g.askings) → asked_of p e ≡ asked_of g.run e →
      AreSameAsks (p.accepted ++ asked_of p e ∷ []) (accepted_of (let q = asked_at w.header i o (come e g) in q.askings))
  at_node e i l None its given about free each one = let z = there l given in none_is (its z.0 z.1)
  at_node e i l (Some n) its given about free each one =
      let r = taken_new g.run e g.askings w.header i l n.live about free each in grown e r.0 r.1 r.2 one

  other_same : (e : Event) → is_asking e ≡ false →
      AreSameAsks (p.accepted ++ asked_of p e ∷ []) (accepted_of (let q = asked_of_node (asks e w) w (come e g) in q.askings))
  other_same e other = filter_both asks_some p.accepted (asked_of p e ∷ [])
      ∙ (λ i. same i ++ cond (other i) (asked_of p e ∷ []) []) ∙ append-nil (filter asks_some (accepted_of g.askings))
      ∙ sym (other_asks e w g other)

  pub asked_same : (e : Event) → first_reason (reasons e w) ≡ None → node_refusal e w ≡ None → asked_of p e ≡ asked_of g.run e →
      AreSameAsks (p.accepted ++ asked_of p e ∷ []) (accepted_of (let q = asked_of_node (asks e w) w (come e g) in q.askings))
  asked_same (event.Call l x o) free granted one = at_node (event.Call l x o) (input.Call l x o) l (at_place (node_of l w) w.nodes)
      (λ n is. is) (is_there l w free) refl granted (λ t. refl) one
  asked_same (event.Include l x n) free granted one =
      at_node (event.Include l x n) (input.Include l x n) l (at_place (node_of l w) w.nodes) (λ m is. is)
      (is_there l w (first_not 1 (not (is_node n w)) ((5, not (is_known l w)) ∷ (6, was_given l w) ∷ []) free).1) refl granted
      (λ t. refl) one
  asked_same e free granted one = other_same e refl
