-- What coordinators were asked is what was accepted: event by event.
use Rattle.arj_law_parts.proofs.Words
use Words.{◌≡◌, ◌⊎◌, ◌∙◌, ◌++◌, ℕ, Bool, true, false, cond, if◌then◌else◌, List, [], ◌∷◌, length, filter, map, Option, Some, None}
use Words.{refl, sym, ap, inl, inr, append-nil, filter-append, Body, Event, Label, Line, Op, Input, Node, Parts, World}
use Words.{at_place, refused_at}
use Words.event
use Words.input
use Rattle.std.specs.Prelude.{drop}
use Rattle.arj_law_parts.specs.moves.Moments.{Asking, History, asking_of, come, with_asking, with_taken}
use Rattle.arj_law_parts.specs.moves.With.{asked_at, asked_of_node, written}
use Rattle.arj_law_parts.specs.steps.Writes.{asks, node_refusal, refused_to}
use Rattle.arj_model.specs.Past.{Asked as AskedOf, Past, asked_of, block}
use Rattle.arj_model.specs.Refusals.{asks_by, is_ask_by}
use Rattle.arj_protocol.specs.Coord.{Coord}
use Rattle.arj_protocol.specs.Step.{is_about_action, refusal_at}
use Rattle.arj_law_lock_view.specs.asking.Asked.{accepted_of}
use Rattle.arj_law_cause.proofs.waits.waiting.Waiting.{AreAsked}

-- ---- one more

pub more_asked : (acc : List AskedOf) (A : List Asking) (a : AskedOf) (q : Asking) → q.asked ≡ a → AreAsked acc A →
    AreAsked (acc ++ a ∷ []) (q ∷ A)
more_asked acc A a q is same l =
    let f : AskedOf → Bool = λ x. is_ask_by l x.event in
    filter-append f acc (a ∷ []) ∙ (λ i. same l i ++ filter f ((sym is) i ∷ [])) ∙ sym (filter-append f (accepted_of A) (q.asked ∷ []))

-- the event asks no call and no include of any action
abbrev pub AsksNone : Event → Type 0
AsksNone e = (l : List ℕ) → is_ask_by l e ≡ false

pub none_more : (acc : List AskedOf) (a : AskedOf) → AsksNone a.event → (l : List ℕ) → asks_by (acc ++ a ∷ []) l ≡ asks_by acc l
none_more acc a none l = filter-append (λ (x : AskedOf). is_ask_by l x.event) acc (a ∷ [])
    ∙ (λ i. asks_by acc l ++ cond (none l i) (a ∷ []) []) ∙ append-nil (asks_by acc l)

-- the event adds nothing to what was asked, or itself
abbrev pub Grown : AskedOf → List Asking → List Asking → Type 0
Grown a A B = (B ≡ A) ⊎ ((q : Asking) × (B ≡ q ∷ A) × (q.asked ≡ a))

pub accepts_none : (acc : List AskedOf) (A B : List Asking) (a : AskedOf) → AsksNone a.event → Grown a A B → AreAsked acc A →
    AreAsked (acc ++ a ∷ []) B
accepts_none acc A B a none (inl is) same l = none_more acc a none l ∙ same l ∙ (λ i. asks_by (accepted_of ((sym is) i)) l)
accepts_none acc A B a none (inr g) same l =
    let q : Asking = g.0 in
    none_more acc a none l ∙ same l
    ∙ sym (none_more (accepted_of A) q.asked (λ m. ap (λ (x : AskedOf). is_ask_by m x.event) g.2 ∙ none m) l)
    ∙ (λ i. asks_by (accepted_of ((sym g.1) i)) l)

pub accepts_one : (acc : List AskedOf) (A B : List Asking) (a : AskedOf) → (q : Asking) × (B ≡ q ∷ A) × (q.asked ≡ a) → AreAsked acc A →
    AreAsked (acc ++ a ∷ []) B
accepts_one acc A B a g same l = more_asked acc A a g.0 g.2 same l ∙ (λ i. asks_by (accepted_of ((sym g.1) i)) l)

-- ---- an event's history

asks_none : (e : Event) → ((l : Label) (x : ℕ) (o : Op) → e ≡ event.Call l x o → ⊥) →
    ((l : Label) (x n : ℕ) → e ≡ event.Include l x n → ⊥) → AsksNone e
asks_none (event.Call l x o) call include m = absurd (call l x o refl)
asks_none (event.Include l x n) call include m = absurd (include l x n refl)
asks_none e call include m = refl

-- what a coordinator is asked
with_grown : (i : Input) (c : Coord) (run : Past) (e : Event) (A : List Asking) → Grown (asked_of run e) A (with_asking i c run e A)
with_grown (input.Call l x o) c run e A = inr (asking_of l c run e, refl, refl)
with_grown (input.Include l x s) c run e A = inr (asking_of l c run e, refl, refl)
with_grown (input.Commit l) c run e A = inr (asking_of l c run e, refl, refl)
with_grown (input.Begin l k p) c run e A = inl refl
with_grown (input.Abort l) c run e A = inl refl
with_grown (input.GiveUp l) c run e A = inl refl
with_grown (input.Frame k from m) c run e A = inl refl
with_grown input.Tick c run e A = inl refl
with_grown input.Restart c run e A = inl refl
with_grown input.Crash c run e A = inl refl
with_grown (input.Show x) c run e A = inl refl

taken_grown : (i : Input) (live : Option Parts) (r : Option ℕ) (run : Past) (e : Event) (A : List Asking) →
    Grown (asked_of run e) A (with_taken i live r run e A)
taken_grown i None None run e A = inl refl
taken_grown i None (Some c) run e A = inl refl
taken_grown i (Some t) None run e A = with_grown i t.coord run e A
taken_grown i (Some t) (Some c) run e A = inl refl

taken_refused : (i : Input) (live : Option Parts) (c : ℕ) (run : Past) (e : Event) (A : List Asking) →
    with_taken i live (Some c) run e A ≡ A
taken_refused i None c run e A = refl
taken_refused i (Some t) c run e A = refl

module _ (e : Event) (w : World) (g : History) where
  -- behind the event, before it is over
  abbrev pub During : History
  During = asked_of_node (asks e w) w (come e g)

  pub grown : Grown (asked_of g.run e) g.askings (let h = asked_of_node (asks e w) w (come e g) in h.askings)
  grown = by (asks e w)
    where
      at : (i : Input) (n : Option Node) → Grown (asked_of g.run e) g.askings (let h = asked_at w.header i n (come e g) in h.askings)
      at i None = inl refl
      at i (Some n) = taken_grown i n.live (refusal_at w.header i n.live) g.run e g.askings

      by : (o : Option (ℕ × Input)) → Grown (asked_of g.run e) g.askings (let h = asked_of_node o w (come e g) in h.askings)
      by None = inl refl
      by (Some a) = at a.1 (at_place a.0 w.nodes)

  -- who is refused is asked nothing
  pub none_asked : (c : ℕ) → node_refusal e w ≡ Some c → (let h = asked_of_node (asks e w) w (come e g) in h.askings) ≡ g.askings
  none_asked c refused = by (asks e w) refused
    where
      at : (i : Input) (n : Option Node) → refused_at i w n ≡ Some c → (let h = asked_at w.header i n (come e g) in h.askings) ≡ g.askings
      at i None is = refl
      at i (Some n) is = ap (λ r. with_taken i n.live r g.run e g.askings) is ∙ taken_refused i n.live c g.run e g.askings

      by : (o : Option (ℕ × Input)) → refused_to w o ≡ Some c →
          (let h = asked_of_node o w (come e g) in h.askings) ≡ g.askings
      by None is = refl
      by (Some a) is = at a.1 (at_place a.0 w.nodes) is

  -- the event goes on, and the run is as it was
  pub same_event : (let h = asked_of_node (asks e w) w (come e g) in h.event) ≡ e
  same_event = by (asks e w)
    where
      at : (i : Input) (n : Option Node) → (let h = asked_at w.header i n (come e g) in h.event) ≡ e
      at i None = refl
      at i (Some n) = refl

      by : (o : Option (ℕ × Input)) → (let h = asked_of_node o w (come e g) in h.event) ≡ e
      by None = refl
      by (Some a) = at a.1 (at_place a.0 w.nodes)

-- a node that takes a call or an include is asked it
pub call_asked : (i : Input) (w : World) (g : History) (e : Event) (k : ℕ) (n : Node) → at_place k w.nodes ≡ Some n →
    ((c : Coord) → (q : Asking) × (with_asking i c g.run e g.askings ≡ q ∷ g.askings) × (q.asked ≡ asked_of g.run e)) →
    is_about_action i ≡ true → refused_at i w (Some n) ≡ None →
    (q : Asking) × ((let h = asked_of_node (Some (k, i)) w (come e g) in h.askings) ≡ q ∷ g.askings) × (q.asked ≡ asked_of g.run e)
call_asked i w g e k n there asks about free =
    let r = by n.live refl free in
    (r.0, ap (λ o. let h = asked_at w.header i o (come e g) in h.askings) there ∙ r.1, r.2)
  where
    by : (o : Option Parts) → n.live ≡ o → refusal_at w.header i o ≡ None →
        (q : Asking) × (with_taken i n.live (refusal_at w.header i n.live) g.run e g.askings ≡ q ∷ g.askings) × (q.asked ≡ asked_of g.run e)
    by None down none = let no_way : ◌≡◌ {A = Option ℕ} (Some 6) None = ap (λ b. if b then Some 6 else None) (sym about) ∙ none in
        absurd (cc no_way)
    by (Some t) live none =
        let r = asks t.coord in (
          r.0,
          (λ j. with_taken i (live j) (refusal_at w.header i (live j)) g.run e g.askings)
              ∙ ap (λ o. with_taken i (Some t) o g.run e g.askings) none ∙ r.1,
          r.2,
        )

-- ---- what was written

pub written_is : (w v : World) (e : ℕ) (bs : List Body) → v.lines ≡ w.lines ++ block e bs → written w v ≡ bs
written_is w v e bs is = ap (λ ls. map (λ (l : Line). l.body) (drop (length w.lines) ls)) is
    ∙ ap (λ ls. map (λ (l : Line). l.body) ls) (dropped w.lines (block e bs)) ∙ bodies_of bs
  where
    dropped : (xs ys : List Line) → drop (length xs) (xs ++ ys) ≡ ys
    dropped [] ys = refl
    dropped (x ∷ xs) ys = dropped xs ys

    bodies_of : (cs : List Body) → map (λ (l : Line). l.body) (block e cs) ≡ cs
    bodies_of [] = refl
    bodies_of (c ∷ cs) = ap (λ (ds : List Body). c ∷ ds) (bodies_of cs)
