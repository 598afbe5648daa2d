-- The causes that the journal has for an event are the reasons of the world: of nodes, labels, objects and frames.
use Rattle.arj_law_parts.proofs.Words
use Words.{◌≡◌, ◌∙◌, ◌==◌, ◌&&◌, ◌||◌, not, ℕ, suc, Bool, true, false, cond, List, [], ◌∷◌, length, refl, sym, ap, arith, Option, Some}
use Words.{None}
use Words.{is_some, list_all, list_any, and_parts, nat_le, nat_tests, bytes_eq, bytes_eq-Decides, is_at, label_cmp}
use Words.{name, at_place, Event, FrameNo, Header, Label, Message, ObjectLine, Node, Parts, World, Labelled, is_empty, class_in}
use Words.{first_reason}
use Words.{frame_number, is_frame, is_given, is_up, is_up_at, reasons, Input, refused_at, Kind, Coord, Branch, branch_named}
use Words.{refused_by, node_of, kind_below, node_in, actor, is_below_16, is_serial, lacks_op, has_many_objects, has_open_child}
use Words.{sibling_waits, waits}
use Words.{waits_above, waits_below, Op}
use Words.{subst}
use Rattle.arj_law_runs.proofs.Terms.{label_at}
use Words.event
use Words.frame_no
use Words.input
use Words.kind
use Rattle.arj_law_parts.proofs.moves.Reasons.{first_not, not_not}
use Rattle.arj_law_parts.specs.steps.Writes.{asks, node_refusal}
use Rattle.arj_law_runs.proofs.follow.Telling.{Tells, frame_test, has_is}
use Rattle.arj_law_runs.proofs.follow.Gone.{is_gone, is_gone_branch}
use Rattle.arj_law_runs.specs.follow.Refusals.{ended, names_action}
use Rattle.arj_model.specs.Past.{Past}
use Rattle.arj_model.specs.Actions.{is_begun}
use Rattle.arj_model.specs.Last.{object_line}
use Rattle.arj_model.specs.Refusals as model
use Rattle.arj_protocol.specs.Step.{class_at, is_about_action, is_misplaced, refusal_at, refusal_up}
use Rattle.arj_protocol.specs.Tree.{has_many_actions, is_too_deep}
use Rattle.arj_protocol.specs.World as world
use Rattle.arj_protocol.specs.World.{reads_whole}
use Rattle.arj_protocol.specs.Words.{read_message}
use Rattle.arj_text.proofs.Labels.{same_key}
use Rattle.std.specs.Prelude.{Result, Ok, Err, is_none}

-- ---- lists of causes

pub same_first : (cs : List (ℕ × Bool)) → model.first_cause cs ≡ first_reason cs
same_first [] = refl
same_first (c ∷ cs) = λ i. cond c.1 (Some c.0) (same_first cs i)

-- the world refuses an event, or else the node that it asks
abbrev pub joined : Option ℕ → Option ℕ → Option ℕ
joined None o = o
joined (Some c) o = Some c

abbrev pub refused_by_any : Event → World → Option ℕ
refused_by_any e w = joined (first_reason (reasons e w)) (node_refusal e w)

-- the two are the same number, as far as they are plain
abbrev SameLow : Option ℕ → Option ℕ → Type 0
SameLow a b = (c : ℕ) → nat_le c ended ≡ true → (a ≡ Some c → b ≡ Some c) × (b ≡ Some c → a ≡ Some c)

same_low : (a : Option ℕ) → SameLow a a
same_low a c low = (λ is. is, λ is. is)

abbrev IsHigh : Option ℕ → Type 0
IsHigh o = (c : ℕ) → o ≡ Some c → nat_le c ended ≡ false

low_high : (a b : Option ℕ) → IsHigh a → IsHigh b → SameLow a b
low_high a b high too c low = (λ is. absurd (cc (sym low ∙ high c is)), λ is. absurd (cc (sym low ∙ too c is)))

low_first : (n : ℕ) (x y : Bool) (a b : Option ℕ) → x ≡ y → SameLow a b → SameLow (cond x (Some n) a) (cond y (Some n) b)
low_first n true true a b same rest c low = (λ is. is, λ is. is)
low_first n false false a b same rest c low = rest c low
low_first n true false a b same rest c low = absurd (cc same)
low_first n false true a b same rest c low = absurd (cc same)

joined_first : (n : ℕ) (x : Bool) (a b : Option ℕ) → joined (cond x (Some n) a) b ≡ cond x (Some n) (joined a b)
joined_first n true a b = refl
joined_first n false a b = refl

-- numbers above it
abbrev AreHigh : List (ℕ × Bool) → Type 0
AreHigh cs = list_all (λ (c : ℕ × Bool). nat_le 7 c.0) cs ≡ true

first_high : (cs : List (ℕ × Bool)) → AreHigh cs → IsHigh (first_reason cs)
first_high [] all c is = let no_way : ◌≡◌ {A = Option ℕ} None (Some c) = is in absurd (cc no_way)
first_high (r ∷ cs) all c is = by r.1 (first_high cs parts.1 c) is
  where
    parts : (nat_le 7 r.0 ≡ true) × AreHigh cs
    parts = and_parts (nat_le 7 r.0) (list_all (λ (q : ℕ × Bool). nat_le 7 q.0) cs) all

    high : (n : ℕ) → nat_le 7 n ≡ true → nat_le n 6 ≡ false
    high n is = grind (arith, nat_tests, is)

    by : (b : Bool) → (first_reason cs ≡ Some c → nat_le c ended ≡ false) → cond b (Some r.0) (first_reason cs) ≡ Some c →
        nat_le c ended ≡ false
    by true rest here = let same : ◌≡◌ {A = Option ℕ} (Some r.0) (Some c) = here in let one : r.0 ≡ c = cc same in
        subst (λ k. nat_le k ended ≡ false) one (high r.0 parts.0)
    by false rest later = rest later

-- ---- what a node refuses

-- Why nodes refuse an input about the action of a label: it has ended, or for one of the higher numbers.
record Asks (l : Label) (i : Input) : Type 0 where
  pub about : is_about_action i ≡ true
  pub reasons : Header → Branch → Coord → List (ℕ × Bool)
  pub finds : (h : Header) (c : Coord) → refusal_up h i c ≡ refused_by (λ b d. (6, is_some b.ended) ∷ reasons h b d) c (branch_named l c)
  pub high : (h : Header) (b : Branch) (c : Coord) → AreHigh (reasons h b c)

node_low : (h : Header) (l : Label) (i : Input) (asks : Asks l i) (o : Option Parts) (a : Option ℕ) → IsHigh a →
    SameLow (cond (is_gone l o) (Some 6) a) (refusal_at h i o)
node_low h l i asks None a high =
    subst (λ b. SameLow (Some 6) (cond b (Some 6) None)) (sym asks.about) (same_low (Some 6))
node_low h l i asks (Some t) a high = subst (SameLow (cond (is_gone l (Some t)) (Some 6) a)) (sym (asks.finds h t.coord)) (by
    (branch_named l t.coord))
  where
    by : (o : Option Branch) → SameLow (cond (is_gone_branch o) (Some 6) a) (refused_by (λ b d. (6, is_some b.ended)
        ∷ asks.reasons h b d) t.coord o)
    by None = same_low (Some 6)
    by (Some b) = low_first 6 (is_some b.ended) (is_some b.ended) a (first_reason (asks.reasons h b t.coord)) refl
        (low_high a (first_reason (asks.reasons h b t.coord)) high (first_high (asks.reasons h b t.coord) (asks.high h b t.coord)))

asks_begin : (l q : Label) (k : Kind) → Asks q (input.Begin l k (Some q))
asks_begin l q k = record {
  about = refl;
  reasons = λ h b c. (7, waits_above b c) ∷ (10, is_misplaced k b) ∷ (12, b.doomed) ∷ (15, is_below_16 k && is_too_deep b)
      ∷ (16, is_below_16 k && has_many_actions b c.tree) ∷ [];
  finds = λ h c. refl;
  high = λ h b c. refl;
}

asks_call : (l : Label) (x : ℕ) (o : Op) → Asks l (input.Call l x o)
asks_call l x o = record {
  about = refl;
  reasons = λ h b c. (7, waits_above b c || waits_below b c) ∷ (11, is_serial b.kind) ∷ (12, b.doomed) ∷ (13, not (is_some (class_at x h)))
      ∷ (14, lacks_op o (class_at x h)) ∷ (16, has_many_objects b x c.tree) ∷ [];
  finds = λ h c. refl;
  high = λ h b c. refl;
}

asks_include : (l : Label) (x s : ℕ) → Asks l (input.Include l x s)
asks_include l x s = record {
  about = refl;
  reasons = λ h b c. (7, waits_above b c || waits_below b c) ∷ (11, is_serial b.kind) ∷ (12, b.doomed) ∷ (13, not (is_some (class_at x h)))
      ∷ (16, has_many_objects b x c.tree) ∷ [];
  finds = λ h c. refl;
  high = λ h b c. refl;
}

asks_commit : (l : Label) → Asks l (input.Commit l)
asks_commit l = record {
  about = refl;
  reasons = λ h b c. (7, waits_above b c || waits_below b c || sibling_waits b c) ∷ (9, has_open_child (actor b.path) c.tree) ∷ [];
  finds = λ h c. refl;
  high = λ h b c. refl;
}

asks_abort : (l : Label) → Asks l (input.Abort l)
asks_abort l = record {
  about = refl;
  reasons = λ h b c. (7, waits_above b c || waits_below b c) ∷ [];
  finds = λ h c. refl;
  high = λ h b c. refl;
}

asks_giveup : (l : Label) → Asks l (input.GiveUp l)
asks_giveup l = record {
  about = refl;
  reasons = λ h b c. (8, not (waits c (actor b.path))) ∷ [];
  finds = λ h c. refl;
  high = λ h b c. refl;
}

-- ---- a world, and the run up to it

-- bytes are a message here and there
read : (bytes : List ℕ) → model.is_message bytes ≡ reads_whole (read_message bytes)
unfolding read_message
read bytes = by (read_message bytes)
  where
    none : (bs : List ℕ) → (length bs == 0) ≡ is_empty bs
    none [] = refl
    none (b ∷ bs) = no_zero (length bs)
      where
        no_zero : (n : ℕ) → (suc n == 0) ≡ false
        no_zero n = grind (arith, nat_tests)

    by : (r : Result (Message × List ℕ) ℕ) → model.is_whole r ≡ reads_whole r
    by (Ok r) = none r.1
    by (Err left) = refl

module _ (hd : Header) (p : Past) (w : World) (is : w.header ≡ hd) (start : p.start ≡ w.start)
    (tells : Tells p.start p.lines w.frames w.nodes)
    (begun : (l : Label) → is_begun p.lines (name l) ≡ is_given l w) where
  nodes : (n : ℕ) → model.is_node hd n ≡ world.is_node n w
  nodes n = λ i. nat_le 1 n && nat_le n (let h = sym is i in h.nodes)

  given : (l : Label) → model.was_given p.start (name l) ≡ world.was_given l w
  given l = ap (λ st. model.was_given st (name l)) start ∙ each w.start.given
    where
      turned : (a b : List ℕ) → bytes_eq a b ≡ bytes_eq b a
      turned a b = by (bytes_eq a b) refl (bytes_eq b a) refl
        where
          by : (x : Bool) → bytes_eq a b ≡ x → (y : Bool) → bytes_eq b a ≡ y → bytes_eq a b ≡ bytes_eq b a
          by true e true f = e ∙ sym f
          by false e false f = e ∙ sym f
          by true e false f = absurd (cc (sym f ∙ (bytes_eq-Decides b a).1 (sym ((bytes_eq-Decides a b).0 e))))
          by false e true f = absurd (cc (sym e ∙ (bytes_eq-Decides a b).1 (sym ((bytes_eq-Decides b a).0 f))))

      each : (ls : List Label) → list_any (λ g. bytes_eq (name g) (name l)) ls ≡ list_any (is_at (label_cmp l)) ls
      each [] = refl
      each (g ∷ ls) = λ i. (turned (name g) (name l) ∙ sym (same_key l g)) i || each ls i

  known : (l : Label) → model.is_known p (name l) ≡ world.is_known l w
  known l = λ i. given l i || begun l i

  ups : (n : ℕ) → world.is_node n w ≡ true → is_some (at_place n w.nodes) ≡ true → model.is_down p.start p.lines n ≡ not (is_up_at n w)
  ups n node there = by (at_place n w.nodes) refl there
    where
      by : (o : Option Node) → at_place n w.nodes ≡ o → is_some o ≡ true → model.is_down p.start p.lines n ≡ not (is_up
          (at_place n w.nodes))
      by None at some = let no_way : false ≡ true = some in absurd (cc no_way)
      by (Some m) at some = tells.ups n m at ∙ sym (ap (λ (o : Option Node). not (is_up o)) at)

  numbers : (k : FrameNo) → model.frame_no p.lines k ≡ frame_number k w
  numbers (frame_no.Number k) = refl
  numbers frame_no.Last = tells.last

  frames : (k : FrameNo) → model.has_frame p.lines (model.frame_no p.lines k) ≡ is_frame k w
  frames k = ap (model.has_frame p.lines) (numbers k) ∙ has_is p.lines (frame_number k w)
      ∙ tells.frames (λ from to what. true) (frame_number k w) ∙ by (at_place (frame_number k w) w.frames)
    where
      by : (o : Option world.Frame) → frame_test (λ from to what. true) o ≡ is_some o
      by None = refl
      by (Some f) = refl

  objects : (x : ℕ) → is_none (object_line hd x) ≡ not (is_some (class_at x w.header))
  objects x = ap (λ h. is_none (object_line h x)) (sym is) ∙ by (object_line w.header x)
    where
      by : (o : Option ObjectLine) → is_none o ≡ not (is_some (class_in o))
      by None = refl
      by (Some o) = refl

  -- ---- events that name free action

  -- a node's number comes first, and what is asked of a node where there is one
  at_node : (a b : Bool) → a ≡ b → (n : ℕ) (d c : Bool) → (b ≡ true → d ≡ c) → (cs ds : List (ℕ × Bool)) →
      first_reason cs ≡ first_reason ds →
      first_reason ((1, not a) ∷ (n, d) ∷ cs) ≡ first_reason ((1, not b) ∷ (n, c) ∷ ds)
  at_node true true same n d c where_so cs ds rest = λ i. cond (where_so refl i) (Some n) (rest i)
  at_node false false same n d c where_so cs ds rest = refl
  at_node true false same n d c where_so cs ds rest = absurd (cc same)
  at_node false true same n d c where_so cs ds rest = absurd (cc same)

  module _ (places : (n : ℕ) → world.is_node n w ≡ true → is_some (at_place n w.nodes) ≡ true) where
    down : (n : ℕ) → world.is_node n w ≡ true → model.is_down p.start p.lines n ≡ not (is_up_at n w)
    down n node = ups n node (places n node)

    back : (n : ℕ) → world.is_node n w ≡ true → not (model.is_down p.start p.lines n) ≡ is_up_at n w
    back n node = ap not (down n node) ∙ twice (is_up_at n w)
      where
        twice : (b : Bool) → not (not b) ≡ b
        twice true = refl
        twice false = refl

    new : (l : Label) → first_reason ((4, model.is_known p (name l)) ∷ []) ≡ first_reason ((4, world.is_known l w) ∷ [])
    new l = λ i. cond (known l i) (Some 4) None

    pub plain : (e : Event) → names_action e ≡ false → first_reason (model.causes hd p e) ≡ first_reason (reasons e w)
    plain (event.Begin l n) free = at_node _ _ (nodes n) 2 _ _ (down n) ((4, model.is_known p (name l)) ∷ []) ((4, world.is_known l w)
        ∷ []) (new l)
    plain (event.Serial l n) free = at_node _ _ (nodes n) 2 _ _ (down n) ((4, model.is_known p (name l)) ∷ []) ((4, world.is_known l w)
        ∷ []) (new l)
    plain (event.Deliver k) free = λ i. cond (not (frames k i)) (Some 17) None
    plain (event.Lose k) free = λ i. cond (not (frames k i)) (Some 17) None
    plain (event.Tick n) free = at_node _ _ (nodes n) 2 _ _ (down n) [] [] refl
    plain (event.Crash n) free = at_node _ _ (nodes n) 2 _ _ (down n) [] [] refl
    plain (event.Restart n) free = at_node _ _ (nodes n) 3 _ _ (back n) [] [] refl
    plain (event.Stop n calls k) free = λ i. cond (not (nodes n i)) (Some 1) None
    plain (event.Junk n bytes) free = λ i. cond (not (nodes n i)) (Some 1) (cond (read bytes i) (Some 18) None)
    plain (event.Show x) free = λ i. cond (objects x i) (Some 13) None
    plain event.Settle free = refl
    plain event.Quiesce free = refl
    plain (event.BeginIn l q) free = absurd (cc free)
    plain (event.Top l q) free = absurd (cc free)
    plain (event.Call l x o) free = absurd (cc free)
    plain (event.Include l x n) free = absurd (cc free)
    plain (event.Commit l) free = absurd (cc free)
    plain (event.Abort l) free = absurd (cc free)
    plain (event.GiveUp l) free = absurd (cc free)

    -- ---- events that name one

    module _ (labelled_so : (l : Label) → is_given l w ≡ true → (g : Labelled) × (n : Node) × (label_at l w.labels ≡ Some g)
        × (at_place g.node w.nodes ≡ Some n) × (model.has_ended p.lines (name l) ≡ is_gone l n.live)) where
      -- the causes from an unknown label on
      of_label : (l : Label) (i : Input) → Asks l i → (cs : List (ℕ × Bool)) → AreHigh cs → SameLow
          (first_reason (model.asks_known p (name l) cs))
          (joined (first_reason ((5, not (world.is_known l w)) ∷ (6, world.was_given l w) ∷ []))
          (refused_at i w (at_place (node_of l w) w.nodes)))
      of_label l i asks cs high =
          subst (λ k. SameLow (cond (not k) (Some 5) (cond (model.was_given p.start (name l) || over) (Some 6) (first_reason cs))) right)
          (sym (known l))
          (subst (λ g. SameLow (cond (not (world.is_known l w)) (Some 5) (cond (g || over) (Some 6) (first_reason cs))) right) (sym
          (given l))
          (by (world.was_given l w) (is_given l w) refl))
        where
          over : Bool
          over = model.has_ended p.lines (name l)

          right : Option ℕ
          right = joined (cond (not (world.is_known l w)) (Some 5) (cond (world.was_given l w) (Some 6) None))
              (refused_at i w (at_place (node_of l w) w.nodes))

          there : is_given l w ≡ true → SameLow (cond over (Some 6) (first_reason cs)) (refused_at i w (at_place (node_of l w) w.nodes))
          there is =
              let q = labelled_so l is in
              let n : Node = q.1 in
              let at : at_place (node_of l w) w.nodes ≡ Some n = ap (λ (o : Option Labelled). at_place (node_in o) w.nodes) q.2 ∙ q.3 in
              subst (λ (o : Option Node). SameLow (cond over (Some 6) (first_reason cs)) (refused_at i w o)) (sym at)
              (subst (λ b. SameLow (cond b (Some 6) (first_reason cs)) (refusal_at w.header i n.live)) (sym q.4)
              (node_low w.header l i asks n.live (first_reason cs) (first_high cs high)))

          by : (g d : Bool) → is_given l w ≡ d → SameLow (cond (not (g || d)) (Some 5) (cond (g || over) (Some 6) (first_reason cs)))
              (joined (cond (not (g || d)) (Some 5) (cond g (Some 6) None)) (refused_at i w (at_place (node_of l w) w.nodes)))
          by true d is = same_low (Some 6)
          by false true is = there is
          by false false is = same_low (Some 5)

      -- and with a cause before that
      behind : (n : ℕ) (x y : Bool) (a b c : Option ℕ) → x ≡ y → SameLow a (joined b c) → SameLow (cond x (Some n) a)
          (joined (cond y (Some n) b) c)
      behind n x y a b c same rest = subst (SameLow (cond x (Some n) a)) (sym (joined_first n y b c)) (low_first n x y a
          (joined b c) same rest)

      pub named : (e : Event) → names_action e ≡ true → SameLow (first_reason (model.causes hd p e)) (refused_by_any e w)
      named (event.BeginIn l q) its = behind 4 _ _ _ _ _ (known l) (of_label q (input.Begin l (kind_below q w) (Some q))
          (asks_begin l q (kind_below q w)) ((7, model.waits_above p (name q)) ∷ (15, model.is_deep p.lines (name q))
          ∷ (16, model.has_all_actions p.lines (name q)) ∷ []) refl)
      named (event.Top l q) its = behind 4 _ _ _ _ _ (known l) (of_label q (input.Begin l kind.Independent (Some q))
          (asks_begin l q kind.Independent) ((7, model.waits_above p (name q)) ∷ (10, model.is_serializing p.lines (name q)) ∷ []) refl)
      named (event.Call l x o) its = of_label l (input.Call l x o) (asks_call l x o) ((7, model.waits_near p (name l))
          ∷ (11, model.is_serializing p.lines (name l)) ∷ (13, is_none (object_line hd x)) ∷ (14, model.lacks_op (object_line hd x) o)
          ∷ (16, model.is_too_many p (name l) x) ∷ []) refl
      named (event.Include l x n) its = behind 1 _ _ _ _ _ (ap not (nodes n)) (of_label l (input.Include l x n) (asks_include l x n)
          ((7, model.waits_near p (name l)) ∷ (11, model.is_serializing p.lines (name l)) ∷ (13, is_none (object_line hd x))
          ∷ (16, model.is_too_many p (name l) x) ∷ []) refl)
      named (event.Commit l) its = of_label l (input.Commit l) (asks_commit l)
          ((7, model.waits_near p (name l) || model.commits_beside p (name l)) ∷ (9, model.has_children p.lines (name l)) ∷ []) refl
      named (event.Abort l) its = of_label l (input.Abort l) (asks_abort l) ((7, model.waits_near p (name l)) ∷ []) refl
      named (event.GiveUp l) its = of_label l (input.GiveUp l) (asks_giveup l) ((8, not (model.is_waiting p (name l))) ∷ []) refl
      named (event.Begin l n) its = absurd (cc its)
      named (event.Serial l n) its = absurd (cc its)
      named (event.Deliver k) its = absurd (cc its)
      named (event.Lose k) its = absurd (cc its)
      named (event.Tick n) its = absurd (cc its)
      named event.Settle its = absurd (cc its)
      named event.Quiesce its = absurd (cc its)
      named (event.Crash n) its = absurd (cc its)
      named (event.Restart n) its = absurd (cc its)
      named (event.Stop n calls k) its = absurd (cc its)
      named (event.Junk n bytes) its = absurd (cc its)
      named (event.Show x) its = absurd (cc its)

-- ---- what nodes refuse where free action is named

-- a node that is up refuses none of these
pub begins_free : (l : Label) (k : Kind) (w : World) (o : Option Node) → is_up o ≡ true → refused_at (input.Begin l k None) w o ≡ None
begins_free l k w None up = refl
begins_free l k w (Some n) up = by n.live up
  where
    by : (o : Option Parts) → is_some o ≡ true → refusal_at w.header (input.Begin l k None) o ≡ None
    by None some = absurd (cc some)
    by (Some t) some = refl

second_not : (a b : Bool) (cs : List (ℕ × Bool)) → first_reason ((1, a) ∷ (2, not b) ∷ cs) ≡ None → b ≡ true
second_not a b cs none = not_not b (first_not 2 (not b) cs (first_not 1 a ((2, not b) ∷ cs) none).1).0

plain_free : (e : Event) (w : World) → names_action e ≡ false → first_reason (reasons e w) ≡ None → node_refusal e w ≡ None
plain_free (event.Begin l n) w free none = begins_free l kind.Top w (at_place n w.nodes) (second_not (not (world.is_node n w))
    (is_up_at n w) ((4, world.is_known l w) ∷ []) none)
plain_free (event.Serial l n) w free none = begins_free l kind.Serial w (at_place n w.nodes) (second_not (not (world.is_node n w))
    (is_up_at n w) ((4, world.is_known l w) ∷ []) none)
plain_free (event.BeginIn l q) w free none = absurd (cc free)
plain_free (event.Top l q) w free none = absurd (cc free)
plain_free (event.Call l x o) w free none = absurd (cc free)
plain_free (event.Include l x n) w free none = absurd (cc free)
plain_free (event.Commit l) w free none = absurd (cc free)
plain_free (event.Abort l) w free none = absurd (cc free)
plain_free (event.GiveUp l) w free none = absurd (cc free)
plain_free e w free none = refl

pub plain_any : (e : Event) (w : World) → names_action e ≡ false → refused_by_any e w ≡ first_reason (reasons e w)
plain_any e w free = by (first_reason (reasons e w)) refl
  where
    by : (o : Option ℕ) → first_reason (reasons e w) ≡ o → joined o (node_refusal e w) ≡ o
    by (Some c) is = refl
    by None is = plain_free e w free is
