-- An action that begins: the node that isn't refused says so, and the label is given.
use Rattle.std.proofs.Common.{◌≡◌, inl, inr, ℕ, zero, suc, ◌-◌, ◌≤◌, Bool, true, false, List, [], ◌∷◌, ◌++◌, length, refl, ap, sym, ◌∙◌}
use Rattle.std.proofs.Common.{subst, Option, Some, None, is_none, arith}
use Rattle.std.proofs.lemmas.List.{length-append}
use Rattle.std.specs.Prelude.{if◌then◌else◌, nat_lt, slice_get}
use Rattle.std.specs.BTreeMap.{insert_entry}
use Rattle.arj_core.specs.declared.node.Core.{Ghosts}
use Rattle.arj_disk.specs.FileMap.{FileMap}
use Rattle.arj_protocol.specs.Order.{at_number}
use Rattle.arj_protocol.specs.Effect.{Say}
use Rattle.arj_protocol.specs.Node.{Parts}
use Rattle.arj_protocol.specs.Step.{Node, Input, Step, refusal, refusal_at, step, step_of, step_unless}
use Rattle.arj_protocol.specs.Step as input
use Rattle.arj_protocol.specs.Tree.{at_place}
use Rattle.arj_protocol.specs.Words.{Body, Header, Kind, Label, Line, label_cmp}
use Rattle.arj_protocol.specs.Words.body
use Rattle.arj_protocol.specs.Words.event
use Rattle.arj_protocol.specs.Words.kind
use Rattle.arj_protocol.specs.World as protocol
use Rattle.arj_protocol.specs.World.{World, Arm, Giving, begins, bodies, count_works, cut, done_step, gives_label, halted_at, labels_unless}
use Rattle.arj_protocol.specs.World.{numbered, refused_at, step_node, step_with, steps}
use Rattle.arj_world.specs.Goes.{BeginsTo, Goes, GoesTo, StepsOne, StepsTo, Went}
use Rattle.arj_world.specs.Happens.{done, ends_begun, is_began, says_began}
use Rattle.arj_world.specs.Stands.{Hand, Keeps, Kept, Stands}
use Rattle.arj_world.specs.Turns.{with_arms}
use Rattle.arj_world.proofs.Going.{as_well, first_step, plainly}
use Rattle.arj_world.proofs.Stepping.{is_there}
use Rattle.arj_world.proofs.Tests.{keeps_armed, keeps_of}
use Rattle.arj_world.proofs.Hands.{goes_step, goes_then, no_node}
use Rattle.arj_start.specs.Kinds.{is_serial}

-- ---- what a node says

abbrev pub asks_begin : Giving → Input
asks_begin g = input.Begin g.label g.kind g.parent

-- the effect of a begin, where it is refused or not
abbrev SaysBegin : Step → Option ℕ → Type 0
SaysBegin s (Some c) = (s.outs ≡ Say (body.Refused c) ∷ []) × (s.halting ≡ Say (body.Refused c) ∷ [])
SaysBegin s None = (b : Body) × (is_began b ≡ true) × (s.outs ≡ Say b ∷ []) × (s.halting ≡ Say b ∷ [])

begin_up : (hd : Header) (n : Node) (g : Giving) (live : Option Parts) → n.live ≡ live → refusal_at hd (asks_begin g) live ≡ None →
    SaysBegin (step hd n (asks_begin g)) None
begin_up hd n g None live free = absurd (cc free)
begin_up hd n g (Some t) live free =
    let goes : step hd n (asks_begin g) ≡ step_of hd (asks_begin g) n (Some t) =
    ap (step_unless hd (asks_begin g) n) (ap (refusal_at hd (asks_begin g)) live ∙ free) ∙ ap (step_of hd (asks_begin g) n) live in
    subst (λ s. SaysBegin s None) (sym goes) (_, refl, refl, refl)

says_begin : (hd : Header) (n : Node) (g : Giving) (o : Option ℕ) → refusal hd (asks_begin g) n ≡ o → SaysBegin (step hd n (asks_begin g)) o
says_begin hd n g (Some c) is = subst (λ s. SaysBegin s (Some c)) (ap (step_unless hd (asks_begin g) n) (sym is)) (refl, refl)
says_begin hd n g None is = begin_up hd n g n.live refl is

placed : (lines : List Line) (l : Line) → slice_get (lines ++ l ∷ []) (length lines) ≡ Some l
placed [] l = refl
placed (k ∷ lines) l = placed lines l

last_there : (lines : List Line) (l : Line) → slice_get (lines ++ l ∷ []) (length (lines ++ l ∷ []) - 1) ≡ Some l
last_there lines l = ap (slice_get (lines ++ l ∷ [])) (omega (arith, length-append lines (l ∷ []))) ∙ placed lines l

-- ---- labels and steps

test_later : (g : Giving) (b : Bool) (x y : World) → gives_label g (if b then x else y) ≡ (if b then gives_label g x else gives_label g y)
test_later g true x y = refl
test_later g false x y = refl

arm_later : (g : Giving) (k : ℕ) (n : Node) (s : Step) (v : World) (a : Option Arm) →
    step_with k n s (gives_label g v) a ≡ gives_label g (step_with k n s v a)
arm_later g k n s v None = refl
arm_later g k n s v (Some a) =
    sym (test_later g (nat_lt (count_works s.halting) a.works) (done_step k s (protocol.armed k (record a {
      works =
          a.works - count_works s.halting;
    }) v)) (halted_at k n (cut (a.works - 1) a.how s.halting n.disk) (protocol.disarmed k v)))

node_later : (g : Giving) (k : ℕ) (i : Input) (v : World) (o : Option Node) →
    step_node k i (gives_label g v) o ≡ gives_label g (step_node k i v o)
node_later g k i v None = refl
node_later g k i v (Some n) = arm_later g k n (step v.header n i) v (at_number k v.arms)

-- a step looks at no label
label_later : (g : Giving) (k : ℕ) (i : Input) (v : World) → steps k i (gives_label g v) ≡ gives_label g (steps k i v)
label_later g k i v = node_later g k i v (at_place k v.nodes)

module _ {C D : Type 0} (core : Ghosts C) (file : D → FileMap) where
  -- whether the last line says that the action began
  said_so : (g : Giving) (old new : Hand C D) (w : World) → Stands core file old w → StepsTo core file g.node (asks_begin g) old new →
      (n : Node) → at_place g.node w.nodes ≡ Some n
      → (o : Option ℕ) → refusal w.header (asks_begin g) n ≡ o → ends_begun new.journal ≡ is_none o
  said_so g old new w st to n at o is = by one.went
    where
      one : StepsOne g.node (asks_begin g) w (Stands core file new)
      one = to w st

      same : one.node ≡ n
      same = cc (sym one.here ∙ at)

      says : SaysBegin (step w.header one.node (asks_begin g)) o
      says = says_begin w.header one.node g o (ap (refusal w.header (asks_begin g)) same ∙ is)

      line : (b : Body) → (step w.header one.node (asks_begin g)).outs ≡ Say b ∷ [] →
          Stands core file new (done_step g.node (step w.header one.node (asks_begin g)) w) → ends_begun new.journal ≡ is_began b
      line b outs after =
          let lines : new.journal ≡ w.lines ++ record { event = w.event; body = b } ∷ [] =
          sym after.lines ∙ ap (λ es. w.lines ++ numbered w.event (bodies g.node (length w.frames) es)) outs in
          ap ends_begun lines ∙ ap says_began (last_there w.lines (record { event = w.event; body = b }))

      done : (o : Option ℕ) → SaysBegin (step w.header one.node (asks_begin g)) o →
          Stands core file new (done_step g.node (step w.header one.node (asks_begin g)) w) → ends_begun new.journal ≡ is_none o
      done (Some c) says after = line (body.Refused c) says.0 after
      done None says after = line says.0 says.2 after ∙ says.1

      halting : (o : Option ℕ) → SaysBegin (step w.header one.node (asks_begin g)) o →
          count_works (step w.header one.node (asks_begin g)).halting ≡ 0
      halting (Some c) says = ap count_works says.1
      halting None says = ap count_works says.3

      by : Went g.node (asks_begin g) w (Stands core file new) one.node → ends_begun new.journal ≡ is_none o
      by (inl after) = done o says after
      by (inr q) = absurd (omega (arith, q.2, halting o says))

  abbrev pub with_label : Giving → Hand C D → Hand C D
  with_label g h =
      record h {
        kept =
            record h.kept { labels = insert_entry label_cmp h.kept.labels g.label (record { node = g.node; serial = is_serial g.kind }) };
      }

  label_stands : (g : Giving) (h : Hand C D) (w : World) → Stands core file h w → Stands core file (with_label g h) (gives_label g w)
  label_stands g h w st = record {
    header = st.header;
    given = st.given;
    frames = st.frames;
    lines = st.lines;
    labels = λ i. insert_entry label_cmp (st.labels i) g.label (record { node = g.node; serial = is_serial g.kind });
    arms = st.arms;
    event = st.event;
    full = st.full;
    over = st.over;
    nodes = st.nodes;
  }

  label_goes : (g : Giving) (h : Hand C D) → GoesTo core file (gives_label g) h (with_label g h)
  label_goes g h w st =
      plainly h.kept.header.nodes (gives_label g) w (Stands core file (with_label g h)) (λ arms. refl) refl (label_stands g h w st)

  -- the node and whether it refuses
  asked_at : (g : Giving) (h : Hand C D) (w : World) → Stands core file h w → 1 ≤ g.node → g.node ≤ h.kept.header.nodes →
      (n : Node) × (at_place g.node w.nodes ≡ Some n)
  asked_at g h w st low high = place g.node low (omega (arith, high, st.nodes.nodes_count))
    where
      place : (k : ℕ) → 1 ≤ k → k ≤ length w.nodes → (n : Node) × (at_place k w.nodes ≡ Some n)
      place zero low high = absurd (omega (arith, low))
      place (suc j) low high = is_there j w.nodes (omega (arith, high))

  -- it began
  pub goes_begun : (g : Giving) (old new : Hand C D) → 1 ≤ g.node → g.node ≤ old.kept.header.nodes → new.kept.header ≡ old.kept.header →
      StepsTo core file g.node (asks_begin g) old new → ends_begun new.journal ≡ true
      → GoesTo core file (begins g) old (with_label g new)
  goes_begun g old new low high same to begun w st = by (refusal w.header (asks_begin g) n.0) refl
    where
      n : (n : Node) × (at_place g.node w.nodes ≡ Some n)
      n = asked_at g old w st low high

      by : (o : Option ℕ) → refusal w.header (asks_begin g) n.0 ≡ o →
          Goes old.kept.header.nodes (begins g) (λ v. v) w (Stands core file (with_label g new))
      by (Some c) is = absurd (cc (sym begun ∙ said_so g old new w st to n.0 n.1 (Some c) is))
      by None is = as_well old.kept.header.nodes (begins g) (λ v. gives_label g (steps g.node (asks_begin g) v)) (λ v. v) w (Stands core file (with_label g new))
          (λ arms. ap (λ o. steps g.node (asks_begin g) (labels_unless g (with_arms arms w) o)) (ap (refused_at (asks_begin g) (with_arms arms w)) n.1 ∙ is) ∙ label_later g g.node (asks_begin g) (with_arms arms w))
          (goes_then core file (steps g.node (asks_begin g)) (gives_label g) old new (with_label g new) (goes_step core file g.node (asks_begin g) old new low high refl to) (label_goes g new) same w st)

  -- it was refused
  pub goes_refused : (g : Giving) (old new : Hand C D) → 1 ≤ g.node → g.node ≤ old.kept.header.nodes →
      StepsTo core file g.node (asks_begin g) old new → ends_begun new.journal ≡ false
      → GoesTo core file (begins g) old new
  goes_refused g old new low high to begun w st = by (refusal w.header (asks_begin g) n.0) refl
    where
      n : (n : Node) × (at_place g.node w.nodes ≡ Some n)
      n = asked_at g old w st low high

      by : (o : Option ℕ) → refusal w.header (asks_begin g) n.0 ≡ o →
          Goes old.kept.header.nodes (begins g) (λ v. v) w (Stands core file new)
      by None is = absurd (cc (sym begun ∙ said_so g old new w st to n.0 n.1 None is))
      by (Some c) is = as_well old.kept.header.nodes (begins g) (steps g.node (asks_begin g)) (λ v. v) w (Stands core file new)
          (λ arms. ap (λ o. steps g.node (asks_begin g) (labels_unless g (with_arms arms w) o)) (ap (refused_at (asks_begin g) (with_arms arms w)) n.1 ∙ is))
          (goes_step core file g.node (asks_begin g) old new low high refl to w st)

  -- there is no such node
  pub goes_unasked : (g : Giving) (h : Hand C D) → (1 ≤ g.node → g.node ≤ h.kept.header.nodes → ⊥) →
      GoesTo core file (begins g) h (with_label g h)
  goes_unasked g h out w st =
      let none : at_place g.node w.nodes ≡ None = no_node core file g.node w.nodes h.kept.header.nodes st.nodes.nodes_count out in
      as_well h.kept.header.nodes (begins g) (gives_label g) (λ v. v) w (Stands core file (with_label g h))
      (λ arms. ap (λ o. steps g.node (asks_begin g) (labels_unless g (with_arms arms w) (refused_at (asks_begin g) (with_arms arms w) o))) none ∙ ap (step_node g.node (asks_begin g) (gives_label g (with_arms arms w))) none)
      (label_goes g h w st)

  -- ---- the node of a label

  abbrev pub TellsNode : Label → ℕ → Kept C → Type 0
  TellsNode l n k = (w : World) → Keeps core k w → n ≡ protocol.node_of l w

  pub goes_ask : (l : Label) (n : ℕ) (i : Input) (old new : Hand C D) → TellsNode l n old.kept → GoesTo core file (steps n i) old new →
      GoesTo core file (λ w. steps (protocol.node_of l w) i w) old new
  goes_ask l n i old new tells goes w st =
      as_well old.kept.header.nodes (λ v. steps (protocol.node_of l v) i v) (steps n i) (λ v. v) w (Stands core file new)
      (λ arms. ap (λ m. steps m i (with_arms arms w)) (sym (tells (with_arms arms w) (keeps_armed core old.kept w arms (keeps_of core file old w st))))) (goes w st)

  pub goes_below : (l parent : Label) (k : Kind) (n : ℕ) (old new : Hand C D) → TellsNode parent n old.kept →
      ((w : World) → Keeps core old.kept w → k ≡ protocol.kind_below parent w)
      → GoesTo core file (begins (record { label = l; kind = k; parent = Some parent; node = n })) old new →
      GoesTo core file (done (event.BeginIn l parent)) old new
  goes_below l parent k n old new tells kinds goes w st =
      as_well old.kept.header.nodes (done (event.BeginIn l parent)) (begins (record {
        label = l;
        kind = k;
        parent = Some parent;
        node =
            n;
      })) (λ v. v) w (Stands core file new)
      (λ arms.
      let keeps = keeps_armed core old.kept w arms (keeps_of core file old w st) in
      λ i. begins (record {
        label = l;
        kind = sym (kinds (with_arms arms w) keeps) i;
        parent = Some parent;
        node =
            sym (tells (with_arms arms w) keeps) i;
      }) (with_arms arms w)) (goes w st)

  pub goes_apart : (l parent : Label) (n : ℕ) (old new : Hand C D) → TellsNode parent n old.kept
      → GoesTo core file (begins (record { label = l; kind = kind.Independent; parent = Some parent; node = n })) old new →
      GoesTo core file (done (event.Top l parent)) old new
  goes_apart l parent n old new tells goes w st =
      as_well old.kept.header.nodes (done (event.Top l parent)) (begins (record {
        label = l;
        kind = kind.Independent;
        parent =
            Some parent;
        node = n;
      })) (λ v. v) w (Stands core file new)
      (λ arms.
      let keeps = keeps_armed core old.kept w arms (keeps_of core file old w st) in
      λ i. begins (record {
        label = l;
        kind = kind.Independent;
        parent = Some parent;
        node =
            sym (tells (with_arms arms w) keeps) i;
      }) (with_arms arms w)) (goes w st)

  -- a node that comes up
  pub begins_restart : (node : ℕ) (old new : Hand C D) → 1 ≤ node → node ≤ old.kept.header.nodes →
      StepsTo core file node input.Restart old new → BeginsTo core file (steps node input.Restart) old new
  begins_restart node old new low high to w st =
      first_step old.kept.header.nodes node input.Restart w (Stands core file new) low high (to w st)
