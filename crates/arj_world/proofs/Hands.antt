-- From one world in hand to the next.
use Rattle.std.proofs.Common.{◌≡◌, ℕ, zero, suc, ◌+◌, ◌-◌, ◌≤◌, ◌<◌, Bool, true, false, List, [], ◌∷◌, ◌++◌, length, map, refl, ap, sym}
use Rattle.std.proofs.Common.{◌∙◌, subst, Option, Some, None, arith}
use Rattle.std.specs.Prelude.{if◌then◌else◌, not, ◌||◌, slice_get, option_map, Result, OnOk}
use Rattle.std.proofs.lemmas.Result.{on_ok_weaker}
use Rattle.std.specs.List.{list_all}
use Rattle.std.proofs.lemmas.List.{append-nil}
use Rattle.arj_core.specs.declared.node.Core.{Ghosts}
use Rattle.arj_core.specs.Steps.{message_of}
use Rattle.arj_disk.specs.FileMap.{FileMap}
use Rattle.arj_journal.specs.declared.body.Line.{Line}
use Rattle.arj_journal.specs.declared.header.Header.{Header}
use Rattle.arj_net.specs.declared.net.Frame as net_frame
use Rattle.arj_net.specs.declared.net.Sent as net
use Rattle.arj_net.specs.Net as nets
use Rattle.arj_protocol.specs.Step.{Node, Input, is_idle, numbers_to}
use Rattle.arj_protocol.specs.Step as input
use Rattle.arj_protocol.specs.Tree.{at_place, set_place}
use Rattle.arj_protocol.specs.Words.body
use Rattle.arj_protocol.specs.World as protocol
use Rattle.arj_protocol.specs.World.{World, Frame, change_frame, deliver_frame, lose_frame, numbered, says, lowest_from, settle_for, steps}
use Rattle.arj_protocol.specs.World.{step_node}
use Rattle.arj_world.specs.Goes.{Goes, GoesTo, GoesPartTo, StepsTo, is_no_restart}
use Rattle.arj_world.specs.Stands.{AreSomeNodes, Hand, Stands, StandsSome}
use Rattle.arj_world.specs.Turns.{with_arms}
use Rattle.arj_world.specs.Wire.{dropped_line, frame_of}
use Rattle.arj_world.proofs.Tests.{Tells, keeps_of, up_at}
use Rattle.arj_world.proofs.Frames.{frame_at, marked, none_there, nothing_marked, sent_there}
use Rattle.arj_world.proofs.Going.{as_well, behind, one_step, onward, plainly, stays}
use Rattle.arj_start.specs.Limits.{most_frames}

-- ---- the numbers of nodes

-- so many numbers, from this one on
abbrev counted_from : ℕ → ℕ → List ℕ
counted_from zero k = []
counted_from (suc c) k = k ∷ counted_from c (k + 1)

-- the numbers of the nodes that are still to come, where so many are done
abbrev pub numbers_left : ℕ → ℕ → List ℕ
numbers_left done count = counted_from (count - done) (done + 1)

last_of : (c k : ℕ) → counted_from (suc c) k ≡ counted_from c k ++ (k + c) ∷ []
last_of zero k = ap (λ n. n ∷ []) (omega arith)
last_of (suc c) k = ap (λ ns. k ∷ ns) (last_of c (k + 1) ∙ ap (λ n. counted_from c (k + 1) ++ n ∷ []) (omega arith))

all_from : (count : ℕ) → numbers_to count ≡ counted_from count 1
all_from zero = refl
all_from (suc c) = (λ i. all_from c i ++ suc c ∷ []) ∙ ap (λ n. counted_from c 1 ++ n ∷ []) (omega arith) ∙ sym (last_of c 1)

pub all_left : (count : ℕ) → numbers_to count ≡ numbers_left 0 count
all_left count = all_from count ∙ ap (λ n. counted_from n 1) (omega arith)

pub next_left : (done node count : ℕ) → done < count → node ≡ done + 1 → numbers_left done count ≡ node ∷ numbers_left (done + 1) count
next_left done node count less is =
    let longer : count - done ≡ suc (count - (done + 1)) = omega (arith, less) in
    ap (λ n. counted_from n (done + 1)) longer ∙ ap (λ n. n ∷ numbers_left (done + 1) count) (sym is)

pub none_left : (done count : ℕ) → count ≤ done → numbers_left done count ≡ []
none_left done count all = let none : count - done ≡ 0 = omega (arith, all) in ap (λ n. counted_from n (done + 1)) none

module _ {C D : Type 0} (core : Ghosts C) (file : D → FileMap) where
  -- a world goes on standing
  pub goes_some : (go left : World → World) (old new : Hand C D) → GoesPartTo core file go left old new → StandsSome core file old →
      StandsSome core file new
  goes_some go left old new goes some = let g = goes some.0 some.1 in (g.now, g.stands)

  -- one thing is done, and then another one
  pub goes_both : (go left after : World → World) (first second third : Hand C D) → GoesPartTo core file go left first second →
      GoesPartTo core file left after second third
      → second.kept.header ≡ first.kept.header → GoesPartTo core file go after first third
  goes_both go left after first second third a b same w st =
      let g = a w st in
      onward first.kept.header.nodes go left after w (Stands core file second) (Stands core file third) g
      (subst (λ hd. Goes hd.nodes left after g.now (Stands core file third)) same (b g.now g.stands))

  pub goes_behind : (go left after : World → World) (first second : Hand C D) → GoesPartTo core file go left first second
      → GoesPartTo core file (λ v. after (go v)) (λ v. after (left v)) first second
  goes_behind go left after first second a w st = behind first.kept.header.nodes go left after w (Stands core file second) (a w st)

  -- one behind the other
  pub goes_then : (go after : World → World) (first second third : Hand C D) → GoesTo core file go first second →
      GoesTo core file after second third
      → second.kept.header ≡ first.kept.header → GoesTo core file (λ v. after (go v)) first third
  goes_then go after first second third a b same =
      goes_both (λ v. after (go v)) after (λ v. v) first second third (goes_behind go (λ v. v) after first second a) b same

  -- nothing is done
  pub goes_nowhere : (go : World → World) (h : Hand C D)
      → ((w : World) → Stands core file h w → (arms : List (ℕ × protocol.Arm)) → go (with_arms arms w) ≡ with_arms arms w) →
      GoesTo core file go h h
  goes_nowhere go h same w st =
      as_well h.kept.header.nodes go (λ v. v) (λ v. v) w (Stands core file h) (same w st) (stays h.kept.header.nodes (λ v. v) w (Stands core file h) st)

  -- a step of a node, but no restart
  pub goes_step : (node : ℕ) (i : Input) (old new : Hand C D) → 1 ≤ node → node ≤ old.kept.header.nodes → is_no_restart i ≡ true →
      StepsTo core file node i old new → GoesTo core file (steps node i) old new
  goes_step node i old new low high other to w st = one_step old.kept.header.nodes node i w (Stands core file new) low high other (to w st)

  -- no node has this number
  pub no_node : (node : ℕ) (nodes : List Node) (count : ℕ) → length nodes ≡ count → (1 ≤ node → node ≤ count → ⊥) →
      at_place node nodes ≡ None
  no_node zero nodes count is out = refl
  no_node (suc k) nodes count is out = past k nodes (λ less. out (omega arith) (omega (arith, less, is)))
    where
      past : (k : ℕ) (ns : List Node) → (k < length ns → ⊥) → slice_get ns k ≡ None
      past k [] out = refl
      past zero (n ∷ ns) out = absurd (out (omega arith))
      past (suc k) (n ∷ ns) out = past k ns (λ less. out (omega (arith, less)))

  pub goes_not : (node : ℕ) (i : Input) (h : Hand C D) → (1 ≤ node → node ≤ h.kept.header.nodes → ⊥) → GoesTo core file (steps node i) h h
  goes_not node i h out =
      goes_nowhere (steps node i) h (λ w st arms. ap (step_node node i (with_arms arms w)) (no_node node w.nodes h.kept.header.nodes st.nodes.nodes_count out))

  -- ---- frames

  abbrev pub with_net : List net.Sent → Hand C D → Hand C D
  with_net sent h = record h { kept = record h.kept { net = sent } }

  module _ (k : ℕ) (f : net_frame.Frame) (old : Hand C D) (is : nets.frame_of old.kept.net k ≡ Some f) where
    there : (s : net.Sent) × (nets.sent_as old.kept.net k ≡ Some s) × (s.frame ≡ f)
    there = sent_there (nets.sent_as old.kept.net k) f is

    abbrev pub next : Hand C D
    next = with_net (nets.changed_at nets.as_delivered old.kept.net k) old

    abbrev pub take : World → World
    take = steps f.to (input.Frame k f.from (message_of f.bytes))

    frames : (w : World) → Stands core file old w → Stands core file next (change_frame k protocol.as_delivered (frame_of there.0) w)
    frames w st = record {
      header = st.header;
      given = st.given;
      frames = (λ i. set_place k (protocol.as_delivered (frame_of there.0)) (st.frames i)) ∙ sym (marked nets.as_delivered protocol.as_delivered k old.kept.net there.0 there.1 refl);
      lines = st.lines;
      labels = st.labels;
      arms = st.arms;
      event = st.event;
      full = st.full;
      over = st.over;
      nodes = st.nodes;
    }

    at : (w : World) → Stands core file old w → at_place k w.frames ≡ Some (frame_of there.0)
    at w st = ap (at_place k) st.frames ∙ frame_at k old.kept.net ∙ ap (option_map frame_of) there.1

    same : (w : World) → Stands core file old w → (arms : List (ℕ × protocol.Arm)) →
        protocol.deliver k (with_arms arms w) ≡ take (change_frame k protocol.as_delivered (frame_of there.0) (with_arms arms w))
    same w st arms = ap (deliver_frame k (with_arms arms w)) (at w st)
        ∙ ap (λ (x : net_frame.Frame). steps x.to (input.Frame k x.from (message_of x.bytes)) (change_frame k protocol.as_delivered (frame_of there.0) (with_arms arms w))) there.2

    -- a frame that is there is marked, and its node is to take it
    pub goes_mark : GoesPartTo core file (protocol.deliver k) take old next
    goes_mark w st =
        as_well old.kept.header.nodes (protocol.deliver k) (λ v. take (change_frame k protocol.as_delivered (frame_of there.0) v)) take w (Stands core file next) (same w st)
        (behind old.kept.header.nodes (change_frame k protocol.as_delivered (frame_of there.0)) (λ v. v) take w (Stands core file next)
        (plainly old.kept.header.nodes (change_frame k protocol.as_delivered (frame_of there.0)) w (Stands core file next) (λ arms. refl) refl (frames w st)))

    -- and it takes it
    pub goes_deliver : (new : Hand C D) → GoesTo core file take next new → GoesTo core file (protocol.deliver k) old new
    goes_deliver new later = goes_both (protocol.deliver k) take (λ v. v) old next new goes_mark later refl

  -- one that isn't there does nothing
  pub goes_undelivered : (k : ℕ) (old : Hand C D) → nets.frame_of old.kept.net k ≡ None → GoesTo core file (protocol.deliver k) old old
  goes_undelivered k old none =
      goes_nowhere (protocol.deliver k) old (λ w st arms. ap (deliver_frame k (with_arms arms w)) (ap (at_place k) st.frames ∙ frame_at k old.kept.net ∙ ap (option_map frame_of) (none_there (nets.sent_as old.kept.net k) none)))

  -- one that is lost has a line
  pub goes_lose : (k : ℕ) (old : Hand C D) (journal : List Line) →
      journal ≡ old.journal ++ numbered old.kept.event (dropped_line k (nets.frame_of old.kept.net k))
      → GoesTo core file (protocol.lose k) old (record (with_net (nets.changed_at nets.as_lost old.kept.net k) old) { journal = journal })
  goes_lose k old journal said = by (nets.frame_of old.kept.net k) refl
    where
      next : Hand C D
      next = record (with_net (nets.changed_at nets.as_lost old.kept.net k) old) { journal = journal }

      there : (f : net_frame.Frame) → nets.frame_of old.kept.net k ≡ Some f → GoesTo core file (protocol.lose k) old next
      there f is w st =
          let s = sent_there (nets.sent_as old.kept.net k) f is in
          let lost : World → World = λ v. says (body.Dropped k ∷ []) (change_frame k protocol.as_lost (frame_of s.0) v) in
          let at : at_place k w.frames ≡ Some (frame_of s.0) =
          ap (at_place k) st.frames ∙ frame_at k old.kept.net ∙ ap (option_map frame_of) s.1 in
          as_well old.kept.header.nodes (protocol.lose k) lost (λ v. v) w (Stands core file next) (λ arms. ap (lose_frame k (with_arms arms w)) at)
          (plainly old.kept.header.nodes lost w (Stands core file next) (λ arms. refl) refl (record {
            header = st.header;
            given = st.given;
            frames = (λ i. set_place k (protocol.as_lost (frame_of s.0)) (st.frames i)) ∙ sym (marked nets.as_lost protocol.as_lost k old.kept.net s.0 s.1 refl);
            lines = (λ i. st.lines i ++ numbered (st.event i) (body.Dropped k ∷ [])) ∙ sym (said ∙ ap (λ o. old.journal ++ numbered old.kept.event (dropped_line k o)) is);
            labels = st.labels;
            arms = st.arms;
            event = st.event;
            full = st.full;
            over = st.over;
            nodes = st.nodes;
          }))

      by : (o : Option net_frame.Frame) → nets.frame_of old.kept.net k ≡ o → GoesTo core file (protocol.lose k) old next
      by (Some f) is = there f is
      by None is =
          let none = none_there (nets.sent_as old.kept.net k) is in
          let same : old ≡ next =
          λ i. record (with_net (sym (nothing_marked nets.as_lost k old.kept.net none) i) old) {
            journal =
                sym (said ∙ ap (λ o. old.journal ++ numbered old.kept.event (dropped_line k o)) is ∙ append-nil old.journal) i;
          } in
          subst (GoesTo core file (protocol.lose k) old) same
          (goes_nowhere (protocol.lose k) old (λ w st arms. ap (lose_frame k (with_arms arms w)) (ap (at_place k) st.frames ∙ frame_at k old.kept.net ∙ ap (option_map frame_of) none)))

  -- ---- settle

  -- the lowest frame that is still to be delivered, of a world in hand
  abbrev pub lowest_in : Hand C D → Option ℕ
  lowest_in h = if h.kept.full then None else lowest_from 1 (map frame_of h.kept.net)

  lowest_is : (h : Hand C D) (w : World) (arms : List (ℕ × protocol.Arm)) → Stands core file h w →
      protocol.lowest (with_arms arms w) ≡ lowest_in h
  lowest_is h w arms st = λ i. if st.full i then None else lowest_from 1 (st.frames i)

  abbrev settles : ℕ → World → Option ℕ → World
  settles fuel w o = elim o [ None ↦ w | Some k ↦ settle_for fuel (protocol.deliver k w) ]

  pub settle_starts : (h : Hand C D) → GoesPartTo core file protocol.settle (settle_for most_frames) h h
  settle_starts h w st = stays h.kept.header.nodes protocol.settle w (Stands core file h) st

  pub settle_turns : (fuel k : ℕ) (go : World → World) (first old new : Hand C D) →
      GoesPartTo core file go (settle_for (suc fuel)) first old → lowest_in old ≡ Some k → GoesTo core file (protocol.deliver k) old new
      → old.kept.header ≡ first.kept.header → GoesPartTo core file go (settle_for fuel) first new
  settle_turns fuel k go first old new before low goes same =
      goes_both go (settle_for (suc fuel)) (settle_for fuel) first old new before turn same
    where
      turn : GoesPartTo core file (settle_for (suc fuel)) (settle_for fuel) old new
      turn w st = as_well old.kept.header.nodes (settle_for (suc fuel)) (λ v. settle_for fuel (protocol.deliver k v)) (settle_for fuel) w (Stands core file new)
          (λ arms. ap (settles fuel (with_arms arms w)) (lowest_is old w arms st ∙ low))
          (behind old.kept.header.nodes (protocol.deliver k) (λ v. v) (settle_for fuel) w (Stands core file new) (goes w st))

  -- none is left
  pub settle_ends : (fuel : ℕ) (go : World → World) (first old : Hand C D) → GoesPartTo core file go (settle_for fuel) first old →
      lowest_in old ≡ None → old.kept.header ≡ first.kept.header → GoesTo core file go first old
  settle_ends fuel go first old before none same =
      goes_both go (settle_for fuel) (λ v. v) first old old before (goes_nowhere (settle_for fuel) old (rests fuel)) same
    where
      rests : (fuel : ℕ) (w : World) → Stands core file old w → (arms : List (ℕ × protocol.Arm)) →
          settle_for fuel (with_arms arms w) ≡ with_arms arms w
      rests zero w st arms = refl
      rests (suc fuel) w st arms = ap (settles fuel (with_arms arms w)) (lowest_is old w arms st ∙ none)

  -- ---- ticks

  pub tick_full : (node : ℕ) (h : Hand C D) → h.kept.full ≡ true → GoesTo core file (protocol.tick_up node) h h
  tick_full node h full = goes_nowhere (protocol.tick_up node) h
      (λ w st arms. λ i. if (st.full ∙ full) i || not (protocol.is_up_at node w) then with_arms arms w else steps node input.Tick (with_arms arms w))

  pub tick_down : (node : ℕ) (h : Hand C D) → h.kept.full ≡ false → 1 ≤ node → node ≤ h.kept.header.nodes → Tells core node false h.kept →
      GoesTo core file (protocol.tick_up node) h h
  tick_down node h fits low high says = goes_nowhere (protocol.tick_up node) h
      (λ w st arms. λ i. if (st.full ∙ fits) i || not (up_at core node false h.kept w low high (keeps_of core file h w st) says i) then with_arms arms w else steps node input.Tick (with_arms arms w))

  pub tick_goes : (node : ℕ) (old new : Hand C D) → old.kept.full ≡ false → 1 ≤ node → node ≤ old.kept.header.nodes →
      Tells core node true old.kept → GoesTo core file (steps node input.Tick) old new → GoesTo core file (protocol.tick_up node) old new
  tick_goes node old new fits low high says goes w st =
      as_well old.kept.header.nodes (protocol.tick_up node) (steps node input.Tick) (λ v. v) w (Stands core file new)
      (λ arms. λ i. if (st.full ∙ fits) i || not (up_at core node true old.kept w low high (keeps_of core file old w st) says i) then with_arms arms w else steps node input.Tick (with_arms arms w)) (goes w st)

  -- ---- shows

  pub show_down : (x node : ℕ) (h : Hand C D) → 1 ≤ node → node ≤ h.kept.header.nodes → Tells core node false h.kept →
      GoesTo core file (protocol.show_up x node) h h
  show_down x node h low high says = goes_nowhere (protocol.show_up x node) h
      (λ w st arms. λ i. if up_at core node false h.kept w low high (keeps_of core file h w st) says i then steps node (input.Show x) (with_arms arms w) else with_arms arms w)

  pub show_goes : (x node : ℕ) (old new : Hand C D) → 1 ≤ node → node ≤ old.kept.header.nodes → Tells core node true old.kept →
      GoesTo core file (steps node (input.Show x)) old new → GoesTo core file (protocol.show_up x node) old new
  show_goes x node old new low high says goes w st =
      as_well old.kept.header.nodes (protocol.show_up x node) (steps node (input.Show x)) (λ v. v) w (Stands core file new)
      (λ arms. λ i. if up_at core node true old.kept w low high (keeps_of core file old w st) says i then steps node (input.Show x) (with_arms arms w) else with_arms arms w) (goes w st)

  -- ---- one node after another

  pub ticks_turn : (done node count : ℕ) (first old new : Hand C D) →
      GoesPartTo core file (protocol.tick_all (numbers_to count)) (protocol.tick_all (numbers_left done count)) first old → done < count →
      node ≡ done + 1
      → GoesTo core file (protocol.tick_up node) old new → old.kept.header ≡ first.kept.header →
      GoesPartTo core file (protocol.tick_all (numbers_to count)) (protocol.tick_all (numbers_left (done + 1) count)) first new
  ticks_turn done node count first old new before less is goes same =
      goes_both (protocol.tick_all (numbers_to count)) (protocol.tick_all (numbers_left done count)) (protocol.tick_all (numbers_left (done + 1) count)) first old new before
      (subst (λ ns. GoesPartTo core file (protocol.tick_all ns) (protocol.tick_all (numbers_left (done + 1) count)) old new) (sym (next_left done node count less is))
      (goes_behind (protocol.tick_up node) (λ v. v) (protocol.tick_all (numbers_left (done + 1) count)) old new goes)) same

  pub ticks_start : (count : ℕ) (h : Hand C D) →
      GoesPartTo core file (protocol.tick_all (numbers_to count)) (protocol.tick_all (numbers_left 0 count)) h h
  ticks_start count h =
      subst (λ ns. GoesPartTo core file (protocol.tick_all (numbers_to count)) (protocol.tick_all ns) h h) (all_left count)
      (λ w st. stays h.kept.header.nodes (protocol.tick_all (numbers_to count)) w (Stands core file h) st)

  pub ticks_end : (done count : ℕ) (first old : Hand C D) →
      GoesPartTo core file (protocol.tick_all (numbers_to count)) (protocol.tick_all (numbers_left done count)) first old → count ≤ done
      → GoesTo core file (protocol.tick_all (numbers_to count)) first old
  ticks_end done count first old before all =
      subst (λ ns. GoesPartTo core file (protocol.tick_all (numbers_to count)) (protocol.tick_all ns) first old) (none_left done count all) before

  pub shows_turn : (x done node count : ℕ) (first old new : Hand C D) →
      GoesPartTo core file (protocol.show_all x (numbers_to count)) (protocol.show_all x (numbers_left done count)) first old → done < count →
      node ≡ done + 1
      → GoesTo core file (protocol.show_up x node) old new → old.kept.header ≡ first.kept.header →
      GoesPartTo core file (protocol.show_all x (numbers_to count)) (protocol.show_all x (numbers_left (done + 1) count)) first new
  shows_turn x done node count first old new before less is goes same =
      goes_both (protocol.show_all x (numbers_to count)) (protocol.show_all x (numbers_left done count)) (protocol.show_all x (numbers_left (done + 1) count)) first old new before
      (subst (λ ns. GoesPartTo core file (protocol.show_all x ns) (protocol.show_all x (numbers_left (done + 1) count)) old new) (sym (next_left done node count less is))
      (goes_behind (protocol.show_up x node) (λ v. v) (protocol.show_all x (numbers_left (done + 1) count)) old new goes)) same

  pub shows_start : (x count : ℕ) (h : Hand C D) →
      GoesPartTo core file (protocol.show_all x (numbers_to count)) (protocol.show_all x (numbers_left 0 count)) h h
  shows_start x count h =
      subst (λ ns. GoesPartTo core file (protocol.show_all x (numbers_to count)) (protocol.show_all x ns) h h) (all_left count)
      (λ w st. stays h.kept.header.nodes (protocol.show_all x (numbers_to count)) w (Stands core file h) st)

  pub shows_end : (x done count : ℕ) (first old : Hand C D) →
      GoesPartTo core file (protocol.show_all x (numbers_to count)) (protocol.show_all x (numbers_left done count)) first old → count ≤ done
      → GoesTo core file (protocol.show_all x (numbers_to count)) first old
  shows_end x done count first old before all =
      subst (λ ns. GoesPartTo core file (protocol.show_all x (numbers_to count)) (protocol.show_all x ns) first old) (none_left done count all) before

  -- ---- a quiesce

  pub quiet_full : (h : Hand C D) → h.kept.full ≡ true → GoesTo core file protocol.quiet_line h h
  quiet_full h full =
      goes_nowhere protocol.quiet_line h (λ w st arms. λ i. if (st.full ∙ full) i then with_arms arms w else says (body.Quiet (protocol.is_quiet w) ∷ []) (with_arms arms w))

  pub quiet_says : (h : Hand C D) (journal : List Line) → h.kept.full ≡ false
      → ((header : Header) (nodes : List Node) → AreSomeNodes core header h.kept.cores nodes →
      journal ≡ h.journal ++ numbered h.kept.event (body.Quiet (list_all is_idle nodes) ∷ []))
      → GoesTo core file protocol.quiet_line h (record h { journal = journal })
  quiet_says h journal fits said w st =
      let line : World → World = λ v. says (body.Quiet (protocol.is_quiet w) ∷ []) v in
      as_well h.kept.header.nodes protocol.quiet_line line (λ v. v) w (Stands core file (record h { journal = journal }))
      (λ arms. λ i. if (st.full ∙ fits) i then with_arms arms w else says (body.Quiet (protocol.is_quiet w) ∷ []) (with_arms arms w))
      (plainly h.kept.header.nodes line w (Stands core file (record h { journal = journal })) (λ arms. refl) refl (record {
        header = st.header;
        given = st.given;
        frames = st.frames;
        lines = (λ i. st.lines i ++ numbered (st.event i) (body.Quiet (protocol.is_quiet w) ∷ [])) ∙ sym (said h.kept.header w.nodes ((keeps_of core file h w st).nodes));
        labels = st.labels;
        arms = st.arms;
        event = st.event;
        full = st.full;
        over = st.over;
        nodes = st.nodes;
      }))

  -- whether a frame didn't fit or all did
  pub quiet_goes : {E : Type 0} (h : Hand C D) (r : Result (Unit {0}) E) (journal : List Line) →
      (h.kept.full ≡ true → OnOk r (journal ≡ h.journal))
      → (h.kept.full ≡ false →
      OnOk r ((header : Header) (nodes : List Node) → AreSomeNodes core header h.kept.cores nodes →
      journal ≡ h.journal ++ numbered h.kept.event (body.Quiet (list_all is_idle nodes) ∷ [])))
      → OnOk r (GoesTo core file protocol.quiet_line h (record h { journal = journal }))
  quiet_goes h r journal full fits = by h.kept.full refl
    where
      by : (b : Bool) → h.kept.full ≡ b → OnOk r (GoesTo core file protocol.quiet_line h (record h { journal = journal }))
      by true is = on_ok_weaker r (λ (same : journal ≡ h.journal). subst (λ j. GoesTo core file protocol.quiet_line h (record h {
        journal =
            j;
      })) (sym same) (quiet_full h is)) (full is)
      by false is =
          on_ok_weaker r (λ (said : (header : Header) (nodes : List Node) → AreSomeNodes core header h.kept.cores nodes →
          journal ≡ h.journal ++ numbered h.kept.event (body.Quiet (list_all is_idle nodes) ∷ [])). quiet_says h journal is said) (fits is)

  pub quiesces : (first second third fourth fifth : Hand C D) → GoesTo core file protocol.settle first second →
      GoesTo core file (protocol.tick_all (numbers_to second.kept.header.nodes)) second third
      → GoesTo core file protocol.settle third fourth → GoesTo core file protocol.quiet_line fourth fifth
      → second.kept.header ≡ first.kept.header → third.kept.header ≡ second.kept.header → fourth.kept.header ≡ third.kept.header →
      GoesTo core file protocol.quiesce first fifth
  quiesces first second third fourth fifth a b c d same_a same_b same_c w st =
      as_well first.kept.header.nodes protocol.quiesce (all second.kept.header) (λ v. v) w (Stands core file fifth)
      (λ arms. λ i. all ((st.header ∙ sym same_a) i) (with_arms arms w))
      (goes_then (λ v. protocol.settle (protocol.tick_all (numbers_to second.kept.header.nodes) (protocol.settle v))) protocol.quiet_line first fourth fifth
      (goes_then (λ v. protocol.tick_all (numbers_to second.kept.header.nodes) (protocol.settle v)) protocol.settle first third fourth
      (goes_then protocol.settle (protocol.tick_all (numbers_to second.kept.header.nodes)) first second third a b same_a) c (same_b ∙ same_a)) d (same_c ∙ same_b ∙ same_a) w st)
    where
      all : Header → World → World
      all hd v = protocol.quiet_line (protocol.settle (protocol.tick_all (numbers_to hd.nodes) (protocol.settle v)))
