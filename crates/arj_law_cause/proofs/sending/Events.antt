-- How many frames an event sends to each other node: of a commit, an abort and a giveup, of the delivery of an answer in a commit or of
-- an acknowledgement, and of a tick and a restart.
use Rattle.arj_law_parts.proofs.Words
use Words.{◌≡◌, ◌≤◌, ◌<◌, ◌∙◌, ◌+◌, ◌-◌, ◌==◌, ◌++◌, ℕ, Bool, true, false, cond, List, [], ◌∷◌, length, refl, sym, ap, subst, arith}
use Words.{and_parts, list_all}
use Words.{Option, Some, None, Header, Label, Message, Branch, Did, Disk, Do, Effect, Say, Send, Handled, Parts, Ran, Took, Void, Coord}
use Words.{Uid}
use Words.{actor, acts, branch_named, commit_action, give_up, abort_action, on_branch, open_below, taken, taken_took, with_coord, whole}
use Words.{Input, Node}
use Words.{Step, at_place, coord_did, handled_step, node_did, refusal, step, step_down, step_of, step_unless, step_up, Frame, World}
use Words.{as_delivered, change_frame, deliver, deliver_frame, frame_kind, node_of, steps, Look, PutInc, Prepare, Commit, Abort, PutIntent}
use Words.{holders, RemoveIntent, is_some, ◌||◌, refused_by, ◌*◌, again_all, tick_outs, restart_outs, parts_in, uid_set, prepared_actions}
use Words.body
use Words.input
use Words.message
use Rattle.arj_journal.specs.declared.body.FrameKind.{FrameKind}
use Rattle.arj_law_parts.proofs.moves.Places.{set_long}
use Rattle.arj_law_parts.proofs.moves.Reasons.{first_not}
use Rattle.arj_law_parts.proofs.moves.Rounds.{AreLooks, LooksAlone, taken_looks}
use Rattle.arj_law_runs.proofs.bindings.Handled.{outs_of}
use Rattle.arj_law_runs.proofs.follow.Telling.{carried_by, frame_test}
use Rattle.arj_law_runs.specs.addresses.Addresses.{GoWithin, IsNode}
use Rattle.arj_law_cause.proofs.sending.Counted.{FewTo, each, step_adds}
use Rattle.arj_law_cause.proofs.sending.Begun.{FewAt}
use Rattle.arj_law_cause.proofs.sending.Ordered.{AllPut, UpCoord, UpNode, acts_up, again_up, message_up, restart_up, tick_up}
use Rattle.arj_law_cause.proofs.sending.Ticks.{restart_mass, tick_mass}
use Rattle.arj_law_cause.proofs.sending.Handlers.{abort_mass, commit_mass, giveup_mass, taken_mass}
use Rattle.arj_law_cause.proofs.sending.Hellos.{hello_mass}
use Rattle.arj_law_cause.proofs.sending.Weights.{mass, own}
use Rattle.arj_law_cause.proofs.sending.Wholes.{sent_to, whole_to}
use Rattle.arj_law_cause.specs.rounds.Sends.{is_acked, is_hello, is_prepared}

-- ---- a step

-- none to the node itself
but_own : (j k c a : ℕ) → a ≤ c → ((j == k) ≡ true → a ≡ 0) → a ≤ cond (j == k) 0 c
but_own j k c a le none = by (j == k) refl
  where
    low : a ≡ 0 → a ≤ 0
    low is = omega (arith, is)

    by : (b : Bool) → (j == k) ≡ b → a ≤ cond b 0 c
    by true is = low (none is)
    by false is = le

least : (a : ℕ) → 0 ≤ a
least a = omega arith

-- of a node's step, which it refuses, or takes down or up
step_few : (hd : Header) (j c : ℕ) (i : Input) (n : Node) → FewTo j c (step_down hd i n) → ((t : Parts) → n.live ≡ Some t →
    refusal hd i n ≡ None → FewTo j c (step_up i n t)) → FewTo j c (step hd n i)
step_few hd j c i n down up = by (refusal hd i n) refl
  where
    live : (o : Option Parts) → n.live ≡ o → refusal hd i n ≡ None → FewTo j c (step_of hd i n o)
    live None is free = down
    live (Some t) is free = up t is free

    by : (r : Option ℕ) → refusal hd i n ≡ r → FewTo j c (step_unless hd i n r)
    by (Some k) is = (least c, least c)
    by None is = live n.live refl is

module _ (k c : ℕ) (n : Node) (number : n.number ≡ k) (up : UpNode n) where
  -- of whole steps
  whole_few : (j : ℕ) (t : Parts) (outs : List Effect) → UpCoord t.coord → AllPut outs → mass k j (c + 1) outs ≤ c →
      sent_to j (whole n.number t outs n.disk).outs ≤ cond (j == k) 0 c
  whole_few j t outs so puts few = subst (λ z. sent_to j (whole z t outs n.disk).outs ≤ cond (j == k) 0 c) (sym number)
      (let w = whole_to k j c t outs n.disk so up.0 puts few in but_own j k c (sent_to j (whole k t outs n.disk).outs) w.0 w.1)

  -- of what the script asks of an action
  acts_few : (j : ℕ) (i : Input) (t : Parts) → n.live ≡ Some t →
      mass k j (c + 1) (acts i (let d = n.disk in d.intents) t.coord).outs ≤ c →
      FewTo j (cond (j == k) 0 c) (coord_did n t (acts i (let d = n.disk in d.intents) t.coord))
  acts_few j i t live few =
      let did = acts i (let d = n.disk in d.intents) t.coord in
      let so = acts_up i (let d = n.disk in d.intents) t.coord (up.1 t live) in
      let all = whole_few j (with_coord t did.part) did.outs so.0 so.1 few in
      (all, all)

  -- of a message
  looks_to : (j : ℕ) (es : List Effect) → AreLooks es → sent_to j es ≡ 0
  looks_to j [] looks = refl
  looks_to j (Do Look ∷ es) looks = looks_to j es looks
  looks_to j (Do (PutInc i) ∷ es) looks = absurd (cc looks)
  looks_to j (Do (Prepare r u s) ∷ es) looks = absurd (cc looks)
  looks_to j (Do (Commit r u) ∷ es) looks = absurd (cc looks)
  looks_to j (Do (Abort r u) ∷ es) looks = absurd (cc looks)
  looks_to j (Do (PutIntent u i) ∷ es) looks = absurd (cc looks)
  looks_to j (Do (RemoveIntent u) ∷ es) looks = absurd (cc looks)
  looks_to j (Say b ∷ es) looks = absurd (cc looks)
  looks_to j (Send to m ∷ es) looks = absurd (cc looks)

  void_to : (j f : ℕ) (es : List Effect) → AreLooks es → sent_to j (es ++ Say (body.Void f) ∷ []) ≡ 0
  void_to j f [] looks = refl
  void_to j f (Do Look ∷ es) looks = void_to j f es looks
  void_to j f (Do (PutInc i) ∷ es) looks = absurd (cc looks)
  void_to j f (Do (Prepare r u s) ∷ es) looks = absurd (cc looks)
  void_to j f (Do (Commit r u) ∷ es) looks = absurd (cc looks)
  void_to j f (Do (Abort r u) ∷ es) looks = absurd (cc looks)
  void_to j f (Do (PutIntent u i) ∷ es) looks = absurd (cc looks)
  void_to j f (Do (RemoveIntent u) ∷ es) looks = absurd (cc looks)
  void_to j f (Say b ∷ es) looks = absurd (cc looks)
  void_to j f (Send to m ∷ es) looks = absurd (cc looks)

  frame_masses : (j f from : ℕ) (m : Message) (t : Parts) → n.live ≡ Some t →
      mass k j (c + 1) (outs_of (taken n.number n.disk t from m)) ≤ c →
      FewTo j (cond (j == k) 0 c) (step_up (input.Frame f from (Some m)) n t)
  frame_masses j f from m t live few = by (taken n.number n.disk t from m) refl few
    where
      low : (a b : ℕ) → a ≡ 0 → a ≤ b
      low a b is = omega (arith, is)

      by : (r : Handled) → taken n.number n.disk t from m ≡ r → mass k j (c + 1) (outs_of r) ≤ c →
          FewTo j (cond (j == k) 0 c) (handled_step f n r)
      by (Void outs) is le =
          let looks = subst LooksAlone is (taken_looks n.number n.disk t from m) in (
            low (sent_to j (outs ++ Say (body.Void f) ∷ [])) (cond (j == k) 0 c) (void_to j f outs looks),
            low (sent_to j outs) (cond (j == k) 0 c) (looks_to j outs looks),
          )
      by (Took v outs) is le =
          let so = message_up n.number n.disk t v from m outs (taken_took n.number n.disk t v from m outs is) (up.1 t live) in
          let all = whole_few j v outs so.0 so.1 le in (all, all)

  -- of a tick, and of a restart
  tick_few : (j : ℕ) (t : Parts) → n.live ≡ Some t → mass k j (c + 1) (tick_outs n t) ≤ c →
      FewTo j (cond (j == k) 0 c) (step_up input.Tick n t)
  tick_few j t live few =
      let r = again_all t.coord.doings t.coord in
      let all = whole_few j (with_coord t r.part) (tick_outs n t) (again_up t.coord (up.1 t live)) (tick_up n.number n.disk t) few in
      (all, all)

  restart_few : (hd : Header) (j : ℕ) → mass k j (c + 1) (restart_outs hd k (let d = n.disk in d.inc + 1) n.disk) ≤ c →
      FewTo j (cond (j == k) 0 c) (step_down hd input.Restart n)
  restart_few hd j few =
      let inc = (let d = n.disk in d.inc + 1) in
      let so = restart_up hd n.number inc n.disk up.0 in
      let all = whole_few j (parts_in n.number inc n.disk) (restart_outs hd n.number inc n.disk) so.0 so.1
      (subst (λ z. mass k j (c + 1) (restart_outs hd z inc n.disk) ≤ c) (sym number) few) in (all, all)

  frame_few : (j f from : ℕ) (m : Message) (t : Parts) → n.live ≡ Some t → own k j (c + 1) m ≤ c →
      mass k j (c + 1) (outs_of (taken n.number n.disk t from m)) ≤ c
  frame_few j f from m t live few = less (mass k j (c + 1) (outs_of (taken n.number n.disk t from m))) (own k j (c + 1) m)
      (taken_mass k j (c + 1) from n.number n.disk t (up.1 t live) up.0 m (below (own k j (c + 1) m) few)) few
    where
      below : (a : ℕ) → a ≤ c → a < c + 1
      below a le = omega (arith, le)

      less : (a b : ℕ) → a ≤ b → b ≤ c → a ≤ c
      less a b x y = omega (arith, x, y)

-- ---- events

module _ (hd : Header) (w : World) (nodes : (n : ℕ) (x : Node) → at_place n w.nodes ≡ Some x → IsNode hd n)
    (numbers : (n : ℕ) (x : Node) → at_place n w.nodes ≡ Some x → x.number ≡ n)
    (ups : (n : ℕ) (x : Node) → at_place n w.nodes ≡ Some x → UpNode x) where
  -- so many are added at most for each other node
  abbrev pub AddsEach : ℕ → World → Type 0
  AddsEach c v = GoWithin hd.nodes v → length v.frames ≤ length w.frames + each c (hd.nodes - 1)

  pub commit_adds : (l : Label) → AddsEach 4 (steps (node_of l w) (input.Commit l) w)
  commit_adds l within = step_adds hd 4 (node_of l w) (input.Commit l) w (nodes (node_of l w)) within (λ j n there.
      step_few w.header j (cond (j == node_of l w) 0 4) (input.Commit l) n (least _, least _) (λ t live free.
      acts_few (node_of l w) 4 n (numbers (node_of l w) n there) (ups (node_of l w) n there) j (input.Commit l) t live
      (by j (let d = n.disk in d.intents) t.coord (branch_named l t.coord))))
    where
      by : (j : ℕ) (intents : List (Uid × Words.Intent)) (c : Coord) (o : Option Branch) →
          mass (node_of l w) j 5 (on_branch (λ b. commit_action b intents c) c o).outs ≤ 4
      by j intents c None = omega arith
      by j intents c (Some b) = commit_mass (node_of l w) j 5 b intents c

  pub giveup_adds : (l : Label) → AddsEach 2 (steps (node_of l w) (input.GiveUp l) w)
  giveup_adds l within = step_adds hd 2 (node_of l w) (input.GiveUp l) w (nodes (node_of l w)) within (λ j n there.
      step_few w.header j (cond (j == node_of l w) 0 2) (input.GiveUp l) n (least _, least _) (λ t live free.
      acts_few (node_of l w) 2 n (numbers (node_of l w) n there) (ups (node_of l w) n there) j (input.GiveUp l) t live
      (by j (let d = n.disk in d.intents) t.coord ((ups (node_of l w) n there).1 t live) (branch_named l t.coord))))
    where
      by : (j : ℕ) (intents : List (Uid × Words.Intent)) (c : Coord) → UpCoord c → (o : Option Branch) →
          mass (node_of l w) j 3 (on_branch (λ b. give_up (actor b.path) intents c) c o).outs ≤ 2
      by j intents c up None = omega arith
      by j intents c up (Some b) = giveup_mass (node_of l w) j 3 (actor b.path) intents c up

  -- as many as it ends
  pub abort_adds : (l : Label) (c : ℕ) → ((n : Node) (t : Parts) (b : Branch) → at_place (node_of l w) w.nodes ≡ Some n → n.live ≡ Some t →
      branch_named l t.coord ≡ Some b → is_some b.ended ≡ false →
      length (open_below (actor b.path) t.coord.tree ++ actor b.path ∷ []) ≤ c) →
      AddsEach c (steps (node_of l w) (input.Abort l) w)
  abort_adds l c few within = step_adds hd c (node_of l w) (input.Abort l) w (nodes (node_of l w)) within (λ j n there.
      step_few w.header j (cond (j == node_of l w) 0 c) (input.Abort l) n (least _, least _) (λ t live free.
      acts_few (node_of l w) c n (numbers (node_of l w) n there) (ups (node_of l w) n there) j (input.Abort l) t live
      (by j n t there live free (branch_named l t.coord) refl)))
    where
      less : (a b : ℕ) → a ≤ b → b ≤ c → a ≤ c
      less a b x y = omega (arith, x, y)

      by : (j : ℕ) (n : Node) (t : Parts) → at_place (node_of l w) w.nodes ≡ Some n → n.live ≡ Some t →
          refusal w.header (input.Abort l) n ≡ None → (o : Option Branch) → branch_named l t.coord ≡ o
          → mass (node_of l w) j (c + 1) (on_branch (λ b. abort_action (actor b.path)
          (let d = n.disk in d.intents) t.coord) t.coord o).outs ≤ c
      by j n t there live free None none = least c
      by j n t there live free (Some b) named = less
          (mass (node_of l w) j (c + 1) (abort_action (actor b.path) (let d = n.disk in d.intents) t.coord).outs)
          (length (open_below (actor b.path) t.coord.tree ++ actor b.path ∷ []))
          (abort_mass (node_of l w) j (c + 1) (actor b.path) (let d = n.disk in d.intents) t.coord) (few n t b there live named opened)
        where
          opened : is_some b.ended ≡ false
          opened = (first_not 6 (is_some b.ended) ((7, Words.waits_above b t.coord || Words.waits_below b t.coord) ∷ [])
              (ap (refused_by Words.abort_reasons t.coord) (sym named) ∙ sym (ap (input.refusal_at w.header (input.Abort l)) live)
              ∙ free)).0

  -- ---- ticks and restarts

  less_than : (a b c : ℕ) → a ≤ b → b ≤ c → a ≤ c
  less_than a b c x y = omega (arith, x, y)

  pub tick_adds : (k a : ℕ) → ((x : Node) → at_place k w.nodes ≡ Some x → FewAt a x) → AddsEach (7 * a) (steps k input.Tick w)
  tick_adds k a few within = step_adds hd (7 * a) k input.Tick w (nodes k) within (λ j n there.
      step_few w.header j (cond (j == k) 0 (7 * a)) input.Tick n (least _, least _) (λ t live free.
      tick_few k (7 * a) n (numbers k n there) (ups k n there) j t live (so j n there t live)))
    where
      seven : (x y z : ℕ) → x ≤ a → y ≤ a → z ≤ a → (4 * x + 2 * y) + z ≤ 7 * a
      seven x y z p q r = omega (arith, p, q, r)

      so : (j : ℕ) (n : Node) → at_place k w.nodes ≡ Some n → (t : Parts) → n.live ≡ Some t →
          mass k j (7 * a + 1) (tick_outs n t) ≤ 7 * a
      so j n there t live =
          let f = few n there in
          less_than (mass k j (7 * a + 1) (tick_outs n t))
          ((4 * length t.coord.doings + 2 * length t.coord.telling) + length (holders n.disk t)) (7 * a)
          (tick_mass k j (7 * a + 1) n.number n.disk t ((ups k n there).1 t live))
          (seven (length t.coord.doings) (length t.coord.telling) (length (holders n.disk t)) (f.works t live) (f.telling t live)
          (f.asked t live))

  pub restart_adds : (k a : ℕ) → ((x : Node) → at_place k w.nodes ≡ Some x → FewAt a x) → AddsEach (3 * a + 1) (steps k input.Restart w)
  restart_adds k a few within = step_adds hd (3 * a + 1) k input.Restart w (nodes k) within (λ j n there.
      step_few w.header j (cond (j == k) 0 (3 * a + 1)) input.Restart n
      (restart_few k (3 * a + 1) n (numbers k n there) (ups k n there) w.header j (so j n there)) (λ t live free. (least _, least _)))
    where
      three : (x y : ℕ) → x ≤ a → y ≤ a → (2 * x + y) + 1 ≤ 3 * a + 1
      three x y p q = omega (arith, p, q)

      so : (j : ℕ) (n : Node) → at_place k w.nodes ≡ Some n →
          mass k j ((3 * a + 1) + 1) (restart_outs w.header k (let d = n.disk in d.inc + 1) n.disk) ≤ 3 * a + 1
      so j n there =
          let f = few n there in
          let d = n.disk in
          less_than (mass k j ((3 * a + 1) + 1) (restart_outs w.header k (d.inc + 1) d))
          ((2 * length d.intents + length (uid_set (prepared_actions d.store ++ prepared_actions d.names))) + 1) (3 * a + 1)
          (restart_mass k j ((3 * a + 1) + 1) w.header (d.inc + 1) d (ups k n there).0)
          (three (length d.intents) (length (uid_set (prepared_actions d.store ++ prepared_actions d.names))) f.records f.ready)

  -- ---- deliveries

  -- of a message that leads to so many
  deliver_masses : (c f : ℕ) → ((x : Frame) (m : Message) → at_place f w.frames ≡ Some x → x.message ≡ Some m → (j : ℕ) (n : Node) →
      at_place x.to w.nodes ≡ Some n → (t : Parts) → n.live ≡ Some t →
      mass x.to j (c + 1) (outs_of (taken n.number n.disk t x.from m)) ≤ c) → AddsEach c (deliver f w)
  deliver_masses c f weighs = by (at_place f w.frames) refl
    where
      stays : (a b : ℕ) → a ≤ a + b
      stays a b = omega arith

      carried : (x : Frame) → at_place f w.frames ≡ Some x → (o : Option Message) → x.message ≡ o →
          AddsEach c (steps x.to (input.Frame f x.from o) (change_frame f as_delivered x w))
      carried x there o is within =
          subst (λ a. length (steps x.to (input.Frame f x.from o) v).frames ≤ a + each c (hd.nodes - 1))
          (set_long f (as_delivered x) w.frames)
          (step_adds hd c x.to (input.Frame f x.from o) v (nodes x.to) within (λ j n at.
          step_few w.header j (cond (j == x.to) 0 c) (input.Frame f x.from o) n (least _, least _) (λ t live free. few j n at t live o is)))
        where
          v : World
          v = change_frame f as_delivered x w

          few : (j : ℕ) (n : Node) → at_place x.to w.nodes ≡ Some n → (t : Parts) → n.live ≡ Some t → (o : Option Message) → x.message ≡ o →
              FewTo j (cond (j == x.to) 0 c) (step_up (input.Frame f x.from o) n t)
          few j n at t live None is = (least _, least _)
          few j n at t live (Some m) is = frame_masses x.to c n (numbers x.to n at) (ups x.to n at) j f x.from m t live
              (weighs x m there is j n at t live)

      by : (o : Option Frame) → at_place f w.frames ≡ o → AddsEach c (deliver_frame f w o)
      by None none = λ within. stays (length w.frames) (each c (hd.nodes - 1))
      by (Some x) there = carried x there x.message refl

  deliver_adds : (c f : ℕ) → ((x : Frame) (m : Message) → at_place f w.frames ≡ Some x → x.message ≡ Some m → (k j i : ℕ) →
      own k j i m ≤ c) →
      AddsEach c (deliver f w)
  deliver_adds c f weighs = deliver_masses c f (λ x m there is j n at t live. frame_few x.to c n (numbers x.to n at) (ups x.to n at) j f
      x.from m t live (weighs x m there is x.to j (c + 1)))

  -- of a frame of which this holds
  kind_so : (f : ℕ) (test : FrameKind → Bool) (b : Bool) → frame_test (λ from to what. test what) (at_place f w.frames) ≡ b → (x : Frame)
      (m : Message) → at_place f w.frames ≡ Some x → x.message ≡ Some m → test (frame_kind m) ≡ b
  kind_so f test b is x m there carries = ap (λ (o : Option Message). test (carried_by o)) (sym carries)
      ∙ ap (frame_test (λ from to what. test what)) (sym there) ∙ is

  -- an acknowledgement
  pub acked_adds : (f : ℕ) → frame_test (λ from to what. is_acked what) (at_place f w.frames) ≡ true → AddsEach 1 (deliver f w)
  acked_adds f is = deliver_adds 1 f (λ x m there carries. weighs m (kind_so f is_acked true is x m there carries))
    where
      weighs : (m : Message) → is_acked (frame_kind m) ≡ true → (k j i : ℕ) → own k j i m ≤ 1
      weighs (message.Acked x) is k j i = omega arith
      weighs m is k j i = absurd (cc is)

  -- an answer to a Prepare or a Confirm
  pub prepared_adds : (f : ℕ) → frame_test (λ from to what. is_prepared what) (at_place f w.frames) ≡ true → AddsEach 2 (deliver f w)
  prepared_adds f is = deliver_adds 2 f (λ x m there carries. weighs m (kind_so f is_prepared true is x m there carries))
    where
      weighs : (m : Message) → is_prepared (frame_kind m) ≡ true → (k j i : ℕ) → own k j i m ≤ 2
      weighs (message.Prepared x) is k j i = omega arith
      weighs (message.Confirmed x) is k j i = omega arith
      weighs m is k j i = absurd (cc is)

  -- any other but a hello
  pub other_adds : (f : ℕ) → frame_test (λ from to what. is_hello what) (at_place f w.frames) ≡ false → AddsEach 3 (deliver f w)
  other_adds f is = deliver_adds 3 f (λ x m there carries. weighs m (kind_so f is_hello false is x m there carries))
    where
      flag : (b : Bool) → cond b 1 0 ≤ 3
      flag true = omega arith
      flag false = omega arith

      weighs : (m : Message) → is_hello (frame_kind m) ≡ false → (k j i : ℕ) → own k j i m ≤ 3
      weighs (message.Hello x) is k j i = absurd (cc is)
      weighs (message.Told x) is k j i = flag x.ack
      weighs m is k j i = omega arith

  -- a hello: as many as the node has something of
  pub hello_adds : (f c : ℕ) → frame_test (λ from to what. is_hello what) (at_place f w.frames) ≡ true → ((k : ℕ) (n : Node) (t : Parts) →
      at_place k w.nodes ≡ Some n → n.live ≡ Some t → length (holders n.disk t) ≤ c) → AddsEach c (deliver f w)
  hello_adds f c is asks = deliver_masses c f (λ x m there carries j n at t live. weighs x j n t m
      (kind_so f is_hello true is x m there carries) (asks x.to n t at live))
    where
      less : (a b : ℕ) → a ≤ b → b ≤ c → a ≤ c
      less a b x y = omega (arith, x, y)

      weighs : (x : Frame) (j : ℕ) (n : Node) (t : Parts) (m : Message) → is_hello (frame_kind m) ≡ true → length (holders n.disk t) ≤ c →
          mass x.to j (c + 1) (outs_of (taken n.number n.disk t x.from m)) ≤ c
      weighs x j n t (message.Hello h) is le =
          less (mass x.to j (c + 1) (outs_of (taken n.number n.disk t x.from (message.Hello h)))) (length (holders n.disk t))
          (hello_mass x.to j (c + 1) x.from n.number n.disk t h.node h.inc) le
      weighs x j n t m is le = absurd (cc is)
