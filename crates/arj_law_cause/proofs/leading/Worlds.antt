-- How many frames there are in a world, with what they and what actions at work still lead to: a delivery of an open frame makes it no
-- more, so all frames of a settle are counted before it; and a tick only as much as it sends.
use Rattle.arj_law_parts.proofs.Words
use Words.{◌≡◌, ◌≤◌, ◌<◌, ◌∙◌, ◌+◌, ◌-◌, ◌*◌, ◌==◌, ◌&&◌, ◌||◌, not, ℕ, zero, suc, Bool, true, false, cond, List, [], ◌∷◌, ◌++◌, map}
use Words.{length}
use Words.{refl, sym, ap, subst, arith, nat_tests, nat_lt, nat_le, slice_get, slice_set, take, Option, Some, None, and_parts}
use Words.{AllByRecursion}
use Words.{Body, Coord, Disk, Do, Effect, Header, Input, Intent, Label, Message, Node, Parts, Say, Send, Step, Stop, World, Arm, Frame}
use Words.{Look}
use Words.{Prepare, Commit, Abort, PutInc, PutIntent, RemoveIntent}
use Words.{Handled, Took, Void, Ran, taken, taken_took, handled_step, node_did, with_coord, whole, again_all, tick_outs, restart_outs}
use Words.{parts_in}
use Words.{step, step_down, step_of, step_unless, step_up, refusal, at_place, set_place, at_number, armed, disarmed, cut, count_works}
use Words.{worked}
use Words.{done_step, halted_at, halted_outs, most_frames, put, sends, new_frame, step_node, step_with, steps, is_open_frame, as_delivered}
use Words.{change_frame, deliver, deliver_frame, lowest, lowest_from, settle, settle_for, tick_up, tick_all, is_up_at, is_some}
use Words.body
use Words.input
use Rattle.arj_law_parts.proofs.moves.Rounds.{AreLooks, LooksAlone, taken_looks}
use Rattle.arj_law_cause.proofs.leading.Loads as loads
use loads.{inside, lead, left_all, sum_both, sum_of, sum_set}
use Rattle.arj_law_cause.proofs.leading.Takes as takes
use takes.{SpendsHandled}
use Rattle.arj_law_cause.proofs.sending.Ordered.{AllPut, UpCoord, UpNode, message_up}

-- ---- a world

-- With `n` nodes, where a hello leads to `hello`, and one that a node sends to itself to `own`.
module _ (n hello own : ℕ) (least_own : hello ≤ own) where
  abbrev pub lead_of : Option Message → ℕ
  lead_of None = 0
  lead_of (Some m) = lead n hello m

  -- a frame to a node, and what it leads to while it is open
  abbrev pub weight : Frame → ℕ
  weight f = cond (inside n f.to) (suc (cond (is_open_frame f) (lead_of f.message) 0)) 0

  -- what is left to do at a node
  abbrev pub left_up : Option Parts → ℕ
  left_up None = 0
  left_up (Some t) = left_all n t.coord.doings

  abbrev pub left_node : Node → ℕ
  left_node x = left_up x.live

  -- all frames, with all that they and what is at work lead to
  abbrev pub all_of : World → ℕ
  all_of w = sum_of weight w.frames + sum_of left_node w.nodes

  least : (a : ℕ) → 0 ≤ a
  least a = omega arith

  itself : (a : ℕ) → a ≤ a
  itself a = omega arith

  -- ---- frames

  lead_less : (m : Message) → (z : ℕ) → hello ≤ z → lead n hello m ≤ lead n z m
  lead_less (Words.message.Hello m) z le = le
  lead_less (Words.message.Told m) z le = itself (cond m.ack (suc n) 0)
  lead_less (Words.message.Acked m) z le = itself n
  lead_less (Words.message.Query m) z le = itself (suc (suc n))
  lead_less (Words.message.Bind m) z le = omega arith
  lead_less (Words.message.Load m) z le = omega arith
  lead_less (Words.message.Activate m) z le = omega arith
  lead_less (Words.message.RecordMsg m) z le = omega arith
  lead_less (Words.message.Invoke m) z le = omega arith
  lead_less (Words.message.Vote m) z le = omega arith
  lead_less (Words.message.Prepare m) z le = omega arith
  lead_less (Words.message.Confirm m) z le = omega arith
  lead_less (Words.message.Bound m) z le = omega arith
  lead_less (Words.message.Loaded m) z le = omega arith
  lead_less (Words.message.Activated m) z le = omega arith
  lead_less (Words.message.Recorded m) z le = omega arith
  lead_less (Words.message.Invoked m) z le = omega arith
  lead_less (Words.message.Voted m) z le = omega arith
  lead_less (Words.message.Prepared m) z le = omega arith
  lead_less (Words.message.Confirmed m) z le = omega arith

  -- what is sent becomes frames
  sent_less : (k : ℕ) (outs : List Effect) → sum_of weight (sends k outs) ≤ loads.load n k hello own outs
  sent_less k [] = omega arith
  sent_less k (Send to m ∷ es) = both (weight (new_frame k to (Some m))) (loads.cost n k hello own to m) (sum_of weight (sends k es))
      (loads.load n k hello own es) (one (inside n to) (to == k)) (sent_less k es)
    where
      both : (a b c e : ℕ) → a ≤ b → c ≤ e → a + c ≤ b + e
      both a b c e x y = omega (arith, x, y)

      more : (a b : ℕ) → a ≤ b → suc a ≤ suc b
      more a b le = omega (arith, le)

      one : (b c : Bool) → cond b (suc (lead n hello m)) 0 ≤ cond b (suc (lead n (cond c own hello) m)) 0
      one true true = more (lead n hello m) (lead n own m) (lead_less m own least_own)
      one true false = more (lead n hello m) (lead n hello m) (itself (lead n hello m))
      one false c = least (cond false (suc (lead n (cond c own hello) m)) 0)
  sent_less k (Say b ∷ es) = sent_less k es
  sent_less k (Do w ∷ es) = sent_less k es

  take_less : (i : ℕ) (fs : List Frame) → sum_of weight (take i fs) ≤ sum_of weight fs
  take_less zero [] = omega arith
  take_less zero (f ∷ fs) = least (sum_of weight (f ∷ fs))
  take_less (suc i) [] = omega arith
  take_less (suc i) (f ∷ fs) = more (weight f) (sum_of weight (take i fs)) (sum_of weight fs) (take_less i fs)
    where
      more : (a b c : ℕ) → b ≤ c → a + b ≤ a + c
      more a b c le = omega (arith, le)

  put_less : (k : ℕ) (outs : List Effect) (w : World) →
      sum_of weight (put k outs w).frames ≤ sum_of weight w.frames + loads.load n k hello own outs
  put_less k outs w = sum (sum_of weight (put k outs w).frames) (sum_of weight w.frames)
      (sum_of weight (take (most_frames - length w.frames) (sends k outs))) (sum_of weight (sends k outs)) (loads.load n k hello own outs)
      (sum_both weight w.frames (take (most_frames - length w.frames) (sends k outs)))
      (take_less (most_frames - length w.frames) (sends k outs)) (sent_less k outs)
    where
      sum : (a f t s o : ℕ) → a ≡ f + t → t ≤ s → s ≤ o → a ≤ f + o
      sum a f t s o is x y = omega (arith, is, x, y)

  cut_less : (k j : ℕ) (how : Stop) (outs : List Effect) (d : Disk) →
      loads.load n k hello own (cut j how outs d).outs ≤ loads.load n k hello own outs
  cut_less k j how [] d = omega arith
  cut_less k zero how (Do w ∷ es) d = least (loads.load n k hello own es)
  cut_less k (suc j) how (Do w ∷ es) d = cut_less k j how es (worked w d)
  cut_less k zero how (Say b ∷ es) d = cut_less k zero how es d
  cut_less k (suc j) how (Say b ∷ es) d = cut_less k (suc j) how es d
  cut_less k zero how (Send to m ∷ es) d = more (loads.cost n k hello own to m) (loads.load n k hello own (cut zero how es d).outs)
      (loads.load n k hello own es) (cut_less k zero how es d)
    where
      more : (a b c : ℕ) → b ≤ c → a + b ≤ a + c
      more a b c le = omega (arith, le)
  cut_less k (suc j) how (Send to m ∷ es) d = more (loads.cost n k hello own to m) (loads.load n k hello own (cut (suc j) how es d).outs)
      (loads.load n k hello own es) (cut_less k (suc j) how es d)
    where
      more : (a b c : ℕ) → b ≤ c → a + b ≤ a + c
      more a b c le = omega (arith, le)

  -- ---- a step

  -- it leads to so much at most, beside what there was to do at the node, also where it is stopped
  pub record Spent (k a : ℕ) (x : Node) (s : Step) : Type 0 where
    pub through : loads.load n k hello own s.outs + left_node s.after ≤ a + left_node x
    pub halted : loads.load n k hello own s.halting ≤ a + left_node x

  same_node : (k i : ℕ) (x y : Node) (w : World) → at_place k w.nodes ≡ Some x → k ≡ suc i →
      sum_of left_node (set_place k y w.nodes) + left_node x ≡ sum_of left_node w.nodes + left_node y
  same_node k i x y w there is = subst (λ j. sum_of left_node (set_place j y w.nodes) + left_node x ≡ sum_of left_node w.nodes +
      left_node y)
      (sym is) (sum_set left_node i x y w.nodes (ap (λ j. at_place j w.nodes) (sym is) ∙ there))

  node_set : (k : ℕ) (x y : Node) (w : World) → at_place k w.nodes ≡ Some x →
      sum_of left_node (set_place k y w.nodes) + left_node x ≡ sum_of left_node w.nodes + left_node y
  node_set zero x y w there = let no_way : ◌≡◌ {A = Option Node} None (Some x) = there in absurd (cc no_way)
  node_set (suc i) x y w there = same_node (suc i) i x y w there refl

  pub steps_more : (k a : ℕ) (i : Input) (w : World) → ((x : Node) → at_place k w.nodes ≡ Some x → Spent k a x (step w.header x i)) →
      all_of (steps k i w) ≤ all_of w + a
  steps_more k a i w spent = node (at_place k w.nodes) refl
    where
      stays : (b c : ℕ) → b ≤ b + c
      stays b c = omega arith

      sum : (f g l m p q o x y : ℕ) → f ≤ g + o → l + x ≡ m + y → o + y ≤ a + x → f + l ≤ (g + m) + a
      sum f g l m p q o x y one two three = omega (arith, one, two, three)

      done : (x : Node) → at_place k w.nodes ≡ Some x → (s : Step) → Spent k a x s → all_of (done_step k s w) ≤ all_of w + a
      done x there s its = sum (sum_of weight (done_step k s w).frames) (sum_of weight w.frames) (sum_of left_node (done_step k s w).nodes)
          (sum_of left_node w.nodes) 0 0 (loads.load n k hello own s.outs) (left_node x) (left_node s.after) (put_less k s.outs w)
          (node_set k x s.after w there) its.through

      down : Node → Disk → Node
      down x d = record x { disk = d; live = None }

      halted : (x : Node) → at_place k w.nodes ≡ Some x → (s : Step) → Spent k a x s → (j : ℕ) (arm : Arm) →
          all_of (halted_at k x (cut j arm.how s.halting x.disk) (disarmed k w)) ≤ all_of w + a
      halted x there s its j arm =
          let q = cut j arm.how s.halting x.disk in
          last (sum_of weight (halted_at k x q (disarmed k w)).frames) (sum_of weight w.frames)
          (sum_of left_node (halted_at k x q (disarmed k w)).nodes) (sum_of left_node w.nodes) (loads.load n k hello own (halted_outs k q))
          (loads.load n k hello own q.outs) (loads.load n k hello own s.halting) (left_node x) (put_less k (halted_outs k q) w)
          (node_set k x (down x q.disk) w there) (loads.load_both n k hello own q.outs (Say (body.Halted k) ∷ []))
          (cut_less k j arm.how s.halting x.disk) its.halted
        where
          last : (f g l m o p h x : ℕ) → f ≤ g + o → l + x ≡ m + 0 → o ≡ p + 0 → p ≤ h → h ≤ a + x → f + l ≤ (g + m) + a
          last f g l m o p h x one two three four five = omega (arith, one, two, three, four, five)

      with_arm : (x : Node) → at_place k w.nodes ≡ Some x → (s : Step) → Spent k a x s → (arm : Arm) (b : Bool) → all_of (cond b
          (done_step k s (armed k (record arm { works = arm.works - count_works s.halting }) w))
          (halted_at k x (cut (arm.works - 1) arm.how s.halting x.disk) (disarmed k w))) ≤ all_of w + a
      with_arm x there s its arm true = done x there s its
      with_arm x there s its arm false = halted x there s its (arm.works - 1) arm

      arms : (x : Node) → at_place k w.nodes ≡ Some x → (s : Step) → Spent k a x s → (o : Option Arm) →
          all_of (step_with k x s w o) ≤ all_of w + a
      arms x there s its None = done x there s its
      arms x there s its (Some arm) = with_arm x there s its arm (nat_lt (count_works s.halting) arm.works)

      node : (o : Option Node) → at_place k w.nodes ≡ o → all_of (step_node k i w o) ≤ all_of w + a
      node None there = stays (all_of w) a
      node (Some x) there = arms x there (step w.header x i) (spent x there) (at_number k w.arms)

  -- ---- the step of a node

  pub idle_spent : (k a : ℕ) (x : Node) → Spent k a x (input.does_nothing x)
  idle_spent k a x = record { through = above a (left_node x); halted = least (a + left_node x) }
    where
      above : (a b : ℕ) → 0 + b ≤ a + b
      above a b = omega arith

  pub step_spent : (hd : Header) (k a : ℕ) (i : Input) (x : Node) → Spent k a x (step_down hd i x) →
      ((t : Parts) → x.live ≡ Some t → refusal hd i x ≡ None → Spent k a x (step_up i x t)) → Spent k a x (step hd x i)
  step_spent hd k a i x down up = by (refusal hd i x) refl
    where
      live : (o : Option Parts) → x.live ≡ o → refusal hd i x ≡ None → Spent k a x (step_of hd i x o)
      live None is free = down
      live (Some t) is free = up t is free

      above : (b : ℕ) → 0 + b ≤ a + b
      above b = omega arith

      by : (r : Option ℕ) → refusal hd i x ≡ r → Spent k a x (step_unless hd i x r)
      by (Some c) is = record { through = above (left_node x); halted = least (a + left_node x) }
      by None is = live x.live refl is

  module _ (k : ℕ) (x : Node) (number : x.number ≡ k) (up : UpNode x) (here : inside n k ≡ true) where
    -- a whole step of what leads to so much
    pub whole_spent : (before : List Effect) (v : Parts) (outs : List Effect) (a : ℕ) → loads.load n k hello own before ≡ 0 →
        UpCoord v.coord →
        AllPut outs → loads.load n k hello own outs + left_all n v.coord.doings ≤ a + left_node x → a + left_node x < own →
        Spent k a x (node_did x before v outs)
    whole_spent before v outs a none so puts le few = record {
      through = subst (λ z. loads.load n k hello own (before ++ (whole z v outs x.disk).outs)
          + left_all n (let r = whole z v outs x.disk in let h = r.here in let p = h.parts in
          p.coord).doings ≤ a + left_node x) (sym number)
          (sum (loads.load n k hello own (before ++ (whole k v outs x.disk).outs)) (loads.load n k hello own before)
          (loads.load n k hello own (whole k v outs x.disk).outs)
          (left_all n (let r = whole k v outs x.disk in let h = r.here in let p = h.parts in p.coord).doings)
          (loads.load n k hello own outs + left_all n v.coord.doings) (a + left_node x)
          (loads.load_both n k hello own before (whole k v outs x.disk).outs) none all le);
      halted = subst (λ z. loads.load n k hello own (before ++ (whole z v outs x.disk).outs) ≤ a + left_node x) (sym number)
          (front (loads.load n k hello own (before ++ (whole k v outs x.disk).outs)) (loads.load n k hello own before)
          (loads.load n k hello own (whole k v outs x.disk).outs)
          (left_all n (let r = whole k v outs x.disk in let h = r.here in let p = h.parts in p.coord).doings)
          (loads.load n k hello own outs + left_all n v.coord.doings) (a + left_node x)
          (loads.load_both n k hello own before (whole k v outs x.disk).outs) none all le);
    }
      where
        below : (b c : ℕ) → b ≤ c → c < own → b < own
        below b c le few = omega (arith, le, few)

        all : loads.load n k hello own (whole k v outs x.disk).outs
            + left_all n (let r = whole k v outs x.disk in let h = r.here in let p = h.parts in p.coord).doings
            ≤ loads.load n k hello own outs + left_all n v.coord.doings
        all = takes.whole_spends n k hello own here v outs x.disk so up.0 puts
            (below (loads.load n k hello own outs + left_all n v.coord.doings) (a + left_node x) le few)

        sum : (e b c l o q : ℕ) → e ≡ b + c → b ≡ 0 → c + l ≤ o → o ≤ q → e + l ≤ q
        sum e b c l o q is none one two = omega (arith, is, none, one, two)

        front : (e b c l o q : ℕ) → e ≡ b + c → b ≡ 0 → c + l ≤ o → o ≤ q → e ≤ q
        front e b c l o q is none one two = omega (arith, is, none, one, two)

    looks_load : (es : List Effect) → AreLooks es → loads.load n k hello own es ≡ 0
    looks_load [] looks = refl
    looks_load (Do Look ∷ es) looks = looks_load es looks
    looks_load (Do (PutInc i) ∷ es) looks = absurd (cc looks)
    looks_load (Do (Prepare r u s) ∷ es) looks = absurd (cc looks)
    looks_load (Do (Commit r u) ∷ es) looks = absurd (cc looks)
    looks_load (Do (Abort r u) ∷ es) looks = absurd (cc looks)
    looks_load (Do (PutIntent u i) ∷ es) looks = absurd (cc looks)
    looks_load (Do (RemoveIntent u) ∷ es) looks = absurd (cc looks)
    looks_load (Say b ∷ es) looks = absurd (cc looks)
    looks_load (Send to m ∷ es) looks = absurd (cc looks)

    void_spent : (f a : ℕ) (outs : List Effect) → loads.load n k hello own outs ≡ 0 → Spent k a x (input.void_step f x outs)
    void_spent f a outs none = record {
      through = sum (loads.load n k hello own (outs ++ Say (body.Void f) ∷ [])) (loads.load n k hello own outs) (left_node x)
          (loads.load_both n k hello own outs (Say (body.Void f) ∷ [])) none;
      halted = low (loads.load n k hello own outs) (a + left_node x) none;
    }
      where
        sum : (e b l : ℕ) → e ≡ b + 0 → b ≡ 0 → e + l ≤ a + l
        sum e b l is none = omega (arith, is, none)

        low : (b c : ℕ) → b ≡ 0 → b ≤ c
        low b c none = omega (arith, none)

    -- a message
    message_spent : (f from : ℕ) (m : Message) (t : Parts) (a : ℕ) → x.live ≡ Some t →
        ((h : _) → m ≡ Words.message.Hello h → loads.times (suc (suc (suc n))) (length (Words.holders x.disk t)) ≤ hello) →
        lead n hello m ≤ a → a + left_node x < own → Spent k a x (step_up (input.Frame f from (Some m)) x t)
    message_spent f from m t a live few less room = by (taken x.number x.disk t from m) refl
        (takes.taken_spends n k hello own from x.number x.disk t (up.1 t live) up.0 m hello few)
      where
        same : left_all n t.coord.doings ≡ left_node x
        same = ap left_up (sym live)

        more : (b c y z : ℕ) → b + c ≤ lead n hello m + y → y ≡ z → b + c ≤ a + z
        more b c y z le is = raise (b + c) (lead n hello m) y z le is less
          where
            raise : (b l y z : ℕ) → b ≤ l + y → y ≡ z → l ≤ a → b ≤ a + z
            raise b l y z one is two = omega (arith, one, is, two)

        by : (r : Handled) → taken x.number x.disk t from m ≡ r → SpendsHandled n k hello own (lead n hello m) t r →
            Spent k a x (handled_step f x r)
        by (Void outs) is le = void_spent f a outs (looks_load outs (subst LooksAlone is (taken_looks x.number x.disk t from m)))
        by (Took v outs) is le =
            let so = message_up x.number x.disk t v from m outs (taken_took x.number x.disk t v from m outs is) (up.1 t live) in
            whole_spent (Say (body.Got f) ∷ []) v outs a refl so.0 so.1
            (more (loads.load n k hello own outs) (left_all n v.coord.doings) (left_all n t.coord.doings) (left_node x) le same) room

    pub frame_spent : (hd : Header) (f from : ℕ) (o : Option Message) (a : ℕ) → ((t : Parts) (m : Message) (h : _) → x.live ≡ Some t →
        o ≡ Some m → m ≡ Words.message.Hello h → loads.times (suc (suc (suc n))) (length (Words.holders x.disk t)) ≤ hello) →
        lead_of o ≤ a → a + left_node x < own → Spent k a x (step hd x (input.Frame f from o))
    frame_spent hd f from o a few less room = step_spent hd k a (input.Frame f from o) x (void_spent f a [] refl) (λ t live free.
        by o refl t live less)
      where
        by : (q : Option Message) → o ≡ q → (t : Parts) → x.live ≡ Some t → lead_of q ≤ a → Spent k a x (step_up (input.Frame f from q) x t)
        by None is t live le = void_spent f a [] refl
        by (Some m) is t live le = message_spent f from m t a live (λ h e. few t m h live is e) le room

  -- ---- deliveries

  -- a frame that is delivered leads to what it did while it was open
  delivered_less : (f : ℕ) (y : Frame) (w : World) → at_place f w.frames ≡ Some y → inside n y.to ≡ true → is_open_frame y ≡ true →
      all_of (change_frame f as_delivered y w) + lead_of y.message ≡ all_of w
  delivered_less zero y w there node open_now = let no_way : ◌≡◌ {A = Option Frame} None (Some y) = there in absurd (cc no_way)
  delivered_less (suc i) y w there node open_now =
      sum (sum_of weight (slice_set w.frames i (as_delivered y))) (sum_of weight w.frames) (weight y) (weight (as_delivered y))
      (lead_of y.message) (sum_of left_node w.nodes) (sum_set weight i y (as_delivered y) w.frames there)
      ((λ j. cond (node j) (suc (cond (is_open_frame y) (lead_of y.message) 0)) 0) ∙ (λ j. suc (cond (open_now j) (lead_of y.message) 0)))
      (λ j. cond (node j) 1 0)
    where
      sum : (a b c e l m : ℕ) → a + c ≡ b + e → c ≡ suc l → e ≡ 1 → (a + m) + l ≡ b + m
      sum a b c e l m is one two = omega (arith, is, one, two)

  -- nor does one to a node that isn't there
  pub lost_less : (f : ℕ) (y : Frame) (w : World) → at_place f w.frames ≡ Some y → at_place y.to w.nodes ≡ None →
      all_of (deliver f w) ≤ all_of w
  lost_less zero y w there none = let no_way : ◌≡◌ {A = Option Frame} None (Some y) = there in absurd (cc no_way)
  lost_less (suc i) y w there none = subst (λ (v : World). all_of v ≤ all_of w) (sym (same ∙ gone))
      (sum (sum_of weight (slice_set w.frames i (as_delivered y))) (sum_of weight w.frames) (weight y) (weight (as_delivered y))
      (sum_of left_node w.nodes) (sum_set weight i y (as_delivered y) w.frames there) (one (inside n y.to)))
    where
      v : World
      v = change_frame (suc i) as_delivered y w

      same : deliver (suc i) w ≡ steps y.to (input.Frame (suc i) y.from y.message) v
      same = ap (deliver_frame (suc i) w) there

      gone : steps y.to (input.Frame (suc i) y.from y.message) v ≡ v
      gone = ap (step_node y.to (input.Frame (suc i) y.from y.message) v) none

      more : (b : ℕ) → 1 ≤ suc b
      more b = omega arith

      one : (b : Bool) → cond b 1 0 ≤ cond b (suc (cond (is_open_frame y) (lead_of y.message) 0)) 0
      one true = more (cond (is_open_frame y) (lead_of y.message) 0)
      one false = omega arith

      sum : (a b c e m : ℕ) → a + c ≡ b + e → e ≤ c → a + m ≤ b + m
      sum a b c e m is le = omega (arith, is, le)

  pub deliver_less : (f : ℕ) (y : Frame) (w : World) → at_place f w.frames ≡ Some y → inside n y.to ≡ true → is_open_frame y ≡ true →
      ((x : Node) → at_place y.to w.nodes ≡ Some x → Spent y.to (lead_of y.message) x (step w.header x (input.Frame f y.from y.message))) →
      all_of (deliver f w) ≤ all_of w
  deliver_less f y w there node open_now spent =
      subst (λ (o : Option Frame). all_of (deliver_frame f w o) ≤ all_of w) (sym there)
      (sum (all_of (steps y.to (input.Frame f y.from y.message) v)) (all_of v) (lead_of y.message) (all_of w)
      (steps_more y.to (lead_of y.message) (input.Frame f y.from y.message) v spent) (delivered_less f y w there node open_now))
    where
      v : World
      v = change_frame f as_delivered y w

      sum : (a b l c : ℕ) → a ≤ b + l → b + l ≡ c → a ≤ c
      sum a b l c le is = omega (arith, le, is)

-- ---- which nodes there are

slice_there : {A : Type 0} (i j : ℕ) (y x : A) (xs : List A) → slice_get (slice_set xs i y) j ≡ Some x → (z : A) × (slice_get xs j ≡ Some z)
slice_there {A} i j y x [] is = let no_way : ◌≡◌ {A = Option A} None (Some x) = is in absurd (cc no_way)
slice_there zero zero y x (w ∷ ws) is = (w, refl)
slice_there zero (suc j) y x (w ∷ ws) is = (x, is)
slice_there (suc i) zero y x (w ∷ ws) is = (w, refl)
slice_there (suc i) (suc j) y x (w ∷ ws) is = slice_there i j y x ws is

set_there : {A : Type 0} (i j : ℕ) (y x : A) (xs : List A) → at_place j (set_place i y xs) ≡ Some x → (z : A) × (at_place j xs ≡ Some z)
set_there {A} i zero y x xs is = let no_way : ◌≡◌ {A = Option A} None (Some x) = is in absurd (cc no_way)
set_there zero (suc j) y x xs is = (x, is)
set_there (suc i) (suc j) y x xs is = slice_there i j y x xs is

-- a node that is there behind a step was there before it
pub steps_there : (k : ℕ) (i : Input) (w : World) (j : ℕ) (x : Node) → at_place j (steps k i w).nodes ≡ Some x →
    (y : Node) × (at_place j w.nodes ≡ Some y)
steps_there k i w j x is = by (at_place k w.nodes) is
  where
    Found : Type 0
    Found = (y : Node) × (at_place j w.nodes ≡ Some y)

    with_arm : (n : Node) (s : Step) (a : Arm) (b : Bool) → at_place j (cond b
        (done_step k s (armed k (record a { works = a.works - count_works s.halting }) w))
        (halted_at k n (cut (a.works - 1) a.how s.halting n.disk) (disarmed k w))).nodes ≡ Some x → Found
    with_arm n s a true is = set_there k j s.after x w.nodes is
    with_arm n s a false is =
        set_there k j (record n { disk = (cut (a.works - 1) a.how s.halting n.disk).disk; live = None }) x w.nodes is

    arms : (n : Node) (s : Step) (o : Option Arm) → at_place j (step_with k n s w o).nodes ≡ Some x → Found
    arms n s None is = set_there k j s.after x w.nodes is
    arms n s (Some a) is = with_arm n s a (nat_lt (count_works s.halting) a.works) is

    by : (o : Option Node) → at_place j (step_node k i w o).nodes ≡ Some x → Found
    by None is = (x, is)
    by (Some n) is = arms n (step w.header n i) (at_number k w.arms) is

pub deliver_there : (f : ℕ) (w : World) (j : ℕ) (x : Node) → at_place j (deliver f w).nodes ≡ Some x →
    (y : Node) × (at_place j w.nodes ≡ Some y)
deliver_there f w j x is = by (at_place f w.frames) is
  where
    by : (o : Option Frame) → at_place j (deliver_frame f w o).nodes ≡ Some x → (y : Node) × (at_place j w.nodes ≡ Some y)
    by None is = (x, is)
    by (Some g) is = steps_there g.to (input.Frame f g.from g.message) (change_frame f as_delivered g w) j x is

-- ---- open frames

-- the frame that is delivered next is open
pub open_from : (j i : ℕ) (fs : List Frame) → lowest_from j fs ≡ Some i →
    (d : ℕ) × (i ≡ j + d) × (f : Frame) × (slice_get fs d ≡ Some f) × (is_open_frame f ≡ true)
open_from j i [] is = let no_way : ◌≡◌ {A = Option ℕ} None (Some i) = is in absurd (cc no_way)
open_from j i (f ∷ fs) is = by (is_open_frame f) refl is (open_from (j + 1) i fs)
  where
    Found : Type 0
    Found = (d : ℕ) × (i ≡ j + d) × (g : Frame) × (slice_get (f ∷ fs) d ≡ Some g) × (is_open_frame g ≡ true)

    first : (a b : ℕ) → a ≡ b → b ≡ a + 0
    first a b is = omega (arith, is)

    next : (d : ℕ) → i ≡ (j + 1) + d → i ≡ j + suc d
    next d is = omega (arith, is)

    by : (b : Bool) → is_open_frame f ≡ b → cond b (Some j) (lowest_from (j + 1) fs) ≡ Some i →
        (lowest_from (j + 1) fs ≡ Some i →
        (d : ℕ) × (i ≡ (j + 1) + d) × (g : Frame) × (slice_get fs d ≡ Some g) × (is_open_frame g ≡ true)) → Found
    by true now is rest = let same : j ≡ i = (let s : ◌≡◌ {A = Option ℕ} (Some j) (Some i) = is in cc s) in
        (zero, first j i same, f, refl, now)
    by false off is rest = let r = rest is in (suc r.0, next r.0 r.1, r.2, r.3, r.4)

pub open_lowest : (w : World) (i : ℕ) → lowest w ≡ Some i → (f : Frame) × (at_place i w.frames ≡ Some f) × (is_open_frame f ≡ true)
open_lowest w i is = by w.full is
  where
    by : (b : Bool) → cond b None (lowest_from 1 w.frames) ≡ Some i → (f : Frame) × (at_place i w.frames ≡ Some f) ×
        (is_open_frame f ≡ true)
    by true is = let no_way : ◌≡◌ {A = Option ℕ} None (Some i) = is in absurd (cc no_way)
    by false is =
        let r = open_from 1 i w.frames is in
        (r.2, subst (λ j. at_place j w.frames ≡ Some r.2) (sym (r.1 ∙ next r.0)) r.3, r.4)
      where
        next : (d : ℕ) → 1 + d ≡ suc d
        next d = omega arith
