-- A settle adds no more frames than open frames and what is at work lead to before it; and a quiesce so many more as ticks send, with what
-- these lead to.
use Rattle.arj_law_parts.proofs.Words
use Words.{◌≡◌, ◌≤◌, ◌<◌, ◌∙◌, ◌+◌, ◌&&◌, ◌||◌, not, ℕ, zero, suc, Bool, true, false, cond, List, [], ◌∷◌, ◌++◌, map}
use Words.{length}
use Words.{refl, sym, ap, subst, arith, slice_get, Option, Some, None, and_parts, list_all, AllByRecursion}
use Words.{Body, Coord, Disk, Doing, Idle, Calling, Committing, Now, Effect, Header, Intent, Machine, Voting, Preparing}
use Words.{Confirming, Node, Parts, Uid, World, Frame, Seen, see, again_all, again_now, at_place, deliver, holders}
use Words.{is_open_frame}
use Words.{is_up_at, lowest, most_frames, node_numbers, query_about, settle, settle_for, step, steps, tell_all, tick_all}
use Words.{tick_outs}
use Words.{tick_up, tolds_again, with_coord, counted, Arm}
use Words.body
use Words.ending
use Words.input
use Words.message
use Rattle.arj_law_parts.proofs.coordinator.Walks.{again_keeps}
use Rattle.arj_law_parts.proofs.moves.Happens.{deliver_holds, keeps_asked, steps_hold}
use Rattle.arj_law_parts.specs.moves.Keeps.{Holds, KeepsAsked}
use Rattle.arj_law_runs.proofs.Terms.{acts}
use Rattle.arj_law_runs.proofs.resting.Quiesces.{asked_both}
use Rattle.arj_law_runs.specs.addresses.Addresses.{IsNode}
use Rattle.arj_law_cause.proofs.follow.lines.Begun.{acts_same, begins_none}
use Rattle.arj_law_cause.proofs.follow.lines.Rising.{IsRising}
use Rattle.arj_law_cause.proofs.follow.lines.Saying.{Adds}
use Rattle.arj_law_cause.proofs.follow.lines.Several.{AllStand, deliver_stands, stands, ticks_stand}
use Rattle.arj_law_cause.proofs.leading.Loads as loads
use loads.{all_told, inside, lead, left_all, sum_of, times}
use Rattle.arj_law_cause.proofs.leading.Spends as spends
use Rattle.arj_law_cause.proofs.leading.Worlds as worlds
use worlds.{Spent, deliver_there, open_lowest, steps_there}
use Rattle.arj_law_cause.proofs.sending.Begun.{FewAt, Known, few_at, known_kept}
use Rattle.arj_law_cause.proofs.sending.Ordered.{AllUp, UpCoord, UpNode, UpRecords, again_up, ordered_keep, tick_up as puts_tick}
use Rattle.arj_law_cause.proofs.sending.Ticks.{all_rise}

-- ---- what a tick leads to

-- With so many nodes, where so many actions are at work, have records, or are asked about.
abbrev pub tick_cost : ℕ → ℕ → ℕ
tick_cost n a = (times (2 + times 2 n) a + times (all_told n) a) + times (suc (suc (suc n))) a

module _ (n k hello own : ℕ) where
  abbrev load : List Effect → ℕ
  load es = loads.load n k hello own es

  again_load : (ds : List Doing) (c : Coord) → AllByRecursion (λ (d : Doing). IsRising d.now) ds →
      load (again_all ds c).outs ≤ times (2 + times 2 n) (length ds)
  again_load [] c all = omega arith
  again_load (d ∷ ds) c all =
      let t = again_now c d.now in
      both (load (t.outs ++ (again_all ds t.part).outs)) (load t.outs) (load (again_all ds t.part).outs) (times 2 n)
      (times (2 + times 2 n) (length ds)) (loads.load_both n k hello own t.outs (again_all ds t.part).outs) (now d.now all.0)
      (again_load ds t.part all.1)
    where
      both : (a b e x y : ℕ) → a ≡ b + e → b ≤ 2 + x → e ≤ y → a ≤ (2 + x) + y
      both a b e x y is one rest = omega (arith, is, one, rest)

      two : (a x : ℕ) → a ≤ 2 → a ≤ 2 + x
      two a x le = omega (arith, le)

      most : (m : Machine) → spends.asked n k hello own m ≤ 2 + times 2 n
      most (Voting p left) = more (times 2 n)
        where
          more : (a : ℕ) → a ≤ 2 + a
          more a = omega arith
      most (Preparing p left) = more (times 2 n)
        where
          more : (a : ℕ) → a ≤ 2 + a
          more a = omega arith
      most (Confirming p) = two 2 (times 2 n) (omega arith)

      less : (a b c : ℕ) → a ≤ b → b ≤ c → a ≤ c
      less a b c x y = omega (arith, x, y)

      now : (x : Now) → IsRising x → load (again_now c x).outs ≤ 2 + times 2 n
      now Idle up = two 0 (times 2 n) (omega arith)
      now (Calling s) up = two (load (again_now c (Calling s)).outs) (times 2 n) (spends.step_load n k hello own s c)
      now (Committing m) up = less (load (again_now c (Committing m)).outs) (spends.asked n k hello own m) (2 + times 2 n)
          (spends.machine_load n k hello own m c up.0) (most m)

  pub tolds_load : (telling : List (Uid × Intent)) → UpRecords telling → load (tolds_again telling) ≤ times (all_told n) (length telling)
  tolds_load [] all = omega arith
  tolds_load (e ∷ es) all =
      let here = tell_all e.1.root true ((e.0, ending.Commit) ∷ []) e.1.nodes in
      both (load (here ++ tolds_again es)) (load here) (load (tolds_again es)) (all_told n) (times (all_told n) (length es))
      (loads.load_both n k hello own here (tolds_again es))
      (loads.all_in n k hello own (load here) (suc (suc n)) (loads.count_in n e.1.nodes)
      (loads.each_in n k hello own (λ i. message.Told (record { root = e.1.root; ack = true; ends = (e.0, ending.Commit) ∷ [] })) (suc n)
      (λ i z. same (suc n)) e.1.nodes) (loads.few_in n e.1.nodes all.0)) (tolds_load es all.1)
    where
      same : (a : ℕ) → a ≤ a
      same a = omega arith

      both : (a b c x y : ℕ) → a ≡ b + c → b ≤ x → c ≤ y → a ≤ x + y
      both a b c x y is one rest = omega (arith, is, one, rest)

  pub tick_load : (a : ℕ) (i : ℕ) (d : Disk) (t : Parts) → UpCoord t.coord → length t.coord.doings ≤ a → length t.coord.telling ≤ a →
      length (holders d t) ≤ a → load (tick_outs (record { number = i; disk = d; live = Some t }) t) ≤ tick_cost n a
  tick_load a i d t up few_works few_told few_asked =
      let r = (again_all t.coord.doings t.coord).outs in
      let told = tolds_again t.coord.telling in
      let asks = map query_about (holders d t) in
      three (load ((r ++ told) ++ asks)) (load (r ++ told)) (load r) (load told) (load asks) (times (2 + times 2 n) (length t.coord.doings))
      (times (all_told n) (length t.coord.telling)) (times (suc (suc (suc n))) (length (holders d t))) (times (2 + times 2 n) a)
      (times (all_told n) a) (times (suc (suc (suc n))) a) (loads.load_both n k hello own (r ++ told) asks)
      (loads.load_both n k hello own r told) (again_load t.coord.doings t.coord (all_rise t.coord up.0)) (tolds_load t.coord.telling up.2)
      (loads.asks_load n k hello own (holders d t)) (loads.times_longer (2 + times 2 n) (length t.coord.doings) a few_works)
      (loads.times_longer (all_told n) (length t.coord.telling) a few_told)
      (loads.times_longer (suc (suc (suc n))) (length (holders d t)) a few_asked)
    where
      three : (a b c e f x y z p q r : ℕ) → a ≡ b + f → b ≡ c + e → c ≤ x → e ≤ y → f ≤ z → x ≤ p → y ≤ q → z ≤ r → a ≤ (p + q) + r
      three a b c e f x y z p q r one two l m o u v w = omega (arith, one, two, l, m, o, u, v, w)

pub same_works : (c : Coord) → (again_all c.doings c).part.doings ≡ c.doings
same_works c = again_keeps (λ e. e.doings ≡ c.doings) (λ root w e same. same) c.doings c refl

-- ---- worlds within an event

-- what is known of all nodes
abbrev pub KnownUp : Seen → Type 0
KnownUp M = Known M × AllUp M

pub known_up : (hd : Header) → KeepsAsked hd KnownUp
known_up hd = asked_both hd Known AllUp (known_kept hd) (keeps_asked hd AllUp (ordered_keep hd))

one_of : {A : Type 0} (f : A → ℕ) (i : ℕ) (x : A) (xs : List A) → slice_get xs i ≡ Some x → f x ≤ sum_of f xs
one_of {A} f i x [] is = let no_way : ◌≡◌ {A = Option A} None (Some x) = is in absurd (cc no_way)
one_of {A} f zero x (y ∷ ys) is =
    let same : y ≡ x = (let s : ◌≡◌ {A = Option A} (Some y) (Some x) = is in cc s) in first (f y) (sum_of f ys) (f x) (ap f same)
  where
    first : (a b c : ℕ) → a ≡ c → c ≤ a + b
    first a b c is = omega (arith, is)
one_of f (suc i) x (y ∷ ys) is = later (f y) (sum_of f ys) (f x) (one_of f i x ys is)
  where
    later : (a b c : ℕ) → c ≤ b → c ≤ a + b
    later a b c le = omega (arith, le)

pub one_at : {A : Type 0} (f : A → ℕ) (i : ℕ) (x : A) (xs : List A) → at_place i xs ≡ Some x → f x ≤ sum_of f xs
one_at {A} f zero x xs is = let no_way : ◌≡◌ {A = Option A} None (Some x) = is in absurd (cc no_way)
one_at f (suc i) x xs is = one_of f i x xs is

begun_not : (b : Body) → stands b ≡ true → begins_none b ≡ true
begun_not (body.Began l k u p) is = absurd (cc is)
begun_not b is = refl

begun_none : (bs : List Body) → AllStand bs → list_all begins_none bs ≡ true
begun_none [] all = refl
begun_none (b ∷ bs) all = let p = and_parts (stands b) (list_all stands bs) all in λ i. begun_not b p.0 i && begun_none bs p.1 i

-- no action begins
acts_stay : (w v : World) → Adds AllStand w v → acts v.lines ≡ acts w.lines
acts_stay w v a = ap acts a.lines ∙ acts_same w.event a.added w.lines (begun_none a.added a.has)

module _ (hd : Header) (a : ℕ) where
  abbrev hello : ℕ
  hello = times (suc (suc (suc hd.nodes))) a

  -- With room for all that there is.
  abbrev pub all_in_world : World → ℕ
  all_in_world w = worlds.all_of hd.nodes (times (suc (suc (suc hd.nodes))) a) (times (suc (suc (suc hd.nodes))) a) (omega arith) w

  -- a world of nodes of the header, in which so many actions began
  abbrev pub Stood : World → Type 0
  Stood w = Holds hd KnownUp w × (length (acts w.lines) ≤ a) × ((k : ℕ) (x : Node) → at_place k w.nodes ≡ Some x → IsNode hd k)

  pub few : (w : World) → Stood w → (k : ℕ) (x : Node) → at_place k w.nodes ≡ Some x → FewAt (length (acts w.lines)) x
  few w s k x there = few_at hd (see s.0.sent w) (let h = s.0 in h.holds.0) k x there

  pub up : (w : World) → Stood w → (k : ℕ) (x : Node) → at_place k w.nodes ≡ Some x → UpNode x
  up w s k x there = let h = s.0 in h.holds.1 k x there

  pub number : (w : World) → Stood w → (k : ℕ) (x : Node) → at_place k w.nodes ≡ Some x → x.number ≡ k
  number w s k x there = let h = s.0 in h.stands.numbers k x there

  -- which stops are still to fall, and how many events were run, is nothing to it
  pub stood_on : (w : World) (arms : List (ℕ × Arm)) → Stood w → Stood (counted (record w { arms = arms }))
  stood_on w arms s = (
    (let h = s.0 in record {
      sent = h.sent;
      stands = record {
        frames = h.stands.frames;
        junk = h.stands.junk;
        header = h.stands.header;
        numbers = h.stands.numbers;
        places = h.stands.places;
        labels = h.stands.labels;
      };
      holds = h.holds;
    }),
    s.1,
    s.2,
  )

  less_three : (x y z : ℕ) → x ≤ y → y ≤ z → x ≤ z
  less_three x y z one two = omega (arith, one, two)

  -- ---- a delivery

  deliver_stood : (i : ℕ) (w : World) → Stood w → Stood (deliver i w)
  deliver_stood i w s = (
    deliver_holds hd KnownUp (known_up hd) i w s.0,
    subst (λ (xs : List _). length xs ≤ a) (sym (acts_stay w (deliver i w) (deliver_stands i w))) s.1,
    λ k x at. let before = deliver_there i w k x at in s.2 k before.0 before.1,
  )

  deliver_all : (i : ℕ) (w : World) → Stood w → lowest w ≡ Some i → all_in_world (deliver i w) ≤ all_in_world w
  deliver_all i w s is = by (at_place y.to w.nodes) refl
    where
      found : (f : Frame) × (at_place i w.frames ≡ Some f) × (is_open_frame f ≡ true)
      found = open_lowest w i is

      y : Frame
      y = found.0

      n : ℕ
      n = hd.nodes

      own : ℕ
      own = suc (all_in_world w) + hello

      more : hello ≤ own
      more = above (suc (all_in_world w)) hello
        where
          above : (b c : ℕ) → c ≤ b + c
          above b c = omega arith

      there : (x : Node) → at_place y.to w.nodes ≡ Some x → all_in_world (deliver i w) ≤ all_in_world w
      there x at = worlds.deliver_less n hello own more i y w found.1 here found.2 (λ z is. spent z is)
        where
          here : inside n y.to ≡ true
          here = s.2 y.to x at

          room : (z : Node) → at_place y.to w.nodes ≡ Some z →
              worlds.lead_of n hello own more y.message + worlds.left_node n hello own more z < own
          room z is = sum (worlds.lead_of n hello own more y.message) (worlds.left_node n hello own more z)
              (worlds.weight n hello own more y) (sum_of (worlds.weight n hello own more) w.frames)
              (sum_of (worlds.left_node n hello own more) w.nodes) hello
              ((λ j. cond (here j) (suc (cond (is_open_frame y) (worlds.lead_of n hello own more y.message) 0)) 0)
              ∙ (λ j. suc (cond (found.2 j) (worlds.lead_of n hello own more y.message) 0)))
              (one_at (worlds.weight n hello own more) i y w.frames found.1)
              (one_at (worlds.left_node n hello own more) y.to z w.nodes is)
            where
              sum : (l m f fs ms h : ℕ) → f ≡ suc l → f ≤ fs → m ≤ ms → l + m < suc (fs + ms) + h
              sum l m f fs ms h is one two = omega (arith, is, one, two)

          spent : (z : Node) → at_place y.to w.nodes ≡ Some z → Spent n hello own more y.to (worlds.lead_of n hello own more y.message) z
              (step w.header z (input.Frame i y.from y.message))
          spent z is = worlds.frame_spent n hello own more y.to z (number w s y.to z is) (up w s y.to z is) here w.header i y.from y.message
              (worlds.lead_of n hello own more y.message)
              (λ t m h live q e. let f = few w s y.to z is in loads.times_longer (suc (suc (suc n))) (length (holders z.disk t)) a
              (less_three (length (holders z.disk t)) (length (acts w.lines)) a (f.asked t live) s.1))
              (same (worlds.lead_of n hello own more y.message)) (room z is)
            where
              same : (b : ℕ) → b ≤ b
              same b = omega arith

      by : (o : Option Node) → at_place y.to w.nodes ≡ o → all_in_world (deliver i w) ≤ all_in_world w
      by None none = worlds.lost_less n hello own more i y w found.1 none
      by (Some x) at = there x at

  -- ---- a settle

  itself : (b : ℕ) → b ≤ b
  itself b = omega arith

  pub settle_all : (fuel : ℕ) (w : World) → Stood w → (all_in_world (settle_for fuel w) ≤ all_in_world w) × Stood (settle_for fuel w)
  settle_all zero w s = (itself (all_in_world w), s)
  settle_all (suc fuel) w s = by (lowest w) refl (λ i next. settle_all fuel (deliver i w) next)
    where
      Rest : Option ℕ → World
      Rest o = elim o [ None ↦ w | Some i ↦ settle_for fuel (deliver i w) ]

      by : (o : Option ℕ) → lowest w ≡ o → ((i : ℕ) → Stood (deliver i w) →
          (all_in_world (settle_for fuel (deliver i w)) ≤ all_in_world (deliver i w)) × Stood (settle_for fuel (deliver i w))) →
          (all_in_world (Rest o) ≤ all_in_world w) × Stood (Rest o)
      by None none later = (itself (all_in_world w), s)
      by (Some i) is later =
          let rest = later i (deliver_stood i w s) in (
            less_three (all_in_world (settle_for fuel (deliver i w))) (all_in_world (deliver i w)) (all_in_world w) rest.0
                (deliver_all i w s is),
            rest.1,
          )

  -- ---- ticks

  tick_stood : (k : ℕ) (w : World) → Stood w → Stood (tick_up k w)
  tick_stood k w s = (
    by (w.full || not (is_up_at k w)),
    subst (λ (xs : List _). length xs ≤ a)
        (sym (acts_stay w (tick_up k w) (ticks_stand (k ∷ []) w))) s.1,
    there (w.full || not (is_up_at k w)),
  )
    where
      there : (b : Bool) (j : ℕ) (x : Node) → at_place j (cond b w (steps k input.Tick w)).nodes ≡ Some x → IsNode hd j
      there true j x at = s.2 j x at
      there false j x at = let before = steps_there k input.Tick w j x at in s.2 j before.0 before.1

      by : (b : Bool) → Holds hd KnownUp (cond b w (steps k input.Tick w))
      by true = s.0
      by false = steps_hold hd KnownUp (known_up hd) k input.Tick w s.0 tt

  pub tick_steps : (k : ℕ) (w : World) → Stood w → all_in_world (steps k input.Tick w) ≤ all_in_world w + tick_cost hd.nodes a
  tick_steps k w s = worlds.steps_more n hello own more k c input.Tick w spent
    where
      n : ℕ
      n = hd.nodes

      c : ℕ
      c = tick_cost hd.nodes a

      own : ℕ
      own = (suc (all_in_world w) + c) + hello

      more : hello ≤ own
      more = above (suc (all_in_world w) + c) hello
        where
          above : (b c : ℕ) → c ≤ b + c
          above b c = omega arith

      spent : (x : Node) → at_place k w.nodes ≡ Some x → Spent n hello own more k c x (step w.header x input.Tick)
      spent x at = worlds.step_spent n hello own more w.header k c input.Tick x (worlds.idle_spent n hello own more k c x) (λ t live free.
          worlds.whole_spent n hello own more k x (number w s k x at) (up w s k x at) (s.2 k x at) [] (ticked t) (tick_outs x t) c refl
          (again_up t.coord ((up w s k x at).1 t live)) (puts_tick x.number x.disk t) (leads t live) room)
        where
          ticked : Parts → Parts
          ticked t = with_coord t (again_all t.coord.doings t.coord).part

          room : c + worlds.left_node n hello own more x < own
          room = sum c (worlds.left_node n hello own more x) (sum_of (worlds.weight n hello own more) w.frames)
              (sum_of (worlds.left_node n hello own more) w.nodes) hello (one_at (worlds.left_node n hello own more) k x w.nodes at)
            where
              sum : (c m fs ms h : ℕ) → m ≤ ms → c + m < (suc (fs + ms) + c) + h
              sum c m fs ms h le = omega (arith, le)

          leads : (t : Parts) → x.live ≡ Some t → loads.load n k hello own (tick_outs x t) + left_all n (ticked t).coord.doings
              ≤ c + worlds.left_node n hello own more x
          leads t live =
              let f = few w s k x at in
              sum (loads.load n k hello own (tick_outs x t)) (left_all n (ticked t).coord.doings) (left_all n t.coord.doings)
              (worlds.left_node n hello own more x)
              (tick_load n k hello own a x.number x.disk t ((up w s k x at).1 t live)
              (less_three (length t.coord.doings) (length (acts w.lines)) a (f.works t live) s.1)
              (less_three (length t.coord.telling) (length (acts w.lines)) a (f.telling t live) s.1)
              (less_three (length (holders x.disk t)) (length (acts w.lines)) a (f.asked t live) s.1))
              (ap (left_all n) (same_works t.coord)) (ap (worlds.left_up n hello own more) (sym live))
            where
              sum : (l m q z : ℕ) → l ≤ c → m ≡ q → q ≡ z → l + m ≤ c + z
              sum l m q z le one two = omega (arith, le, one, two)

  tick_one : (k : ℕ) (w : World) → Stood w → all_in_world (tick_up k w) ≤ all_in_world w + tick_cost hd.nodes a
  tick_one k w s = by (w.full || not (is_up_at k w))
    where
      stays : (b d : ℕ) → b ≤ b + d
      stays b d = omega arith

      by : (b : Bool) → all_in_world (cond b w (steps k input.Tick w)) ≤ all_in_world w + tick_cost hd.nodes a
      by true = stays (all_in_world w) (tick_cost hd.nodes a)
      by false = tick_steps k w s

  pub ticks_all : (ks : List ℕ) (w : World) → Stood w →
      (all_in_world (tick_all ks w) ≤ all_in_world w + times (tick_cost hd.nodes a) (length ks)) × Stood (tick_all ks w)
  ticks_all [] w s = (none (all_in_world w), s)
    where
      none : (b : ℕ) → b ≤ b + 0
      none b = omega arith
  ticks_all (k ∷ ks) w s =
      let next = tick_stood k w s in
      let rest = ticks_all ks (tick_up k w) next in (
        sum (all_in_world (tick_all ks (tick_up k w))) (all_in_world (tick_up k w)) (all_in_world w) (tick_cost hd.nodes a)
            (times (tick_cost hd.nodes a) (length ks)) rest.0 (tick_one k w s),
        rest.1,
      )
    where
      sum : (x y z c t : ℕ) → x ≤ y + t → y ≤ z + c → x ≤ z + (c + t)
      sum x y z c t one two = omega (arith, one, two)

  -- ---- a quiesce, before its line

  pub quiesce_all : (w : World) → Stood w → all_in_world (settle (tick_all (node_numbers w) (settle w)))
      ≤ all_in_world w + times (tick_cost hd.nodes a) (length (node_numbers w))
  quiesce_all w s =
      let one = settle_all most_frames w s in
      let two = ticks_all (node_numbers w) (settle w) one.1 in
      let three = settle_all most_frames (tick_all (node_numbers w) (settle w)) two.1 in
      sum (all_in_world (settle (tick_all (node_numbers w) (settle w)))) (all_in_world (tick_all (node_numbers w) (settle w)))
      (all_in_world (settle w)) (all_in_world w) (times (tick_cost hd.nodes a) (length (node_numbers w))) three.0 two.0 one.0
    where
      sum : (p q r s t : ℕ) → p ≤ q → q ≤ r + t → r ≤ s → p ≤ s + t
      sum p q r s t one two three = omega (arith, one, two, three)
