-- What holds of each node by a number, which each event raises by so much at most.
use Rattle.arj_law_parts.proofs.Words
use Words.{◌≡◌, ◌≤◌, ◌+◌, ◌-◌, ◌*◌, ◌||◌, ℕ, zero, suc, Bool, true, false, not, cond, List, [], ◌∷◌, length, Option, Some, None, refl, sym}
use Words.{ap, subst, arith, AllByRecursion, nat_lt}
use Words.{Header, Stop, Input, Node, step, Event, Arm, Frame, World, Giving, armed, at_number, begins, begins_any, change_frame}
use Words.{count_works, counted, cut, deliver, deliver_frame}
use Words.{disarmed, done_step, giving, halted_at, happens, is_up_at, junk, junk_fits, labels_unless, limited, lose, lose_frame, lowest}
use Words.{node_numbers, quiesce, quiet_line, refused_at}
use Words.{run_event, run_unless, lacks_labels, settle, settle_for, show_all, show_up, step_node, step_with, steps, tick_all, tick_up}
use Words.{at_place, first_reason, reasons, Move, all_moved, moved}
use Words.body
use Words.event
use Words.input
use Rattle.arj_law_promise.specs.meant.Meant.{Delivers, Part, Ticks, parts_done}
use Rattle.arj_law_runs.proofs.addresses.Lists.{all_placed, all_set}
use Rattle.arj_protocol.specs.Words.which
use Rattle.arj_protocol.specs.World as world

-- Each step raises the number by its input's cost at most, also where it stops. Deliveries, ticks and shows cost nothing.
pub record Rises (P : ℕ → Node → Type 0) (cost : Input → ℕ) (most : ℕ) : Type 0 where
  pub more : (c k : ℕ) (n : Node) → c ≤ k → P c n → P k n
  pub steps : (c : ℕ) (hd : Header) (i : Input) (n : Node) → P c n → P (c + cost i) (step hd n i).after
  pub stops : (c : ℕ) (hd : Header) (i : Input) (n : Node) (k : ℕ) (how : Stop) → P c n →
      P (c + cost i) (record n { disk = (cut k how (step hd n i).halting n.disk).disk; live = None })
  pub few : (i : Input) → cost i ≤ most
  pub frames : (k from : ℕ) (m : _) → cost (input.Frame k from m) ≡ 0
  pub ticks : cost input.Tick ≡ 0
  pub shows : (x : ℕ) → cost (input.Show x) ≡ 0

module _ (P : ℕ → Node → Type 0) (cost : Input → ℕ) (most : ℕ) (rises : Rises P cost most) where
  abbrev AllOf : ℕ → World → Type 0
  AllOf c w = AllByRecursion (P c) w.nodes

  all_more : (c k : ℕ) (ns : List Node) → c ≤ k → AllByRecursion (P c) ns → AllByRecursion (P k) ns
  all_more c k [] le all = tt
  all_more c k (n ∷ ns) le all = (rises.more c k n le all.0, all_more c k ns le all.1)

  under : (c k : ℕ) → c ≤ c + k
  under c k = omega arith

  stepped : (c k : ℕ) (i : Input) (w : World) → AllOf c w → AllOf (c + cost i) (steps k i w)
  stepped c k i w all = node (at_place k w.nodes) refl
    where
      wide : AllOf (c + cost i) w
      wide = all_more c (c + cost i) w.nodes (under c (cost i)) all

      armed_at : (n : Node) → P c n → (a : Arm) → (b : Bool) →
          AllOf (c + cost i) (cond b (done_step k (step w.header n i) (armed k
          (record a { works = a.works - count_works (step w.header n i).halting }) w))
          (halted_at k n (cut (a.works - 1) a.how (step w.header n i).halting n.disk) (disarmed k w)))
      armed_at n its a true = all_set (P (c + cost i)) k (step w.header n i).after w.nodes (rises.steps c w.header i n its) wide
      armed_at n its a false = all_set (P (c + cost i)) k
          (record n { disk = (cut (a.works - 1) a.how (step w.header n i).halting n.disk).disk; live = None }) w.nodes
          (rises.stops c w.header i n (a.works - 1) a.how its) wide

      with_arm : (n : Node) → P c n → (o : Option Arm) → AllOf (c + cost i) (step_with k n (step w.header n i) w o)
      with_arm n its None = all_set (P (c + cost i)) k (step w.header n i).after w.nodes (rises.steps c w.header i n its) wide
      with_arm n its (Some a) = armed_at n its a (nat_lt (count_works (step w.header n i).halting) a.works)

      node : (o : Option Node) → at_place k w.nodes ≡ o → AllOf (c + cost i) (step_node k i w o)
      node None there = wide
      node (Some n) there = with_arm n (all_placed (P c) k w.nodes n all there) (at_number k w.arms)

  -- an input that costs nothing
  plain : (c k : ℕ) (i : Input) (w : World) → cost i ≡ 0 → AllOf c w → AllOf c (steps k i w)
  plain c k i w free all = subst (λ n. AllOf n (steps k i w)) (none c (cost i) free) (stepped c k i w all)
    where
      none : (c n : ℕ) → n ≡ 0 → c + n ≡ c
      none c n is = omega (arith, is)

  -- one that may cost something
  dear : (c k : ℕ) (i : Input) (w : World) → AllOf c w → AllOf (c + most) (steps k i w)
  dear c k i w all = all_more (c + cost i) (c + most) (steps k i w).nodes (wider c (cost i) (rises.few i)) (stepped c k i w all)
    where
      wider : (c n : ℕ) → n ≤ most → c + n ≤ c + most
      wider c n le = omega (arith, le)

  further : (c : ℕ) (w : World) → AllOf c w → AllOf (c + most) w
  further c w all = all_more c (c + most) w.nodes (under c most) all

  either : (c : ℕ) (b : Bool) (v u : World) → AllOf c v → AllOf c u → AllOf c (cond b v u)
  either c true v u a o = a
  either c false v u a o = o

  delivered : (c k : ℕ) (w : World) → AllOf c w → AllOf c (deliver k w)
  delivered c k w all = by (at_place k w.frames)
    where
      by : (o : Option Frame) → AllOf c (deliver_frame k w o)
      by None = all
      by (Some f) = plain c f.to (input.Frame k f.from f.message) (change_frame k Words.as_delivered f w) (rises.frames k f.from f.message)
          all

  settled : (c fuel : ℕ) (w : World) → AllOf c w → AllOf c (settle_for fuel w)
  settled c zero w all = all
  settled c (suc fuel) w all = by (lowest w) (settled c fuel)
    where
      by : (o : Option ℕ) → ((v : World) → AllOf c v → AllOf c (settle_for fuel v)) → AllOf c
          (elim o [ None ↦ w | Some k ↦ settle_for fuel (deliver k w) ])
      by None ih = all
      by (Some k) ih = ih (deliver k w) (delivered c k w all)

  tick_one : (c n : ℕ) (w : World) → AllOf c w → AllOf c (tick_up n w)
  tick_one c n w all = either c (w.full || not (is_up_at n w)) w (steps n input.Tick w) all (plain c n input.Tick w rises.ticks all)

  ticked : (c : ℕ) (ns : List ℕ) (w : World) → AllOf c w → AllOf c (tick_all ns w)
  ticked c [] w all = all
  ticked c (n ∷ ns) w all = ticked c ns (tick_up n w) (tick_one c n w all)

  shown : (c x : ℕ) (ns : List ℕ) (w : World) → AllOf c w → AllOf c (show_all x ns w)
  shown c x [] w all = all
  shown c x (n ∷ ns) w all =
      shown c x ns (show_up x n w) (either c (is_up_at n w) (steps n (input.Show x) w) w (plain c n (input.Show x) w (rises.shows x) all)
      all)

  begun : (c : ℕ) (g : Giving) (w : World) → AllOf c w → AllOf (c + most) (begins g w)
  begun c g w all = dear c g.node (input.Begin g.label g.kind g.parent)
      (labels_unless g w (refused_at (input.Begin g.label g.kind g.parent) w (at_place g.node w.nodes)))
      (labelled (refused_at (input.Begin g.label g.kind g.parent) w (at_place g.node w.nodes)))
    where
      labelled : (o : Option ℕ) → AllOf c (labels_unless g w o)
      labelled None = all
      labelled (Some r) = all

  begun_any : (c : ℕ) (e : Event) (w : World) (o : Option Giving) → AllOf c w → AllOf (c + most) (begins_any e w o)
  begun_any c e w None all = further c w all
  begun_any c e w (Some g) all = begun c g w all

  quiesced : (c : ℕ) (w : World) → AllOf c w → AllOf c (quiesce w)
  quiesced c w all = line (settle (tick_all (node_numbers w) (settle w))) (settled c Words.most_frames
      (tick_all (node_numbers w) (settle w))
      (ticked c (node_numbers w) (settle w) (settled c Words.most_frames w all)))
    where
      line : (v : World) → AllOf c v → AllOf c (quiet_line v)
      line v its = either c v.full v (world.says (body.Quiet (world.is_quiet v) ∷ []) v) its its

  lost : (c k : ℕ) (w : World) → AllOf c w → AllOf c (lose k w)
  lost c k w all = by (at_place k w.frames)
    where
      by : (o : Option Frame) → AllOf c (lose_frame k w o)
      by None = all
      by (Some f) = all

  junked : (c n : ℕ) (w : World) → AllOf c w → AllOf c (junk n w)
  junked c n w all = by (nat_lt (length w.frames) Words.most_frames)
    where
      by : (b : Bool) → AllOf c (junk_fits n w b)
      by true = all
      by false = all

  happened : (c : ℕ) (e : Event) (a : Arm) (w : World) → AllOf c w → AllOf (c + most) (happens e a w)
  happened c (event.Call l x o) a w all = dear c (Words.node_of l w) (input.Call l x o) w all
  happened c (event.Include l x n) a w all = dear c (Words.node_of l w) (input.Include l x n) w all
  happened c (event.Commit l) a w all = dear c (Words.node_of l w) (input.Commit l) w all
  happened c (event.Abort l) a w all = dear c (Words.node_of l w) (input.Abort l) w all
  happened c (event.GiveUp l) a w all = dear c (Words.node_of l w) (input.GiveUp l) w all
  happened c (event.Deliver k) a w all = further c (deliver (Words.frame_number k w) w) (delivered c (Words.frame_number k w) w all)
  happened c (event.Lose k) a w all = further c (lose (Words.frame_number k w) w) (lost c (Words.frame_number k w) w all)
  happened c (event.Tick n) a w all = dear c n input.Tick w all
  happened c event.Settle a w all = further c (settle w) (settled c Words.most_frames w all)
  happened c event.Quiesce a w all = further c (quiesce w) (quiesced c w all)
  happened c (event.Crash n) a w all = dear c n input.Crash w all
  happened c (event.Restart n) a w all = dear c n input.Restart w all
  happened c (event.Stop n k how) a w all = further c w all
  happened c (event.Junk n bytes) a w all = further c (junk n w) (junked c n w all)
  happened c (event.Show x) a w all = further c (show_all x (node_numbers w) w) (shown c x (node_numbers w) w all)
  happened c (event.Begin l n) a w all = begun_any c (event.Begin l n) w (giving (event.Begin l n) w) all
  happened c (event.BeginIn l p) a w all = begun_any c (event.BeginIn l p) w (giving (event.BeginIn l p) w) all
  happened c (event.Top l p) a w all = begun_any c (event.Top l p) w (giving (event.Top l p) w) all
  happened c (event.Serial l n) a w all = begun_any c (event.Serial l n) w (giving (event.Serial l n) w) all

  ran_event : (c : ℕ) (e : world.Asked) (w : World) → AllOf c w → AllOf (c + most) (run_event e w)
  ran_event c e w all = over w.over
    where
      limit : (v : World) → AllOf (c + most) v → AllOf (c + most) (limited v)
      limit v its = either (c + most) v.full (world.says (body.Limit which.Frames ∷ []) (record v { over = true })) v its its

      labels : (b : Bool) → AllOf (c + most) (cond b (Words.no_labels w) (limited (happens e.event e.arm (counted w))))
      labels true = further c w all
      labels false = limit (happens e.event e.arm (counted w)) (happened c e.event e.arm (counted w) all)

      refused : (o : Option ℕ) → AllOf (c + most) (run_unless e.event e.arm w o)
      refused (Some r) = further c w all
      refused None = labels (lacks_labels (giving e.event w) w)

      over : (b : Bool) → AllOf (c + most) (cond b w (run_unless e.event e.arm w (first_reason (reasons e.event w))))
      over true = further c w all
      over false = refused (first_reason (reasons e.event w))

  -- after moves
  pub moves_rise : (c : ℕ) (ms : List Move) (w : World) → AllOf c w → AllOf (c + most * length ms) (all_moved ms w)
  moves_rise c [] w all = all_more c (c + most * 0) w.nodes (under c (most * 0)) all
  moves_rise c (m ∷ ms) w all = subst (λ n. AllOf n (all_moved ms (moved m w))) (next c most (length ms))
      (moves_rise (c + most) ms (moved m w) (ran_event c m.asked (record w { arms = m.falls }) all))
    where
      next : (c k n : ℕ) → (c + k) + k * n ≡ c + k * suc n
      next c k n = grind arith

  -- and within the event behind them
  pub parts_rise : (c : ℕ) (ps : List Part) (w : World) → AllOf c w → AllOf c (parts_done ps w)
  parts_rise c [] w all = all
  parts_rise c (Delivers k ∷ ps) w all = parts_rise c ps (deliver k w) (delivered c k w all)
  parts_rise c (Ticks n ∷ ps) w all = parts_rise c ps (tick_up n w) (tick_one c n w all)
