-- Each stop that is armed in a script's run falls at one of the works that its disk does from then on.
use Rattle.arj_law_parts.proofs.Words
use Words.{◌≡◌, ◌≤◌, ◌-◌, ◌||◌, ℕ, zero, suc, Bool, true, false, cond, not, List, [], ◌∷◌, length, Option, Some, None, refl, arith}
use Words.{nat_tests, nat_lt, AllByRecursion, at_number, Input, Node, Step, first_reason, step, at_place, Event, Arm, Frame, Giving, World}
use Words.{armed, as_delivered, begins, begins_any, change_frame, count_works, counted, cut, deliver, deliver_frame, disarmed, done_step}
use Words.{frame_number, giving, halted_at, happens, is_up_at, junk_fits, labels_unless, lacks_labels, limited, lose_frame, lowest}
use Words.{no_labels, node_numbers, node_of, quiesce, reasons, refused_at, run_event, run_unless, settle, settle_for, show_all}
use Words.{show_up, step_node, step_with, steps, tick_all, tick_up, as_moves, AreEventsInForm, AreStopsInForm, most_frames}
use Words.input
use Words.event
use Rattle.arj_law_serial.proofs.Terms.{Asked}
use Rattle.arj_law_parts.proofs.parts.LivesNamed.{all_put as all_put_number}
use Rattle.arj_law_runs.proofs.addresses.Lists.{all_filter}
use Rattle.arj_promise.specs.Runs.{HasWork}

-- so it is of each stop that is armed in the world
abbrev Works : World → Type 0
Works w = AllByRecursion (λ (a : ℕ × Arm). HasWork a.1) w.arms

-- ---- a step of a node in its world

with_works : (k : ℕ) (n : Node) (s : Step) (w : World) (o : Option Arm) → Works w → Works (step_with k n s w o)
with_works k n s w None its = its
with_works k n s w (Some a) its = by (nat_lt (count_works s.halting) a.works) refl
  where
    by : (b : Bool) → nat_lt (count_works s.halting) a.works ≡ b → Works (cond b (done_step k s (armed k (record a
        { works = a.works - count_works s.halting }) w)) (halted_at k n (cut (a.works - 1) a.how s.halting n.disk) (disarmed k w)))
    by true is =
        all_put_number HasWork k (record a { works = a.works - count_works s.halting }) w.arms (left (count_works s.halting) a.works is) its
      where
        left : (c m : ℕ) → nat_lt c m ≡ true → 1 ≤ m - c
        left c m is = grind (arith, nat_tests, is)
    by false is = all_filter (λ (e : ℕ × Arm). HasWork e.1) _ w.arms its

stepped : (k : ℕ) (i : Input) (w : World) (o : Option Node) → Works w → Works (step_node k i w o)
stepped k i w None its = its
stepped k i w (Some n) its = with_works k n (step w.header n i) w (at_number k w.arms) its

steps_so : (k : ℕ) (i : Input) (w : World) → Works w → Works (steps k i w)
steps_so k i w its = stepped k i w (at_place k w.nodes) its

either_so : (b : Bool) (v u : World) → Works v → Works u → Works (cond b v u)
either_so true v u one other = one
either_so false v u one other = other

-- ---- rounds

deliver_so : (k : ℕ) (w : World) → Works w → Works (deliver k w)
deliver_so k w its = by (at_place k w.frames)
  where
    by : (o : Option Frame) → Works (deliver_frame k w o)
    by None = its
    by (Some f) = steps_so f.to (input.Frame k f.from f.message) (change_frame k as_delivered f w) its

lose_so : (k : ℕ) (w : World) (o : Option Frame) → Works w → Works (lose_frame k w o)
lose_so k w None its = its
lose_so k w (Some f) its = its

settle_so : (fuel : ℕ) (w : World) → Works w → Works (settle_for fuel w)
settle_so zero w its = its
settle_so (suc fuel) w its = by (lowest w) (λ k. settle_so fuel (deliver k w) (deliver_so k w its))
  where
    by : (o : Option ℕ) → ((k : ℕ) → Works (settle_for fuel (deliver k w))) →
        Works (elim o [ None ↦ w | Some k ↦ settle_for fuel (deliver k w) ])
    by None rest = its
    by (Some k) rest = rest k

ticks_so : (ns : List ℕ) (w : World) → Works w → Works (tick_all ns w)
ticks_so [] w its = its
ticks_so (n ∷ ns) w its =
    ticks_so ns (tick_up n w) (either_so (w.full || not (is_up_at n w)) w (steps n input.Tick w) its (steps_so n input.Tick w its))

quiesce_so : (w : World) → Works w → Works (quiesce w)
quiesce_so w its =
    let a = settle w in
    let b = tick_all (node_numbers w) a in
    let c = settle b in
    let all : Works c = settle_so most_frames b (ticks_so (node_numbers w) a (settle_so most_frames w its)) in
    either_so c.full c _ all all

shows_so : (x : ℕ) (ns : List ℕ) (w : World) → Works w → Works (show_all x ns w)
shows_so x [] w its = its
shows_so x (n ∷ ns) w its =
    shows_so x ns (show_up x n w) (either_so (is_up_at n w) (steps n (input.Show x) w) w (steps_so n (input.Show x) w its) its)

junk_so : (n : ℕ) (w : World) (b : Bool) → Works w → Works (junk_fits n w b)
junk_so n w true its = its
junk_so n w false its = its

begins_so : (g : Giving) (w : World) → Works w → Works (begins g w)
begins_so g w its = by (refused_at (input.Begin g.label g.kind g.parent) w (at_place g.node w.nodes))
  where
    by : (r : Option ℕ) → Works (steps g.node (input.Begin g.label g.kind g.parent) (labels_unless g w r))
    by None = steps_so g.node (input.Begin g.label g.kind g.parent) (labels_unless g w None) its
    by (Some c) = steps_so g.node (input.Begin g.label g.kind g.parent) w its

any_so : (e : Event) (w : World) (o : Option Giving) → Works w → Works (begins_any e w o)
any_so e w None its = its
any_so e w (Some g) its = begins_so g w its

-- ---- events

happens_so : (e : Event) (a : Arm) (w : World) → HasWork a → Works w → Works (happens e a w)
happens_so (event.Begin l n) a w own its = any_so (event.Begin l n) w (giving (event.Begin l n) w) its
happens_so (event.Serial l n) a w own its = any_so (event.Serial l n) w (giving (event.Serial l n) w) its
happens_so (event.BeginIn l p) a w own its = any_so (event.BeginIn l p) w (giving (event.BeginIn l p) w) its
happens_so (event.Top l p) a w own its = any_so (event.Top l p) w (giving (event.Top l p) w) its
happens_so (event.Call l x o) a w own its = steps_so (node_of l w) (input.Call l x o) w its
happens_so (event.Include l x n) a w own its = steps_so (node_of l w) (input.Include l x n) w its
happens_so (event.Commit l) a w own its = steps_so (node_of l w) (input.Commit l) w its
happens_so (event.Abort l) a w own its = steps_so (node_of l w) (input.Abort l) w its
happens_so (event.GiveUp l) a w own its = steps_so (node_of l w) (input.GiveUp l) w its
happens_so (event.Deliver k) a w own its = deliver_so (frame_number k w) w its
happens_so (event.Lose k) a w own its = lose_so (frame_number k w) w (at_place (frame_number k w) w.frames) its
happens_so (event.Tick n) a w own its = steps_so n input.Tick w its
happens_so event.Settle a w own its = settle_so most_frames w its
happens_so event.Quiesce a w own its = quiesce_so w its
happens_so (event.Crash n) a w own its = steps_so n input.Crash w its
happens_so (event.Restart n) a w own its = steps_so n input.Restart w its
happens_so (event.Stop n c how) a w own its = all_put_number HasWork n a w.arms own its
happens_so (event.Junk n bytes) a w own its = junk_so n w (nat_lt (length w.frames) most_frames) its
happens_so (event.Show x) a w own its = shows_so x (node_numbers w) w its

limited_so : (w : World) → Works w → Works (limited w)
limited_so w its = either_so w.full _ w its its

unless_so : (e : Event) (a : Arm) (w : World) (r : Option ℕ) → HasWork a → Works w → Works (run_unless e a w r)
unless_so e a w (Some c) own its = its
unless_so e a w None own its = either_so (lacks_labels (giving e w) w) (no_labels w) (limited (happens e a (counted w))) its
    (limited_so (happens e a (counted w)) (happens_so e a (counted w) own its))

event_so : (e : Asked) (w : World) → HasWork e.arm → Works w → Works (run_event e w)
event_so e w own its = either_so w.over w (run_unless e.event e.arm w (first_reason (reasons e.event w))) its
    (unless_so e.event e.arm w (first_reason (reasons e.event w)) own its)

-- ---- scripts

pub script_stops : (es : List Asked) (w : World) → AreEventsInForm es → Works w → AreStopsInForm (as_moves es w)
script_stops [] w all its = tt
script_stops (e ∷ es) w all its = ((all.0.1, its), script_stops es (run_event e w) all.1 (event_so e w all.0.1 its))
