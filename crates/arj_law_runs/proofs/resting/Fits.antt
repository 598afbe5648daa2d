-- In each run there are no more frames than a run may have.
use Rattle.arj_law_parts.proofs.Words
use Words.{◌≡◌, ◌≤◌, ◌+◌, ℕ, zero, suc, Bool, true, false, List, [], ◌∷◌, ◌++◌, refl, Option, Some, None, arith, length, length-append}
use Words.{◌||◌, not, nat_lt, if◌then◌else◌, nat_tests, Event, Header, Input, first_reason, at_place, set_place, Arm, Frame, Giving, World}
use Words.{as_delivered, as_lost, begins, begins_any, counted, deliver, deliver_frame, world_from, frame_number, giving, happens, is_quiet}
use Words.{is_up_at, junk_fits, labels_unless, lacks_labels, limited, lose_frame, lowest, new_frame, no_labels, node_numbers}
use Words.{node_of, quiesce, quiet_line, reasons, refused_at, run_event, run_unless, settle, settle_for, show_all, show_up, steps, tick_all}
use Words.{tick_up, Move, all_moved, moved, world_by, most_frames}
use Words.body
use Words.event
use Words.input
use Rattle.arj_law_runs.proofs.Terms
use Terms.{Run, length_marked, steps_add, Asked, says}
use Terms.which

abbrev pub Few : World → Type 0
Few w = length w.frames ≤ most_frames

steps_few : (k : ℕ) (i : Input) (w : World) → Few w → Few (steps k i w)
steps_few k i w few = let adds = steps_add k i w in adds.few few

either_few : (b : Bool) (v u : World) → Few v → Few u → Few (if b then v else u)
either_few true v u x y = x
either_few false v u x y = y

marked_few : (k : ℕ) (f : Frame) (fs : List Frame) → length fs ≤ most_frames → length (set_place k f fs) ≤ most_frames
marked_few zero f fs few = few
marked_few (suc k) f fs few = let same = length_marked fs k f in omega (arith, few, same)

delivers_few : (k : ℕ) (w : World) → Few w → Few (deliver k w)
delivers_few k w few = by (at_place k w.frames)
  where
    by : (o : Option Frame) → Few (deliver_frame k w o)
    by None = few
    by (Some f) = steps_few f.to (input.Frame k f.from f.message) (record w { frames = set_place k (as_delivered f) w.frames })
        (marked_few k (as_delivered f) w.frames few)

settles_few : (fuel : ℕ) (w : World) → Few w → Few (settle_for fuel w)
settles_few zero w few = few
settles_few (suc fuel) w few = by (lowest w) (λ k. settles_few fuel (deliver k w) (delivers_few k w few))
  where
    by : (o : Option ℕ) → ((k : ℕ) → Few (settle_for fuel (deliver k w))) →
        Few (elim o [ None ↦ w | Some k ↦ settle_for fuel (deliver k w) ])
    by None rest = few
    by (Some k) rest = rest k

ticking_few : (ns : List ℕ) (w : World) → Few w → Few (tick_all ns w)
ticking_few [] w few = few
ticking_few (n ∷ ns) w few =
    ticking_few ns (tick_up n w) (either_few (w.full || not (is_up_at n w)) w (steps n input.Tick w) few (steps_few n input.Tick w few))

showing_few : (x : ℕ) (ns : List ℕ) (w : World) → Few w → Few (show_all x ns w)
showing_few x [] w few = few
showing_few x (n ∷ ns) w few =
    showing_few x ns (show_up x n w) (either_few (is_up_at n w) (steps n (input.Show x) w) w (steps_few n (input.Show x) w few) few)

quiet_few : (w : World) → Few w → Few (quiet_line w)
quiet_few w few = either_few w.full w (says (body.Quiet (is_quiet w) ∷ []) w) few few

quiesces_few : (w : World) → Few w → Few (quiesce w)
quiesces_few w few =
    let first = settle w in
    let ticked = tick_all (node_numbers w) first in
    quiet_few (settle ticked) (settles_few most_frames ticked (ticking_few (node_numbers w) first (settles_few most_frames w few)))

loses_few : (k : ℕ) (w : World) (o : Option Frame) → Few w → Few (lose_frame k w o)
loses_few k w None few = few
loses_few k w (Some f) few = marked_few k (as_lost f) w.frames few

junk_few : (n : ℕ) (w : World) (b : Bool) → nat_lt (length w.frames) most_frames ≡ b → Few w → Few (junk_fits n w b)
junk_few n w true room few = let long = length-append w.frames (new_frame 0 n None ∷ []) in
    more (length w.frames) (length (w.frames ++ new_frame 0 n None ∷ [])) room long
  where
    more : (a b : ℕ) → nat_lt a most_frames ≡ true → b ≡ a + 1 → b ≤ most_frames
    more a b room is = grind (arith, nat_tests)
junk_few n w false room few = few

begins_few : (g : Giving) (w : World) → Few w → Few (begins g w)
begins_few g w few = by (refused_at (input.Begin g.label g.kind g.parent) w (at_place g.node w.nodes))
  where
    by : (r : Option ℕ) → Few (steps g.node (input.Begin g.label g.kind g.parent) (labels_unless g w r))
    by None = steps_few g.node (input.Begin g.label g.kind g.parent) (labels_unless g w None) few
    by (Some c) = steps_few g.node (input.Begin g.label g.kind g.parent) (labels_unless g w (Some c)) few

any_few : (e : Event) (w : World) → Few w → Few (begins_any e w (giving e w))
any_few e w few = by (giving e w)
  where
    by : (o : Option Giving) → Few (begins_any e w o)
    by None = few
    by (Some g) = begins_few g w few

happens_few : (e : Event) (a : Arm) (w : World) → Few w → Few (happens e a w)
happens_few (event.Begin l n) a w few = any_few (event.Begin l n) w few
happens_few (event.Serial l n) a w few = any_few (event.Serial l n) w few
happens_few (event.BeginIn l p) a w few = any_few (event.BeginIn l p) w few
happens_few (event.Top l p) a w few = any_few (event.Top l p) w few
happens_few (event.Call l x o) a w few = steps_few (node_of l w) (input.Call l x o) w few
happens_few (event.Include l x n) a w few = steps_few (node_of l w) (input.Include l x n) w few
happens_few (event.Commit l) a w few = steps_few (node_of l w) (input.Commit l) w few
happens_few (event.Abort l) a w few = steps_few (node_of l w) (input.Abort l) w few
happens_few (event.GiveUp l) a w few = steps_few (node_of l w) (input.GiveUp l) w few
happens_few (event.Deliver k) a w few = delivers_few (frame_number k w) w few
happens_few (event.Lose k) a w few = loses_few (frame_number k w) w (at_place (frame_number k w) w.frames) few
happens_few (event.Tick n) a w few = steps_few n input.Tick w few
happens_few event.Settle a w few = settles_few most_frames w few
happens_few event.Quiesce a w few = quiesces_few w few
happens_few (event.Crash n) a w few = steps_few n input.Crash w few
happens_few (event.Restart n) a w few = steps_few n input.Restart w few
happens_few (event.Stop n c how) a w few = few
happens_few (event.Junk n bytes) a w few = junk_few n w (nat_lt (length w.frames) most_frames) refl few
happens_few (event.Show x) a w few = showing_few x (node_numbers w) w few

unless_few : (e : Event) (a : Arm) (w : World) (r : Option ℕ) → Few w → Few (run_unless e a w r)
unless_few e a w (Some c) few = few
unless_few e a w None few = either_few (lacks_labels (giving e w) w) (no_labels w) (limited v) few
    (either_few v.full (says (body.Limit which.Frames ∷ []) (record v { over = true })) v there there)
  where
    v : World
    v = happens e a (counted w)

    there : Few v
    there = happens_few e a (counted w) few

events_few : (e : Asked) (w : World) → Few w → Few (run_event e w)
events_few e w few = either_few w.over w (run_unless e.event e.arm w (first_reason (reasons e.event w))) few
    (unless_few e.event e.arm w (first_reason (reasons e.event w)) few)

pub all_few : (ms : List Move) (w : World) → Few w → Few (all_moved ms w)
all_few [] w few = few
all_few (m ∷ ms) w few = all_few ms (moved m w) (events_few m.asked (record w { arms = m.falls }) few)

pub runs_few : (hd : Header) (r : Run hd) → Few (world_by hd r)
runs_few hd r = all_few r.moves (world_from hd r.start) (omega arith)
