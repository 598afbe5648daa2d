-- Journal and frames only grow, whatever event is run.
use Rattle.std.proofs.Common.{◌≡◌, ℕ, zero, suc, ◌+◌, List, [], ◌∷◌, ◌++◌, Bool, true, false, refl, sym, ◌∙◌, ap, map, length, Option, Some}
use Rattle.std.proofs.Common.{None, append_assoc, append-nil}
use Rattle.std.proofs.lemmas.List.{map-append}
use Rattle.std.specs.Prelude.{slice_get, slice_set, nat_lt, not, ◌||◌, if◌then◌else◌}
use Rattle.arj_protocol.specs.Words.{Body, Event}
use Rattle.arj_protocol.specs.Words.body
use Rattle.arj_protocol.specs.Words.event
use Rattle.arj_protocol.specs.Words.which
use Rattle.arj_protocol.specs.Words.frame
use Rattle.arj_protocol.specs.Tree.{at_place, set_place}
use Rattle.arj_protocol.specs.Step.{Node, Input, first_reason}
use Rattle.arj_protocol.specs.Step as input
use Rattle.arj_protocol.specs.World.{World, Frame, Arm, Giving, Asked, says, numbered, steps, change_frame, as_delivered, as_lost}
use Rattle.arj_protocol.specs.World.{deliver_frame, deliver, lose_frame, lowest, settle_for, settle, tick_up, tick_all, is_up_at}
use Rattle.arj_protocol.specs.World.{node_numbers, is_quiet, quiet_line, quiesce, show_up, show_all, junk_fits, new_frame, labels_unless}
use Rattle.arj_protocol.specs.World.{gives_label, refused_at, begins, begins_any, giving, happens, limited, counted, no_labels}
use Rattle.arj_protocol.specs.World.{lacks_labels, run_accepted, run_unless, run_event, reasons, node_of, frame_number, armed}
use Rattle.arj_protocol.specs.Laws.{Local, Grows, as_sent}
use Rattle.arj_protocol.proofs.Steps.{steps_local}
use Rattle.arj_start.specs.Limits.{most_frames}

-- nothing more is there than before
pub grows_same : (w v : World) → v.frames ≡ w.frames → v.lines ≡ w.lines → Grows w v
grows_same w v frames lines = record {
  sent = [];
  frames = ap (map as_sent) frames ∙ sym (append-nil (map as_sent w.frames));
  said = [];
  lines = lines ∙ sym (append-nil w.lines);
}

pub grows_on : (u v w : World) → Grows u v → Grows v w → Grows u w
grows_on u v w a b = record {
  sent = a.sent ++ b.sent;
  frames = b.frames ∙ ap (λ fs. fs ++ b.sent) a.frames ∙ append_assoc (map as_sent u.frames) a.sent b.sent;
  said = a.said ++ b.said;
  lines = b.lines ∙ ap (λ ls. ls ++ b.said) a.lines ∙ append_assoc u.lines a.said b.said;
}

local_grows : (n : ℕ) (w v : World) → Local n w v → Grows w v
local_grows n w v l = record {
  sent = map as_sent l.sent;
  frames = ap (map as_sent) l.frames ∙ map-append as_sent w.frames l.sent;
  said = l.said;
  lines = l.lines;
}

steps_grow : (k : ℕ) (i : Input) (w : World) → Grows w (steps k i w)
steps_grow k i w = local_grows k w (steps k i w) (steps_local k i w)

says_grow : (bs : List Body) (w v : World) → v.frames ≡ w.frames → v.lines ≡ w.lines → Grows w (says bs v)
says_grow bs w v frames lines = record {
  sent = [];
  frames = ap (map as_sent) frames ∙ sym (append-nil (map as_sent w.frames));
  said = numbered v.event bs;
  lines = ap (λ ls. ls ++ numbered v.event bs) lines;
}

-- a mark on a frame isn't seen
marked_frames : (k : ℕ) (f : Frame) (mark : Frame → Frame) (fs : List Frame) → slice_get fs k ≡ Some f → as_sent (mark f) ≡ as_sent f →
    map as_sent (slice_set fs k (mark f)) ≡ map as_sent fs
marked_frames k f mark [] h same = refl
marked_frames zero f mark (g ∷ gs) h same =
    let e : g ≡ f = cc h in
    λ i. (same ∙ ap as_sent (sym e)) i ∷ map as_sent gs
marked_frames (suc k) f mark (g ∷ gs) h same = λ i. as_sent g ∷ marked_frames k f mark gs h same i

placed_frames : (k : ℕ) (f : Frame) (mark : Frame → Frame) (fs : List Frame) → at_place k fs ≡ Some f → as_sent (mark f) ≡ as_sent f →
    map as_sent (set_place k (mark f) fs) ≡ map as_sent fs
placed_frames zero f mark fs h same = refl
placed_frames (suc k) f mark fs h same = marked_frames k f mark fs h same

changed_grows : (k : ℕ) (mark : Frame → Frame) (f : Frame) (w : World) → at_place k w.frames ≡ Some f → as_sent (mark f) ≡ as_sent f →
    Grows w (change_frame k mark f w)
changed_grows k mark f w h same = record {
  sent = [];
  frames = placed_frames k f mark w.frames h same ∙ sym (append-nil (map as_sent w.frames));
  said = [];
  lines = sym (append-nil w.lines);
}

delivered_grows : (k : ℕ) (w : World) (o : Option Frame) → at_place k w.frames ≡ o → Grows w (deliver_frame k w o)
delivered_grows k w None h = grows_same w w refl refl
delivered_grows k w (Some f) h =
    grows_on w (change_frame k as_delivered f w) (deliver_frame k w (Some f)) (changed_grows k as_delivered f w h refl) (steps_grow f.to (input.Frame k f.from f.message) (change_frame k as_delivered f w))

deliver_grows : (k : ℕ) (w : World) → Grows w (deliver k w)
deliver_grows k w = delivered_grows k w (at_place k w.frames) refl

lost_grows : (k : ℕ) (w : World) (o : Option Frame) → at_place k w.frames ≡ o → Grows w (lose_frame k w o)
lost_grows k w None h = grows_same w w refl refl
lost_grows k w (Some f) h =
    grows_on w (change_frame k as_lost f w) (lose_frame k w (Some f)) (changed_grows k as_lost f w h refl) (says_grow (body.Dropped k ∷ []) (change_frame k as_lost f w) (change_frame k as_lost f w) refl refl)

settled_grows : (fuel : ℕ) (w : World) → Grows w (settle_for fuel w)
settled_grows zero w = grows_same w w refl refl
settled_grows (suc fuel) w = by (lowest w) (settled_grows fuel)
  where
    by : (o : Option ℕ) → ((v : World) → Grows v (settle_for fuel v)) →
        Grows w (elim o [ None ↦ w | Some k ↦ settle_for fuel (deliver k w) ])
    by None ih = grows_same w w refl refl
    by (Some k) ih = grows_on w (deliver k w) (settle_for fuel (deliver k w)) (deliver_grows k w) (ih (deliver k w))

settle_grows : (w : World) → Grows w (settle w)
settle_grows w = settled_grows most_frames w

on_either : (w v u : World) (b : Bool) → Grows w v → Grows w u → Grows w (if b then v else u)
on_either w v u true a c = a
on_either w v u false a c = c

ticked_grows : (n : ℕ) (w : World) → Grows w (tick_up n w)
ticked_grows n w =
    on_either w w (steps n input.Tick w) (w.full || not (is_up_at n w)) (grows_same w w refl refl) (steps_grow n input.Tick w)

ticks_grow : (ns : List ℕ) (w : World) → Grows w (tick_all ns w)
ticks_grow [] w = grows_same w w refl refl
ticks_grow (n ∷ ns) w = grows_on w (tick_up n w) (tick_all ns (tick_up n w)) (ticked_grows n w) (ticks_grow ns (tick_up n w))

quiet_grows : (w : World) → Grows w (quiet_line w)
quiet_grows w =
    on_either w w (says (body.Quiet (is_quiet w) ∷ []) w) w.full (grows_same w w refl refl) (says_grow (body.Quiet (is_quiet w) ∷ []) w w refl refl)

quiesce_grows : (w : World) → Grows w (quiesce w)
quiesce_grows w =
    let a = settle w in
    let b = tick_all (node_numbers w) a in
    let c = settle b in
    grows_on w a (quiesce w) (settle_grows w) (grows_on a b (quiesce w) (ticks_grow (node_numbers w) a) (grows_on b c (quiesce w) (settle_grows b) (quiet_grows c)))

shown_grows : (x n : ℕ) (w : World) → Grows w (show_up x n w)
shown_grows x n w = on_either w (steps n (input.Show x) w) w (is_up_at n w) (steps_grow n (input.Show x) w) (grows_same w w refl refl)

shows_grow : (x : ℕ) (ns : List ℕ) (w : World) → Grows w (show_all x ns w)
shows_grow x [] w = grows_same w w refl refl
shows_grow x (n ∷ ns) w = grows_on w (show_up x n w) (show_all x ns (show_up x n w)) (shown_grows x n w) (shows_grow x ns (show_up x n w))

junked_grows : (n : ℕ) (w : World) (b : Bool) → Grows w (junk_fits n w b)
junked_grows n w true = record {
  sent = new_frame 0 n None ∷ [];
  frames = map-append as_sent w.frames (new_frame 0 n None ∷ []);
  said = numbered w.event (body.Sent (length w.frames + 1) 0 n frame.Junk ∷ []);
  lines = refl;
}
junked_grows n w false = grows_same w (junk_fits n w false) refl refl

labelled_same : (g : Giving) (w : World) (o : Option ℕ) → Grows w (labels_unless g w o)
labelled_same g w None = grows_same w (gives_label g w) refl refl
labelled_same g w (Some c) = grows_same w w refl refl

begins_grow : (g : Giving) (w : World) → Grows w (begins g w)
begins_grow g w =
    let i = input.Begin g.label g.kind g.parent in
    let o = refused_at i w (at_place g.node w.nodes) in
    grows_on w (labels_unless g w o) (begins g w) (labelled_same g w o) (steps_grow g.node i (labels_unless g w o))

given_grows : (e : Event) (w : World) (o : Option Giving) → Grows w (begins_any e w o)
given_grows e w None = grows_same w w refl refl
given_grows e w (Some g) = begins_grow g w

happens_grows : (e : Event) (a : Arm) (w : World) → Grows w (happens e a w)
happens_grows (event.Begin l n) a w = given_grows (event.Begin l n) w (giving (event.Begin l n) w)
happens_grows (event.BeginIn l p) a w = given_grows (event.BeginIn l p) w (giving (event.BeginIn l p) w)
happens_grows (event.Top l p) a w = given_grows (event.Top l p) w (giving (event.Top l p) w)
happens_grows (event.Serial l n) a w = given_grows (event.Serial l n) w (giving (event.Serial l n) w)
happens_grows (event.Call l x o) a w = steps_grow (node_of l w) (input.Call l x o) w
happens_grows (event.Include l x n) a w = steps_grow (node_of l w) (input.Include l x n) w
happens_grows (event.Commit l) a w = steps_grow (node_of l w) (input.Commit l) w
happens_grows (event.Abort l) a w = steps_grow (node_of l w) (input.Abort l) w
happens_grows (event.GiveUp l) a w = steps_grow (node_of l w) (input.GiveUp l) w
happens_grows (event.Deliver k) a w = deliver_grows (frame_number k w) w
happens_grows (event.Lose k) a w = lost_grows (frame_number k w) w (at_place (frame_number k w) w.frames) refl
happens_grows (event.Tick n) a w = steps_grow n input.Tick w
happens_grows event.Settle a w = settle_grows w
happens_grows event.Quiesce a w = quiesce_grows w
happens_grows (event.Crash n) a w = steps_grow n input.Crash w
happens_grows (event.Restart n) a w = steps_grow n input.Restart w
happens_grows (event.Stop n c how) a w = says_grow (body.Armed n ∷ []) w (armed n a w) refl refl
happens_grows (event.Junk n bytes) a w = junked_grows n w (nat_lt (length w.frames) most_frames)
happens_grows (event.Show x) a w = shows_grow x (node_numbers w) w

limited_grows : (w : World) → Grows w (limited w)
limited_grows w =
    on_either w (says (body.Limit which.Frames ∷ []) (record w {
      over =
          true;
    })) w w.full (says_grow (body.Limit which.Frames ∷ []) w (record w { over = true }) refl refl) (grows_same w w refl refl)

accepted_grows : (e : Event) (a : Arm) (w : World) → Grows w (run_accepted e a w)
accepted_grows e a w =
    let v = happens e a (counted w) in
    on_either w (no_labels w) (limited v) (lacks_labels (giving e w) w)
    (says_grow (body.Limit which.Labels ∷ []) w (record w { over = true }) refl refl)
    (grows_on w (counted w) (limited v) (grows_same w (counted w) refl refl) (grows_on (counted w) v (limited v) (happens_grows e a (counted w)) (limited_grows v)))

unless_grows : (e : Event) (a : Arm) (w : World) (o : Option ℕ) → Grows w (run_unless e a w o)
unless_grows e a w None = accepted_grows e a w
unless_grows e a w (Some c) = says_grow (body.Refused c ∷ []) w (counted w) refl refl

pub event_grows : (e : Asked) (w : World) → Grows w (run_event e w)
event_grows e w =
    on_either w w (run_unless e.event e.arm w (first_reason (reasons e.event w))) w.over (grows_same w w refl refl) (unless_grows e.event e.arm w (first_reason (reasons e.event w)))
